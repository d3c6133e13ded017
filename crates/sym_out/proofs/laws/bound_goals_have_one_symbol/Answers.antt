use Rattle.sym_out.proofs.OneLemmas.{bound_one}
use Rattle.sym_out.proofs.laws.bound_goals_have_one_symbol.Goals as goal

pub returns : goal.returns
returns c = λ bound goal' entry rises among gives. bound_one bound goal' entry rises among gives
