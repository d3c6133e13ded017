use Rattle.sym_out.proofs.OneLemmas.{exported_one}
use Rattle.sym_out.proofs.laws.exported_winners_have_one_symbol.Goals as goal

pub returns : goal.returns
returns c = λ layout symbols winner entry rises among gives. exported_one layout symbols winner entry rises among gives
