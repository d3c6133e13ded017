use Rattle.sym_out.proofs.LawLemmas.{is_named}
use Rattle.sym_out.proofs.laws.symbols_lead_to_their_names.Goals as goal

pub returns : goal.returns
returns c = λ entries i d low. is_named entries i d low
