use Rattle.sym_out.proofs.WinnerLaws.{is_its_symbol}
use Rattle.sym_out.proofs.laws.winners_lead_to_their_symbols.Goals as goal

pub returns : goal.returns
returns c = λ command loaded symbols i d whole is low. is_its_symbol command loaded symbols i d whole is low
