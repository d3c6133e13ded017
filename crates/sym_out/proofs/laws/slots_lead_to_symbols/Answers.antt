use Rattle.sym_out.proofs.LawLemmas.{leads_to_symbol}
use Rattle.sym_out.proofs.laws.slots_lead_to_symbols.Goals as goal

pub returns : goal.returns
returns c = λ ranges goal'. leads_to_symbol ranges goal'
