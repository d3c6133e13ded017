use Rattle.std.proofs.Common.{sym, ◌∙◌}
use Rattle.symbol_winners.specs.inner.Tables.{found_of}
use Rattle.symbol_winners.proofs.CandidateLemmas.{stands_somewhere}
use Rattle.symbol_winners.proofs.choosing.place.Goals as goal

pub returns-in-None : goal.returns-in-None
returns-in-None c = absurd (stands_somewhere (found_of c.args.found) c.requires (λ d. sym c.in-None.is ∙ c.place_of.ensures d))
