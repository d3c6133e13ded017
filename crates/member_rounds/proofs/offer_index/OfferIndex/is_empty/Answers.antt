use Rattle.std.proofs.Common.{sym, ap, ◌∙◌}
use Rattle.mo_types.specs.Scan.{first_some}
use Rattle.member_rounds.specs.Rounds as rounds
use Rattle.member_rounds.proofs.offer_index.OfferIndex.is_empty.Goals as goal

pub returns : goal.returns
returns c = λ empty name. sym (ap (first_some (rounds.offer_in name)) c.self.view_is) ∙ sym (c.self.invariant.leads name) ∙ c.is_empty.ensures empty name
