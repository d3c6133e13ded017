use Rattle.std.proofs.Common.{ℕ, List, MatchOption, Contains, subst}
use Rattle.tlv_plan.specs.declared.parts.Offset.{Offset}
use Rattle.tlv_plan.proofs.lookup.offset_of.Goals as goal

pub returns : goal.returns
returns c =
    subst (λ (places : List Offset). MatchOption c.find.result ((offset : ℕ) → ¬ Contains places (record { atom = c.args.atom; offset = offset })) (λ offset. Contains places (record { atom = c.args.atom; offset = offset })))
    c.as_slice.ensures.all c.find.ensures
