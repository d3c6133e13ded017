use Rattle.std.proofs.Common.{ℕ, ◌+◌, ◌<◌, ◌^◌, ap, sym, pos, arith, inl, inr}
use Rattle.std.specs.Option.{option_map}
use Rattle.std.proofs.lemmas.Bool.{cases_lt}
use Rattle.ref_meet.specs.Mets.{met_with}
use Rattle.ref_meet.proofs.WordLemmas.{none_beyond}
use Rattle.ref_meet.proofs.mets.chained_met.Goals as goal

pub returns-in_default : goal.returns-in_default
returns-in_default c =
    let beyond : c.last_address-last.result < c.args.row.now.item.now.address + c.args.reference.now.place =
    elim (cases_lt (c.args.row.now.item.now.address + c.args.reference.now.place) (2 ^ 64)) [
      | inl low ↦ absurd (c.in_default.ensures low)
      | inr up ↦ omega (arith, up, c.last_address-last.type_inv)
    ] in
    sym (ap (option_map (λ (word : ℕ). met_with c.args.reference.now word 0 (pos 0)))
    (none_beyond c.args.setting.now.words.now c.last_address-last.result (c.args.row.now.item.now.address + c.args.reference.now.place) c.last_address-last.ensures beyond))
