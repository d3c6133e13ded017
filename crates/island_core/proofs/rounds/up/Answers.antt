use Rattle.std.proofs.Common.{ℕ, ◌≡◌, ◌+◌, ◌-◌, ◌*◌, ◌/◌, ◌%◌, ◌^◌, ◌<◌, ◌≤◌, arith, sym}
use Rattle.std.proofs.Math.Nat.{mod-lt, mod-eq_of_lt}
use Rattle.std.proofs.lemmas.Nat.{div-add-mod'}
use Rattle.mo_bytes.specs.Rounding.{least_multiple}
use Rattle.tlv_plan.specs.Template.{aligned}
use Rattle.island_core.proofs.rounds.up.Goals as goal

-- no bit is shifted out
whole : (unit at : ℕ) → unit ≤ 0x4000 → at < 2 ^ 127 → (at + (unit - 1)) / unit * unit % 2 ^ 128 ≡ (at + (unit - 1)) / unit * unit
whole unit at small near =
    let parts = div-add-mod' (at + (unit - 1)) unit in
    mod-eq_of_lt (omega (arith, parts, small, near))

around : (unit at : ℕ) → 0 < unit → unit ≤ 0x4000 → (at ≤ (at + (unit - 1)) / unit * unit) × ((at + (unit - 1)) / unit * unit < at + 0x4000)
around unit at some small =
    let parts = div-add-mod' (at + (unit - 1)) unit in
    let rest = mod-lt (at + (unit - 1)) some in
    (omega arith, omega arith)

pub returns-clause-exact : goal.returns-clause-exact
unfolding aligned least_multiple
returns-clause-exact c = rw (sym c.unit_of-unit.ensures.exact) (whole c.unit_of-unit.result c.args.bytes c.unit_of-unit.ensures.small c.requires.few)
