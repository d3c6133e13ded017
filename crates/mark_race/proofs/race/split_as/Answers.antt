use Rattle.std.proofs.Common.{◌≡◌, ◌<◌, ℕ, ap, subst, sym, arith}
use Rattle.mark_race.specs.Marks.{Race, Holding}
use Rattle.mark_race.proofs.Races.{same_race}
use Rattle.mark_race.proofs.Steps.{splits}
use Rattle.mark_race.proofs.race.split_as.Goals as goal

pub split_seat-requires : goal.split_seat-requires
split_seat-requires g c =
    let kept : c.marker.inside.seat.me.0.passes ≡ c.args.marker.now.passes = ap (λ (k : Holding). k.passes) c.marker.view_is in
    let some_passes = c.requires.passes.0 in
    let fewer = c.requires.passes.1 in
    let count = c.requires.count in (
      ap (λ (r : Race). r.id) (same_race _ _ _ _ c.marker.view_is c.race.view_is c.requires.marker),
      subst (λ (n : ℕ). 0 < n) (sym c.race.invariant.1) (omega arith),
      splits c.race.inside.table.shared.key c.marker.inside.seat.id g.J.Share.count c.marker.inside.seat.me.0 (omega arith) (omega arith),
    )
