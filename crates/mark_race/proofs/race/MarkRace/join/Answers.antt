use Rattle.std.proofs.Common.{◌<◌, ℕ, ap, subst, sym, arith}
use Rattle.mark_race.specs.Marks.{Race}
use Rattle.mark_race.proofs.Races.{same_race}
use Rattle.mark_race.proofs.Steps.{joins}
use Rattle.mark_race.proofs.race.MarkRace.join.Goals as goal

pub join_seat-requires : goal.join_seat-requires
join_seat-requires c = (
  ap (λ (r : Race). r.id) (same_race _ _ _ _ c.marker.view_is c.self.view_is c.requires.marker),
  ap (λ (r : Race). r.id) (same_race _ _ _ _ c.other.view_is c.self.view_is c.requires.other),
  c.other.invariant.0,
  subst (λ (n : ℕ). 0 < n) (sym c.self.invariant.1) (omega arith),
  joins c.self.inside.table.shared.key c.marker.inside.seat.id c.other.inside.seat.id c.marker.inside.seat.me.0 c.other.inside.seat.me.0 c.marker.invariant.1,
)
