use Rattle.std.proofs.Common.{◌<◌, ap, subst, sym}
use Rattle.name_race.specs.Race.{Race}
use Rattle.name_race.proofs.Races.{same_race}
use Rattle.name_race.proofs.Steps.{joins}
use Rattle.name_race.proofs.NameRace.join.Goals as goal

pub join_seat-requires : goal.join_seat-requires
join_seat-requires c = (
  ap (λ (r : Race). r.id) (same_race _ _ _ _ c.racer.view_is c.self.view_is c.requires.racer),
  ap (λ (r : Race). r.id) (same_race _ _ _ _ c.other.view_is c.self.view_is c.requires.other),
  c.other.invariant.0,
  subst (λ n. 0 < n) (sym c.self.invariant.1) c.self.invariant.2,
  joins c.self.inside.table.shared.key c.racer.inside.seat.id c.other.inside.seat.id c.racer.inside.seat.me.0 c.other.inside.seat.me.0 c.racer.invariant.1,
)
