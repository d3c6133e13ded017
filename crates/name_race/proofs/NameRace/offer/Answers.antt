use Rattle.std.proofs.Common.{◌<◌, length, ap, arith}
use Rattle.name_race.specs.Race.{Race}
use Rattle.name_race.proofs.Races.{same_race, has_start, has_word}
use Rattle.name_race.proofs.Steps.{offers_at}
use Rattle.name_race.proofs.NameRace.offer.Goals as goal

pub fetch_min-requires : goal.fetch_min-requires
fetch_min-requires c =
    let near : c.args.name < length c.self.inside.table.shared.key.start.items = has_start _ _ _ c.self.view_is c.requires.name in
    let there : c.args.name < c.self.inside.table.shared.table_id.words = has_word _ _ _ c.self.invariant.1 near in (
      ap (λ (r : Race). r.id) (same_race _ _ _ _ c.racer.view_is c.self.view_is c.requires.racer),
      omega arith,
      offers_at c.self.inside.table.shared.key c.self.inside.table.shared.table_id.slots c.racer.inside.seat.id _ _ c.racer.inside.seat.me c.racer.invariant.0 c.racer.invariant.1 (omega arith),
    )
