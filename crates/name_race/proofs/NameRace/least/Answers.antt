use Rattle.std.proofs.Common.{◌<◌, length, ap, arith}
use Rattle.name_race.specs.Race.{Race}
use Rattle.name_race.proofs.Races.{same_race, has_start, has_word}
use Rattle.name_race.proofs.Steps.{looks_at}
use Rattle.name_race.proofs.NameRace.least.Goals as goal

pub load-requires : goal.load-requires
load-requires c =
    let near : c.args.name < length c.self.inside.table.shared.key.start.items = has_start _ _ _ c.self.view_is c.requires.name in
    let there : c.args.name < c.self.inside.table.shared.table_id.words = has_word _ _ _ c.self.invariant.1 near in (
      ap (λ (r : Race). r.id) (same_race _ _ _ _ c.racer.view_is c.self.view_is c.requires.racer),
      omega arith,
      looks_at c.self.inside.table.shared.key c.self.inside.table.shared.table_id.slots c.racer.inside.seat.id _ c.racer.inside.seat.me c.racer.invariant.0 c.racer.invariant.1,
    )
