use Rattle.std.proofs.Common.{◌≡◌, ◌<◌, ap, subst, sym, arith}
use Rattle.name_race.specs.Race.{Race, Holding}
use Rattle.name_race.proofs.Races.{same_race}
use Rattle.name_race.proofs.Steps.{splits}
use Rattle.name_race.proofs.split_as.Goals as goal

pub split_seat-requires : goal.split_seat-requires
split_seat-requires g c =
    let kept : c.racer.inside.seat.me.0.passes ≡ c.args.racer.now.passes = ap (λ (k : Holding). k.passes) c.racer.view_is in
    let some_passes = c.requires.passes.0 in
    let fewer = c.requires.passes.1 in
    let count = c.requires.count in (
      ap (λ (r : Race). r.id) (same_race _ _ _ _ c.racer.view_is c.race.view_is c.requires.racer),
      subst (λ n. 0 < n) (sym c.race.invariant.1) c.race.invariant.2,
      splits c.race.inside.table.shared.key c.racer.inside.seat.id g.J.Share.count c.racer.inside.seat.me.0 (omega arith) (omega arith),
    )
