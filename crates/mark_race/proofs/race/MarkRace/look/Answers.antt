use Rattle.std.proofs.Common.{◌<◌, ◌≤◌, ◌∙◌, ℕ, Bool, List, length, ap, subst, sym, arith}
use Rattle.mark_race.specs.Marks.{Race, Holding, times}
use Rattle.mark_race.proofs.Races.{same_race}
use Rattle.mark_race.proofs.Steps.{looks_at}
use Rattle.mark_race.proofs.race.MarkRace.look.Goals as goal

pub load-requires : goal.load-requires
load-requires c = (
  ap (λ (r : Race). r.id) (same_race _ _ _ _ c.marker.view_is c.self.view_is c.requires.marker),
  subst (λ (n : ℕ). 0 < n) (sym c.self.invariant.1) (omega arith),
  looks_at c.self.inside.table.shared.key c.self.inside.table.shared.table_id.slots c.marker.inside.seat.id 0 c.marker.inside.seat.me c.marker.invariant.0 c.marker.invariant.1,
)

pub returns-clause-once : goal.returns-clause-once
returns-clause-once c = λ atom. subst (λ (l : List ℕ). times atom l ≤ 1) (ap (λ (k : Holding). k.gains) c.marker.view_is) (c.load.ensures.2.0 atom)

pub returns-clause-within : goal.returns-clause-within
returns-clause-within c = λ atom has. subst (λ (l : List Bool). atom < length l) (ap (λ (k : Holding). k.race.start) c.marker.view_is ∙ ap (λ (r : Race). r.start) c.requires.marker)
    (c.load.ensures.2.1 atom (subst (λ (l : List ℕ). 0 < times atom l) (sym (ap (λ (k : Holding). k.gains) c.marker.view_is)) has))
