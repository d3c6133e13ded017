use Rattle.std.proofs.Common.{◌≡◌, ap, ap₂, ◌∙◌, sym}
use Rattle.race_core.specs.Run.{run}
use Rattle.name_race.specs.Race.{Race, Holding}
use Rattle.name_race.proofs.Steps.{settles}
use Rattle.name_race.proofs.NameRace.settle.Goals as goal

pub returns-clause-words : goal.returns-clause-words
returns-clause-words c =
    let end = c.close_with-closed.ensures.values.2 in
    let terms = c.self.inside.table.shared.key in
    let me = c.racer.inside.seat.me.0 in
    let all : me.passes ≡ terms.passes = ap (λ (k : Holding). k.passes) c.racer.view_is ∙ (c.requires.passes ∙ sym (ap (λ (r : Race). r.passes) c.self.view_is)) in
    c.copy_words.ensures
    ∙ (sym end.2
    ∙ (settles terms c.racer.inside.seat.id me end.0 end.1.0 end.1.1 all ∙ ap₂ run (ap (λ (r : Race). r.start) c.self.view_is) (ap (λ (k : Holding). k.offers) c.racer.view_is)))
