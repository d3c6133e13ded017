use Rattle.std.proofs.Common.{ℕ, refl, sym, subst, ◌≡◌, IfSome, Some, length}
use Rattle.std.specs.Prelude.{Option}
use Rattle.std.proofs.lemmas.Option.{slice_get_read}
use Rattle.resolve.specs.Table.{goal_in}
use Rattle.ref_meet.specs.Ready.{scene_of}
use Rattle.ref_meet.specs.inner.Told.{told_by}
use Rattle.ref_meet.proofs.ToldLemmas.{known_there}
use Rattle.ref_meet.proofs.mets.known_at.Goals as goal

pub returns-in-Some : goal.returns-in-Some
returns-in-Some c =
    subst (λ (o : Option ℕ). IfSome o (λ address. told_by (scene_of c.args.setting.now.scene.now) c.args.way (goal_in c.args.setting.now.scene.now.goals.now.pool c.args.place) ≡ Some address)) (sym c.by.ensures)
    (known_there (scene_of c.args.setting.now.scene.now) c.args.way c.args.setting.now.scene.now.goals.now.pool c.args.place c.args.setting.now.places.now c.in-Some.places.now c.requires.ready.told
    (slice_get_read c.args.setting.now.places.now (length c.args.setting.now.places.now) c.args.place c.in-Some.places.now refl c.in-Some.ensures.lookup.3.0 (c.in-Some.ensures.lookup.3.1 c.in-Some.places.now)))
