-- What is known where references are met.
use Rattle.std.specs.Prelude.{◌≡◌}
use Rattle.ref_meet.specs.Ready.{AreInOrder, IsSound, scene_of}
use Rattle.ref_meet.specs.Template.{template_start}
use Rattle.ref_meet.specs.declared.mets.Setting.{Setting}
use Rattle.ref_meet.specs.inner.Told.{AreTold}
use Rattle.slot_place.specs.Places.{starts_of}

-- the scene is sound, what was looked up is of its sections and goals, and words are in order
pub record IsReadyFor (setting : Setting) : Type 0 where
  pub sound : IsSound (scene_of setting.scene.now)
  pub starts : setting.starts ≡ starts_of setting.scene.now.layout.now.sections
  pub template : setting.template ≡ template_start setting.scene.now.layout.now.sections
  pub told : AreTold (scene_of setting.scene.now) setting.scene.now.goals.now.pool setting.places.now
  pub words : AreInOrder setting.words.now
