-- What an image has of the unwind entries of its atoms (`compact_unwind_encoding.h`).
use Rattle.std.specs.Prelude.{◌≡◌, ◌≤◌, List, length, All, Ok}
use Rattle.mo_types.specs.declared.goal.Goal.{Goal}
use Rattle.mo_types.specs.declared.loaded.LoadedFile.{LoadedFile}
use Rattle.slot_plan.specs.Slots.{AreSlots}
use Rattle.unwind_link.specs.Kept.{kept_unwinds}
use Rattle.unwind_link.specs.Personalities.{most_personalities, personality_goals}
use Rattle.unwind_read.specs.Unwinds.{unwinds_of}
use Rattle.image_make.specs.Made.{ImageInputs}

-- each file has the unwind entries of its object
abbrev pub AreUnwound : List LoadedFile → Type 0
AreUnwound files = All (λ (file : LoadedFile). unwinds_of file.object file.id ≡ Ok file.unwinds) files

-- They are those of the atoms that are kept, as the objects have them, and an encoding can tell their personalities apart.
pub record HaveFrames (m : ImageInputs) : Type 0 where
  pub kept : m.unwinds ≡ kept_unwinds m.keys m.files
  pub read : AreUnwound m.files
  pub handlers : List Goal
  pub are_handlers : AreSlots (personality_goals m.literals m.goals m.unwinds) handlers
  pub few : length handlers ≤ most_personalities
