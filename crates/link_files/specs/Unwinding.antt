-- Why unwind entries of kept atoms are refused: a frame that only DWARF describes, and more personalities than an encoding
-- has numbers for (`mach-o/compact_unwind_encoding.h`: UNWIND_ARM64_MODE_DWARF, UNWIND_PERSONALITY_MASK).
use Rattle.std.specs.Prelude.{◌≡◌, ◌≢◌, ◌<◌, ◌≤◌, List, [], length, Contains, Option, Some, None}
use Rattle.std.specs.declared.cmp.Ordering.TheVariants.{Greater}
use Rattle.literal_merge.specs.declared.representative.Representative.{Representative}
use Rattle.mo_types.specs.declared.answer.Refusal.{Refusal}
use Rattle.mo_types.specs.declared.answer.Refusal.TheVariants.{Limit, Unsupported}
use Rattle.mo_types.specs.declared.cause.Feature.TheVariants.{EhFrame}
use Rattle.mo_types.specs.declared.cause.Which.TheVariants.{Personalities}
use Rattle.mo_types.specs.declared.goal.Goal.{Goal}
use Rattle.mo_types.specs.declared.key.AtomKey.{AtomKey}
use Rattle.mo_types.specs.declared.loaded.LoadedFile.{LoadedFile}
use Rattle.slot_plan.specs.Slots.{AreSlots}
use Rattle.unwind_link.specs.Dwarf.{compare_kept, dwarfs}
use Rattle.unwind_link.specs.Kept.{kept_unwinds}
use Rattle.unwind_link.specs.Personalities.{most_personalities, personality_goals}
use Rattle.unwind_link.specs.declared.kept.KeptUnwind.{KeptUnwind}
use Rattle.link_files.specs.Names.{label_of}

-- ---- frames in `__eh_frame`

-- one of these entries is the first that leaves unwinding to `__eh_frame`, by its atom and its place there; it is told by its file
pub record LeavesToEhFrame (files : List LoadedFile) (unwinds : List KeptUnwind) (why : Refusal) : Type 0 where
  pub first : KeptUnwind
  pub among : Contains (dwarfs unwinds) first
  pub least : (other : KeptUnwind) → Contains (dwarfs unwinds) other → compare_kept first other ≢ Greater
  pub told : why ≡ Unsupported (label_of files first.unwind.atom.file) EhFrame

-- it is told, or there is none
abbrev pub IsEhFrameTold : List LoadedFile → List KeptUnwind → Option Refusal → Type 0
IsEhFrameTold files unwinds None = dwarfs unwinds ≡ []
IsEhFrameTold files unwinds (Some why) = LeavesToEhFrame files unwinds why

-- ---- personalities

-- where the personalities of the entries of kept atoms lead, as often as they are named
abbrev pub handlers : List Representative → List AtomKey → List (List Goal) → List LoadedFile → List Goal
handlers literals keys goals files = personality_goals literals goals (kept_unwinds keys files)

-- each counted once, they are no more than an encoding has numbers for
pub record AreFewPersonalities (goals : List Goal) : Type 0 where
  pub listed : List Goal
  pub each : AreSlots goals listed
  pub few : length listed ≤ most_personalities

-- they are more
pub record AreManyPersonalities (goals : List Goal) (why : Refusal) : Type 0 where
  pub listed : List Goal
  pub each : AreSlots goals listed
  pub many : most_personalities < length listed
  pub told : why ≡ Limit Personalities

-- that they are more is told
abbrev pub ArePersonalitiesTold : List Goal → Option Refusal → Type 0
ArePersonalitiesTold goals None = AreFewPersonalities goals
ArePersonalitiesTold goals (Some why) = AreManyPersonalities goals why
