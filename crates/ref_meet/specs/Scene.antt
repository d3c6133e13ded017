-- What the references of an image's atoms are met in.
use Rattle.std.specs.Prelude.{ℕ, ◌==◌, Bool, List, [], slice_get}
use Rattle.std.specs.List.{filter}
use Rattle.std.specs.Option.{option_map_or}
use Rattle.liveness.specs.Order.{place_of}
use Rattle.literal_merge.specs.declared.representative.Representative.{Representative}
use Rattle.mo_types.specs.RelocationRules.{section_numbered}
use Rattle.mo_types.specs.declared.goal.Goal.{Goal}
use Rattle.mo_types.specs.declared.key.AtomKey.{AtomKey}
use Rattle.mo_types.specs.declared.loaded.LoadedFile.{LoadedFile}
use Rattle.mo_types.specs.declared.reference.Ref.{Ref}
use Rattle.mo_types.specs.declared.reference.Target.{Target}
use Rattle.patch.specs.declared.range.PlacedWork.{PlacedWork}
use Rattle.resolve.specs.Goals.{target_goal}
use Rattle.sect_place.specs.declared.layout.Layout.{Layout}
use Rattle.slot_plan.specs.declared.list.Slots.{Slots}

-- The loaded files with the goals of their symbols and with what stands for each literal, where everything stands, the slots
-- that there is room for, and the image's first address.
pub record Scene : Type 0 where
  pub files : List LoadedFile
  pub goals : List (List Goal)
  pub literals : List Representative
  pub layout : Layout
  pub slots : Slots
  pub base : ℕ

-- the goals of the symbols of the file at a place
abbrev pub goals_at : List (List Goal) → ℕ → List Goal
goals_at goals at = option_map_or (λ some. some) (slice_get goals at) []

-- where a target of the file at a place leads
unfoldable pub goal_of : Scene → ℕ → Target → Goal
goal_of scene file target = target_goal scene.literals (goals_at scene.goals file) target

-- a reference of the atom at an offset of the section of a number
abbrev pub is_ref_of : ℕ → ℕ → Ref → Bool
is_ref_of section offset r = place_of r.atom.section r.atom.offset == place_of section offset

-- those of an atom, as its file lists them
abbrev pub refs_among : List Ref → AtomKey → List Ref
refs_among refs key = filter (is_ref_of key.section key.offset) refs

unfoldable pub refs_of : List LoadedFile → PlacedWork → List Ref
refs_of files item = option_map_or (λ file. refs_among file.refs item.atom.key) (slice_get files item.file) []

-- the type of the section of a number, in a file (`loader.h`: SECTION_TYPE); that of common symbols isn't one of a file's
abbrev pub kind_in : LoadedFile → ℕ → ℕ
kind_in file number = option_map_or (λ section. section.kind) (section_numbered file.object.sections number) 0
