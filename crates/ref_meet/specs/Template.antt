-- The template of thread-local variables in an image (`loader.h`: S_THREAD_LOCAL_REGULAR, S_THREAD_LOCAL_ZEROFILL,
-- S_THREAD_LOCAL_VARIABLES): descriptors hold offsets in it.
use Rattle.std.specs.Prelude.{ℕ, ◌+◌, ◌-◌, ◌==◌, ◌||◌, ◌&&◌, Bool, false, List, Option, None, slice_get}
use Rattle.std.specs.List.{find}
use Rattle.std.specs.Option.{option_and_then, option_map, option_map_or}
use Rattle.std.specs.Ordering.{is_eq}
use Rattle.mo_format.specs.declared.loader.TheConstants.{S_THREAD_LOCAL_REGULAR, S_THREAD_LOCAL_VARIABLES, S_THREAD_LOCAL_ZEROFILL}
use Rattle.mo_types.specs.Keys.{compare_files}
use Rattle.mo_types.specs.declared.goal.Goal.{Goal}
use Rattle.mo_types.specs.declared.goal.Goal.TheVariants.{Def, WeakSelf, Header, Import, Flat, Nobody}
use Rattle.mo_types.specs.declared.key.AtomKey.{AtomKey}
use Rattle.mo_types.specs.declared.loaded.LoadedFile.{LoadedFile}
use Rattle.patch.specs.declared.range.PlacedWork.{PlacedWork}
use Rattle.sect_place.specs.Addresses.{address_in}
use Rattle.sect_place.specs.declared.layout.PlacedSection.{PlacedSection}
use Rattle.tlv_plan.specs.Template.{is_thread_local}
use Rattle.ref_meet.specs.Scene.{Scene, kind_in}

-- the types of the sections that make up the template
abbrev pub is_template_kind : ℕ → Bool
is_template_kind kind = kind == S_THREAD_LOCAL_REGULAR || kind == S_THREAD_LOCAL_ZEROFILL

-- an atom is one of the template's
unfoldable pub in_template : List LoadedFile → AtomKey → Bool
in_template files key =
    option_map_or (λ file. is_template_kind (kind_in file key.section)) (find (λ file. is_eq (compare_files file.id key.file)) files) false

-- a goal is in an atom of the template
abbrev pub leads_to_template : List LoadedFile → Goal → Bool
leads_to_template files (Def atom offset) = in_template files atom
leads_to_template files (WeakSelf name atom offset) = in_template files atom
leads_to_template files Header = false
leads_to_template files (Import name ordinal by_weak optional) = false
leads_to_template files (Flat name) = false
leads_to_template files Nobody = false

-- a section holds descriptors of thread-local variables
abbrev pub has_descriptors : LoadedFile → ℕ → Bool
has_descriptors file section = kind_in file section == S_THREAD_LOCAL_VARIABLES

unfoldable pub is_descriptor : List LoadedFile → PlacedWork → Bool
is_descriptor files item = option_map_or (λ file. has_descriptors file item.atom.key.section) (slice_get files item.file) false

-- a pointer of an atom to a goal holds an offset in the template
abbrev pub holds_offset : List LoadedFile → PlacedWork → Goal → Bool
holds_offset files item goal = is_descriptor files item && leads_to_template files goal

-- where the template begins: with the first of its sections
unfoldable pub template_start : List PlacedSection → Option ℕ
template_start sections = option_map (λ (placed : PlacedSection). placed.address) (find (λ (placed : PlacedSection). is_thread_local placed.section) sections)

-- the offset of a place in an atom from there
abbrev pub offset_from : Scene → AtomKey → ℕ → Option ℕ
offset_from scene atom offset =
    option_and_then (λ start. option_map (λ at. at - start + offset) (address_in scene.layout.placed atom)) (template_start scene.layout.sections)

-- that of a goal
unfoldable pub template_offset : Scene → Goal → Option ℕ
template_offset scene (Def atom offset) = offset_from scene atom offset
template_offset scene (WeakSelf name atom offset) = offset_from scene atom offset
template_offset scene Header = None
template_offset scene (Import name ordinal by_weak optional) = None
template_offset scene (Flat name) = None
template_offset scene Nobody = None
