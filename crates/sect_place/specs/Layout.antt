-- The layout of an image: where everything stands, for the atoms that are kept (`loader.h`: mach_header_64,
-- segment_command_64, section_64).
use Rattle.std.specs.Prelude.{ℕ, ◌≡◌, ◌+◌, ◌-◌, ◌*◌, ◌^◌, ◌≤◌, pos, List, [], ◌∷◌, ◌++◌, length, codes, if◌then◌else◌, IsPermutation}
use Rattle.std.specs.List.Sorted.{IsSorted}
use Rattle.std.specs.Ordering.{on}
use Rattle.command_line.specs.declared.command.Command.{Command}
use Rattle.mo_format.specs.declared.loader.TheConstants.{VM_PROT_NONE, VM_PROT_READ}
use Rattle.mo_types.specs.Keys.{compare_keys}
use Rattle.mo_types.specs.declared.atom.Atom.{Atom}
use Rattle.mo_types.specs.declared.key.AtomKey.{AtomKey}
use Rattle.mo_types.specs.declared.out_section.OutSection.{OutSection}
use Rattle.slot_plan.specs.declared.list.Slots.{Slots}
use Rattle.sect_place.specs.Arrangement.{MadeBytes, groups_of, parts_count}
use Rattle.sect_place.specs.Places.{spaced, area_unit, groups_segments, groups_sections, groups_places, groups_end, groups_file, groups_stand}
use Rattle.sect_place.specs.declared.island.IslandPlan.{IslandPlan}
use Rattle.sect_place.specs.declared.layout.Layout.{Layout}
use Rattle.sect_place.specs.declared.layout.Placed.{Placed}
use Rattle.sect_place.specs.declared.layout.PlacedSection.{PlacedSection}
use Rattle.sect_place.specs.declared.layout.Segment.{Segment}
use Rattle.sect_place.specs.declared.part.Group.{Group}
use Rattle.sect_place.specs.declared.size.PlaceFault.{PlaceFault}
use Rattle.sect_place.specs.declared.size.PlaceFault.TheVariants.{ImageSize, OutOfMemory}
use Rattle.sect_place.specs.declared.size.PlaceSizes.{PlaceSizes}

-- a stub has three instructions, and a slot is an address
abbrev pub made_bytes : Slots → PlaceSizes → MadeBytes
made_bytes slots sizes = record {
  stubs = 12 * length slots.stubs;
  unwind = sizes.unwind;
  got = 8 * length slots.got;
  tlv = 8 * length slots.tlv;
}

-- What is placed: what stands for the keys of a section, the segments with their sections, where the first one
-- begins, and how many bytes stand before its sections.
pub record Plan : Type 0 where
  pub atoms : List AtomKey → List Atom
  pub groups : List Group
  pub base : ℕ
  pub lead : ℕ

-- an executable's memory begins behind that of `__PAGEZERO`, a dynamic library's at 0
abbrev pub base_of : Command → ℕ
base_of command = if command.dylib then 0 else 2 ^ 32

-- besides the segments with sections there is `__LINKEDIT`, and in an executable `__PAGEZERO`
abbrev pub others_of : Command → ℕ
others_of command = if command.dylib then 1 else 2

-- the header, the load commands and the pad
unfoldable pub lead_of : List Group → PlaceSizes → Command → ℕ
lead_of groups sizes command =
    32 + (sizes.commands + 72 * (length groups + others_of command) + 80 * parts_count groups) + command.headerpad

unfoldable pub plan_of : List Atom → List OutSection → Slots → IslandPlan → PlaceSizes → Command → Plan
plan_of kept sections slots islands sizes command =
    let groups = groups_of sections (made_bytes slots sizes) in record {
      atoms = spaced kept islands.areas (area_unit sections);
      groups = groups;
      base = base_of command;
      lead = lead_of groups sizes command;
    }

abbrev pub end_of_image : Plan → ℕ
end_of_image plan = groups_end plan.atoms plan.base plan.lead plan.groups

-- the bytes of the image up to `__LINKEDIT`, but for `__PAGEZERO`
abbrev pub image_size : Plan → ℕ
image_size plan = end_of_image plan - plan.base

abbrev pub pagezero : Segment
pagezero = record { name = codes "__PAGEZERO"; address = 0; vmsize = 0x100000000; file_offset = 0; file_size = 0; protection = VM_PROT_NONE; flags = 0; sections = 0 }

-- what `__LINKEDIT` holds isn't known yet
abbrev pub linkedit : ℕ → ℕ → Segment
linkedit at file = record { name = codes "__LINKEDIT"; address = at; vmsize = 0; file_offset = file; file_size = 0; protection = VM_PROT_READ; flags = 0; sections = 0 }

abbrev pub first_segments : Command → List Segment
first_segments command = if command.dylib then [] else pagezero ∷ []

unfoldable pub image_segments : Command → Plan → List Segment
image_segments command plan =
    first_segments command
    ++ groups_segments plan.atoms plan.base 0 plan.lead plan.groups
    ++ linkedit (end_of_image plan) (groups_file plan.atoms plan.base 0 plan.lead plan.groups) ∷ []

unfoldable pub image_sections : Plan → List PlacedSection
image_sections plan = groups_sections plan.atoms plan.base 0 plan.lead plan.groups

-- where each atom stands, with the islands behind it
unfoldable pub image_stand : Plan → List (Atom × ℕ)
image_stand plan = groups_stand plan.atoms plan.base plan.lead plan.groups

unfoldable pub image_places : Plan → List Placed
image_places plan = groups_places plan.atoms plan.base plan.lead plan.groups

-- A layout of what is planned: its segments and sections, and its atoms at their places, in order.
pub record IsLayoutOf (command : Command) (plan : Plan) (layout : Layout) : Type 0 where
  pub segments : layout.segments ≡ image_segments command plan
  pub sections : layout.sections ≡ image_sections plan
  pub places : IsPermutation (image_places plan) layout.placed
  pub order : IsSorted (on (λ (p : Placed). p.atom) compare_keys) layout.placed

-- the image has this many bytes, which are too many
abbrev pub IsTooLarge : ℕ → PlaceFault → Type 0
IsTooLarge size (ImageSize value) = (2 ^ 32 ≤ size) × (value ≡ pos size)
IsTooLarge size OutOfMemory = Unit {0}
