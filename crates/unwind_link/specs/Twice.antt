-- Two layouts that differ in the bytes of `__unwind_info` alone (`loader.h`: section_64).
use Rattle.std.specs.Prelude.{ℕ, ◌≡◌, ◌≢◌, ◌<◌, List, ◌∷◌, ◌++◌, codes, false, All, Contains}
use Rattle.std.specs.List.{AllByRecursion, AllPairs, filter}
use Rattle.command_line.specs.declared.command.Command.{Command}
use Rattle.mo_types.specs.declared.atom.Atom.{Atom}
use Rattle.mo_types.specs.declared.key.AtomKey.{AtomKey}
use Rattle.mo_types.specs.declared.out_section.OutSection.{OutSection}
use Rattle.ref_meet.specs.Scene.{Scene}
use Rattle.sect_list.specs.OutSections.{is_in}
use Rattle.sect_place.specs.Arrangement.{section_of}
use Rattle.sect_place.specs.Layout.{IsLayoutOf, Plan, base_of, image_places, image_sections, plan_of}
use Rattle.sect_place.specs.declared.island.IslandPlan.{IslandPlan}
use Rattle.sect_place.specs.declared.layout.Layout.{Layout}
use Rattle.sect_place.specs.declared.layout.PlacedSection.{PlacedSection}
use Rattle.sect_place.specs.declared.part.Made.TheVariants.{UnwindInfo}
use Rattle.sect_place.specs.declared.size.PlaceSizes.{PlaceSizes}
use Rattle.tlv_plan.specs.Template.{keys_of}
use Rattle.unwind_link.specs.declared.kept.KeptUnwind.{KeptUnwind}

-- so many bytes of load commands and of `__unwind_info`
abbrev pub with_unwind : ℕ → ℕ → PlaceSizes
with_unwind commands bytes = record { commands = commands; unwind = bytes }

-- `__unwind_info` at an address, with its offset in the file
abbrev pub info_at : ℕ → ℕ → ℕ → PlacedSection
info_at address file bytes = record { section = section_of UnwindInfo; address = address; size = bytes; file_offset = file }

-- sections of segments behind `__TEXT`
abbrev pub AreBehindText : List PlacedSection → Type 0
AreBehindText placed = AllByRecursion (λ (p : PlacedSection). is_in (codes "__TEXT") p.section ≡ false) placed

abbrev pub Stands : Plan → AtomKey → ℕ → Type 0
Stands plan key address = Contains (image_places plan) (record { atom = key; address = address })

-- What is planned once with fewer bytes of `__unwind_info`, and once with more: the sections before it are alike, in which
-- all other sections of `__TEXT` are, it begins at the same place, and each atom of `__TEXT` has one address.
pub record AreAlikeBefore (sections : List OutSection) (one other : Plan) (few many : ℕ) : Type 0 where
  pub before : List PlacedSection
  pub address : ℕ
  pub file : ℕ
  pub rest : List PlacedSection
  pub others : List PlacedSection
  pub first : image_sections one ≡ before ++ info_at address file few ∷ rest
  pub second : image_sections other ≡ before ++ info_at address file many ∷ others
  pub behind : AreBehindText rest
  pub behind_too : AreBehindText others
  pub there : (key : AtomKey) (at : ℕ) → Contains (keys_of (filter (is_in (codes "__TEXT")) sections)) key → Stands one key at → Stands other key at
  pub back : (key : AtomKey) (at : ℕ) → Contains (keys_of (filter (is_in (codes "__TEXT")) sections)) key → Stands other key at → Stands one key at

-- a scene with another layout
abbrev pub placed_as : Layout → Scene → Scene
placed_as layout scene = record scene { layout = layout }

-- An image that is placed twice, in a scene with some bytes of `__unwind_info`, and with others by another layout. No atom is
-- listed twice.
pub record ArePlacedTwice (kept : List Atom) (sections : List OutSection) (islands : IslandPlan) (command : Command) (commands few many : ℕ) (scene : Scene) (other : Layout) : Type 0 where
  pub some : 0 < few
  pub more : 0 < many
  pub once : AllPairs (λ (a : AtomKey) (b : AtomKey). a ≢ b) (keys_of sections)
  pub base : scene.base ≡ base_of command
  pub first : IsLayoutOf command (plan_of kept sections scene.slots islands (with_unwind commands few) command) scene.layout
  pub second : IsLayoutOf command (plan_of kept sections scene.slots islands (with_unwind commands many) command) other

-- entries of atoms of `__TEXT`
abbrev pub AreOfText : List OutSection → List KeptUnwind → Type 0
AreOfText sections entries = All (λ (entry : KeptUnwind). Contains (keys_of (filter (is_in (codes "__TEXT")) sections)) entry.unwind.atom) entries
