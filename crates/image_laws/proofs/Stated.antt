-- The laws of images that were made.
use Rattle.std.proofs.Common.{if◌then◌else◌, Bool, Ok, ◌≡◌, ℕ, ◌+◌, ◌-◌, ◌<◌, ◌^◌, false, true, List, Some, refl, sym, ap, ◌∙◌, arith}
use Rattle.std.specs.Prelude.{All, slice_get}
use Rattle.std.specs.Option.{option_map}
use Rattle.list_lemmas.proofs.Members.{In, in_from_Contains}
use Rattle.mo_types.specs.Whole.{is_zerofill}
use Rattle.mo_types.specs.declared.goal.Goal.TheVariants.{Header}
use Rattle.mo_types.specs.declared.key.AtomKey.{AtomKey}
use Rattle.sect_place.specs.Layout as layouts
use Rattle.sect_place.specs.declared.layout.Layout.{Layout}
use Rattle.sect_place.specs.declared.layout.PlacedSection.{PlacedSection}
use Rattle.sect_place.specs.Addresses.{address_in}
use Rattle.patch.specs.declared.range.PlacedWork.{PlacedWork}
use Rattle.image_make.specs.declared.kept.KeptAtom.{KeptAtom}
use Rattle.image_make.specs.Made.{IsMadeWith, ImageInputs, entry_offset, rows_of, scene_of}
use Rattle.image_read.specs.Mapped.{mapped}
use Rattle.image_laws.specs.Entry.{BeginsAt}
use Rattle.image_laws.specs.Means.{AreRising, AreZeros, HasGoals, Imaged, IsGoalAt, IsSectionInMemory, IsZerofill}
use Rattle.image_laws.proofs.Entering.{entry_command, entry_found}
use Rattle.field_laws.proofs.Found.{address_found}
use Rattle.ref_meet.specs.Addresses.{entry_address, entry_way}
use Rattle.image_laws.proofs.Goals.{base_is, way_above}
use Rattle.image_laws.proofs.Layouts.{all_places}
use Rattle.image_laws.proofs.Mapping.{section_stored, section_zeros}
use Rattle.image_laws.proofs.Rowed.{atom_within, kept_found, row_in}

-- ---- the layout

pub with_layout : (m : ImageInputs) (image : List ℕ) → IsMadeWith m (Ok image) → Imaged m image
with_layout m image made = record { layout = made.0; fixups = made.1; chains = made.2; is_image = made.3 }

-- ---- sections

one_section : (m : ImageInputs) (image : List ℕ) (of : Imaged m image) (section : PlacedSection) → AreRising m → In section of.layout.sections → IsSectionInMemory image section
one_section m image of section rising among k low = by (is_zerofill section.section.kind) refl
  where
    by : (zeros : Bool) → is_zerofill section.section.kind ≡ zeros → mapped image (section.address + k) ≡ (if zeros then Some 0 else slice_get image (section.file_offset + k))
    by true e = section_zeros m image of section k rising among e low
    by false e = section_stored m image of section k rising among e low

pub all_sections : (m : ImageInputs) (image : List ℕ) (of : Imaged m image) → AreRising m → All (IsSectionInMemory image) of.layout.sections
all_sections m image of rising = all_places (IsSectionInMemory image) of.layout.sections (λ section h. one_section m image of section rising h)

-- ---- atoms

pub zerofill_atoms : (m : ImageInputs) (image : List ℕ) (of : Imaged m image) (kept : KeptAtom) (address : ℕ) → AreRising m → IsZerofill m of.layout kept address → AreZeros image address kept.atom.size
zerofill_atoms m image of kept address rising zero k low =
    let section = zero.section in
    let among = in_from_Contains of.layout.sections section zero.of_layout in
    let within = atom_within m of.layout section kept.atom.key kept address rising of.is_image.laid among (in_from_Contains section.section.atoms kept.atom.key zero.listed) (kept_found m kept rising zero.keeps) zero.stands in
    let from = within.low in
    let to = within.high in
    let here : section.address + (address - section.address + k) ≡ address + k = omega arith in
    ap (mapped image) (sym here) ∙ section_zeros m image of section (address - section.address + k) rising among zero.zerofill (omega arith)

-- ---- goals

has_goals : (image : List ℕ) (layout : Layout) (key : AtomKey) (address : ℕ) → address_in layout.placed key ≡ Some address → HasGoals image layout key address
has_goals image layout key address stood name offset =
    let here = ap (option_map (λ (start : ℕ). start + offset)) (address_found layout.placed key ∙ stood) in
    (here, here)

pub rows_have_goals : (m : ImageInputs) (image : List ℕ) (of : Imaged m image) → AreRising m → All (λ (row : PlacedWork). HasGoals image of.layout row.atom.key row.address) (rows_of m of.layout)
rows_have_goals m image of rising =
    all_places (λ (row : PlacedWork). HasGoals image of.layout row.atom.key row.address) (rows_of m of.layout) (λ row h. has_goals image of.layout row.atom.key row.address (row_in m of.layout row rising of.is_image.laid h).stood)

pub zerofill_has_goals : (m : ImageInputs) (layout : Layout) (image : List ℕ) (kept : KeptAtom) (address : ℕ) → IsZerofill m layout kept address → HasGoals image layout kept.atom.key address
zerofill_has_goals m layout image kept address zero = has_goals image layout kept.atom.key address zero.stands

pub header_is_goal : (m : ImageInputs) (image : List ℕ) (of : Imaged m image) → AreRising m → IsGoalAt image of.layout Header (layouts.base_of m.command)
header_is_goal m image of rising = base_is m image of rising

-- ---- the entry

pub begins_at : (m : ImageInputs) (image : List ℕ) (of : Imaged m image) (address : ℕ) → AreRising m → m.command.dylib ≡ false → entry_address (scene_of m of.layout) m.entry ≡ Some address → address < 2 ^ 64 → BeginsAt image address
begins_at m image of address rising program e low =
    let above = way_above m of.layout (entry_way m.entry) m.entry address of.is_image.laid e in
    let offset : entry_offset m of.layout ≡ Some (address - layouts.base_of m.command) = ap (option_map (λ (n : ℕ). n - layouts.base_of m.command)) e in
    record {
      command = entry_command (address - layouts.base_of m.command);
      base = layouts.base_of m.command;
      told = entry_found m image of (address - layouts.base_of m.command) rising program offset (omega (arith, low));
      begins = base_is m image of rising;
      leads = omega (arith, above);
    }
