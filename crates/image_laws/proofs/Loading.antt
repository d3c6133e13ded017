-- The atoms of an image in memory.
use Rattle.std.proofs.Common.{◌≡◌, ℕ, ◌+◌, ◌-◌, ◌<◌, ◌≤◌, List, length, get_or, take, drop, Some, refl, sym, ap, ◌∙◌, arith, subst}
use Rattle.std.specs.Prelude.{All, slice_get}
use Rattle.std.proofs.lemmas.List.{get_or-drop, get_or-take, length-drop, length-take}
use Rattle.std.proofs.lemmas.Option.{slice_get-get_or}
use Rattle.list_lemmas.proofs.Members.{In, Contains_from_in}
use Rattle.patch.specs.Patched.{AreFields, ArePatched, IsOutside, size_of}
use Rattle.patch.specs.Range.{IsPlaced, bytes_of, part_of}
use Rattle.patch.specs.declared.met.Met.{Met}
use Rattle.patch.specs.declared.range.PlacedWork.{PlacedWork}
use Rattle.sect_place.specs.declared.layout.PlacedSection.{PlacedSection}
use Rattle.image_make.specs.Made.{ImageInputs, mets_of, rows_of}
use Rattle.image_make.proofs.FieldLemmas.{fields_of}
use Rattle.image_make.proofs.WorkLemmas.{few_bytes}
use Rattle.field_laws.specs.Memory.{AreInMemory, Holds}
use Rattle.field_laws.proofs.Written.{fields_hold}
use Rattle.mo_types.specs.Loaded.{IsWholeFile}
use Rattle.image_read.specs.Mapped.{mapped}
use Rattle.image_laws.specs.Means.{AreRising, Imaged, IsInMemory, KeepsOtherBytes}
use Rattle.image_laws.proofs.Layouts.{all_places}
use Rattle.image_laws.proofs.Mapping.{section_stored}
use Rattle.image_laws.proofs.Rowed.{row_in}

pub from_all : {X : Type 0} (P : X → Type 0) (xs : List X) (x : X) → All P xs → In x xs → P x
from_all P xs x all h =
    let there = Contains_from_in xs x h in
    subst P there.2 (all there.0 x there.1)

pub part_is : (m : ImageInputs) (row : PlacedWork) (image : List ℕ) → part_of m.files 0 row image ≡ take (length (bytes_of m.files row)) (drop (row.at - 0) image)
unfolding part_of
part_is m row image = refl

-- the bytes of a row in the file
pub row_patched : (m : ImageInputs) (image : List ℕ) (of : Imaged m image) (row : PlacedWork) → In row (rows_of m of.layout) → ArePatched row.address (mets_of m of.layout of.chains row) (bytes_of m.files row) (take (length (bytes_of m.files row)) (drop (row.at - 0) image))
row_patched m image of row h =
    subst (λ (z : List ℕ). ArePatched row.address (mets_of m of.layout of.chains row) (bytes_of m.files row) z) (part_is m row image)
    (from_all (IsPlaced m.files (mets_of m of.layout of.chains) 0 image) (rows_of m of.layout) row of.is_image.filled.placed h)

-- its fields lie apart in it
pub row_fields : (m : ImageInputs) (image : List ℕ) (of : Imaged m image) (row : PlacedWork) → All IsWholeFile m.files → AreRising m → In row (rows_of m of.layout) → AreFields row.address (length (bytes_of m.files row)) (mets_of m of.layout of.chains row)
row_fields m image of row whole rising h = fields_of m of.layout of.chains.words row whole rising of.is_image.laid h

-- ---- in memory

window_get : (image : List ℕ) (n at k : ℕ) → k < length (take n (drop (at - 0) image)) → slice_get image (at + k) ≡ slice_get (take n (drop (at - 0) image)) k
window_get image n at k low =
    let long : length (take n (drop (at - 0) image)) ≤ length image - at = omega (arith, length-take n (drop (at - 0) image), length-drop (at - 0) image) in
    let short : length (take n (drop (at - 0) image)) ≤ n = omega (arith, length-take n (drop (at - 0) image)) in
    let here : at - 0 + k ≡ at + k = omega arith in
    slice_get-get_or image (at + k) 0 (omega arith)
    ∙ ap Some (sym (get_or-take n (drop (at - 0) image) k 0 (omega arith) ∙ get_or-drop (at - 0) image k 0 ∙ ap (λ (i : ℕ). get_or image i 0) here))
    ∙ sym (slice_get-get_or (take n (drop (at - 0) image)) k 0 low)

row_there : (m : ImageInputs) (image : List ℕ) (of : Imaged m image) (row : PlacedWork) → AreRising m → In row (rows_of m of.layout) → AreInMemory image row.address (take (length (bytes_of m.files row)) (drop (row.at - 0) image))
row_there m image of row rising h = λ k low.
    let of_section = row_in m of.layout row rising of.is_image.laid h in
    let section : PlacedSection = of_section.section in
    let within = of_section.within in
    let from = within.low in
    let to = within.high in
    let few = few_bytes m.files row in
    let short : length (take (length (bytes_of m.files row)) (drop (row.at - 0) image)) ≤ length (bytes_of m.files row) = omega (arith, length-take (length (bytes_of m.files row)) (drop (row.at - 0) image)) in
    let at : section.file_offset + (row.address - section.address) ≡ row.at = ap (λ (r : PlacedWork). r.at) of_section.is in
    let stored = section_stored m image of section (row.address - section.address + k) rising of_section.among of_section.solid (omega arith) in
    let address : section.address + (row.address - section.address + k) ≡ row.address + k = omega arith in
    let place : section.file_offset + (row.address - section.address + k) ≡ row.at + k = omega arith in
    ap (mapped image) (sym address) ∙ stored ∙ ap (slice_get image) place ∙ window_get image (length (bytes_of m.files row)) row.at k low

pub row_loaded : (m : ImageInputs) (image : List ℕ) (of : Imaged m image) (row : PlacedWork) → AreRising m → In row (rows_of m of.layout) → IsInMemory image m.files (mets_of m of.layout of.chains) row
row_loaded m image of row rising h = record {
  bytes = take (length (bytes_of m.files row)) (drop (row.at - 0) image);
  patched = row_patched m image of row h;
  there = row_there m image of row rising h;
}

pub all_loaded : (m : ImageInputs) (image : List ℕ) (of : Imaged m image) → AreRising m → All (IsInMemory image m.files (mets_of m of.layout of.chains)) (rows_of m of.layout)
all_loaded m image of rising = all_places (IsInMemory image m.files (mets_of m of.layout of.chains)) (rows_of m of.layout) (λ row h. row_loaded m image of row rising h)

-- ---- fields

pub field_holds : (m : ImageInputs) (image : List ℕ) (of : Imaged m image) (row : PlacedWork) (met : Met) → All IsWholeFile m.files → AreRising m → In row (rows_of m of.layout) → In met (mets_of m of.layout of.chains row) → Holds image (row.address + met.place) met
field_holds m image of row met whole rising h among =
    let loaded = row_loaded m image of row rising h in
    from_all (λ (x : Met). Holds image (row.address + x.place) x) (mets_of m of.layout of.chains row) met
    (fields_hold image row.address (mets_of m of.layout of.chains row) (bytes_of m.files row) loaded.bytes (row_fields m image of row whole rising h) loaded.patched loaded.there) among

pub field_within : (m : ImageInputs) (image : List ℕ) (of : Imaged m image) (row : PlacedWork) (met : Met) → All IsWholeFile m.files → AreRising m → In row (rows_of m of.layout) → In met (mets_of m of.layout of.chains row) → met.place + size_of met ≤ length (bytes_of m.files row)
field_within m image of row met whole rising h among =
    from_all (λ (x : Met). x.place + size_of x ≤ length (bytes_of m.files row)) (mets_of m of.layout of.chains row) met (row_fields m image of row whole rising h).within among

-- a byte that is part of no field
outside_row : (m : ImageInputs) (image : List ℕ) (of : Imaged m image) (row : PlacedWork) → IsInMemory image m.files (mets_of m of.layout of.chains) row → (k : ℕ) → k < length (bytes_of m.files row) → All (IsOutside k) (mets_of m of.layout of.chains row) → mapped image (row.address + k) ≡ slice_get (bytes_of m.files row) k
outside_row m image of row loaded k low outside =
    let size = loaded.patched.size in
    loaded.there k (omega arith)
    ∙ slice_get-get_or loaded.bytes k 0 (omega arith)
    ∙ ap Some (loaded.patched.others k outside)
    ∙ sym (slice_get-get_or (bytes_of m.files row) k 0 low)

pub all_outside : (m : ImageInputs) (image : List ℕ) (of : Imaged m image) → AreRising m → All (KeepsOtherBytes image m.files (mets_of m of.layout of.chains)) (rows_of m of.layout)
all_outside m image of rising =
    all_places (KeepsOtherBytes image m.files (mets_of m of.layout of.chains)) (rows_of m of.layout)
    (λ row h. outside_row m image of row (row_loaded m image of row rising h))
