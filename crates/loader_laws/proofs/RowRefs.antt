-- The references of the atoms that have bytes in an image are those of kept atoms.
use Rattle.std.proofs.Common.{◌≡◌, ◌⊎◌, ℕ, ◌≤◌, true, [], Option, Some, None, inl, inr, refl, sym, ap, ◌∙◌, subst, arith}
use Rattle.std.specs.Prelude.{slice_get}
use Rattle.std.specs.Option.{option_map_or}
use Rattle.std.specs.Ordering.{is_eq}
use Rattle.list_lemmas.proofs.Members.{In, find_some, in_filter}
use Rattle.mark_core.specs.Kept.{has}
use Rattle.mo_types.specs.Keys.{compare_keys}
use Rattle.mo_types.specs.Loaded.{IsWholeFile}
use Rattle.mo_types.specs.declared.key.AtomKey.{AtomKey}
use Rattle.mo_types.specs.declared.key.FileId.{FileId}
use Rattle.mo_types.specs.declared.key.TheConstants.{COMMON_SECTION}
use Rattle.mo_types.specs.declared.loaded.LoadedFile.{LoadedFile}
use Rattle.mo_types.specs.declared.reference.Ref.{Ref}
use Rattle.mo_types.specs.declared.reference.Target.{Target}
use Rattle.liveness.specs.Undefined.{targets_of}
use Rattle.patch.specs.declared.range.PlacedWork.{PlacedWork}
use Rattle.ref_meet.specs.Scene.{is_ref_of, refs_among, refs_of}
use Rattle.sect_place.specs.declared.layout.Layout.{Layout}
use Rattle.image_make.specs.Made.{IsLaid, ImageInputs, kept_of, rows_of}
use Rattle.image_make.specs.declared.kept.KeptAtom.{KeptAtom}
use Rattle.image_make.proofs.FieldLemmas.{IsRefOf, ref_of_row, row_key_file}
use Rattle.image_make.proofs.RefLemmas.{ref_file, section_low}
use Rattle.image_laws.specs.Means.{AreRising}
use Rattle.image_laws.proofs.Loading.{from_all}
use Rattle.image_laws.proofs.Rowed.{IsRowIn, row_in}
use Rattle.link_files.proofs.Cuts.{key_at}
use Rattle.link_files.proofs.Lists.{in_slice}
use Rattle.link_files.proofs.Refs.{IsRead, is_read}
use Rattle.loader_laws.proofs.Placing.{IsCommonOf, IsKeptFrom, IsLinking, kept_from}
use Rattle.loader_laws.proofs.Targets.{IsKeptRef}

-- the atom of a row is kept, or that of a common symbol
row_keeps : (m : ImageInputs) (layout : Layout) (row : PlacedWork) → AreRising m → IsLaid m layout → In row (rows_of m layout) → (has m.keys row.atom.key ≡ true) ⊎ (row.atom.key.section ≡ COMMON_SECTION)
row_keeps m layout row rising laid h = by from.from
  where
    is : IsRowIn m layout row
    is = row_in m layout row rising laid h

    from : IsKeptFrom m is.kept
    from = kept_from m is.kept (find_some (λ (k : KeptAtom). is_eq (compare_keys k.atom.key is.key)) (kept_of m) is.kept is.known).0

    named : from.atom.key ≡ row.atom.key
    named = from.named ∙ ap (λ (r : PlacedWork). r.atom.key) is.is

    by : (In from.atom from.file.atoms × (has m.keys from.atom.key ≡ true)) ⊎ IsCommonOf from.file from.atom.key → (has m.keys row.atom.key ≡ true) ⊎ (row.atom.key.section ≡ COMMON_SECTION)
    by (inl piece) = inl (ap (has m.keys) (sym named) ∙ piece.1)
    by (inr common) = inr (ap (λ (k : AtomKey). k.section) (sym named) ∙ common.common)

-- a reference of a row: of its file, of its atom, and that is kept
pub record IsRowRef (m : ImageInputs) (row : PlacedWork) (r : Ref) : Type 0 where
  pub file : LoadedFile
  pub kept : IsKeptRef m row.file file r
  pub key : r.atom ≡ row.atom.key
  pub read : IsRead file.object file.id r

pub row_ref : (m : ImageInputs) (layout : Layout) (row : PlacedWork) (r : Ref) → IsLinking m → AreRising m → IsLaid m layout → In row (rows_of m layout) → In r (refs_of m.files row) → IsRowRef m row r
row_ref m layout row r linking rising laid h among =
    record { file = is.file; kept = record { there = is.there; among = is.among; kept = ap (has m.keys) key ∙ by (row_keeps m layout row rising laid h) }; key = key; read = is_read is.file.object is.file.id is.file.refs r is.whole.refs is.among }
  where
    is : IsRefOf m row r
    is = ref_of_row m layout row r linking.solid.whole h among

    files : r.atom.file ≡ row.atom.key.file
    files = ref_file is.file r is.whole is.among ∙ sym (row_key_file m row is.file is.whole is.piece)

    key : r.atom ≡ row.atom.key
    key =
        ap (λ (f : FileId). key_at f r.atom.section r.atom.offset) files
        ∙ ap (λ (n : ℕ). key_at row.atom.key.file n r.atom.offset) is.section
        ∙ ap (λ (n : ℕ). key_at row.atom.key.file row.atom.key.section n) is.offset

    by : (has m.keys row.atom.key ≡ true) ⊎ (row.atom.key.section ≡ COMMON_SECTION) → has m.keys row.atom.key ≡ true
    by (inl kept) = kept
    by (inr common) =
        let few : r.atom.section ≤ 255 = section_low is.file r is.whole is.among in
        let same = is.section in
        absurd (omega (arith, few, same, common))

-- a reference of a row's atom, as its file lists it
pub of_row : (m : ImageInputs) (row : PlacedWork) (file : LoadedFile) (r : Ref) → slice_get m.files row.file ≡ Some file → In r file.refs → is_ref_of row.atom.key.section row.atom.key.offset r ≡ true → In r (refs_of m.files row)
unfolding refs_of
of_row m row file r there among own =
    subst (λ (o : Option LoadedFile). In r (option_map_or (λ (f : LoadedFile). refs_among f.refs row.atom.key) o [])) (sym there)
    (in_filter (is_ref_of row.atom.key.section row.atom.key.offset) file.refs r among own)

-- the target of a reference is one of its targets
pub first_target : (r : Ref) → In r.target (targets_of r.target r.minus)
first_target r = by r.minus
  where
    by : (minus : Option Target) → In r.target (targets_of r.target minus)
    by None = inl refl
    by (Some minus) = inl refl

-- ---- what is read

pub whole_at : (m : ImageInputs) (at : ℕ) (file : LoadedFile) → IsLinking m → slice_get m.files at ≡ Some file → IsWholeFile file
whole_at m at file linking there = from_all IsWholeFile m.files file linking.solid.whole (in_slice m.files at file there)

pub kept_read : (m : ImageInputs) (at : ℕ) (file : LoadedFile) (r : Ref) → IsLinking m → IsKeptRef m at file r → IsRead file.object file.id r
kept_read m at file r linking is = is_read file.object file.id file.refs r (whole_at m at file linking is.there).refs is.among
