-- What is added to the target of a reference that was read has 64 bits.
use Rattle.std.proofs.Common.{rules, refl, ◌≡◌, ℕ, ◌+◌, ◌<◌, ◌≤◌, ◌^◌, ◌==◌, Bool, true, false, nat_lt, ℤ, pos, ◌-ℤ◌, List, [], ◌∷◌, length, Option, Some, None, Ok, FitsSigned, inl, inr, sym, ap, subst, arith, if◌then◌else◌}
use Rattle.std.specs.Int.{cast_signed, w32, w64}
use Rattle.std.specs.List.{filter_map, range_with_len}
use Rattle.std.specs.Option.{option_map_or}
use Rattle.std.proofs.lemmas.Bool.{ltb-false, ltb-true}
use Rattle.list_lemmas.proofs.Members.{In, from_filter_map, in_either}
use Rattle.mo_format.specs.declared.reloc.TheConstants.{ARM64_RELOC_UNSIGNED}
use Rattle.mo_types.specs.Refs.{addend_of, field_signed, reference_at, refs_from, refs_of, section_refs, signed_24, target_of}
use Rattle.mo_types.specs.RelocationRules.{field_at, field_number}
use Rattle.mo_types.specs.Rows.{first_before, kind_at, last_at}
use Rattle.mo_types.specs.Whole.{is_dropped}
use Rattle.mo_types.specs.declared.key.FileId.{FileId}
use Rattle.mo_types.specs.declared.object.Object.{Object}
use Rattle.mo_types.specs.declared.object.RawReloc.{RawReloc}
use Rattle.mo_types.specs.declared.object.Section.{Section}
use Rattle.mo_types.specs.declared.reference.FieldRange.{FieldRange}
use Rattle.mo_types.specs.declared.reference.Ref.{Ref}
use Rattle.link_files.proofs.Lists.{from_mapped, from_then}
use Rattle.link_files.proofs.Refs.{are_read}

-- ---- numbers

-- the signed reading of any number of 32 bits, or of 64, has 64
fits_32 : (n : ℕ) → FitsSigned w64 (cast_signed w32 n)
fits_32 n = by (nat_lt n (2 ^ 31)) refl
  where
    by : (b : Bool) → nat_lt n (2 ^ 31) ≡ b → FitsSigned w64 (cast_signed w32 n)
    by true e = let low : n < 2 ^ 31 = ltb-true n (2 ^ 31) e in rw e (record { sfits = omega (arith, low) })
    by false e = let high : 2 ^ 31 ≤ n = ltb-false n (2 ^ 31) e in rw e (record { sfits = omega (arith, high) })

fits_64 : (n : ℕ) → FitsSigned w64 (cast_signed w64 n)
fits_64 n = by (nat_lt n (2 ^ 63)) refl
  where
    by : (b : Bool) → nat_lt n (2 ^ 63) ≡ b → FitsSigned w64 (cast_signed w64 n)
    by true e = let low : n < 2 ^ 63 = ltb-true n (2 ^ 63) e in rw e (record { sfits = omega (arith, low) })
    by false e = let high : 2 ^ 63 ≤ n = ltb-false n (2 ^ 63) e in rw e (record { sfits = omega (arith, high) })

fits_24 : (n : ℕ) → FitsSigned w64 (signed_24 n)
fits_24 n = by (nat_lt n (2 ^ 23)) refl
  where
    by : (b : Bool) → nat_lt n (2 ^ 23) ≡ b → FitsSigned w64 (signed_24 n)
    by true e = let low : n < 2 ^ 23 = ltb-true n (2 ^ 23) e in rw e (record { sfits = omega (arith, low) })
    by false e = let high : 2 ^ 23 ≤ n = ltb-false n (2 ^ 23) e in rw e (record { sfits = omega (arith, high) })

pub fits_none : FitsSigned w64 (pos 0)
fits_none = record { sfits = omega arith }

-- ---- addends

field_fits : (bytes : List ℕ) (field : FieldRange) → FitsSigned w64 (field_signed bytes field)
field_fits bytes field = by (field.size == 4)
  where
    by : (b : Bool) → FitsSigned w64 (cast_signed (if b then w32 else w64) (field_number bytes field))
    by true = fits_32 (field_number bytes field)
    by false = fits_64 (field_number bytes field)

first_fits : (first : Option RawReloc) → FitsSigned w64 (option_map_or (λ (addend : RawReloc). signed_24 addend.number) first (pos 0))
first_fits None = fits_none
first_fits (Some addend) = fits_24 addend.number

addend_fits : (bytes : List ℕ) (field : FieldRange) (first : Option RawReloc) (reloc : RawReloc) → FitsSigned w64 (addend_of bytes field first reloc)
addend_fits bytes field first reloc = by (reloc.kind == ARM64_RELOC_UNSIGNED) reloc.external
  where
    by : (a b : Bool) → FitsSigned w64 (if a then (if b then field_signed bytes field else pos 0) else option_map_or (λ (addend : RawReloc). signed_24 addend.number) first (pos 0))
    by true true = field_fits bytes field
    by true false = fits_none
    by false b = first_fits first

-- ---- references

reference_fits : (object : Object) (file : FileId) (number : ℕ) (section : Section) (at : ℕ) (r : Ref) → reference_at object file number section at ≡ Some r → FitsSigned w64 r.addend
unfolding reference_at
reference_fits object file number section at r e =
    let last = from_then _ (last_at section.relocs at) r e in
    let kind = from_then _ (kind_at section.relocs at) r last.2 in
    let field = from_then _ (field_at section.relocs at) r kind.2 in
    let target = from_mapped _ (target_of object file section.bytes field.0 last.0) r field.2 in
    subst (λ (z : ℤ). FitsSigned w64 z) (ap (λ (x : Ref). x.addend) target.2) (addend_fits section.bytes field.0 (first_before section.relocs at) last.0)

section_fits : (object : Object) (file : FileId) (number : ℕ) (section : Section) (r : Ref) → In r (section_refs object file number section) → FitsSigned w64 r.addend
unfolding section_refs
section_fits object file number section r h = by (is_dropped section) h
  where
    by : (b : Bool) → In r (if b then [] else filter_map (reference_at object file number section) (range_with_len 0 (length section.relocs))) → FitsSigned w64 r.addend
    by true there = absurd there
    by false there =
        let from = from_filter_map (reference_at object file number section) (range_with_len 0 (length section.relocs)) r there in
        reference_fits object file number section from.0 r from.2

sections_fit : (object : Object) (file : FileId) (number : ℕ) (sections : List Section) (r : Ref) → In r (refs_from object file number sections) → FitsSigned w64 r.addend
sections_fit object file number [] r h = absurd h
sections_fit object file number (section ∷ sections) r h = elim (in_either (section_refs object file number section) (refs_from object file (number + 1) sections) r h) [
  | inl here ↦ section_fits object file number section r here
  | inr there ↦ sections_fit object file (number + 1) sections r there
]

pub ref_fits : (object : Object) (file : FileId) (refs : List Ref) (r : Ref) → refs_of object file ≡ Ok refs → In r refs → FitsSigned w64 r.addend
ref_fits object file refs r e h = sections_fit object file 1 object.sections r (subst (λ (xs : List Ref). In r xs) (sym (are_read object file refs e).all) h)

-- the distance of an address from another one
pub distance_fits : (a b : ℕ) → a < 2 ^ 63 → b < 2 ^ 63 → FitsSigned w64 (pos a -ℤ pos b)
distance_fits a b p q = search rules
