-- What the loader reads of the imports and of words.
use Rattle.std.proofs.Common.{◌≡◌, ◌≢◌, ℕ, ◌+◌, ◌*◌, ◌/◌, ◌%◌, ◌^◌, ◌<◌, ◌≤◌, ◌==◌, Bool, true, false, ℤ, pos, negsuc, List, [], ◌∷◌, ◌++◌, length, get_or, nat_le, nat_lt, position, unwrap_or, Contains, Option, Some, FitsSigned, Ok, if◌then◌else◌, refl, sym, ap, ◌∙◌, inl, inr, arith, lit<}
use Rattle.std.specs.Int.{cast_unsigned, w64}
use Rattle.std.specs.List.{All}
use Rattle.std.specs.Option.{option_map}
use Rattle.std.specs.Ordering.{eq_by_cmp}
use Rattle.std.specs.List.{position_or_len}
use Rattle.std.proofs.lemmas.Bool.{cases_lt, leb-true, lt-ltb, false≢true}
use Rattle.std.proofs.lemmas.List.Quantifiers.{position-Some}
use Rattle.std.proofs.lemmas.List.Sums.{fails_before_first}
use Rattle.mo_bytes.specs.Number.{number_at, number_bytes}
use Rattle.mo_bytes.proofs.Numbers.{length-number_bytes}
use Rattle.image_format.specs.ChainedImport.{import_word, wide_import_word}
use Rattle.image_format.specs.ChainedImport as forms
use Rattle.mo_format.specs.Relocation.{bit}
use Rattle.image_format.specs.declared.chained_import.ChainedImport.{ChainedImport}
use Rattle.image_format.specs.declared.chained_import.ChainedImportAddend64.{ChainedImportAddend64}
use Rattle.image_format.specs.declared.fixup_chains.TheConstants.{DYLD_CHAINED_IMPORT, DYLD_CHAINED_IMPORT_ADDEND64}
use Rattle.image_format.proofs.ImportLemmas.{import_of-import_word, wide_import_of-wide_import_word}
use Rattle.mo_strings.specs.Strings.{string_at}
use Rattle.fixup_chain.specs.ImportOrder as order
use Rattle.fixup_chain.specs.ImportOrder.{compare_imports, compare_imports_equal}
use Rattle.fixup_chain.specs.Encoded.{format_of}
use Rattle.fixup_chain.specs.Pool.{row_bytes}
use Rattle.fixup_chain.specs.Words.{number_of}
use Rattle.fixup_chain.proofs.ImportLemmas.{same_import}
use Rattle.image_read.specs.Fixups.{import_at, known, narrow_import, ordinal_of, wide_import}
use Rattle.image_read.specs.Imports.{header_of, import_name, name_offset, name_place}
use Rattle.image_read.specs.declared.fixups.Import.{Import}
use Rattle.image_read.specs.declared.imports.FixupsHeader.{FixupsHeader}
use Rattle.chain_laws.proofs.ImportStanding as stand
use Rattle.chain_laws.proofs.Standing.{Stands, known_stands, stands_left, stands_right}
use Rattle.chain_laws.proofs.Steps.{goes_on}

-- ---- the number of an import

-- the index at which an import stands
pub record IsAtNumber (imports : List order.Import) (import : order.Import) : Type 0 where
  pub within : number_of imports import < length imports
  pub is : get_or imports (number_of imports import) import ≡ import

tied : order.Import → order.Import → Bool
tied = eq_by_cmp compare_imports

tied_same : (a b : order.Import) → tied a b ≡ true → a ≡ b
unfolding tied
tied_same a b e = same_import a b e

tied_itself : (a : order.Import) → tied a a ≡ true
unfolding tied
tied_itself a = compare_imports_equal.refl a

number_is : (imports : List order.Import) (import : order.Import) → number_of imports import ≡ unwrap_or (position (tied import) imports) 0
unfolding number_of tied
number_is imports import = refl

pub at_number : (imports : List order.Import) (import : order.Import) → Contains imports import → IsAtNumber imports import
at_number imports import h = elim (cases_lt n (length imports)) [
  | inl less ↦
      (let place : position (tied import) imports ≡ Some n = rw (lt-ltb n (length imports) less) refl in
      let number : number_of imports import ≡ n = number_is imports import ∙ ap (λ (o : Option ℕ). unwrap_or o 0) place in
      let passes = position-Some (tied import) imports n import place in
      let same : import ≡ get_or imports n import = tied_same import (get_or imports n import) passes.1 in
      record {
        within = omega (arith, number, less);
        is = ap (λ (k : ℕ). get_or imports k import) number ∙ sym same;
      })
  | inr past ↦
      (let fails : tied import (get_or imports h.0 import) ≡ false = fails_before_first (tied import) imports h.0 import (omega (arith, h.1, past)) in
      absurd (false≢true (sym fails ∙ ap (tied import) h.2 ∙ tied_itself import)))
]
  where
    n : ℕ
    n = position_or_len (tied import) imports

-- ---- an import's row

abbrev pub read_import : ℤ → Bool → ℕ → Import
read_import ordinal optional addend = record { ordinal = ordinal; optional = optional; addend = addend }

-- what is read of an ordinal and of an addend
abbrev pub read_ordinal : Bool → ℕ → ℤ
read_ordinal true ordinal = ordinal_of 0xfff0 0xffff ordinal
read_ordinal false ordinal = ordinal_of 0xf0 0xff (ordinal % 2 ^ 8)

abbrev pub read_addend : Bool → ℤ → ℕ
read_addend true addend = cast_unsigned w64 addend
read_addend false addend = 0

-- what is read of an import
abbrev pub import_told : Bool → order.Import → Import
import_told wide import = read_import (read_ordinal wide import.ordinal) import.optional (read_addend wide import.addend)

not_at_least : (a b : ℕ) → b < a → nat_le a b ≡ false
not_at_least a b less = by (nat_le a b) refl
  where
    by : (t : Bool) → nat_le a b ≡ t → nat_le a b ≡ false
    by true e = let up : a ≤ b = leb-true a b e in absurd (omega (arith, up, less))
    by false e = e

narrow_word : (place : ℕ) → order.Import → ChainedImport
narrow_word place import = record { lib_ordinal = import.ordinal % 2 ^ 8; weak_import = import.optional; name_offset = place % 2 ^ 23 }

wide_word : (place : ℕ) → order.Import → ChainedImportAddend64
wide_word place import = record { lib_ordinal = import.ordinal; weak_import = import.optional; reserved = 0; name_offset = place % 2 ^ 32; addend = cast_unsigned w64 import.addend }

bit_small : (b : Bool) → bit b ≤ 1
bit_small true = omega arith
bit_small false = omega arith

narrow_known : (image : List ℕ) (at place : ℕ) (import : order.Import) → Stands image at (row_bytes false place import) → number_at 4 image at ≡ Some (import_word (narrow_word place import))
unfolding row_bytes narrow_word
narrow_known image at place import s =
    let small : bit import.optional ≤ 1 = bit_small import.optional in
    known_stands image at 4 (import_word (record { lib_ordinal = import.ordinal % 2 ^ 8; weak_import = import.optional; name_offset = place % 2 ^ 23 })) (lit< tt) (omega (arith, small))
    (stands_left image at (number_bytes 4 (import_word (record { lib_ordinal = import.ordinal % 2 ^ 8; weak_import = import.optional; name_offset = place % 2 ^ 23 }))) [] s)

narrow_fields : (place : ℕ) (import : order.Import) → forms.import_of (import_word (narrow_word place import)) ≡ narrow_word place import
unfolding narrow_word
narrow_fields place import = import_of-import_word (record { lib_ordinal = import.ordinal % 2 ^ 8; weak_import = import.optional; name_offset = place % 2 ^ 23 }) (omega arith)

narrow_read : (place : ℕ) (import : order.Import) → narrow_import (import_word (narrow_word place import)) ≡ import_told false import
unfolding narrow_word forms.import_of
narrow_read place import =
    let word = import_word (record { lib_ordinal = import.ordinal % 2 ^ 8; weak_import = import.optional; name_offset = place % 2 ^ 23 }) in
    let fields = narrow_fields place import in
    let ordinal : word % 0x100 ≡ import.ordinal % 2 ^ 8 = ap (λ (i : ChainedImport). i.lib_ordinal) fields in
    let optional : (word / 0x100 % 2 == 1) ≡ import.optional = ap (λ (i : ChainedImport). i.weak_import) fields in
    rw (ordinal, optional) refl

narrow_name : (place : ℕ) (import : order.Import) → import_word (narrow_word place import) / 0x200 ≡ place % 2 ^ 23
unfolding narrow_word forms.import_of
narrow_name place import = ap (λ (i : ChainedImport). i.name_offset) (narrow_fields place import)

pub unsigned_small : (z : ℤ) → FitsSigned w64 z → cast_unsigned w64 z < 2 ^ 64
unsigned_small (pos n) fits = omega (arith, fits)
unsigned_small (negsuc n) fits = omega arith

wide_known : (image : List ℕ) (at place : ℕ) (import : order.Import) → import.ordinal < 2 ^ 16 → Stands image at (row_bytes true place import) → number_at 8 image at ≡ Some (wide_import_word (wide_word place import))
unfolding row_bytes wide_word
wide_known image at place import small s =
    let word = wide_import_word (record { lib_ordinal = import.ordinal; weak_import = import.optional; reserved = 0; name_offset = place % 2 ^ 32; addend = cast_unsigned w64 import.addend }) in
    let one : bit import.optional ≤ 1 = bit_small import.optional in
    known_stands image at 8 word (lit< tt) (omega (arith, one, small))
    (stands_left image at (number_bytes 8 word) (number_bytes 8 (cast_unsigned w64 import.addend) ++ []) s)

wide_addend : (image : List ℕ) (at place : ℕ) (import : order.Import) → FitsSigned w64 import.addend → Stands image at (row_bytes true place import) → number_at 8 image (at + 8) ≡ Some (cast_unsigned w64 import.addend)
unfolding row_bytes
wide_addend image at place import fits s =
    let word = wide_import_word (record { lib_ordinal = import.ordinal; weak_import = import.optional; reserved = 0; name_offset = place % 2 ^ 32; addend = cast_unsigned w64 import.addend }) in
    let size : length (number_bytes 8 word) ≡ 8 = length-number_bytes 8 word in
    known_stands image (at + 8) 8 (cast_unsigned w64 import.addend) (lit< tt) (unsigned_small import.addend fits)
    (stands_left image (at + 8) (number_bytes 8 (cast_unsigned w64 import.addend)) []
    (stands_right image at (at + 8) (number_bytes 8 word) (number_bytes 8 (cast_unsigned w64 import.addend) ++ []) (omega (arith, size)) s))

wide_fields : (place : ℕ) (import : order.Import) → import.ordinal < 2 ^ 16 → forms.wide_import_of (wide_import_word (wide_word place import)) (wide_word place import).addend ≡ wide_word place import
unfolding wide_word
wide_fields place import small =
    wide_import_of-wide_import_word (record { lib_ordinal = import.ordinal; weak_import = import.optional; reserved = 0; name_offset = place % 2 ^ 32; addend = cast_unsigned w64 import.addend })
    (record { ordinal = small; reserved = lit< tt; name = omega arith })

wide_read : (place : ℕ) (import : order.Import) → import.ordinal < 2 ^ 16 → wide_import (wide_import_word (wide_word place import)) (cast_unsigned w64 import.addend) ≡ import_told true import
unfolding wide_word forms.wide_import_of
wide_read place import small =
    let word = wide_import_word (record { lib_ordinal = import.ordinal; weak_import = import.optional; reserved = 0; name_offset = place % 2 ^ 32; addend = cast_unsigned w64 import.addend }) in
    let fields = wide_fields place import small in
    let ordinal : word % 0x10000 ≡ import.ordinal = ap (λ (i : ChainedImportAddend64). i.lib_ordinal) fields in
    let optional : (word / 0x10000 % 2 == 1) ≡ import.optional = ap (λ (i : ChainedImportAddend64). i.weak_import) fields in
    rw (ordinal, optional) refl

wide_name : (place : ℕ) (import : order.Import) → import.ordinal < 2 ^ 16 → wide_import_word (wide_word place import) / 0x100000000 ≡ place % 2 ^ 32
unfolding wide_word forms.wide_import_of
wide_name place import small = ap (λ (i : ChainedImportAddend64). i.name_offset) (wide_fields place import small)

-- ---- the imports of an image

-- the imports and their names stand where the header says
pub record ImportsStand (image : List ℕ) (header : FixupsHeader) (wide : Bool) (imports : List order.Import) : Type 0 where
  pub count : header.imports_count ≡ length imports
  pub format : header.imports_format ≡ format_of wide
  pub rows : (k : ℕ) (d : order.Import) → k < length imports → Stands image (header.at + header.imports_offset + stand.row_size wide * k) (row_bytes wide (stand.name_place 1 imports k) (get_or imports k d))
  pub names : (k : ℕ) (d : order.Import) → k < length imports → Stands image (header.at + header.symbols_offset + stand.name_place 1 imports k) ((get_or imports k d).name ++ 0 ∷ [])
  pub places : (k : ℕ) → k < length imports → stand.name_place 1 imports k < (if wide then 2 ^ 32 else 2 ^ 23)
  pub ordinals : (k : ℕ) (d : order.Import) → k < length imports → (get_or imports k d).ordinal < 2 ^ 16
  pub addends : (k : ℕ) (d : order.Import) → k < length imports → FitsSigned w64 (get_or imports k d).addend

pub import_is_read : (image : List ℕ) (header : FixupsHeader) (wide : Bool) (imports : List order.Import) (k : ℕ) (d : order.Import) → ImportsStand image header wide imports → k < length imports → import_at image header k ≡ Ok (import_told wide (get_or imports k d))
unfolding import_at
import_is_read image header true imports k d s within =
    let import = get_or imports k d in
    let place = stand.name_place 1 imports k in
    let at = header.at + header.imports_offset + 16 * k in
    let below : nat_le header.imports_count k ≡ false = not_at_least header.imports_count k (omega (arith, s.count, within)) in
    let form : (header.imports_format == DYLD_CHAINED_IMPORT) ≡ false = ap (λ (f : ℕ). f == DYLD_CHAINED_IMPORT) s.format in
    let word = wide_import_word (wide_word place import) in
    let small : import.ordinal < 2 ^ 16 = s.ordinals k d within in
    rw (below, form)
    (goes_on (known (number_at 8 image at)) word _ (Ok (import_told true import)) (ap known (wide_known image at place import small (s.rows k d within)))
    (goes_on (known (number_at 8 image (at + 8))) (cast_unsigned w64 import.addend) _ (Ok (import_told true import)) (ap known (wide_addend image at place import (s.addends k d within) (s.rows k d within)))
    (ap (λ (i : Import). Ok i) (wide_read place import small))))
import_is_read image header false imports k d s within =
    let import = get_or imports k d in
    let place = stand.name_place 1 imports k in
    let at = header.at + header.imports_offset + 4 * k in
    let below : nat_le header.imports_count k ≡ false = not_at_least header.imports_count k (omega (arith, s.count, within)) in
    let form : (header.imports_format == DYLD_CHAINED_IMPORT) ≡ true = ap (λ (f : ℕ). f == DYLD_CHAINED_IMPORT) s.format in
    let word = import_word (narrow_word place import) in
    rw (below, form)
    (goes_on (known (number_at 4 image at)) word _ (Ok (import_told false import)) (ap known (narrow_known image at place import (s.rows k d within)))
    (ap (λ (i : Import). Ok i) (narrow_read place import)))

name_offset_told : (image : List ℕ) (header : FixupsHeader) (wide : Bool) (imports : List order.Import) (k : ℕ) (d : order.Import) → ImportsStand image header wide imports → k < length imports → name_offset image header k ≡ Some (stand.name_place 1 imports k)
name_offset_told image header true imports k d s within =
    let import = get_or imports k d in
    let place = stand.name_place 1 imports k in
    let at = header.at + header.imports_offset + 16 * k in
    let first : (header.imports_format == DYLD_CHAINED_IMPORT) ≡ false = ap (λ (f : ℕ). f == DYLD_CHAINED_IMPORT) s.format in
    let second : (header.imports_format == DYLD_CHAINED_IMPORT_ADDEND64) ≡ true = ap (λ (f : ℕ). f == DYLD_CHAINED_IMPORT_ADDEND64) s.format in
    let small : import.ordinal < 2 ^ 16 = s.ordinals k d within in
    let low : place < 2 ^ 32 = s.places k within in
    let word : number_at 8 image at ≡ Some (wide_import_word (wide_word place import)) = wide_known image at place import small (s.rows k d within) in
    let addend : number_at 8 image (at + 8) ≡ Some (cast_unsigned w64 import.addend) = wide_addend image at place import (s.addends k d within) (s.rows k d within) in
    let told : wide_import_word (wide_word place import) / 0x100000000 ≡ place = wide_name place import small ∙ omega (arith, low) in
    rw (first, second) (rw (word, addend) (ap (λ (n : ℕ). Some n) told))
name_offset_told image header false imports k d s within =
    let import = get_or imports k d in
    let place = stand.name_place 1 imports k in
    let at = header.at + header.imports_offset + 4 * k in
    let form : (header.imports_format == DYLD_CHAINED_IMPORT) ≡ true = ap (λ (f : ℕ). f == DYLD_CHAINED_IMPORT) s.format in
    let low : place < 2 ^ 23 = s.places k within in
    let word : number_at 4 image at ≡ Some (import_word (narrow_word place import)) = narrow_known image at place import (s.rows k d within) in
    let told : import_word (narrow_word place import) / 0x200 ≡ place = narrow_name place import ∙ omega (arith, low) in
    rw form (rw word (ap (λ (n : ℕ). Some n) told))

pub name_is_read : (image : List ℕ) (header : FixupsHeader) (wide : Bool) (imports : List order.Import) (k : ℕ) (d : order.Import) → header_of image ≡ Some header → ImportsStand image header wide imports → k < length imports → All (λ b. b ≢ 0) (get_or imports k d).name → import_name image k ≡ Some (get_or imports k d).name
unfolding import_name
name_is_read image header wide imports k d head s within all =
    let place = stand.name_place 1 imports k in
    let at = header.at + header.symbols_offset + place in
    let below : nat_lt k header.imports_count ≡ true = lt-ltb k header.imports_count (omega (arith, s.count, within)) in
    let found : name_place image k header ≡ Some at = rw below (ap (option_map (λ offset. header.at + header.symbols_offset + offset)) (name_offset_told image header wide imports k d s within)) in
    let text : string_at image at ≡ Some (get_or imports k d).name = stand.string_stands image at (get_or imports k d).name all (s.names k d within) in
    rw (head, found) text
