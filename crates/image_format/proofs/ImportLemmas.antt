-- The bit fields of imports are read from the numbers that hold them.
use Rattle.std.proofs.Common.{◌≡◌, ℕ, ◌+◌, ◌*◌, ◌/◌, ◌%◌, ◌^◌, ◌<◌, List, [], ◌++◌, Bool, true, false, length, refl, ◌∙◌, arith, append_assoc, add-zero}
use Rattle.mo_bytes.specs.Number.{number}
use Rattle.mo_format.specs.Relocation.{bit}
use Rattle.image_format.specs.ChainedImport.{IsImportPackable, IsWidePackable, import_of, import_word, chained_import_at, chained_import_fields, chained_import_bytes, wide_import_of, wide_import_word, chained_import_addend64_at, chained_import_addend64_fields, chained_import_addend64_bytes}
use Rattle.image_format.specs.declared.chained_import.ChainedImport.{ChainedImport}
use Rattle.image_format.specs.declared.chained_import.ChainedImportAddend64.{ChainedImportAddend64}
use Rattle.mo_format.proofs.FieldLemmas.{AllRead, all_read}
use Rattle.mo_format.proofs.RelocationLemmas.{bit_test}

narrow : ℕ → Bool → ℕ → ℕ
narrow ordinal weak name = ordinal + 0x100 * bit weak + 0x200 * name

narrow_ordinal : (ordinal : ℕ) (weak : Bool) (name : ℕ) → ordinal < 2 ^ 8 → narrow ordinal weak name % 0x100 ≡ ordinal
unfolding narrow
narrow_ordinal ordinal weak name a = omega arith

narrow_weak : (ordinal : ℕ) (weak : Bool) (name : ℕ) → ordinal < 2 ^ 8 → narrow ordinal weak name / 0x100 % 2 ≡ bit weak
unfolding narrow
narrow_weak ordinal true name a = omega arith
narrow_weak ordinal false name a = omega arith

narrow_name : (ordinal : ℕ) (weak : Bool) (name : ℕ) → ordinal < 2 ^ 8 → narrow ordinal weak name / 0x200 ≡ name
unfolding narrow
narrow_name ordinal true name a = omega arith
narrow_name ordinal false name a = omega arith

narrow_lt : (ordinal : ℕ) (weak : Bool) (name : ℕ) → ordinal < 2 ^ 8 → name < 2 ^ 23 → narrow ordinal weak name < 256 ^ 4
unfolding narrow
narrow_lt ordinal true name a b = omega arith
narrow_lt ordinal false name a b = omega arith

pub import_of-import_word : (s : ChainedImport) → s.lib_ordinal < 2 ^ 8 → import_of (import_word s) ≡ s
unfolding import_of narrow
import_of-import_word s small =
    let ordinal = narrow_ordinal s.lib_ordinal s.weak_import s.name_offset small in
    let weak = narrow_weak s.lib_ordinal s.weak_import s.name_offset small in
    let name = narrow_name s.lib_ordinal s.weak_import s.name_offset small in
    let test = bit_test s.weak_import in
    let same : import_of (import_word s) ≡ record { lib_ordinal = s.lib_ordinal; weak_import = s.weak_import; name_offset = s.name_offset } = cc in
    same

pub chained_import_read : (s : ChainedImport) (front rest : List ℕ) → IsImportPackable s → chained_import_at ((front ++ chained_import_bytes s) ++ rest) (length front) ≡ s
unfolding narrow
chained_import_read s front rest fit =
    let below = narrow_lt s.lib_ordinal s.weak_import s.name_offset fit.ordinal fit.name in
    let read : AllRead (front ++ (chained_import_bytes s ++ rest)) (length front) 0 (chained_import_fields s) = all_read (chained_import_fields s) 0 front [] rest (below, tt) refl in
    let first : number 4 (front ++ (chained_import_bytes s ++ rest)) (length front) ≡ import_word s = rw add-zero at read.0 in
    let both : chained_import_at (front ++ (chained_import_bytes s ++ rest)) (length front) ≡ import_of (import_word s) = cc in
    rw append_assoc (both ∙ import_of-import_word s fit.ordinal)

wide : ℕ → Bool → ℕ → ℕ → ℕ
wide ordinal weak reserved name = ordinal + 0x10000 * bit weak + 0x20000 * reserved + 0x100000000 * name

wide_ordinal : (ordinal : ℕ) (weak : Bool) (reserved name : ℕ) → ordinal < 2 ^ 16 → reserved < 2 ^ 15 → wide ordinal weak reserved name % 0x10000 ≡ ordinal
unfolding wide
wide_ordinal ordinal weak reserved name a b = omega arith

wide_weak : (ordinal : ℕ) (weak : Bool) (reserved name : ℕ) → ordinal < 2 ^ 16 → reserved < 2 ^ 15 → wide ordinal weak reserved name / 0x10000 % 2 ≡ bit weak
unfolding wide
wide_weak ordinal true reserved name a b = omega arith
wide_weak ordinal false reserved name a b = omega arith

wide_reserved : (ordinal : ℕ) (weak : Bool) (reserved name : ℕ) → ordinal < 2 ^ 16 → reserved < 2 ^ 15 → wide ordinal weak reserved name / 0x20000 % 0x8000 ≡ reserved
unfolding wide
wide_reserved ordinal true reserved name a b = omega arith
wide_reserved ordinal false reserved name a b = omega arith

wide_name : (ordinal : ℕ) (weak : Bool) (reserved name : ℕ) → ordinal < 2 ^ 16 → reserved < 2 ^ 15 → wide ordinal weak reserved name / 0x100000000 ≡ name
unfolding wide
wide_name ordinal true reserved name a b = omega arith
wide_name ordinal false reserved name a b = omega arith

wide_lt : (ordinal : ℕ) (weak : Bool) (reserved name : ℕ) → ordinal < 2 ^ 16 → reserved < 2 ^ 15 → name < 2 ^ 32 → wide ordinal weak reserved name < 256 ^ 8
unfolding wide
wide_lt ordinal true reserved name a b c = omega arith
wide_lt ordinal false reserved name a b c = omega arith

pub wide_import_of-wide_import_word : (s : ChainedImportAddend64) → IsWidePackable s → wide_import_of (wide_import_word s) s.addend ≡ s
unfolding wide_import_of wide
wide_import_of-wide_import_word s fit =
    let ordinal = wide_ordinal s.lib_ordinal s.weak_import s.reserved s.name_offset fit.ordinal fit.reserved in
    let weak = wide_weak s.lib_ordinal s.weak_import s.reserved s.name_offset fit.ordinal fit.reserved in
    let reserved = wide_reserved s.lib_ordinal s.weak_import s.reserved s.name_offset fit.ordinal fit.reserved in
    let name = wide_name s.lib_ordinal s.weak_import s.reserved s.name_offset fit.ordinal fit.reserved in
    let test = bit_test s.weak_import in
    let same : wide_import_of (wide_import_word s) s.addend ≡ record { lib_ordinal = s.lib_ordinal; weak_import = s.weak_import; reserved = s.reserved; name_offset = s.name_offset; addend = s.addend } = cc in
    same

pub chained_import_addend64_read : (s : ChainedImportAddend64) (front rest : List ℕ) → IsWidePackable s → s.addend < 256 ^ 8 → chained_import_addend64_at ((front ++ chained_import_addend64_bytes s) ++ rest) (length front) ≡ s
unfolding wide
chained_import_addend64_read s front rest fit small =
    let below = wide_lt s.lib_ordinal s.weak_import s.reserved s.name_offset fit.ordinal fit.reserved fit.name in
    let read : AllRead (front ++ (chained_import_addend64_bytes s ++ rest)) (length front) 0 (chained_import_addend64_fields s) = all_read (chained_import_addend64_fields s) 0 front [] rest (below, (small, tt)) refl in
    let first : number 8 (front ++ (chained_import_addend64_bytes s ++ rest)) (length front) ≡ wide_import_word s = rw add-zero at read.0 in
    let both : chained_import_addend64_at (front ++ (chained_import_addend64_bytes s ++ rest)) (length front) ≡ wide_import_of (wide_import_word s) s.addend = cc in
    rw append_assoc (both ∙ wide_import_of-wide_import_word s fit)
