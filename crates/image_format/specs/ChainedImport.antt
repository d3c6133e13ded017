-- The imports of chained fixups, in their two forms.
use Rattle.std.specs.Prelude.{ℕ, ◌+◌, ◌*◌, ◌/◌, ◌%◌, ◌^◌, ◌<◌, ◌==◌, List, [], ◌∷◌}
use Rattle.mo_bytes.specs.Number.{number}
use Rattle.mo_format.specs.Fields.{Field, Number, spelled}
use Rattle.mo_format.specs.Relocation.{bit}
use Rattle.image_format.specs.declared.chained_import.ChainedImport.{ChainedImport}
use Rattle.image_format.specs.declared.chained_import.ChainedImportAddend64.{ChainedImportAddend64}

-- the bit fields, from the low bit: lib_ordinal 8, weak_import 1, name_offset 23
unfoldable pub import_of : ℕ → ChainedImport
import_of word = record {
  lib_ordinal = word % 0x100;
  weak_import = word / 0x100 % 2 == 1;
  name_offset = word / 0x200;
}

-- each bit field can hold its number
pub record IsImportPackable (s : ChainedImport) : Type 0 where
  pub ordinal : s.lib_ordinal < 2 ^ 8
  pub name : s.name_offset < 2 ^ 23

abbrev pub import_word : ChainedImport → ℕ
import_word s = s.lib_ordinal + 0x100 * bit s.weak_import + 0x200 * s.name_offset

-- fixup-chains.h: dyld_chained_import, 4 bytes
abbrev pub chained_import_at : List ℕ → ℕ → ChainedImport
chained_import_at bytes at = import_of (number 4 bytes at)

abbrev pub chained_import_fields : ChainedImport → List Field
chained_import_fields s = Number 4 (import_word s) ∷ []

abbrev pub chained_import_bytes : ChainedImport → List ℕ
chained_import_bytes s = spelled (chained_import_fields s)

-- the bit fields, from the low bit: lib_ordinal 16, weak_import 1, reserved 15, name_offset 32
unfoldable pub wide_import_of : ℕ → ℕ → ChainedImportAddend64
wide_import_of word addend = record {
  lib_ordinal = word % 0x10000;
  weak_import = word / 0x10000 % 2 == 1;
  reserved = word / 0x20000 % 0x8000;
  name_offset = word / 0x100000000;
  addend = addend;
}

-- each bit field can hold its number
pub record IsWidePackable (s : ChainedImportAddend64) : Type 0 where
  pub ordinal : s.lib_ordinal < 2 ^ 16
  pub reserved : s.reserved < 2 ^ 15
  pub name : s.name_offset < 2 ^ 32

abbrev pub wide_import_word : ChainedImportAddend64 → ℕ
wide_import_word s = s.lib_ordinal + 0x10000 * bit s.weak_import + 0x20000 * s.reserved + 0x100000000 * s.name_offset

-- fixup-chains.h: dyld_chained_import_addend64, 16 bytes
abbrev pub chained_import_addend64_at : List ℕ → ℕ → ChainedImportAddend64
chained_import_addend64_at bytes at = wide_import_of (number 8 bytes at) (number 8 bytes (at + 8))

abbrev pub chained_import_addend64_fields : ChainedImportAddend64 → List Field
chained_import_addend64_fields s = Number 8 (wide_import_word s) ∷ Number 8 s.addend ∷ []

abbrev pub chained_import_addend64_bytes : ChainedImportAddend64 → List ℕ
chained_import_addend64_bytes s = spelled (chained_import_addend64_fields s)
