-- An entry of compact unwind as an object has it: a row of the section __LD,__compact_unwind
-- (`compact_unwind_encoding.h`).
use Rattle.std.specs.Prelude.{ℕ, ◌+◌, List}
use Rattle.mo_bytes.specs.Number.{number}
use Rattle.unwind_read.specs.declared.entry.CompactUnwindEntry.{CompactUnwindEntry}

-- range-start, range-length, compact-unwind-encoding, personality-function, lsda: 32 bytes
abbrev pub compact_unwind_entry_at : List ℕ → ℕ → CompactUnwindEntry
compact_unwind_entry_at bytes at = record {
  function = number 8 bytes at;
  length = number 4 bytes (at + 8);
  encoding = number 4 bytes (at + 12);
  personality = number 8 bytes (at + 16);
  lsda = number 8 bytes (at + 24);
}
