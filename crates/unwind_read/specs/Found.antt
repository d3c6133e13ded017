-- An entry that is kept.
use Rattle.std.specs.Prelude.{ℕ, Option}
use Rattle.mo_types.specs.declared.key.FileId.{FileId}
use Rattle.mo_types.specs.declared.object.Object.{Object}
use Rattle.mo_types.specs.declared.object.Section.{Section}
use Rattle.mo_types.specs.Rows.{when}
use Rattle.unwind_read.specs.declared.entries.Found.{Found}
use Rattle.unwind_read.specs.declared.entry.CompactUnwindEntry.{CompactUnwindEntry}
use Rattle.unwind_read.specs.declared.pointers.EntryRelocs.{EntryRelocs}
use Rattle.unwind_read.specs.declared.spots.Spot.{Spot}
use Rattle.unwind_read.specs.Rules.{entry_at, entry_place, entry_relocs, fails_test}
use Rattle.unwind_read.specs.Unwinds.{span_with, unwind_with}

-- what it says, and its range, by where its function stands
abbrev pub found_with : Object → FileId → ℕ → CompactUnwindEntry → EntryRelocs → Spot → Found
found_with object file place entry relocs function = record {
  unwind = unwind_with object file entry relocs function;
  span = span_with place entry function;
}

-- the place of the entry with a number from 0, where it fails a test
abbrev pub entry_fault : Object → Section → ℕ → Option ℕ
entry_fault object section i = when (fails_test object (entry_at section i) (entry_relocs section i)) (entry_place section i)
