-- The rows of `__unwind_info`, by where everything of an image stands (`mach-o/compact_unwind_encoding.h`).
use Rattle.std.specs.Prelude.{ℕ, ◌+◌, ◌-◌, ◌<◌, ◌≤◌, ◌⊎◌, List, map, Option, All, IsPermutation}
use Rattle.std.specs.List.{AllPairs}
use Rattle.std.specs.List.Sorted.{IsNonDecreasingBy}
use Rattle.std.specs.Option.{option_map_or}
use Rattle.mo_types.specs.declared.key.AtomKey.{AtomKey}
use Rattle.mo_types.specs.declared.reference.Target.{Target}
use Rattle.ref_meet.specs.Addresses.{place_address}
use Rattle.ref_meet.specs.Scene.{Scene}
use Rattle.slot_place.specs.Places.{slot_address, starts_of}
use Rattle.slot_plan.specs.declared.need.Way.TheVariants.{Got}
use Rattle.unwind_link.specs.Goals.{goal_at}
use Rattle.unwind_link.specs.declared.kept.KeptUnwind.{KeptUnwind}
use Rattle.unwind_out.specs.Law.{AreFields}
use Rattle.unwind_out.specs.declared.row.UnwindRow.{UnwindRow}

-- how far an address is from the image's first one, or 0 where there is none
abbrev pub offset_of : ℕ → Option ℕ → ℕ
offset_of base address = option_map_or (λ at. at - base) address 0

-- that of a place in an atom
unfoldable pub place_offset : Scene → AtomKey → ℕ → ℕ
place_offset s atom offset = offset_of s.base (place_address s.layout.placed atom offset)

-- that of the slot of the goal of a target of the file at a place
unfoldable pub slot_offset : Scene → ℕ → Target → ℕ
slot_offset s file target = offset_of s.base (slot_address (starts_of s.layout.sections) s.slots Got (goal_at s.literals s.goals file target))

-- that of the slot of an entry's personality, and that of its language-specific data
abbrev pub personality_slot : Scene → KeptUnwind → ℕ
personality_slot s kept = option_map_or (slot_offset s kept.file) kept.unwind.personality 0

abbrev pub lsda_place : Scene → KeptUnwind → ℕ
lsda_place s kept = option_map_or (λ lsda. place_offset s lsda.0 lsda.1) kept.unwind.lsda 0

-- the row of an entry
unfoldable pub row_of : Scene → KeptUnwind → UnwindRow
row_of s kept =
    let function = place_offset s kept.unwind.atom kept.unwind.offset in record {
      function = function;
      end = function + kept.unwind.length;
      encoding = kept.unwind.encoding;
      personality = personality_slot s kept;
      lsda = lsda_place s kept;
    }

-- the rows of some entries, by where their functions begin
pub record AreRows (s : Scene) (kept : List KeptUnwind) (rows : List UnwindRow) : Type 0 where
  pub each : IsPermutation (map (row_of s) kept) rows
  pub order : IsNonDecreasingBy (λ (row : UnwindRow). row.function) rows

-- two rows have no byte in common
abbrev pub AreBeside : UnwindRow → UnwindRow → Type 0
AreBeside a b = (a.end ≤ b.function) ⊎ (b.end ≤ a.function)

-- What an image's layout has of its entries: none is empty, all stand within 2^32 bytes from its first address, and no two
-- have a byte in common.
pub record AreSpread (s : Scene) (kept : List KeptUnwind) : Type 0 where
  pub some : All (λ (one : KeptUnwind). 0 < one.unwind.length) kept
  pub fields : All (λ (one : KeptUnwind). AreFields (row_of s one)) kept
  pub beside : AllPairs (λ (a : KeptUnwind) (b : KeptUnwind). AreBeside (row_of s a) (row_of s b)) kept
