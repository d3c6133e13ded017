-- The opcodes of the tables that LC_DYLD_INFO_ONLY tells of (`loader.h`: REBASE_OPCODE_, BIND_OPCODE_): what stands at a
-- place, and where the next one begins.
use Rattle.std.specs.Prelude.{ℕ, ◌+◌, ◌-◌, ◌*◌, ◌%◌, ◌^◌, ◌==◌, ◌≤◌, Bool, length, nat_lt, ℤ, pos, negsuc, List, drop, slice_get, Option, Some, None, if◌then◌else◌}
use Rattle.std.specs.Option.{option_map, option_and_then}
use Rattle.mo_bytes.specs.Uleb.{uleb_at}
use Rattle.mo_strings.specs.Strings.{first_nul}
use Rattle.mo_types.specs.Rows.{when}
use Rattle.dyld_ops.specs.Sleb.{sleb_at}
use Rattle.dyld_ops.specs.declared.loader.TheConstants as loader
use Rattle.dyld_ops.specs.declared.op.Decoded.{Decoded}
use Rattle.dyld_ops.specs.declared.op.Op.{Op}
use Rattle.dyld_ops.specs.declared.op.Op.TheVariants.{Done, Pointers, Segment, Forward, Rebase, Ordinal, Name, Addend, Bind}
use Rattle.dyld_ops.specs.declared.op.Table.{Table}
use Rattle.dyld_ops.specs.declared.op.Table.TheVariants.{Rebases, Binds}

-- REBASE_IMMEDIATE_MASK, BIND_IMMEDIATE_MASK: the lower four bits are a number, and the upper ones tell the opcode
abbrev pub immediate_of : ℕ → ℕ
immediate_of byte = byte % 0x10

abbrev pub opcode_of : ℕ → ℕ
opcode_of byte = byte - byte % 0x10

abbrev pub decoded : Op → ℕ → Decoded
decoded op next = record { op = op; next = next }

-- with nothing behind it, where a test holds
abbrev pub only : Bool → Op → ℕ → Option Decoded
only test op next = when test (decoded op next)

-- with a uleb128 number behind it: an offset, or a distance
abbrev pub with_segment : List ℕ → ℕ → ℕ → Option Decoded
with_segment table index at = option_map (λ found. decoded (Segment index found.0) found.1) (uleb_at table at)

abbrev pub with_distance : List ℕ → ℕ → Option Decoded
with_distance table at = option_map (λ found. decoded (Forward found.0) found.1) (uleb_at table at)

-- a name lies within so many bytes
abbrev pub IsNamed : ℕ → Op → Type 0
IsNamed end (Name at size optional) = at + size ≤ end
IsNamed end _ = Unit {0}

-- the bytes from a place to the next opcode lie in the table
pub record IsWithin (at : ℕ) (table : List ℕ) (found : Decoded) : Type 0 where
  pub from : at ≤ found.next
  pub to : found.next ≤ length table
  pub name : IsNamed (length table) found.op

-- what a byte at the place before `next` and what follows it mean in the table of rebases
unfoldable pub rebase_op : List ℕ → ℕ → ℕ → Option Decoded
rebase_op table byte next =
    if opcode_of byte == loader.REBASE_OPCODE_DONE then only (immediate_of byte == 0) Done next
    else if opcode_of byte == loader.REBASE_OPCODE_SET_TYPE_IMM then only (immediate_of byte == loader.REBASE_TYPE_POINTER) Pointers next
    else if opcode_of byte == loader.REBASE_OPCODE_SET_SEGMENT_AND_OFFSET_ULEB then with_segment table (immediate_of byte) next
    else if opcode_of byte == loader.REBASE_OPCODE_ADD_ADDR_ULEB then with_distance table next
    else if opcode_of byte == loader.REBASE_OPCODE_ADD_ADDR_IMM_SCALED then Some (decoded (Forward (8 * immediate_of byte)) next)
    else if opcode_of byte == loader.REBASE_OPCODE_DO_REBASE_IMM_TIMES then Some (decoded (Rebase (immediate_of byte)) next)
    else None

-- an ordinal has 32 bits
abbrev pub with_ordinal : List ℕ → ℕ → Option Decoded
with_ordinal table at =
    option_and_then (λ found. when (nat_lt found.0 (2 ^ 31)) (decoded (Ordinal (pos found.0)) found.1)) (uleb_at table at)

-- the lower four bits of the ordinals that are below 0
abbrev pub special_ordinal : ℕ → ℕ → Option Decoded
special_ordinal immediate next =
    if immediate == 14 then Some (decoded (Ordinal loader.BIND_SPECIAL_DYLIB_FLAT_LOOKUP) next)
    else if immediate == 13 then Some (decoded (Ordinal loader.BIND_SPECIAL_DYLIB_WEAK_LOOKUP) next)
    else None

-- a name ends before a NUL
abbrev pub with_name : List ℕ → ℕ → ℕ → Option Decoded
with_name table flags at =
    option_map (λ size. decoded (Name at size (flags % 2 == loader.BIND_SYMBOL_FLAGS_WEAK_IMPORT)) (at + size + 1)) (first_nul (drop at table))

abbrev pub with_addend : List ℕ → ℕ → Option Decoded
with_addend table at = option_map (λ found. decoded (Addend found.0) found.1) (sleb_at table at)

-- the same in the table of binds
unfoldable pub bind_op : List ℕ → ℕ → ℕ → Option Decoded
bind_op table byte next =
    if opcode_of byte == loader.BIND_OPCODE_DONE then only (immediate_of byte == 0) Done next
    else if opcode_of byte == loader.BIND_OPCODE_SET_DYLIB_ORDINAL_IMM then Some (decoded (Ordinal (pos (immediate_of byte))) next)
    else if opcode_of byte == loader.BIND_OPCODE_SET_DYLIB_ORDINAL_ULEB then with_ordinal table next
    else if opcode_of byte == loader.BIND_OPCODE_SET_DYLIB_SPECIAL_IMM then special_ordinal (immediate_of byte) next
    else if opcode_of byte == loader.BIND_OPCODE_SET_SYMBOL_TRAILING_FLAGS_IMM then with_name table (immediate_of byte) next
    else if opcode_of byte == loader.BIND_OPCODE_SET_TYPE_IMM then only (immediate_of byte == loader.BIND_TYPE_POINTER) Pointers next
    else if opcode_of byte == loader.BIND_OPCODE_SET_ADDEND_SLEB then with_addend table next
    else if opcode_of byte == loader.BIND_OPCODE_SET_SEGMENT_AND_OFFSET_ULEB then with_segment table (immediate_of byte) next
    else if opcode_of byte == loader.BIND_OPCODE_ADD_ADDR_ULEB then with_distance table next
    else if opcode_of byte == loader.BIND_OPCODE_DO_BIND then Some (decoded Bind next)
    else None

abbrev pub op_with : Table → List ℕ → ℕ → ℕ → Option Decoded
op_with Rebases table next byte = rebase_op table byte next
op_with Binds table next byte = bind_op table byte next

-- the opcode at a place of a table, whose bytes end where the table ends
unfoldable pub op_at : Table → List ℕ → ℕ → Option Decoded
op_at kind table at = option_and_then (op_with kind table (at + 1)) (slice_get table at)
