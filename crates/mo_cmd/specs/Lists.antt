-- Lists of names, as those of exported symbols (ld(1)): one name a line, without white space at its ends; empty lines
-- and lines that begin with `#` are passed over.
use Rattle.std.specs.Prelude.{ℕ, ◌==◌, ◌||◌, Bool, true, false, not, List, [], ◌∷◌, map, filter, reverse, Option, None, Some, Result, Ok, Err, if◌then◌else◌}
use Rattle.std.specs.List.{list_any, slice_split}
use Rattle.mo_types.specs.declared.cause.Feature.TheVariants.{Wildcard}
use Rattle.mo_types.specs.declared.object_fault.ObjFault.{ObjFault}
use Rattle.mo_types.specs.declared.object_fault.ObjFault.TheVariants.{Unsupported, OutOfMemory}
use Rattle.mo_cmd.specs.Faults.{has_wildcard}

-- space, tab, carriage return, vertical tab or form feed
abbrev pub is_white : ℕ → Bool
is_white byte = byte == 0x20 || byte == 0x09 || byte == 0x0d || byte == 0x0b || byte == 0x0c

abbrev pub without_front : List ℕ → List ℕ
without_front [] = []
without_front (byte ∷ bytes) = if is_white byte then without_front bytes else byte ∷ bytes

-- a line without white space at its ends
unfoldable pub without_end : List ℕ → List ℕ
without_end line = reverse (without_front (reverse line))

abbrev pub trimmed : List ℕ → List ℕ
trimmed line = without_end (without_front line)

-- neither empty nor begun by `#`
abbrev pub is_name : List ℕ → Bool
is_name [] = false
is_name (byte ∷ bytes) = not (byte == 0x23)

-- the names in lines
abbrev pub names_in : List (List ℕ) → List (List ℕ)
names_in lines = filter is_name (map trimmed lines)

abbrev pub lines_of : List ℕ → List (List ℕ)
lines_of bytes = slice_split (λ byte. byte == 0x0a) bytes

-- the lines of a text, where there is one
abbrev pub lines_left : Option (List ℕ) → List (List ℕ)
lines_left None = []
lines_left (Some text) = lines_of text

abbrev pub unless_wild : Bool → List (List ℕ) → Result (List (List ℕ)) ObjFault
unless_wild true names = Err (Unsupported Wildcard)
unless_wild false names = Ok names

-- the names of a list, where none holds a wildcard
unfoldable pub list_of : List ℕ → Result (List (List ℕ)) ObjFault
list_of bytes = unless_wild (list_any has_wildcard (names_in (lines_of bytes))) (names_in (lines_of bytes))

abbrev pub IsListFault : ObjFault → Type 0
IsListFault OutOfMemory = ⊥
IsListFault _ = Unit {0}
