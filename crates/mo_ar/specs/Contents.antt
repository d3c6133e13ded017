-- The table of contents of an archive (`mach-o/ranlib.h`; the layout of ranlib(5)): the bytes of its pairs, the
-- pairs, the bytes of its strings, the strings. A pair has the place of a name among the strings and the place of a
-- member's header in the file.
use Rattle.std.specs.Prelude.{ℕ, ◌+◌, ◌*◌, ◌/◌, ◌%◌, ◌==◌, ◌&&◌, ◌||◌, Bool, nat_le, List, length, drop, codes, Option, Some, None, Result, Ok, Err, if◌then◌else◌}
use Rattle.std.specs.Str.{bytes_eq}
use Rattle.mo_strings.specs.Strings.{first_nul}
use Rattle.mo_bytes.specs.Number.{number}
use Rattle.mo_types.specs.Gives.{each_from}
use Rattle.mo_types.specs.declared.cause.Rule.TheVariants.{Contents}
use Rattle.mo_types.specs.declared.object_fault.ObjFault.{ObjFault}
use Rattle.mo_types.specs.declared.object_fault.ObjFault.TheVariants.{Malformed}
use Rattle.mo_ar.specs.Places.{number_of}
use Rattle.mo_ar.specs.Text.{part}
use Rattle.mo_ar.specs.declared.offers.Offer.{Offer}

-- the name of the member that is the table
abbrev pub SYMDEF : List ℕ
SYMDEF = codes "__.SYMDEF"

abbrev pub SYMDEF_SORTED : List ℕ
SYMDEF_SORTED = codes "__.SYMDEF SORTED"

abbrev pub is_contents : List ℕ → Bool
is_contents name = bytes_eq name SYMDEF || bytes_eq name SYMDEF_SORTED

-- the bytes of the pairs, of 8 bytes each
abbrev pub pairs_size : List ℕ → ℕ
pairs_size table = number 4 table 0

abbrev pub pair_count : List ℕ → ℕ
pair_count table = pairs_size table / 8

abbrev pub strings_size : List ℕ → ℕ
strings_size table = number 4 table (4 + pairs_size table)

-- pairs and strings lie within the table, and the pairs are whole
abbrev pub is_whole : List ℕ → Bool
is_whole table =
    nat_le 8 (length table) && pairs_size table % 8 == 0 && nat_le (8 + pairs_size table) (length table)
    && nat_le (8 + pairs_size table + strings_size table) (length table)

unfoldable pub strings_of : List ℕ → List ℕ
strings_of table = part table (8 + pairs_size table) (strings_size table)

-- ran_strx and ran_off of a pair, by its index
unfoldable pub ran_strx : List ℕ → ℕ → ℕ
ran_strx table i = number 4 table (4 + 8 * i)

unfoldable pub ran_off : List ℕ → ℕ → ℕ
ran_off table i = number 4 table (8 + 8 * i)

-- the offer of a name, by its place and size, and a member
abbrev pub offer_with : List ℕ → ℕ → Option ℕ → Option ℕ → Option Offer
offer_with strings at None member = None
offer_with strings at (Some size) None = None
offer_with strings at (Some size) (Some member) = Some (record { name = part strings at size; member = member })

-- What a pair offers, where its name ends in NUL among the strings and a member's header stands at its place.
unfoldable pub offer_at : List ℕ → List ℕ → ℕ → Option Offer
offer_at table places i =
    offer_with (strings_of table) (ran_strx table i) (first_nul (drop (ran_strx table i) (strings_of table))) (number_of places (ran_off table i))

-- the fault of the table, whose header is the first one
abbrev pub fault : ObjFault
fault = Malformed 8 Contents

abbrev pub or_fault : Option Offer → Result Offer ObjFault
or_fault None = Err fault
or_fault (Some offer) = Ok offer

unfoldable pub offer_or_fault : List ℕ → List ℕ → ℕ → Result Offer ObjFault
offer_or_fault table places i = or_fault (offer_at table places i)

-- what all pairs offer, in their order, where the members' headers stand at these places
unfoldable pub offers_in : List ℕ → List ℕ → Result (List Offer) ObjFault
offers_in table places = if is_whole table then each_from (offer_or_fault table places) 0 (pair_count table) else Err fault
