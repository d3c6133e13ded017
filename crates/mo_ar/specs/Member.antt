-- A member of an archive and its header, struct ar_hdr of 60 bytes (ar(5); `ar.h`).
use Rattle.std.specs.Prelude.{ℕ, ◌+◌, ◌-◌, ◌%◌, ◌&&◌, Bool, nat_eq, nat_le, List, length, drop, codes, Option, Some, None, if◌then◌else◌}
use Rattle.std.specs.List.{starts_with}
use Rattle.std.specs.Str.{bytes_eq}
use Rattle.mo_ar.specs.Text.{part, trimmed, decimal}
use Rattle.mo_ar.specs.declared.member.Member.{Member}

-- what ends a header, a grave accent and a newline
abbrev pub ARFMAG : List ℕ
ARFMAG = codes "`\n"

-- what begins the name of a member that has its name before its data
abbrev pub AR_EFMT1 : List ℕ
AR_EFMT1 = codes "#1/"

-- ar_name, 16 bytes padded with blanks
unfoldable pub name_at : List ℕ → ℕ → List ℕ
name_at bytes at = trimmed 0x20 (part bytes at 16)

-- ar_size, 10 bytes padded with blanks
unfoldable pub size_at : List ℕ → ℕ → Option ℕ
size_at bytes at = decimal (trimmed 0x20 (part bytes (at + 48) 10))

-- The bytes of the name that stands before the data, where the header's name is `#1/` and a number.
unfoldable pub long_name : List ℕ → Option ℕ
long_name name = if starts_with nat_eq name AR_EFMT1 then decimal (drop 3 name) else None

-- a header of 60 bytes, which ends in ar_fmag
abbrev pub is_header : List ℕ → ℕ → Bool
is_header bytes at = nat_le (at + 60) (length bytes) && bytes_eq (part bytes (at + 58) 2) ARFMAG

-- The member, by the size in its header and the size of the name that stands before its data. Such a name is
-- padded with NULs and counts in the size.
abbrev pub named : List ℕ → ℕ → ℕ → Option ℕ → Option Member
named bytes at size None = Some (record { name = name_at bytes at; from = at + 60; size = size })
named bytes at size (Some long) =
    if nat_le long size then Some (record { name = trimmed 0 (part bytes (at + 60) long); from = at + 60 + long; size = size - long })
    else None

abbrev pub sized : List ℕ → ℕ → Option ℕ → Option Member
sized bytes at None = None
sized bytes at (Some size) =
    if nat_le (at + 60 + size) (length bytes) then named bytes at size (long_name (name_at bytes at)) else None

-- the member whose header stands at a place, where the header is one and the data lie within the file
unfoldable pub member_at : List ℕ → ℕ → Option Member
member_at bytes at = if is_header bytes at then sized bytes at (size_at bytes at) else None

-- where the next header stands: behind the data, at an even place
abbrev pub next_of : Member → ℕ
next_of member = member.from + member.size + (member.from + member.size) % 2
