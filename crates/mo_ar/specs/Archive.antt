-- The archive that a file is, or the first rule that it breaks (ar(5), `ar.h`, `mach-o/ranlib.h`).
use Rattle.std.specs.Prelude.{ℕ, ◌^◌, ◌≡◌, ◌≤◌, ◌<◌, nat_eq, nat_le, nat_lt, List, [], length, map, codes, Option, Some, None, Result, Ok, Err, if◌then◌else◌}
use Rattle.std.specs.List.{starts_with}
use Rattle.std.specs.Str.{bytes_eq}
use Rattle.mo_types.specs.Gives.{◌>>=◌, guarded}
use Rattle.mo_types.specs.declared.cause.Feature.TheVariants.{GnuArchive, Archive64}
use Rattle.mo_types.specs.declared.cause.Rule.TheVariants.{Member}
use Rattle.mo_types.specs.declared.cause.Which.TheVariants.{Members}
use Rattle.mo_types.specs.declared.object_fault.ObjFault.{ObjFault}
use Rattle.mo_types.specs.declared.object_fault.ObjFault.TheVariants.{Malformed, Unsupported, Limit}
use Rattle.mo_ar.specs.Chain.{IsChain, Link, chain, end_of}
use Rattle.mo_ar.specs.Contents.{is_contents, offers_in}
use Rattle.mo_ar.specs.Member.{member_at, next_of}
use Rattle.mo_ar.specs.Text.{part}
use Rattle.mo_ar.specs.declared.archive.Archive.{Archive}
use Rattle.mo_ar.specs.declared.archive.Opening.{Opening}
use Rattle.mo_ar.specs.declared.archive.Span.{Span}
use Rattle.mo_ar.specs.declared.member.Member as members
use Rattle.mo_ar.specs.declared.offers.Offer.{Offer}

-- SARMAG, where the first header stands
abbrev pub SARMAG : ℕ
SARMAG = 8

-- the name of the first member of a GNU archive
abbrev pub GNU_CONTENTS : List ℕ
GNU_CONTENTS = codes "/"

-- how the name of a table with numbers of 64 bits begins
abbrev pub SYMDEF_64 : List ℕ
SYMDEF_64 = codes "__.SYMDEF_64"

-- where members are read from: after the table of contents, if there is one
abbrev pub opened : members.Member → Opening
opened first =
    if is_contents first.name then record { start = next_of first; table = Some (record { from = first.from; size = first.size }) }
    else record { start = SARMAG; table = None }

abbrev pub opened_with : Option members.Member → Result Opening ObjFault
opened_with None = Ok (record { start = SARMAG; table = None })
opened_with (Some first) =
    if bytes_eq first.name GNU_CONTENTS then Err (Unsupported GnuArchive)
    else if starts_with nat_eq first.name SYMDEF_64 then Err (Unsupported Archive64)
    else Ok (opened first)

-- what the first member tells, if there is one
unfoldable pub opening_of : List ℕ → Result Opening ObjFault
opening_of bytes = opened_with (member_at bytes SARMAG)

-- the places of the members' headers
abbrev pub places_of : List Link → List ℕ
places_of links = map (λ link. link.place) links

abbrev pub members_of : List Link → List members.Member
members_of links = map (λ link. link.member) links

-- what the table of contents offers, or nothing where there is none
abbrev pub offered : List ℕ → Option Span → List ℕ → Result (List Offer) ObjFault
offered bytes None places = Ok []
offered bytes (Some span) places = offers_in (part bytes span.from span.size) places

-- nothing of the file is left at a place
abbrev pub at_end : List ℕ → ℕ → Result (Unit {0}) ObjFault
at_end bytes end = guarded (nat_le (length bytes) end) (Malformed end Member) tt

-- The archive of the members that a chain of headers goes through up to a place: nothing is left of the file
-- there, the table of contents is right, the members are fewer than 2^20.
abbrev pub chained : List ℕ → Option Span → List Link → ℕ → Result Archive ObjFault
chained bytes table links end = do
  whole ← at_end bytes end
  offers ← offered bytes table (places_of links)
  guarded (nat_lt (length (members_of links)) (2 ^ 20)) (Limit Members) (record { members = members_of links; offers = offers })

-- The rules in their order: the first member's name, a member at fault, the table of contents, the limit. (A first
-- member that is at fault has no name, so that it is told before any other fault.)
unfoldable pub archive_of : List ℕ → Result Archive ObjFault
archive_of bytes = do
  opening ← opening_of bytes
  chained bytes opening.table (chain bytes opening.start) (end_of opening.start (chain bytes opening.start))

-- The bytes are an archive: from the first header, or the one after the table of contents, headers lead to its members
-- and to the file's end. The table offers what it says, and the members are fewer than 2^20.
pub record IsChained (bytes : List ℕ) (archive : Archive) (opening : Opening) (links : List Link) (end : ℕ) : Type 0 where
  pub opens : opening_of bytes ≡ Ok opening
  pub chain_is : IsChain bytes opening.start links end
  pub whole : length bytes ≤ end
  pub members_are : archive.members ≡ members_of links
  pub offers_are : offered bytes opening.table (places_of links) ≡ Ok archive.offers
  pub few : length archive.members < 2 ^ 20

abbrev pub IsArchive : List ℕ → Archive → Type 0
IsArchive bytes archive = (opening : Opening) × (links : List Link) × (end : ℕ) × IsChained bytes archive opening links end
