-- What the parts of the reader know of the file and of each other's tables.
use Rattle.std.specs.Prelude.{ℕ, ◌+◌, ◌-◌, ◌/◌, ◌^◌, ◌≡◌, ◌<◌, ◌≤◌, ◌==◌, ◌&&◌, Bool, nat_lt, nat_le, List, length, map, slice_index, Result, Ok, Err}
use Rattle.mo_types.specs.declared.object_fault.ObjFault.{ObjFault}
use Rattle.mo_ar.specs.Chain.{chain, end_of}
use Rattle.mo_ar.specs.Contents.{pairs_size, strings_size}
use Rattle.mo_ar.specs.Faults.{IsObjFault}
use Rattle.mo_ar.specs.inner.Index.{offers_of}
use Rattle.mo_ar.specs.declared.archive.Span.{Span}
use Rattle.mo_ar.specs.declared.chain.Walked.{Walked}
use Rattle.mo_ar.specs.declared.member.Member.{Member}
use Rattle.mo_ar.specs.declared.offers.Entry.{Entry}
use Rattle.mo_ar.specs.declared.offers.Offer.{Offer}

-- a member whose header stands at a place, in a file of this size
pub record IsWithin (size at : ℕ) (member : Member) : Type 0 where
  pub header : at + 60 ≤ member.from
  pub contents : member.from + member.size ≤ size

-- some bytes of a file of this size
abbrev pub IsSpan : ℕ → Span → Type 0
IsSpan size span = span.from + span.size ≤ size

-- headers stand apart, each after the one before it, in a file of this size
pub record IsRising (size : ℕ) (places : List ℕ) : Type 0 where
  pub apart : (i k : ℕ) → i < k → k < length places → slice_index places i + 60 ≤ slice_index places k
  pub within : (i : ℕ) → i < length places → slice_index places i + 60 ≤ size

-- what a walk along the chain answers
pub record IsWalked (bytes : List ℕ) (from : ℕ) (walked : Walked) : Type 0 where
  pub places : walked.places.items ≡ map (λ link. link.place) (chain bytes from)
  pub members : walked.members.items ≡ map (λ link. link.member) (chain bytes from)
  pub end : walked.end ≡ end_of from (chain bytes from)
  pub rising : IsRising (length bytes) walked.places.items

-- the place with a number is this one
abbrev pub stands : List ℕ → ℕ → ℕ → Bool
stands places number at = nat_lt 0 number && nat_le number (length places) && slice_index places (number - 1) == at

-- A table with a cell for each 60 bytes of a file, in which at most one header begins: its cell has the number, where
-- the place has the 32 bits of a pair's.
pub record IsNumbered (cells places : List ℕ) : Type 0 where
  pub found : (i : ℕ) → i < length places → slice_index places i < 2 ^ 32 → slice_index cells (slice_index places i / 60) ≡ i + 1

-- a table whose pairs and strings lie within it
pub record IsTable (table : List ℕ) : Type 0 where
  pub within : 8 + pairs_size table + strings_size table ≤ length table

-- entries are read whose offers are these, or there is this fault
abbrev pub GivesEntries : {Z : Type 0} → (Z → List Entry) → List ℕ → Result Z ObjFault → Result (List Offer) ObjFault → Type 0
GivesEntries items strings (Ok entries) given = given ≡ Ok (offers_of strings (items entries))
GivesEntries items strings (Err e) given = IsObjFault e → given ≡ Err e
