-- No archive lacks memory.
use Rattle.std.proofs.Common.{◌≡◌, ℕ, ◌+◌, ◌^◌, ◌≤◌, nat_eq, nat_le, nat_lt, List, length, Option, Some, None, Ok, Err, IfErr}
use Rattle.std.specs.List.{starts_with}
use Rattle.std.specs.Str.{bytes_eq}
use Rattle.mo_types.specs.declared.cause.Rule.TheVariants as rule
use Rattle.mo_types.specs.declared.cause.Which.TheVariants.{Members}
use Rattle.mo_types.specs.declared.object_fault.ObjFault.TheVariants.{Malformed, Limit}
use Rattle.mo_ar.specs.Archive.{GNU_CONTENTS, SARMAG, SYMDEF_64, archive_of, at_end, chained, members_of, offered, opened, opened_with, opening_of, places_of}
use Rattle.mo_ar.specs.Chain.{Link, chain, end_of}
use Rattle.mo_ar.specs.Contents.{fault, is_whole, offer_at, offer_or_fault, offers_in, or_fault, pair_count}
use Rattle.mo_ar.specs.Faults.{IsObjFault}
use Rattle.mo_ar.specs.Member.{member_at}
use Rattle.mo_ar.specs.Slice.{IsSlice, IsSliceOf, slice_of}
use Rattle.mo_ar.specs.Text.{part}
use Rattle.mo_ar.specs.declared.archive.Span.{Span}
use Rattle.mo_ar.specs.declared.member.Member.{Member}
use Rattle.mo_ar.specs.declared.offers.Offer.{Offer}
use Rattle.mo_ar.proofs.LawLemmas.{slice_there}
use Rattle.input_read.proofs.FaultLemmas.{each_real, either, guarded_real, then_real}

opened_faulty : (first : Option Member) → IfErr (opened_with first) IsObjFault
opened_faulty None = tt
opened_faulty (Some first) = either IsObjFault (bytes_eq first.name GNU_CONTENTS) _ _ tt (either IsObjFault (starts_with nat_eq first.name SYMDEF_64) _ (Ok (opened first)) tt tt)

opening_faulty : (bytes : List ℕ) → IfErr (opening_of bytes) IsObjFault
unfolding opening_of
opening_faulty bytes = opened_faulty (member_at bytes SARMAG)

offer_faulty : (table places : List ℕ) (i : ℕ) → IfErr (offer_or_fault table places i) IsObjFault
unfolding offer_or_fault
offer_faulty table places i = by (offer_at table places i)
  where
    by : (found : Option Offer) → IfErr (or_fault found) IsObjFault
    by None = tt
    by (Some offer) = tt

offers_faulty : (table places : List ℕ) → IfErr (offers_in table places) IsObjFault
unfolding offers_in
offers_faulty table places = either IsObjFault (is_whole table) _ (Err fault) (each_real IsObjFault (offer_or_fault table places) (offer_faulty table places) 0 (pair_count table)) tt

offered_faulty : (bytes : List ℕ) (table : Option Span) (places : List ℕ) → IfErr (offered bytes table places) IsObjFault
offered_faulty bytes None places = tt
offered_faulty bytes (Some span) places = offers_faulty (part bytes span.from span.size) places

chained_faulty : (bytes : List ℕ) (table : Option Span) (links : List Link) (end : ℕ) → IfErr (chained bytes table links end) IsObjFault
chained_faulty bytes table links end =
    then_real IsObjFault (at_end bytes end) _ (guarded_real IsObjFault (nat_le (length bytes) end) (Malformed end rule.Member) (tt {0}) tt) (λ whole.
    then_real IsObjFault (offered bytes table (places_of links)) _ (offered_faulty bytes table (places_of links)) (λ offers.
    guarded_real IsObjFault (nat_lt (length (members_of links)) (2 ^ 20)) (Limit Members) (record { members = members_of links; offers = offers }) tt))

pub archive_faulty : (bytes : List ℕ) → IfErr (archive_of bytes) IsObjFault
unfolding archive_of
archive_faulty bytes = then_real IsObjFault (opening_of bytes) _ (opening_faulty bytes) (λ opening. chained_faulty bytes opening.table (chain bytes opening.start) (end_of opening.start (chain bytes opening.start)))

-- a slice lies within its file
pub slice_within : (bytes : List ℕ) (from size : ℕ) → slice_of bytes ≡ Ok (from, size) → from + size ≤ length bytes
slice_within bytes from size is = let so : IsSlice bytes from size = slice_there bytes from size is in let known : IsSliceOf bytes so.0 from size = so.1 in known.within

pub ruleset slices = (slice_within)
