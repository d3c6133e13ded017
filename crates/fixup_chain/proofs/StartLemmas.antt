-- The starts of chains, appended page by page.
use Rattle.std.proofs.Common.{◌≡◌, ℕ, zero, suc, ◌+◌, ◌-◌, ◌%◌, ◌^◌, ◌<◌, ◌≤◌, List, [], ◌∷◌, ◌++◌, length, get_or, drop, refl, sym, ap, ◌∙◌, arith, append_assoc, append-nil, length-append}
use Rattle.mo_bytes.specs.Number.{number_bytes}
use Rattle.fixup_chain.specs.Places.{addresses_of, page_start}
use Rattle.sect_place.specs.declared.layout.Segment.{Segment}
use Rattle.std.proofs.lemmas.List.{drop_all, drop_more, length-replicate}
use Rattle.fixup_chain.specs.Starts.{lead, offset_of, offsets_from, page_starts, part_of, parts_from, starts_bytes, zeros_to}
use Rattle.image_format.specs.ChainedFixups.{chained_starts_in_image_bytes}
use Rattle.fixup_chain.specs.declared.chains.Fixup.{Fixup}

pub record IsPaging (fixups : List Fixup) (page count : ℕ) (old : List ℕ) (at : ℕ) (now : List ℕ) : Type 0 where
  pub left : ℕ
  pub all : at + left ≡ count
  pub rest : now ++ page_starts (addresses_of fixups) (page + at) left ≡ old ++ page_starts (addresses_of fixups) page count

one_more : (addresses : List ℕ) (page left : ℕ) → page_starts addresses page (suc left) ≡ number_bytes 2 (page_start addresses page) ++ page_starts addresses (page + 1) left
unfolding page_starts
one_more addresses page left = refl

no_more : (addresses : List ℕ) (page : ℕ) → page_starts addresses page 0 ≡ []
unfolding page_starts
no_more addresses page = refl

pub paging_starts : (fixups : List Fixup) (page count : ℕ) (old : List ℕ) → IsPaging fixups page count old 0 old
paging_starts fixups page count old = record {
  left = count;
  all = omega arith;
  rest = (let e : page + 0 ≡ page = omega arith in ap (λ (p : ℕ). old ++ page_starts (addresses_of fixups) p count) e);
}

pub paging_goes_on : (fixups : List Fixup) (page count : ℕ) (old : List ℕ) (at : ℕ) (now new : List ℕ) (start : ℕ) → IsPaging fixups page count old at now → at < count → start ≡ page_start (addresses_of fixups) (page + at) → new ≡ now ++ number_bytes 2 start → IsPaging fixups page count old (at + 1) new
paging_goes_on fixups page count old at now new start paging within is e = by paging.left paging.all paging.rest
  where
    by : (left : ℕ) → at + left ≡ count → now ++ page_starts (addresses_of fixups) (page + at) left ≡ old ++ page_starts (addresses_of fixups) page count → IsPaging fixups page count old (at + 1) new
    by zero all rest = absurd (omega (arith, all, within))
    by (suc left) all rest =
        let next : page + at + 1 ≡ page + (at + 1) = omega arith in
        record {
          left = left;
          all = omega (arith, all);
          rest =
              ap (λ (z : List ℕ). z ++ page_starts (addresses_of fixups) (page + (at + 1)) left) (e ∙ ap (λ (n : ℕ). now ++ number_bytes 2 n) is)
              ∙ append_assoc now (number_bytes 2 (page_start (addresses_of fixups) (page + at))) (page_starts (addresses_of fixups) (page + (at + 1)) left)
              ∙ sym (ap (λ (z : List ℕ). now ++ z) (one_more (addresses_of fixups) (page + at) left ∙ ap (λ (p : ℕ). number_bytes 2 (page_start (addresses_of fixups) (page + at)) ++ page_starts (addresses_of fixups) p left) next))
              ∙ rest;
        }

pub paging_ends : (fixups : List Fixup) (page count : ℕ) (old : List ℕ) (at : ℕ) (now : List ℕ) → IsPaging fixups page count old at now → count ≤ at → now ≡ old ++ page_starts (addresses_of fixups) page count
paging_ends fixups page count old at now paging past =
    let none : paging.left ≡ 0 = omega (arith, paging.all, past) in
    sym (append-nil now)
    ∙ sym (ap (λ (z : List ℕ). now ++ z) (ap (page_starts (addresses_of fixups) (page + at)) none ∙ no_more (addresses_of fixups) (page + at)))
    ∙ paging.rest

pub ruleset paging = (paging_starts, paging_goes_on, paging_ends)

pub zeros_long : (size at : ℕ) → length (zeros_to size at) ≡ (size - at % size) % size
unfolding zeros_to
zeros_long size at = length-replicate ((size - at % size) % size) 0

pub ruleset zeros = (zeros_long)

-- ---- segment by segment

pub record IsListing (addresses : List ℕ) (base : ℕ) (segments : List Segment) (k : ℕ) (made others : List ℕ) : Type 0 where
  pub offsets : made ++ offsets_from addresses base (lead segments + length others) (drop k segments) ≡ offsets_from addresses base (lead segments) segments
  pub parts : others ++ parts_from addresses base (lead segments + length others) (drop k segments) ≡ parts_from addresses base (lead segments) segments

offset_first : (addresses : List ℕ) (base at : ℕ) (x : Segment) (rest : List Segment) → offsets_from addresses base at (x ∷ rest) ≡ number_bytes 4 (offset_of addresses at x % 2 ^ 32) ++ offsets_from addresses base (at + length (part_of addresses base at x)) rest
unfolding offsets_from
offset_first addresses base at x rest = refl

part_first : (addresses : List ℕ) (base at : ℕ) (x : Segment) (rest : List Segment) → parts_from addresses base at (x ∷ rest) ≡ part_of addresses base at x ++ parts_from addresses base (at + length (part_of addresses base at x)) rest
unfolding parts_from
part_first addresses base at x rest = refl

no_offsets : (addresses : List ℕ) (base at : ℕ) → offsets_from addresses base at [] ≡ []
unfolding offsets_from
no_offsets addresses base at = refl

no_parts : (addresses : List ℕ) (base at : ℕ) → parts_from addresses base at [] ≡ []
unfolding parts_from
no_parts addresses base at = refl

pub listing_starts : (addresses : List ℕ) (base : ℕ) (segments : List Segment) (offsets parts : List ℕ) → offsets ≡ [] → parts ≡ [] → IsListing addresses base segments 0 offsets parts
listing_starts addresses base segments offsets parts e f =
    let none : lead segments + 0 ≡ lead segments = omega arith in
    record {
      offsets = rw (e, f) (ap (λ (n : ℕ). offsets_from addresses base n segments) none);
      parts = rw f (ap (λ (n : ℕ). parts_from addresses base n segments) none);
    }

pub listing_goes_on : (addresses : List ℕ) (base : ℕ) (segments : List Segment) (k at : ℕ) (offsets parts new_offsets new_parts : List ℕ) (x : Segment) (offset : ℕ) → IsListing addresses base segments k offsets parts → k < length segments → x ≡ get_or segments k x → at ≡ lead segments + length parts → offset ≡ offset_of addresses at x % 2 ^ 32 → new_offsets ≡ offsets ++ number_bytes 4 offset → new_parts ≡ parts ++ part_of addresses base at x → IsListing addresses base segments (k + 1) new_offsets new_parts
listing_goes_on addresses base segments k at offsets parts new_offsets new_parts x offset listing within is place o n m =
    let rest = drop (k + 1) segments in
    let here = lead segments + length parts in
    let split : drop k segments ≡ x ∷ rest = drop_more segments k x within ∙ ap (λ y. y ∷ rest) (sym is) in
    let put_part : new_parts ≡ parts ++ part_of addresses base here x = m ∙ ap (λ (p : ℕ). parts ++ part_of addresses base p x) place in
    let put_offset : new_offsets ≡ offsets ++ number_bytes 4 (offset_of addresses here x % 2 ^ 32) = n ∙ ap (λ (p : ℕ). offsets ++ number_bytes 4 p) (o ∙ ap (λ (p : ℕ). offset_of addresses p x % 2 ^ 32) place) in
    let size : length new_parts ≡ length parts + length (part_of addresses base here x) = ap length put_part ∙ length-append parts (part_of addresses base here x) in
    let next : lead segments + length new_parts ≡ here + length (part_of addresses base here x) = omega (arith, size) in
    record {
      offsets =
          ap (λ (z : List ℕ). z ++ offsets_from addresses base (lead segments + length new_parts) rest) put_offset
          ∙ ap (λ (p : ℕ). (offsets ++ number_bytes 4 (offset_of addresses here x % 2 ^ 32)) ++ offsets_from addresses base p rest) next
          ∙ append_assoc offsets (number_bytes 4 (offset_of addresses here x % 2 ^ 32)) (offsets_from addresses base (here + length (part_of addresses base here x)) rest)
          ∙ ap (λ (z : List ℕ). offsets ++ z) (sym (ap (offsets_from addresses base here) split ∙ offset_first addresses base here x rest))
          ∙ listing.offsets;
      parts =
          ap (λ (z : List ℕ). z ++ parts_from addresses base (lead segments + length new_parts) rest) put_part
          ∙ ap (λ (p : ℕ). (parts ++ part_of addresses base here x) ++ parts_from addresses base p rest) next
          ∙ append_assoc parts (part_of addresses base here x) (parts_from addresses base (here + length (part_of addresses base here x)) rest)
          ∙ ap (λ (z : List ℕ). parts ++ z) (sym (ap (parts_from addresses base here) split ∙ part_first addresses base here x rest))
          ∙ listing.parts;
    }

pub offsets_end : (addresses : List ℕ) (base : ℕ) (segments : List Segment) (k : ℕ) (offsets parts : List ℕ) → IsListing addresses base segments k offsets parts → length segments ≤ k → offsets ≡ offsets_from addresses base (lead segments) segments
offsets_end addresses base segments k offsets parts listing past =
    sym (append-nil offsets)
    ∙ sym (ap (λ (z : List ℕ). offsets ++ z) (ap (offsets_from addresses base (lead segments + length parts)) (drop_all k segments past) ∙ no_offsets addresses base (lead segments + length parts)))
    ∙ listing.offsets

pub parts_end : (addresses : List ℕ) (base : ℕ) (segments : List Segment) (k : ℕ) (offsets parts : List ℕ) → IsListing addresses base segments k offsets parts → length segments ≤ k → parts ≡ parts_from addresses base (lead segments) segments
parts_end addresses base segments k offsets parts listing past =
    sym (append-nil parts)
    ∙ sym (ap (λ (z : List ℕ). parts ++ z) (ap (parts_from addresses base (lead segments + length parts)) (drop_all k segments past) ∙ no_parts addresses base (lead segments + length parts)))
    ∙ listing.parts

pub ruleset listing = (listing_starts, listing_goes_on, offsets_end, parts_end)

pub starts_are : (addresses : List ℕ) (base n : ℕ) (segments : List Segment) (none one two three offsets parts a b : List ℕ) → none ≡ [] → n ≡ length segments → one ≡ none ++ chained_starts_in_image_bytes (record { seg_count = n % 4294967296 }) → a ≡ offsets → two ≡ one ++ a → b ≡ parts → three ≡ two ++ b → offsets ≡ offsets_from addresses base (lead segments) segments → parts ≡ parts_from addresses base (lead segments) segments → three ≡ starts_bytes addresses base segments
unfolding starts_bytes
starts_are addresses base n segments none one two three offsets parts a b e0 count e1 fa e2 fb e3 o p =
    let head = chained_starts_in_image_bytes (record { seg_count = length segments % 4294967296 }) in
    let f1 : one ≡ head = e1 ∙ ap (λ (k : ℕ). none ++ chained_starts_in_image_bytes (record { seg_count = k % 4294967296 })) count ∙ ap (λ (z : List ℕ). z ++ head) e0 in
    let f2 : two ≡ head ++ offsets_from addresses base (lead segments) segments = e2 ∙ ap (λ (z : List ℕ). z ++ a) f1 ∙ ap (λ (z : List ℕ). head ++ z) (fa ∙ o) in
    e3 ∙ ap (λ (z : List ℕ). z ++ b) f2
    ∙ ap (λ (z : List ℕ). (head ++ offsets_from addresses base (lead segments) segments) ++ z) (fb ∙ p)
    ∙ append_assoc head (offsets_from addresses base (lead segments) segments) (parts_from addresses base (lead segments) segments)

pub ruleset whole = (starts_are)
