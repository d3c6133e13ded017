-- What the loader reads of the starts of chains.
use Rattle.std.proofs.Common.{◌≡◌, ℕ, zero, suc, ◌+◌, ◌-◌, ◌*◌, ◌%◌, ◌^◌, ◌<◌, ◌≤◌, ◌==◌, Bool, true, false, List, [], ◌∷◌, ◌++◌, length, get_or, nat_lt, map, Option, Some, None, Ok, Err, refl, ap, ◌∙◌, inl, inr, arith, lit<, length-append}
use Rattle.std.specs.List.{filter}
use Rattle.std.specs.Option.{option_map_or}
use Rattle.std.proofs.lemmas.Bool.{eqb-true, lt-ltb, ltb-true}
use Rattle.list_lemmas.proofs.Members.{In, from_filter, from_map, in_filter, in_map}
use Rattle.mo_bytes.specs.Number.{number_at, number_bytes}
use Rattle.mo_bytes.proofs.Numbers.{length-number_bytes}
use Rattle.image_format.specs.ChainedFixups.{chained_starts_in_image_bytes, chained_starts_in_segment_bytes, chained_starts_in_segment_fields}
use Rattle.mo_format.specs.Fields.{spelled}
use Rattle.image_format.specs.declared.fixup_chains.TheConstants.{DYLD_CHAINED_PTR_64_OFFSET, DYLD_CHAINED_PTR_START_NONE}
use Rattle.sect_place.specs.declared.layout.Segment.{Segment}
use Rattle.fixup_chain.specs.Places as chain
use Rattle.fixup_chain.specs.Places.{page_in, page_of, is_in, pages_of, greatest, least}
use Rattle.fixup_chain.specs.Starts.{lead, offset_of, offsets_from, page_starts, part_of, parts_from, segment_bytes, starts_bytes}
use Rattle.image_read.specs.Fixups.{below, known, page_start, starts_of, unless}
use Rattle.image_read.specs.declared.fixups.FixupRead.TheVariants.{Plain}
use Rattle.image_read.specs.declared.imports.FixupsHeader.{FixupsHeader}
use Rattle.chain_laws.proofs.Standing.{EachStands, Stands, fields_stand, known_stands, stands_at, stands_left, stands_right, stands_within}
use Rattle.chain_laws.proofs.StartStanding.{offset_none, offset_stands, page_stands, part_place, part_stands, segment_stands}
use Rattle.chain_laws.proofs.Steps.{ends, goes_on}

not_true : (b : Bool) → (b ≡ true → ⊥) → b ≡ false
not_true true never = absurd (never refl)
not_true false never = refl

-- ---- the table of the starts

offsets_length : (addresses : List ℕ) (base at : ℕ) (segments : List Segment) → length (offsets_from addresses base at segments) ≡ 4 * length segments
unfolding offsets_from
offsets_length addresses base at [] = refl
offsets_length addresses base at (x ∷ xs) =
    let next = at + length (part_of addresses base at x) in
    let rest : length (offsets_from addresses base next xs) ≡ 4 * length xs = offsets_length addresses base next xs in
    let first : length (number_bytes 4 (offset_of addresses at x % 2 ^ 32)) ≡ 4 = length-number_bytes 4 (offset_of addresses at x % 2 ^ 32) in
    length-append (number_bytes 4 (offset_of addresses at x % 2 ^ 32)) (offsets_from addresses base next xs) ∙ omega (arith, rest, first)

place_up : (addresses : List ℕ) (base at k : ℕ) (segments : List Segment) → at ≤ part_place addresses base at segments k
place_up addresses base at k [] = omega arith
place_up addresses base at zero (x ∷ xs) = omega arith
place_up addresses base at (suc k) (x ∷ xs) = let rest = place_up addresses base (at + length (part_of addresses base at x)) k xs in omega (arith, rest)

-- the table of the starts stands in an image
pub record TableStands (image addresses : List ℕ) (base table : ℕ) (segments : List Segment) : Type 0 where
  pub count : number_at 4 image table ≡ Some (length segments)
  pub offsets : Stands image (table + 4) (offsets_from addresses base (lead segments) segments)
  pub parts : Stands image (table + lead segments) (parts_from addresses base (lead segments) segments)

pub table_stands : (image addresses : List ℕ) (base table : ℕ) (segments : List Segment) → length image < 2 ^ 32 → Stands image table (starts_bytes addresses base segments) → TableStands image addresses base table segments
unfolding starts_bytes
table_stands image addresses base table segments small s =
    let value = length segments % 2 ^ 32 in
    let offsets = offsets_from addresses base (lead segments) segments in
    let parts = parts_from addresses base (lead segments) segments in
    let head = chained_starts_in_image_bytes (record { seg_count = value }) in
    let size : length head ≡ 4 = simp (length-append, length-number_bytes) in
    let all : length offsets ≡ 4 * length segments = offsets_length addresses base (lead segments) segments in
    let behind : Stands image (table + 4) (offsets ++ parts) = stands_right image table (table + 4) head (offsets ++ parts) (omega (arith, size)) s in
    let whole : table + length (head ++ (offsets ++ parts)) ≤ length image =
    stands_within image table (head ++ (offsets ++ parts)) s (let e : length (head ++ (offsets ++ parts)) ≡ length head + length (offsets ++ parts) = length-append head (offsets ++ parts) in omega (arith, e, size)) in
    let length_is : length (head ++ (offsets ++ parts)) ≡ 4 + (4 * length segments + length parts) =
    length-append head (offsets ++ parts) ∙ (let e : length (offsets ++ parts) ≡ length offsets + length parts = length-append offsets parts in omega (arith, e, size, all)) in
    let value_is : value ≡ length segments = omega (arith, whole, length_is, small) in
    record {
      count =
          known_stands image table 4 value (lit< tt) (omega arith) (stands_left image table (number_bytes 4 value) [] (stands_left image table head (offsets ++ parts) s))
          ∙ ap (λ (n : ℕ). Some n) value_is;
      offsets = stands_left image (table + 4) offsets parts behind;
      parts = stands_right image (table + 4) (table + lead segments) offsets parts (omega (arith, all)) behind;
    }

-- ---- the starts of a segment

known_some : {X : Type 0} (o : Option X) (x : X) → o ≡ Some x → known o ≡ Ok x
known_some o x e = ap known e

offset_read : (image addresses : List ℕ) (base table k : ℕ) (segments : List Segment) (d : Segment) → k < length segments → TableStands image addresses base table segments → number_at 4 image (table + 4 + 4 * k) ≡ Some (offset_of addresses (part_place addresses base (lead segments) segments k) (get_or segments k d) % 2 ^ 32)
offset_read image addresses base table k segments d within t =
    known_stands image (table + 4 + 4 * k) 4 (offset_of addresses (part_place addresses base (lead segments) segments k) (get_or segments k d) % 2 ^ 32) (lit< tt) (omega arith)
    (offset_stands image addresses base (table + 4) (lead segments) k segments d within t.offsets)

-- a segment without pointers has none
pub starts_none : (image addresses : List ℕ) (base k : ℕ) (segments : List Segment) (d : Segment) (header : FixupsHeader) → k < length segments → TableStands image addresses base (header.at + header.starts_offset) segments → (pages_of addresses (get_or segments k d) == 0) ≡ true → starts_of image header k ≡ Err Plain
unfolding starts_of
starts_none image addresses base k segments d header within t none =
    let table = header.at + header.starts_offset in
    let place = part_place addresses base (lead segments) segments k in
    let zero_told : offset_of addresses place (get_or segments k d) % 2 ^ 32 ≡ 0 = ap (λ (n : ℕ). n % 2 ^ 32) (offset_none addresses place (get_or segments k d) none) in
    let among : below k (length segments) ≡ Ok tt = rw (lt-ltb k (length segments) within) refl in
    goes_on (known (number_at 4 image table)) (length segments) _ (Err Plain) (known_some (number_at 4 image table) (length segments) t.count)
    (goes_on (below k (length segments)) tt _ (Err Plain) among
    (goes_on (known (number_at 4 image (table + 4 + 4 * k))) 0 _ (Err Plain) (known_some (number_at 4 image (table + 4 + 4 * k)) 0 (offset_read image addresses base table k segments d within t ∙ ap (λ (n : ℕ). Some n) zero_told)) refl))

-- where the starts of a segment stand that has pointers
pub record SegmentStands (image addresses : List ℕ) (base table k : ℕ) (segments : List Segment) (d : Segment) (header : FixupsHeader) : Type 0 where
  pub place : ℕ
  pub told : starts_of image header k ≡ Ok place
  pub stands : Stands image place (segment_bytes addresses base (get_or segments k d) (pages_of addresses (get_or segments k d)))

segment_length : (addresses : List ℕ) (base : ℕ) (segment : Segment) (count : ℕ) → 0 < length (segment_bytes addresses base segment count)
unfolding segment_bytes
segment_length addresses base segment count =
    let e = length-append (chained_starts_in_segment_bytes (record { size = (22 + 2 * count) % 2 ^ 32; page_size = chain.PAGE; pointer_format = DYLD_CHAINED_PTR_64_OFFSET; segment_offset = segment.address - base; max_valid_pointer = 0; page_count = count % 2 ^ 16 })) (page_starts addresses (page_of segment.address) count) in
    let n : length (chained_starts_in_segment_bytes (record { size = (22 + 2 * count) % 2 ^ 32; page_size = chain.PAGE; pointer_format = DYLD_CHAINED_PTR_64_OFFSET; segment_offset = segment.address - base; max_valid_pointer = 0; page_count = count % 2 ^ 16 })) ≡ 22 = simp (length-append, length-number_bytes) in
    omega (arith, e, n)

offset_up : (addresses : List ℕ) (at : ℕ) (segment : Segment) → (pages_of addresses segment == 0) ≡ false → at ≤ offset_of addresses at segment
unfolding offset_of
offset_up addresses at segment some = rw some (omega arith)

pub starts_there : (image addresses : List ℕ) (base k : ℕ) (segments : List Segment) (d : Segment) (header : FixupsHeader) → length image < 2 ^ 32 → k < length segments → TableStands image addresses base (header.at + header.starts_offset) segments → (pages_of addresses (get_or segments k d) == 0) ≡ false → SegmentStands image addresses base (header.at + header.starts_offset) k segments d header
unfolding starts_of
starts_there image addresses base k segments d header small within t some =
    let table = header.at + header.starts_offset in
    let segment = get_or segments k d in
    let place = part_place addresses base (lead segments) segments k in
    let offset = offset_of addresses place segment in
    let part : Stands image (table + place) (part_of addresses base place segment) = part_stands image addresses base table (lead segments) k segments d within t.parts in
    let stands : Stands image (table + offset) (segment_bytes addresses base segment (pages_of addresses segment)) = segment_stands image addresses base table place segment some part in
    let inside : table + offset + length (segment_bytes addresses base segment (pages_of addresses segment)) ≤ length image = stands_within image (table + offset) (segment_bytes addresses base segment (pages_of addresses segment)) stands (segment_length addresses base segment (pages_of addresses segment)) in
    let told : offset % 2 ^ 32 ≡ offset = omega (arith, inside, small) in
    let up : place ≤ offset = offset_up addresses place segment some in
    let high : lead segments ≤ place = place_up addresses base (lead segments) k segments in
    let not_zero : (offset == 0) ≡ false = not_true (offset == 0) (λ e. let z : offset ≡ 0 = eqb-true offset 0 e in omega (arith, z, up, high)) in
    let among : below k (length segments) ≡ Ok tt = rw (lt-ltb k (length segments) within) refl in
    record {
      place = table + offset;
      told =
          goes_on (known (number_at 4 image table)) (length segments) _ (Ok (table + offset)) (known_some (number_at 4 image table) (length segments) t.count)
          (goes_on (below k (length segments)) tt _ (Ok (table + offset)) among
          (goes_on (known (number_at 4 image (table + 4 + 4 * k))) offset _ (Ok (table + offset)) (known_some (number_at 4 image (table + 4 + 4 * k)) offset (offset_read image addresses base table k segments d within t ∙ ap (λ (n : ℕ). Some n) told))
          (goes_on (unless 0 offset) offset _ (Ok (table + offset)) (rw not_zero refl) refl)));
      stands = stands;
    }

-- ---- the pages of a segment

least_of_all : (ns : List ℕ) (n : ℕ) → In n ns → n ≤ greatest ns
least_of_all [] n h = absurd h
least_of_all (m ∷ ns) n (inl e) = omega (arith, e)
least_of_all (m ∷ ns) n (inr h) = let rest : n ≤ greatest ns = least_of_all ns n h in omega (arith, rest)

greatest_most : (ns : List ℕ) (m : ℕ) → ((n : ℕ) → In n ns → n ≤ m) → greatest ns ≤ m
greatest_most [] m low = omega arith
greatest_most (n ∷ ns) m low =
    let first : n ≤ m = low n (inl refl) in
    let rest : greatest ns ≤ m = greatest_most ns m (λ k h. low k (inr h)) in
    omega (arith, first, rest)

-- a segment's pages reach to each pointer in it
pub page_reached : (addresses : List ℕ) (segment : Segment) (a : ℕ) → In a addresses → is_in segment a ≡ true → page_in segment a < pages_of addresses segment
unfolding pages_of
page_reached addresses segment a h inside =
    let up : page_in segment a + 1 ≤ greatest (map (λ address. page_in segment address + 1) (filter (is_in segment) addresses)) =
    least_of_all (map (λ address. page_in segment address + 1) (filter (is_in segment) addresses)) (page_in segment a + 1)
    (in_map (λ (address : ℕ). page_in segment address + 1) (filter (is_in segment) addresses) a (in_filter (is_in segment) addresses a h inside)) in
    omega (arith, up)

-- they are few where all pointers are on early pages
pub pages_few : (addresses : List ℕ) (segment : Segment) (n : ℕ) → ((a : ℕ) → In a addresses → is_in segment a ≡ true → page_in segment a < n) → pages_of addresses segment ≤ n
unfolding pages_of
pages_few addresses segment n early =
    greatest_most (map (λ address. page_in segment address + 1) (filter (is_in segment) addresses)) n
    (λ m h.
    let counted = from_map (λ (address : ℕ). page_in segment address + 1) (filter (is_in segment) addresses) m h in
    let found = from_filter (is_in segment) addresses counted.0 counted.1 in
    let low : page_in segment counted.0 < n = early counted.0 found.0 found.1 in
    omega (arith, low, counted.2))

-- ---- the start of a page

-- the numbers of the starts of a segment
record PagesStand (image addresses : List ℕ) (place page count : ℕ) : Type 0 where
  pub format : number_at 2 image (place + 6) ≡ Some 6
  pub told : number_at 2 image (place + 20) ≡ Some count
  pub starts : Stands image (place + 22) (page_starts addresses page count)

fields_length : (count base at : ℕ) → length (chained_starts_in_segment_bytes (record { size = (22 + 2 * count) % 2 ^ 32; page_size = chain.PAGE; pointer_format = DYLD_CHAINED_PTR_64_OFFSET; segment_offset = at - base; max_valid_pointer = 0; page_count = count % 2 ^ 16 })) ≡ 22
fields_length count base at = simp (length-append, length-number_bytes)

pages_stand : (image addresses : List ℕ) (base place : ℕ) (segment : Segment) (count : ℕ) → count < 2 ^ 16 → segment.address < 2 ^ 63 → Stands image place (segment_bytes addresses base segment count) → PagesStand image addresses place (page_of segment.address) count
unfolding segment_bytes
pages_stand image addresses base place segment count few low s =
    let size = (22 + 2 * count) % 2 ^ 32 in
    let far = segment.address - base in
    let pages = count % 2 ^ 16 in
    let fields = chained_starts_in_segment_fields (record { size = size; page_size = chain.PAGE; pointer_format = DYLD_CHAINED_PTR_64_OFFSET; segment_offset = far; max_valid_pointer = 0; page_count = pages }) in
    let size_fits : size < 256 ^ 4 = omega arith in
    let far_fits : far < 256 ^ 8 = omega (arith, low) in
    let pages_fit : pages < 256 ^ 2 = omega arith in
    let same : place ≡ place + 0 = omega arith in
    let first : Stands image place (spelled fields) = stands_left image place (spelled fields) (page_starts addresses (page_of segment.address) count) s in
    let stand : EachStands image place 0 fields =
    fields_stand image place 0 fields (lit< tt, size_fits, (lit< tt, lit< tt, (lit< tt, lit< tt, (lit< tt, far_fits, (lit< tt, lit< tt, (lit< tt, pages_fit, tt)))))) (stands_at image place (place + 0) (spelled fields) same first) in
    let whole : pages ≡ count = omega (arith, few) in
    let length_is : length (spelled fields) ≡ 22 = fields_length count base segment.address in
    record {
      format = stand.1.1.0;
      told = stand.1.1.1.1.1.0 ∙ ap (λ (n : ℕ). Some n) whole;
      starts = stands_right image place (place + 22) (spelled fields) (page_starts addresses (page_of segment.address) count) (omega (arith, length_is)) s;
    }

start_fits : (addresses : List ℕ) (page : ℕ) → chain.page_start addresses page < 2 ^ 16
unfolding chain.page_start
start_fits addresses page = by (least (filter (λ address. page_of address == page) addresses))
  where
    by : (o : Option ℕ) → option_map_or (λ first. first % chain.PAGE) o DYLD_CHAINED_PTR_START_NONE < 2 ^ 16
    by None = lit< tt
    by (Some first) = omega arith

-- the loader reads the start of a page
pub start_read : (image addresses : List ℕ) (base place : ℕ) (segment : Segment) (count page : ℕ) → count < 2 ^ 16 → segment.address < 2 ^ 63 → Stands image place (segment_bytes addresses base segment count) → page < count → page_start image place page ≡ unless DYLD_CHAINED_PTR_START_NONE (chain.page_start addresses (page_of segment.address + page))
unfolding page_start
start_read image addresses base place segment count page few low s within =
    let p = pages_stand image addresses base place segment count few low s in
    let start = chain.page_start addresses (page_of segment.address + page) in
    let told : number_at 2 image (place + 22 + 2 * page) ≡ Some start =
    known_stands image (place + 22 + 2 * page) 2 start (lit< tt) (start_fits addresses (page_of segment.address + page)) (page_stands image addresses (place + 22) (page_of segment.address) count page within p.starts) in
    let among : below page count ≡ Ok tt = rw (lt-ltb page count within) refl in
    let answer = unless DYLD_CHAINED_PTR_START_NONE start in
    goes_on (known (number_at 2 image (place + 6))) 6 _ answer (known_some (number_at 2 image (place + 6)) 6 p.format)
    (goes_on (known (number_at 2 image (place + 20))) count _ answer (known_some (number_at 2 image (place + 20)) count p.told)
    (goes_on (below page count) tt _ answer among
    (goes_on (known (number_at 2 image (place + 22 + 2 * page))) start _ answer (known_some (number_at 2 image (place + 22 + 2 * page)) start told) refl)))

-- there is no such page
pub start_past : (image addresses : List ℕ) (base place : ℕ) (segment : Segment) (count page : ℕ) → count < 2 ^ 16 → segment.address < 2 ^ 63 → Stands image place (segment_bytes addresses base segment count) → count ≤ page → page_start image place page ≡ Err Plain
unfolding page_start
start_past image addresses base place segment count page few low s past =
    let p = pages_stand image addresses base place segment count few low s in
    let among : below page count ≡ Err Plain = rw (not_true (nat_lt page count) (λ e. let less : page < count = ltb-true page count e in omega (arith, less, past))) refl in
    goes_on (known (number_at 2 image (place + 6))) 6 _ (Err Plain) (known_some (number_at 2 image (place + 6)) 6 p.format)
    (goes_on (known (number_at 2 image (place + 20))) count _ (Err Plain) (known_some (number_at 2 image (place + 20)) count p.told)
    (ends (below page count) Plain _ among))
