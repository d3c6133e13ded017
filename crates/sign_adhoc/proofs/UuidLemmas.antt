-- The UUID at its place, and the pages that hold it.
use Rattle.std.proofs.Common.{◌≡◌, ℕ, ◌+◌, ◌-◌, ◌*◌, ◌/◌, ◌%◌, ◌<◌, ◌≤◌, ◌⊎◌, inl, inr, ◌≢◌, List, ◌++◌, [], length, take, drop, get_or, replicate, set, Bool, true, false, nat_lt, if◌then◌else◌, refl, sym, ap, subst, ◌∙◌, arith, length-append, length-drop}
use Rattle.std.proofs.lemmas.Bool.{cases_lt, ltb-false}
use Rattle.std.proofs.lemmas.List.{ext_get_or, get_or_append_left, get_or-append_right, get_or-drop, get_or-take, get_or-set_same, get_or-set_other, length-set, length-take, length-take-le, take-append-le, take_all}
use Rattle.std.proofs.lemmas.List.FromFn.{get_or-map-range_with_len, length-map-range_with_len}
use Rattle.std.proofs.lemmas.Grind.{div_ceil_times}
use Rattle.sha2.specs.Sha256.{sha256}
use Rattle.sha2.proofs.Facts256.{length-sha256}
use Rattle.sign_adhoc.specs.Pages.{joined, page, page_count, page_hash, page_hashes}
use Rattle.sign_adhoc.specs.Uuid.{with_uuid, image_uuid, uuid_of, uuid_of_digest, IsBesideUuid}
use Rattle.sign_adhoc.specs.inner.Renewed.{renewed, with_page}

pub length-with_uuid : (at : ℕ) (uuid image : List ℕ) → length uuid ≡ 16 → at + 16 ≤ length image → length (with_uuid at uuid image) ≡ length image
unfolding with_uuid
length-with_uuid at uuid image long room =
    let front : length (take at image) ≡ at = length-take-le at image (omega arith) in
    let back : length (drop (at + 16) image) ≡ length image - (at + 16) = length-drop (at + 16) image in
    rw (length-append, length-append, front, back, long) (omega arith)

-- a byte beside the UUID is as it was
pub beside_stays : (at : ℕ) (uuid image : List ℕ) (k : ℕ) → length uuid ≡ 16 → at + 16 ≤ length image → IsBesideUuid at k → get_or (with_uuid at uuid image) k 0 ≡ get_or image k 0
unfolding with_uuid
beside_stays at uuid image k long room (inl before) =
    let front : length (take at image) ≡ at = length-take-le at image (omega arith) in
    get_or_append_left (take at image) (uuid ++ drop (at + 16) image) 0 k (omega arith) ∙ get_or-take at image k 0 before
beside_stays at uuid image k long room (inr after) =
    let front : length (take at image) ≡ at = length-take-le at image (omega arith) in
    get_or-append_right (take at image) (uuid ++ drop (at + 16) image) at k 0 front (omega arith)
    ∙ get_or-append_right uuid (drop (at + 16) image) 16 (k - at) 0 long (omega arith)
    ∙ get_or-drop (at + 16) image (k - at - 16) 0
    ∙ ap (λ (i : ℕ). get_or image i 0) (omega arith)

-- a byte of the UUID stands at its place
pub uuid_stands : (at : ℕ) (uuid image : List ℕ) (k : ℕ) → length uuid ≡ 16 → at + 16 ≤ length image → at ≤ k → k < at + 16 → get_or (with_uuid at uuid image) k 0 ≡ get_or uuid (k - at) 0
unfolding with_uuid
uuid_stands at uuid image k long room low high =
    let front : length (take at image) ≡ at = length-take-le at image (omega arith) in
    get_or-append_right (take at image) (uuid ++ drop (at + 16) image) at k 0 front low
    ∙ get_or_append_left uuid (drop (at + 16) image) 0 (k - at) (omega arith)

beside_or_in : (at k : ℕ) → IsBesideUuid at k ⊎ ((at ≤ k) × (k < at + 16))
beside_or_in at k = elim (cases_lt k at) [
  | inl before ↦ inl (inl before)
  | inr from ↦ elim (cases_lt k (at + 16)) [
    | inl within ↦ inr (from, within)
    | inr past ↦ inl (inr past)
  ]
]

-- a second UUID takes the place of the first
pub last_uuid : (at : ℕ) (first second image : List ℕ) → length first ≡ 16 → length second ≡ 16 → at + 16 ≤ length image → with_uuid at second (with_uuid at first image) ≡ with_uuid at second image
last_uuid at first second image long_first long_second room =
    let one : length (with_uuid at first image) ≡ length image = length-with_uuid at first image long_first room in
    let room_one : at + 16 ≤ length (with_uuid at first image) = omega arith in
    let two : length (with_uuid at second (with_uuid at first image)) ≡ length image = length-with_uuid at second (with_uuid at first image) long_second room_one ∙ one in
    let other : length (with_uuid at second image) ≡ length image = length-with_uuid at second image long_second room in
    ext_get_or 0 (with_uuid at second (with_uuid at first image)) (with_uuid at second image) (two ∙ sym other) (λ k within. by_place k room_one (beside_or_in at k))
  where
    by_place : (k : ℕ) → at + 16 ≤ length (with_uuid at first image) → IsBesideUuid at k ⊎ ((at ≤ k) × (k < at + 16)) → get_or (with_uuid at second (with_uuid at first image)) k 0 ≡ get_or (with_uuid at second image) k 0
    by_place k room_one (inl beside) =
        beside_stays at second (with_uuid at first image) k long_second room_one beside
        ∙ beside_stays at first image k long_first room beside
        ∙ sym (beside_stays at second image k long_second room beside)
    by_place k room_one (inr inside) =
        uuid_stands at second (with_uuid at first image) k long_second room_one inside.0 inside.1
        ∙ sym (uuid_stands at second image k long_second room inside.0 inside.1)

-- ---- pages

-- two images that are the same beside the UUID
pub record AreSameBeside (at : ℕ) (a b : List ℕ) : Type 0 where
  pub size : length a ≡ length b
  pub others : (k : ℕ) → IsBesideUuid at k → get_or a k 0 ≡ get_or b k 0

-- a page without a byte of the UUID
abbrev IsPageBeside : ℕ → ℕ → Type 0
IsPageBeside at k = (4096 * k + 4096 ≤ at) ⊎ (at + 16 ≤ 4096 * k)

in_page_beside : (at k i : ℕ) → IsPageBeside at k → i < 4096 → IsBesideUuid at (4096 * k + i)
in_page_beside at k i (inl before) low = inl (omega arith)
in_page_beside at k i (inr after) low = inr (omega arith)

same_page : (at : ℕ) (a b : List ℕ) (k : ℕ) → AreSameBeside at a b → IsPageBeside at k → page a k ≡ page b k
unfolding page
same_page at a b k same beside =
    let size_a : length (take 4096 (drop (4096 * k) a)) ≡ _ = length-take 4096 (drop (4096 * k) a) in
    let size_b : length (take 4096 (drop (4096 * k) b)) ≡ _ = length-take 4096 (drop (4096 * k) b) in
    let rest_a : length (drop (4096 * k) a) ≡ length a - 4096 * k = length-drop (4096 * k) a in
    let rest_b : length (drop (4096 * k) b) ≡ length b - 4096 * k = length-drop (4096 * k) b in
    let sizes = same.size in
    ext_get_or 0 (take 4096 (drop (4096 * k) a)) (take 4096 (drop (4096 * k) b)) (omega arith) (λ i within.
    let low : i < 4096 = omega arith in
    get_or-take 4096 (drop (4096 * k) a) i 0 low
    ∙ get_or-drop (4096 * k) a i 0
    ∙ same.others (4096 * k + i) (in_page_beside at k i beside low)
    ∙ sym (get_or-drop (4096 * k) b i 0)
    ∙ sym (get_or-take 4096 (drop (4096 * k) b) i 0 low))

same_hash : (at : ℕ) (a b : List ℕ) (k : ℕ) → AreSameBeside at a b → IsPageBeside at k → page_hash a k ≡ page_hash b k
unfolding page_hash
same_hash at a b k same beside = ap (λ (p : List ℕ). sha256 p) (same_page at a b k same beside)

-- the pages of a UUID lie in the image
pub first_place : (at size : ℕ) → at + 16 ≤ size → at / 4096 < page_count size
unfolding page_count
first_place at size room = let ends = div_ceil_times size 4096 (omega arith) in omega (arith, ends)

pub last_place : (at size : ℕ) → at + 16 ≤ size → (at + 15) / 4096 < page_count size
unfolding page_count
last_place at size room = let ends = div_ceil_times size 4096 (omega arith) in omega (arith, ends)

pub ruleset places = (first_place, last_place)

pub length-page_hashes : (image : List ℕ) → length (page_hashes image) ≡ page_count (length image)
unfolding page_hashes
length-page_hashes image = length-map-range_with_len (page_hash image) 0 (page_count (length image))

pub hash_of_page : (image : List ℕ) (k : ℕ) (d : List ℕ) → k < page_count (length image) → get_or (page_hashes image) k d ≡ page_hash image k
unfolding page_hashes
hash_of_page image k d within = get_or-map-range_with_len (page_hash image) 0 (page_count (length image)) k k d within (omega arith)

-- a page that holds no byte of the UUID is neither the first nor the last that does
beside_pages : (at k : ℕ) → k ≢ at / 4096 → k ≢ (at + 15) / 4096 → IsPageBeside at k
beside_pages at k not_first not_last = elim (cases_lt k (at / 4096)) [
  | inl before ↦ inl (omega arith)
  | inr from ↦ elim (cases_lt ((at + 15) / 4096) k) [
    | inl past ↦ inr (omega arith)
    | inr to ↦ absurd (not_last (let other : at / 4096 < k = at_other (at / 4096) k from not_first in omega arith))
  ]
]
  where
    at_other : (j k : ℕ) → j ≤ k → k ≢ j → j < k
    at_other j k low not = elim (cases_lt j k) [ inl below ↦ below | inr up ↦ absurd (not (omega arith)) ]

set_hash : (image : List ℕ) (hashes : List (List ℕ)) (j k : ℕ) → j < length hashes → (k ≢ j → get_or hashes k [] ≡ page_hash image k) → get_or (with_page image j hashes) k [] ≡ page_hash image k
set_hash image hashes j k within others = elim (cases_lt k j) [
  | inl below ↦ get_or-set_other hashes j k (page_hash image j) [] (omega arith) ∙ others (omega arith)
  | inr from ↦ elim (cases_lt j k) [
    | inl above ↦ get_or-set_other hashes j k (page_hash image j) [] (omega arith) ∙ others (omega arith)
    | inr to ↦ let same : j ≡ k = omega arith in subst (λ (i : ℕ). get_or (with_page image j hashes) i [] ≡ page_hash image i) same (get_or-set_same hashes j (page_hash image j) [] within)
  ]
]

old_hash : (at : ℕ) (a b : List ℕ) (k : ℕ) → AreSameBeside at a b → k < page_count (length a) → k ≢ at / 4096 → k ≢ (at + 15) / 4096 → get_or (page_hashes a) k [] ≡ page_hash b k
old_hash at a b k same within not_first not_last = hash_of_page a k [] within ∙ same_hash at a b k same (beside_pages at k not_first not_last)

pub length-renewed : (at : ℕ) (image : List ℕ) (hashes : List (List ℕ)) → length (renewed at image hashes) ≡ length hashes
unfolding renewed
length-renewed at image hashes = by_test (nat_lt (at / 4096) ((at + 15) / 4096))
  where
    by_test : (test : Bool) → length (if test then with_page image ((at + 15) / 4096) (with_page image (at / 4096) hashes) else with_page image (at / 4096) hashes) ≡ length hashes
    by_test true = length-set (with_page image (at / 4096) hashes) ((at + 15) / 4096) (page_hash image ((at + 15) / 4096)) ∙ length-set hashes (at / 4096) (page_hash image (at / 4096))
    by_test false = length-set hashes (at / 4096) (page_hash image (at / 4096))

renewed_hash : (at : ℕ) (a b : List ℕ) (k : ℕ) → AreSameBeside at a b → at + 16 ≤ length a → k < page_count (length a) → get_or (renewed at b (page_hashes a)) k [] ≡ page_hash b k
unfolding renewed
renewed_hash at a b k same room within = by_test (nat_lt (at / 4096) ((at + 15) / 4096)) refl
  where
    first_in : at / 4096 < length (page_hashes a)
    first_in = let long = length-page_hashes a in let low = first_place at (length a) room in omega arith

    last_in : (at + 15) / 4096 < length (with_page b (at / 4096) (page_hashes a))
    last_in =
        let long = length-page_hashes a in
        let low = last_place at (length a) room in
        let set_long : length (with_page b (at / 4096) (page_hashes a)) ≡ length (page_hashes a) = length-set (page_hashes a) (at / 4096) (page_hash b (at / 4096)) in
        omega arith

    by_test : (test : Bool) → nat_lt (at / 4096) ((at + 15) / 4096) ≡ test → get_or (if test then with_page b ((at + 15) / 4096) (with_page b (at / 4096) (page_hashes a)) else with_page b (at / 4096) (page_hashes a)) k [] ≡ page_hash b k
    by_test true is =
        set_hash b (with_page b (at / 4096) (page_hashes a)) ((at + 15) / 4096) k last_in (λ not_last.
        set_hash b (page_hashes a) (at / 4096) k first_in (λ not_first. old_hash at a b k same within not_first not_last))
    by_test false is =
        set_hash b (page_hashes a) (at / 4096) k first_in (λ not_first.
        old_hash at a b k same within not_first (λ at_last. not_first (let up = ltb-false (at / 4096) ((at + 15) / 4096) is in omega arith)))

-- after the UUID is written, the hashes are those of the pages
pub renewed_is : (at : ℕ) (a b : List ℕ) → AreSameBeside at a b → at + 16 ≤ length a → renewed at b (page_hashes a) ≡ page_hashes b
renewed_is at a b same room =
    let size = same.size in
    let long : length (renewed at b (page_hashes a)) ≡ page_count (length a) = length-renewed at b (page_hashes a) ∙ length-page_hashes a in
    let pages : page_count (length a) ≡ page_count (length b) = ap (λ (n : ℕ). page_count n) size in
    ext_get_or [] (renewed at b (page_hashes a)) (page_hashes b) (long ∙ pages ∙ sym (length-page_hashes b)) (λ k within.
    let low : k < page_count (length a) = omega arith in
    let low_b : k < page_count (length b) = omega arith in
    renewed_hash at a b k same room low ∙ sym (hash_of_page b k [] low_b))

-- what stood in place of the UUID counts for nothing
pub same_beside : (at : ℕ) (first second image : List ℕ) → length first ≡ 16 → length second ≡ 16 → at + 16 ≤ length image → AreSameBeside at (with_uuid at first image) (with_uuid at second image)
same_beside at first second image long_first long_second room = record {
  size = length-with_uuid at first image long_first room ∙ sym (length-with_uuid at second image long_second room);
  others = λ k beside. beside_stays at first image k long_first room beside ∙ sym (beside_stays at second image k long_second room beside);
}

-- a vector whose elements were all written
pub put_back : {X : Type 0} (n : ℕ) (new old : List X) → length new ≡ n → take n (new ++ drop (length new) old) ≡ new
put_back n new old long = take-append-le n new (drop (length new) old) (omega arith) ∙ take_all n new (omega arith)

-- the UUID is that of the image with zeros in its place
pub same_uuid : (at : ℕ) (uuid image : List ℕ) → length uuid ≡ 16 → at + 16 ≤ length image → image_uuid at (with_uuid at uuid image) ≡ image_uuid at image
unfolding image_uuid
same_uuid at uuid image long room = ap (λ (bytes : List ℕ). uuid_of (page_hashes bytes)) (last_uuid at uuid (replicate 16 0) image long refl room)

length-uuid_of : (hashes : List (List ℕ)) → length (uuid_of hashes) ≡ 16
unfolding uuid_of uuid_of_digest
length-uuid_of hashes =
    let digest = sha256 (joined hashes) in
    let long = length-sha256 (joined hashes) in
    length-set (set (take 16 digest) 6 (0x50 + get_or digest 6 0 % 0x10)) 8 (0x80 + get_or digest 8 0 % 0x40)
    ∙ length-set (take 16 digest) 6 (0x50 + get_or digest 6 0 % 0x10)
    ∙ length-take-le 16 digest (omega arith)

pub length-image_uuid : (at : ℕ) (image : List ℕ) → length (image_uuid at image) ≡ 16
unfolding image_uuid
length-image_uuid at image = length-uuid_of (page_hashes (with_uuid at (replicate 16 0) image))

-- what stands after the UUID was written, and the hashes are those of the pages before
pub record IsIdentified (at : ℕ) (old second : List ℕ) (hashes : List (List ℕ)) : Type 0 where
  pub uuid : second ≡ with_uuid at (image_uuid at old) old
  pub anew : renewed at second hashes ≡ page_hashes second
  pub count : length hashes ≡ page_count (length second)
  pub beside : (k : ℕ) → IsBesideUuid at k → get_or second k 0 ≡ get_or old k 0

pub identified : (at : ℕ) (old first second uuid : List ℕ) (hashes : List (List ℕ)) → at + 16 ≤ length old → first ≡ with_uuid at (replicate 16 0) old → hashes ≡ page_hashes first → uuid ≡ uuid_of hashes → second ≡ with_uuid at uuid first → IsIdentified at old second hashes
unfolding image_uuid
identified at old first second uuid hashes room is_first are is_uuid is_second = record {
  uuid = uuid_there;
  anew = ap (λ (list : List (List ℕ)). renewed at second list) are ∙ renewed_is at first second same room_first;
  count = ap (λ (list : List (List ℕ)). length list) are ∙ length-page_hashes first ∙ ap (λ (n : ℕ). page_count n) same.size;
  beside = λ k out. ap (λ (bytes : List ℕ). get_or bytes k 0) uuid_there ∙ beside_stays at (image_uuid at old) old k (length-image_uuid at old) room out;
}
  where
    uuid_is : uuid ≡ image_uuid at old
    uuid_is = is_uuid ∙ ap (λ (list : List (List ℕ)). uuid_of list) (are ∙ ap (λ (bytes : List ℕ). page_hashes bytes) is_first)

    long : length uuid ≡ 16
    long = ap (λ (bytes : List ℕ). length bytes) uuid_is ∙ length-image_uuid at old

    with_first : second ≡ with_uuid at uuid old
    with_first = is_second ∙ ap (λ (bytes : List ℕ). with_uuid at uuid bytes) is_first ∙ last_uuid at (replicate 16 0) uuid old refl long room

    uuid_there : second ≡ with_uuid at (image_uuid at old) old
    uuid_there = with_first ∙ ap (λ (bytes : List ℕ). with_uuid at bytes old) uuid_is

    same : AreSameBeside at first second
    same = subst (λ (bytes : List ℕ). AreSameBeside at bytes second) (sym is_first) (subst (λ (bytes : List ℕ). AreSameBeside at (with_uuid at (replicate 16 0) old) bytes) (sym with_first) (same_beside at (replicate 16 0) uuid old refl long room))

    room_first : at + 16 ≤ length first
    room_first = let size : length first ≡ length old = ap (λ (bytes : List ℕ). length bytes) is_first ∙ length-with_uuid at (replicate 16 0) old refl room in omega arith
