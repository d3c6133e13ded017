-- Fields that stand apart.
use Rattle.std.proofs.Common.{◌≡◌, ℕ, zero, suc, ◌+◌, ◌-◌, ◌<◌, ◌≤◌, ◌++◌, ◌∷◌, [], ◌&&◌, inl, inr, List, length, get_or, Bool, true, false, not, eqb, ltb, Option, Some, None, refl, sym, ap, ◌∙◌, subst, arith}
use Rattle.std.specs.List.{AllByRecursion, IsDistinct, cons_option, filter_map, range_with_len}
use Rattle.std.specs.List.Sorted.{IsPermutation}
use Rattle.std.specs.Option.{option_map_or, option_to_list}
use Rattle.std.proofs.lemmas.Bool.{cases_lt, cases_order, eqb-false, le-ltb}
use Rattle.std.proofs.lemmas.List.Elements.{filter_map-append}
use Rattle.std.proofs.lemmas.List.Sorted.{IsPermutation-sym}
use Rattle.std.proofs.lemmas.Map.Keys.{IsDistinct-from_apart, IsDistinct-IsPermutation, IsDistinct-head, IsDistinct-tail}
use Rattle.mo_types.specs.declared.object.RawReloc.{RawReloc}
use Rattle.mo_types.specs.declared.reference.FieldRange.{FieldRange}
use Rattle.mo_types.specs.RelocationRules.{field_at, overlap}
use Rattle.reloc_read.specs.Fields.{AreApart, Follow, overlaps_at}
use Rattle.reloc_read.proofs.ScanLemmas.{none_in_range}

-- a range grows by one

pub range_more : (a n : ℕ) → range_with_len a (n + 1) ≡ range_with_len a n ++ (a + n) ∷ []
range_more a zero = let e : a ≡ a + zero = omega arith in ap (λ k. k ∷ []) e
range_more a (suc n) =
    let count : suc n + 1 ≡ suc (n + 1) = omega arith in
    let end : a + 1 + n ≡ a + suc n = omega arith in
    rw count (ap (λ xs. a ∷ xs) (range_more (a + 1) n) ∙ ap (λ k. a ∷ (range_with_len (a + 1) n ++ k ∷ [])) end)

one_mapped : {X : Type 0} (h : ℕ → Option X) (at : ℕ) (o : Option X) → h at ≡ o → filter_map h (at ∷ []) ≡ option_to_list o
one_mapped h at None e = rw e refl
one_mapped h at (Some x) e = rw e refl

pub mapped_more : {X : Type 0} (h : ℕ → Option X) (at : ℕ) (o : Option X) → h at ≡ o → filter_map h (range_with_len 0 (at + 1)) ≡ filter_map h (range_with_len 0 at) ++ option_to_list o
mapped_more h at o e =
    let here : 0 + at ≡ at = omega arith in
    ap (filter_map h) (range_more 0 at) ∙ filter_map-append h (range_with_len 0 at) ((0 + at) ∷ [])
    ∙ ap (λ xs. filter_map h (range_with_len 0 at) ++ xs) (ap (λ k. filter_map h (k ∷ [])) here ∙ one_mapped h at o e)

pub field_added : (relocs : List RawReloc) (at : ℕ) (found more : List FieldRange) (field : Option FieldRange) → found ≡ filter_map (field_at relocs) (range_with_len 0 at) → field ≡ field_at relocs at → more ≡ found ++ option_to_list field → more ≡ filter_map (field_at relocs) (range_with_len 0 (at + 1))
field_added relocs at found more field e is pushed = pushed ∙ ap (λ xs. xs ++ option_to_list field) e ∙ sym (mapped_more (field_at relocs) at field (sym is))

pub ruleset collects = (field_added)

-- each field before a place ends before the next
pub record FollowTo (fields : List FieldRange) (at : ℕ) : Type 0 where
  pub next : (k : ℕ) (d : FieldRange) → k + 1 < at → k + 1 < length fields → (get_or fields k d).offset + (get_or fields k d).size ≤ (get_or fields (k + 1) d).offset

pub follow_from_1 : (fields : List FieldRange) → FollowTo fields 1
follow_from_1 fields = record { next = λ k d below within. absurd (omega arith) }

pub follow_all : (fields : List FieldRange) (at : ℕ) → FollowTo fields at → length fields ≤ at → Follow fields
follow_all fields at so past = record { next = λ k d within. so.next k d (omega arith) within }

pub ruleset follows = (follow_from_1, follow_all)

-- fields that follow each other don't overlap

ends_before : (fields : List FieldRange) (i n : ℕ) (d : FieldRange) → Follow fields → i + 1 + n < length fields → (get_or fields i d).offset + (get_or fields i d).size ≤ (get_or fields (i + 1 + n) d).offset
ends_before fields i zero d follow within =
    let e : i + 1 + zero ≡ i + 1 = omega arith in
    rw e (follow.next i d (omega arith))
ends_before fields i (suc n) d follow within =
    let e : i + 1 + suc n ≡ i + 1 + n + 1 = omega arith in
    let before : (get_or fields i d).offset + (get_or fields i d).size ≤ (get_or fields (i + 1 + n) d).offset = ends_before fields i n d follow (omega arith) in
    let last : (get_or fields (i + 1 + n) d).offset + (get_or fields (i + 1 + n) d).size ≤ (get_or fields (i + 1 + n + 1) d).offset = follow.next (i + 1 + n) d (omega arith) in
    rw e (omega arith)

and_false : (a b : Bool) → b ≡ false → (a && b) ≡ false
and_false true b e = e
and_false false b e = refl

and_comm : (a b : Bool) → (a && b) ≡ (b && a)
and_comm true true = refl
and_comm true false = refl
and_comm false true = refl
and_comm false false = refl

pub no_overlap : (a b : FieldRange) → a.offset + a.size ≤ b.offset → overlap a b ≡ false
no_overlap a b low = and_false (ltb a.offset (b.offset + b.size)) (ltb b.offset (a.offset + a.size)) (le-ltb b.offset (a.offset + a.size) low)

pub overlap_flips : (a b : FieldRange) → overlap a b ≡ overlap b a
overlap_flips a b = and_comm (ltb a.offset (b.offset + b.size)) (ltb b.offset (a.offset + a.size))

distinct_sorted : (fields : List FieldRange) → Follow fields → IsDistinct overlap fields
distinct_sorted fields follow = IsDistinct-from_apart overlap fields (λ i j d less within.
    let n : ℕ = j - (i + 1) in
    let e : i + 1 + n ≡ j = omega arith in
    let low : (get_or fields i d).offset + (get_or fields i d).size ≤ (get_or fields j d).offset =
    subst (λ (k : ℕ). (get_or fields i d).offset + (get_or fields i d).size ≤ (get_or fields k d).offset) e (ends_before fields i n d follow (omega arith)) in
    no_overlap (get_or fields i d) (get_or fields j d) low)

-- from the list of all fields to the rows

member_apart : (h : ℕ → Option FieldRange) (field : FieldRange) (a n j : ℕ) (other : FieldRange) → AllByRecursion (λ y. overlap field y ≡ false) (filter_map h (range_with_len a n)) → a ≤ j → j < a + n → h j ≡ Some other → overlap field other ≡ false
member_apart h field a zero j other all low high is = absurd (omega arith)
member_apart h field a (suc n) j other all low high is =
    elim (cases_lt a j) [
      | inl more ↦ member_apart h field (a + 1) n j other (rest (h a) (filter_map h (range_with_len (a + 1) n)) all) (omega arith) (omega arith) is
      | inr less ↦ let same : j ≡ a = omega arith in first (h a) (filter_map h (range_with_len (a + 1) n)) (sym (ap h same) ∙ is) all
    ]
  where
    rest : (o : Option FieldRange) (xs : List FieldRange) → AllByRecursion (λ y. overlap field y ≡ false) (cons_option o xs) → AllByRecursion (λ y. overlap field y ≡ false) xs
    rest None xs all = all
    rest (Some x) xs all = all.1

    first : (o : Option FieldRange) (xs : List FieldRange) → o ≡ Some other → AllByRecursion (λ y. overlap field y ≡ false) (cons_option o xs) → overlap field other ≡ false
    first None xs e all = cc
    first (Some x) xs e all = let same : x ≡ other = cc in subst (λ (y : FieldRange). overlap field y ≡ false) same all.0

tail_distinct : (o : Option FieldRange) (xs : List FieldRange) → IsDistinct overlap (cons_option o xs) → IsDistinct overlap xs
tail_distinct None xs distinct = distinct
tail_distinct (Some x) xs distinct = IsDistinct-tail overlap x xs distinct

head_distinct : (o : Option FieldRange) (field : FieldRange) (xs : List FieldRange) → o ≡ Some field → IsDistinct overlap (cons_option o xs) → AllByRecursion (λ y. overlap field y ≡ false) xs
head_distinct None field xs e distinct = cc
head_distinct (Some x) field xs e distinct = let same : x ≡ field = cc in subst (λ (y : FieldRange). AllByRecursion (λ z. overlap y z ≡ false) xs) same (IsDistinct-head overlap x xs distinct)

rows_apart : (h : ℕ → Option FieldRange) (a n i j : ℕ) (field other : FieldRange) → IsDistinct overlap (filter_map h (range_with_len a n)) → a ≤ i → i < j → j < a + n → h i ≡ Some field → h j ≡ Some other → overlap field other ≡ false
rows_apart h a zero i j field other distinct low less high is its = absurd (omega arith)
rows_apart h a (suc n) i j field other distinct low less high is its =
    elim (cases_lt a i) [
      | inl more ↦ rows_apart h (a + 1) n i j field other (tail_distinct (h a) (filter_map h (range_with_len (a + 1) n)) distinct) (omega arith) less (omega arith) is its
      | inr here ↦ let same : i ≡ a = omega arith in
          member_apart h field (a + 1) n j other (head_distinct (h a) field (filter_map h (range_with_len (a + 1) n)) (sym (ap h same) ∙ is) distinct) (omega arith) (omega arith) its
    ]

tested : (field : FieldRange) (o : Option FieldRange) → ((other : FieldRange) → o ≡ Some other → overlap field other ≡ false) → option_map_or (overlap field) o false ≡ false
tested field None none = refl
tested field (Some other) none = none other refl

not_itself : (same other : Bool) → (same ≡ false → other ≡ false) → (not same && other) ≡ false
not_itself true other none = refl
not_itself false other none = none refl

-- fields stand apart where no two of them overlap
pub apart_of_pairs : (relocs : List RawReloc) → ((i j : ℕ) (a b : FieldRange) → i < j → j < length relocs → field_at relocs i ≡ Some a → field_at relocs j ≡ Some b → overlap a b ≡ false) → AreApart relocs
apart_of_pairs relocs pairs = record {
  apart = λ at field within here. none_in_range (overlaps_at relocs at field) 0 (length relocs) (λ k low high.
      not_itself (eqb k at) (option_map_or (overlap field) (field_at relocs k) false) (λ differ. tested field (field_at relocs k) (λ other there.
      elim (cases_order at k) [
        | inl same ↦ absurd (eqb-false k at differ (sym same))
        | inr (inl less) ↦ pairs at k field other less (omega arith) here there
        | inr (inr more) ↦ overlap_flips field other ∙ pairs k at other field more within there here
      ])));
}

pub apart_from_follow : (relocs : List RawReloc) (found sorted : List FieldRange) → found ≡ filter_map (field_at relocs) (range_with_len 0 (length relocs)) → IsPermutation found sorted → Follow sorted → AreApart relocs
apart_from_follow relocs found sorted is moved follow =
    let distinct : IsDistinct overlap (filter_map (field_at relocs) (range_with_len 0 (length relocs))) =
    subst (λ (xs : List FieldRange). IsDistinct overlap xs) is (IsDistinct-IsPermutation overlap overlap_flips sorted found (IsPermutation-sym found sorted moved) (distinct_sorted sorted follow)) in
    apart_of_pairs relocs (λ i j a b less within is its. rows_apart (field_at relocs) 0 (length relocs) i j a b distinct (omega arith) less (omega arith) is its)

pub ruleset aparts = (apart_from_follow)
