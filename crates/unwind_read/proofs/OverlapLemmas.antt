-- Ranges that overlap, and ranges that don't.
use Rattle.std.proofs.Common.{◌≡◌, ℕ, zero, suc, ◌+◌, ◌-◌, ◌<◌, ◌≤◌, ◌∷◌, [], ◌&&◌, ◌||◌, ◌⊎◌, inl, inr, List, length, map, drop, get_or, slice_get, All, Bool, true, false, not, cond, eqb, ltb, leb, Option, Some, None, refl, sym, ap, ◌∙◌, subst, arith}
use Rattle.std.specs.List.{cons_option, count_by, filter_map, range_with_len}
use Rattle.std.specs.Option.{option_and_then, option_map_or}
use Rattle.std.specs.Cmp.{IsTotalOrder}
use Rattle.std.specs.List.Sorted.{IsPartitionedBy, IsSortedBy}
use Rattle.std.specs.Ordering.{is_lt, nat_cmp, ordering_then}
use Rattle.std.specs.declared.cmp.Ordering.{Ordering}
use Rattle.std.specs.declared.cmp.Ordering.TheVariants.{Less, Equal, Greater}
use Rattle.std.proofs.lemmas.Cmp.{nat_cmp_total, on_total, then_total}
use Rattle.std.proofs.lemmas.List.Sorted.{ranks_by, sorted_far}
use Rattle.std.proofs.lemmas.Bool.{and_from, and_left, and_parts, and_right, cases_lt, cases_order, eq-eqb, eqb-false, eqb-true, false≢true, lt-ltb, le-ltb, le-leb, lt-leb, ltb-false, ltb-true, ne_eqb, not-true, not_from_false, or_cases, or_from, or_left, or_parts, or_right}
use Rattle.std.proofs.lemmas.List.{drop_all, drop_more, get_or_read}
use Rattle.std.proofs.lemmas.List.Sums.{sum_by-cons}
use Rattle.std.proofs.lemmas.Option.{get_or_from_slice_get, slice_get-get_or, slice_get_within}
use Rattle.mo_types.specs.RelocationRules.{least}
use Rattle.mo_types.specs.Rows.{when}
use Rattle.reloc_read.specs.Faults.{lesser}
use Rattle.reloc_read.proofs.CountLemmas.{any_counts, count_mapped, count_moved}
use Rattle.reloc_read.proofs.ScanLemmas.{none_in_range}
use Rattle.unwind_read.specs.declared.overlaps.Bound.{Bound}
use Rattle.unwind_read.specs.declared.spans.Span.{Span}
use Rattle.unwind_read.specs.Overlaps.{AreBounds, IsRising, IsSpan, RiseTo, begin_of, end_of, is_before, overlap, overlap_at, overlap_faults, overlaps_another}
use Rattle.unwind_read.proofs.LeastLemmas.{least_more}

-- the order of places, as facts

abbrev Before : Bound → Bound → Type 0
Before a b = (a.section < b.section) ⊎ ((a.section ≡ b.section) × (a.offset < b.offset))

abbrev NotBefore : Bound → Bound → Type 0
NotBefore a b = (b.section < a.section) ⊎ ((a.section ≡ b.section) × (b.offset ≤ a.offset))

before_true : (a b : Bound) → Before a b → is_before a b ≡ true
before_true a b (inl less) = or_left _ _ (lt-ltb a.section b.section less)
before_true a b (inr same) = or_right (ltb a.section b.section) _ (and_from _ _ (eq-eqb a.section b.section same.0) (lt-ltb a.offset b.offset same.1))

before_false : (a b : Bound) → NotBefore a b → is_before a b ≡ false
before_false a b (inl more) = or_from _ _ (le-ltb a.section b.section (omega arith)) (and_left _ _ (ne_eqb a.section b.section (λ e. omega arith)))
before_false a b (inr same) = let is : a.section ≡ b.section = same.0 in or_from _ _ (le-ltb a.section b.section (omega arith)) (and_right _ _ (le-ltb a.offset b.offset same.1))

not_before : (a b : Bound) → is_before a b ≡ false → NotBefore a b
not_before a b e =
    let parts = or_parts _ _ e in
    let low : b.section ≤ a.section = ltb-false a.section b.section parts.0 in
    elim (cases_order a.section b.section) [
      | inl same ↦ inr (
        same,
        elim (cases_lt a.offset b.offset) [
          | inl less ↦ absurd (false≢true (sym parts.1 ∙ and_from _ _ (eq-eqb a.section b.section same) (lt-ltb a.offset b.offset less)))
          | inr past ↦ past
        ],
      )
      | inr (inl less) ↦ absurd (omega arith)
      | inr (inr more) ↦ inl more
    ]

-- ranges that rise

pub rise_from_1 : (spans : List Span) → RiseTo spans 1
rise_from_1 spans = record { next = λ k d below within. absurd (omega arith) }

ends_before : (spans : List Span) (i n : ℕ) (d : Span) → All IsSpan spans → ((k : ℕ) (d : Span) → k + 1 < length spans → is_before (begin_of (get_or spans (k + 1) d)) (end_of (get_or spans k d)) ≡ false) → i + 1 + n < length spans → NotBefore (begin_of (get_or spans (i + 1 + n) d)) (end_of (get_or spans i d))
ends_before spans i zero d all next within =
    let e : i + 1 + zero ≡ i + 1 = omega arith in
    subst (λ (k : ℕ). NotBefore (begin_of (get_or spans k d)) (end_of (get_or spans i d))) (sym e) (not_before _ _ (next i d (omega arith)))
ends_before spans i (suc n) d all next within =
    let e : i + 1 + suc n ≡ i + 1 + n + 1 = omega arith in
    let some : (get_or spans (i + 1 + n) d).from < (get_or spans (i + 1 + n) d).to = (all (i + 1 + n) d (omega arith)).some in
    let far : NotBefore (begin_of (get_or spans (i + 1 + n) d)) (end_of (get_or spans i d)) = ends_before spans i n d all next (omega arith) in
    let near : NotBefore (begin_of (get_or spans (i + 1 + n + 1) d)) (end_of (get_or spans (i + 1 + n) d)) = not_before _ _ (next (i + 1 + n) d (omega arith)) in
    subst (λ (k : ℕ). NotBefore (begin_of (get_or spans k d)) (end_of (get_or spans i d))) (sym e) (joined (get_or spans i d) (get_or spans (i + 1 + n) d) (get_or spans (i + 1 + n + 1) d) some far near)
  where
    joined : (x y z : Span) → y.from < y.to → NotBefore (begin_of y) (end_of x) → NotBefore (begin_of z) (end_of y) → NotBefore (begin_of z) (end_of x)
    joined x y z some (inl a) (inl b) = inl (omega arith)
    joined x y z some (inl a) (inr b) = let same : z.section ≡ y.section = b.0 in inl (omega arith)
    joined x y z some (inr a) (inl b) = let same : y.section ≡ x.section = a.0 in inl (omega arith)
    joined x y z some (inr a) (inr b) =
        let first : y.section ≡ x.section = a.0 in
        let second : z.section ≡ y.section = b.0 in
        let low : x.to ≤ y.from = a.1 in
        let high : y.to ≤ z.from = b.1 in
        inr (second ∙ first, omega arith)

apart_spans : (a b : Span) → NotBefore (begin_of b) (end_of a) → overlap a b ≡ false
apart_spans a b (inl more) = and_left _ _ (and_left _ _ (ne_eqb a.section b.section (λ e. omega arith)))
apart_spans a b (inr same) = and_right _ _ (le-ltb b.from a.to same.1)

overlap_flips : (a b : Span) → overlap a b ≡ overlap b a
overlap_flips a b = flips (eqb a.section b.section) (eqb b.section a.section) (ltb a.from b.to) (ltb b.from a.to) (eqb_flips a.section b.section)
  where
    flips : (p q x y : Bool) → p ≡ q → ((p && x) && y) ≡ ((q && y) && x)
    flips true q true true e = rw (← e) refl
    flips true q true false e = rw (← e) refl
    flips true q false true e = rw (← e) refl
    flips true q false false e = rw (← e) refl
    flips false q x y e = rw (← e) refl

    eqb_flips : (m n : ℕ) → eqb m n ≡ eqb n m
    eqb_flips m n = elim (cases_order m n) [
      | inl same ↦ eq-eqb m n same ∙ sym (eq-eqb n m (sym same))
      | inr (inl less) ↦ ne_eqb m n (λ e. absurd (omega arith)) ∙ sym (ne_eqb n m (λ e. absurd (omega arith)))
      | inr (inr more) ↦ ne_eqb m n (λ e. absurd (omega arith)) ∙ sym (ne_eqb n m (λ e. absurd (omega arith)))
    ]

tested : (span : Span) (o : Option Span) → ((other : Span) → o ≡ Some other → overlap span other ≡ false) → option_map_or (overlap span) o false ≡ false
tested span None none = refl
tested span (Some other) none = none other refl

not_itself : (same other : Bool) → (same ≡ false → other ≡ false) → (not same && other) ≡ false
not_itself true other none = refl
not_itself false other none = none refl

none_at : (spans : List Span) (at : ℕ) → ((i j : ℕ) (d : Span) → i < j → j < length spans → overlap (get_or spans i d) (get_or spans j d) ≡ false) → overlap_at spans at ≡ None
none_at spans at apart = chosen (slice_get spans at) refl
  where
    others : (span : Span) → slice_get spans at ≡ Some span → overlaps_another spans at span ≡ false
    others span here = none_in_range (λ other. not (eqb other at) && option_map_or (overlap span) (slice_get spans other) false) 0 (length spans) (λ k low high.
        not_itself (eqb k at) (option_map_or (overlap span) (slice_get spans k) false) (λ differ. tested span (slice_get spans k) (λ other there.
        let own : get_or spans at span ≡ span = get_or_from_slice_get spans at span span here in
        let its : get_or spans k span ≡ other = get_or_from_slice_get spans k other span there in
        let inside : at < length spans = slice_get_within spans at span here in
        elim (cases_order at k) [
          | inl same ↦ absurd (eqb-false k at differ (sym same))
          | inr (inl less) ↦ subst (λ (s : Span). overlap s other ≡ false) own (subst (λ (s : Span). overlap (get_or spans at span) s ≡ false) its (apart at k span less (omega arith)))
          | inr (inr more) ↦ overlap_flips span other ∙ subst (λ (s : Span). overlap other s ≡ false) own (subst (λ (s : Span). overlap s (get_or spans at span) ≡ false) its (apart k at span more inside))
        ])))

    chosen : (o : Option Span) → slice_get spans at ≡ o → option_and_then (λ span. when (overlaps_another spans at span) span.place) o ≡ None
    chosen None e = refl
    chosen (Some span) e = rw (others span e) refl

pub none_mapped : (h : ℕ → Option ℕ) (a n : ℕ) → ((k : ℕ) → h k ≡ None) → filter_map h (range_with_len a n) ≡ []
none_mapped h a zero none = refl
none_mapped h a (suc n) none = rw (none a) (none_mapped h (a + 1) n none)

pub rise_all : (spans : List Span) (at : ℕ) → All IsSpan spans → RiseTo spans at → length spans ≤ at → None ≡ least (overlap_faults spans)
unfolding overlap_faults
rise_all spans at all rise past =
    let apart : (i j : ℕ) (d : Span) → i < j → j < length spans → overlap (get_or spans i d) (get_or spans j d) ≡ false =
    λ i j d less within.
    let e : i + 1 + (j - (i + 1)) ≡ j = omega arith in
    apart_spans (get_or spans i d) (get_or spans j d) (subst (λ (k : ℕ). NotBefore (begin_of (get_or spans k d)) (end_of (get_or spans i d))) e
    (ends_before spans i (j - (i + 1)) d all (λ k x inside. rise.next k x (omega arith) inside) (omega arith))) in
    ap least (sym (none_mapped (overlap_at spans) 0 (length spans) (λ k. none_at spans k apart)))

pub rise_more : (spans : List Span) (at : ℕ) (span last : Span) → RiseTo spans at → 1 ≤ at → at < length spans → span ≡ get_or spans at span → last ≡ get_or spans (at - 1) last → is_before (begin_of span) (end_of last) ≡ false → RiseTo spans (at + 1)
rise_more spans at span last rise low within is was e = record {
  next = λ k d below inside. elim (cases_lt (k + 1) at) [
    | inl less ↦ rise.next k d less inside
    | inr here ↦
        let same : at ≡ k + 1 = omega arith in
        let before : at - 1 ≡ k = omega arith in
        let own : span ≡ get_or spans (k + 1) d = subst (λ (j : ℕ). span ≡ get_or spans j d) same (read spans at span within is d) in
        let its : last ≡ get_or spans k d = subst (λ (j : ℕ). last ≡ get_or spans j d) before (read spans (at - 1) last (omega arith) was d) in
        subst (λ (s : Span). is_before (begin_of (get_or spans (k + 1) d)) (end_of s) ≡ false) its (subst (λ (s : Span). is_before (begin_of s) (end_of last) ≡ false) own e)
  ];
}
  where
    read : (xs : List Span) (i : ℕ) (x : Span) → i < length xs → x ≡ get_or xs i x → (d : Span) → x ≡ get_or xs i d
    read xs i x inside is d = get_or_read xs i x inside is d

pub ruleset rises = (rise_from_1, rise_all, rise_more)

-- of the ranges that begin before the end of one, all overlap it but those that end at its start or before

one_splits : (span other : Span) → span.from < span.to → other.from < other.to → cond (overlap span other) 1 0 + cond (not (is_before (begin_of span) (end_of other))) 1 0 ≡ cond (is_before (begin_of other) (end_of span)) 1 0
one_splits span other some its =
    elim (cases_order other.section span.section) [
      | inl same ↦ elim (cases_lt span.from other.to) [
        | inl over ↦ elim (cases_lt other.from span.to) [
          | inl under ↦
              let both : overlap span other ≡ true = and_from _ _ (and_from _ _ (eq-eqb span.section other.section (sym same)) (lt-ltb span.from other.to over)) (lt-ltb other.from span.to under) in
              rw (both, before_true (begin_of span) (end_of other) (inr (sym same, over)), before_true (begin_of other) (end_of span) (inr (same, under))) refl
          | inr above ↦
              let none : overlap span other ≡ false = and_right _ _ (le-ltb other.from span.to above) in
              rw (none, before_true (begin_of span) (end_of other) (inr (sym same, over)), before_false (begin_of other) (end_of span) (inr (same, above))) refl
        ]
        | inr ended ↦
            let none : overlap span other ≡ false = and_left _ _ (and_right _ _ (le-ltb span.from other.to ended)) in
            rw (none, before_false (begin_of span) (end_of other) (inr (sym same, ended)), before_true (begin_of other) (end_of span) (inr (same, omega arith))) refl
      ]
      | inr (inl less) ↦
          let none : overlap span other ≡ false = and_left _ _ (and_left _ _ (ne_eqb span.section other.section (λ e. absurd (omega arith)))) in
          rw (none, before_false (begin_of span) (end_of other) (inl less), before_true (begin_of other) (end_of span) (inl less)) refl
      | inr (inr more) ↦
          let none : overlap span other ≡ false = and_left _ _ (and_left _ _ (ne_eqb span.section other.section (λ e. absurd (omega arith)))) in
          rw (none, before_true (begin_of span) (end_of other) (inl more), before_false (begin_of other) (end_of span) (inl more)) refl
    ]

splits : (span : Span) (spans : List Span) → span.from < span.to → All IsSpan spans → count_by (overlap span) spans + count_by (λ other. not (is_before (begin_of span) (end_of other))) spans ≡ count_by (λ other. is_before (begin_of other) (end_of span)) spans
splits span [] some all = refl
splits span (other ∷ spans) some all =
    let over : count_by (overlap span) (other ∷ spans) ≡ cond (overlap span other) 1 0 + count_by (overlap span) spans = sum_by-cons (λ x. cond (overlap span x) 1 0) other spans in
    let ended : count_by (λ x. not (is_before (begin_of span) (end_of x))) (other ∷ spans) ≡ cond (not (is_before (begin_of span) (end_of other))) 1 0 + count_by (λ x. not (is_before (begin_of span) (end_of x))) spans = sum_by-cons (λ x. cond (not (is_before (begin_of span) (end_of x))) 1 0) other spans in
    let begun : count_by (λ x. is_before (begin_of x) (end_of span)) (other ∷ spans) ≡ cond (is_before (begin_of other) (end_of span)) 1 0 + count_by (λ x. is_before (begin_of x) (end_of span)) spans = sum_by-cons (λ x. cond (is_before (begin_of x) (end_of span)) 1 0) other spans in
    let one : cond (overlap span other) 1 0 + cond (not (is_before (begin_of span) (end_of other))) 1 0 ≡ cond (is_before (begin_of other) (end_of span)) 1 0 = one_splits span other some (all 0 other (omega arith)).some in
    let rest = splits span spans some (λ k d within. all (suc k) d (omega arith)) in
    joined _ _ _ _ _ _ _ _ _ over ended begun one rest
  where
    joined : (a b c p q r x y z : ℕ) → a ≡ p + x → b ≡ q + y → c ≡ r + z → p + q ≡ r → x + y ≡ z → a + b ≡ c
    joined a b c p q r x y z = omega arith

-- the ranges that pass, one of them aside

abbrev another : (ℕ → Option Span) → (Span → Bool) → ℕ → ℕ → Bool
another h test at other = not (eqb other at) && option_map_or test (h other) false

one_more : (test : Span → Bool) (o : Option Span) (spans : List Span) → count_by test (cons_option o spans) ≡ cond (option_map_or test o false) 1 0 + count_by test spans
one_more test None spans = omega arith
one_more test (Some span) spans = sum_by-cons (λ x. cond (test x) 1 0) span spans

after_it : (h : ℕ → Option Span) (test : Span → Bool) (at a n : ℕ) → at < a → count_by test (filter_map h (range_with_len a n)) ≡ count_by (another h test at) (range_with_len a n)
after_it h test at a zero after = refl
after_it h test at a (suc n) after =
    let differs : eqb a at ≡ false = ne_eqb a at (λ e. absurd (omega arith)) in
    let here : another h test at a ≡ option_map_or test (h a) false = ap (λ b. not b && option_map_or test (h a) false) differs in
    one_more test (h a) (filter_map h (range_with_len (a + 1) n))
    ∙ ap (λ k. cond (option_map_or test (h a) false) 1 0 + k) (after_it h test at (a + 1) n (omega arith))
    ∙ sym (sum_by-cons (λ x. cond (another h test at x) 1 0) a (range_with_len (a + 1) n) ∙ ap (λ b. cond b 1 0 + count_by (another h test at) (range_with_len (a + 1) n)) here)

around_it : (h : ℕ → Option Span) (test : Span → Bool) (at a n : ℕ) → a ≤ at → at < a + n → option_map_or test (h at) false ≡ true → count_by test (filter_map h (range_with_len a n)) ≡ count_by (another h test at) (range_with_len a n) + 1
around_it h test at a zero low high pass = absurd (omega arith)
around_it h test at a (suc n) low high pass =
    let all : count_by test (filter_map h (range_with_len a (suc n))) ≡ cond (option_map_or test (h a) false) 1 0 + count_by test (filter_map h (range_with_len (a + 1) n)) = one_more test (h a) (filter_map h (range_with_len (a + 1) n)) in
    let others : count_by (another h test at) (range_with_len a (suc n)) ≡ cond (another h test at a) 1 0 + count_by (another h test at) (range_with_len (a + 1) n) = sum_by-cons (λ x. cond (another h test at x) 1 0) a (range_with_len (a + 1) n) in
    elim (cases_lt a at) [
      | inl before ↦
          let differs : eqb a at ≡ false = ne_eqb a at (λ e. absurd (omega arith)) in
          let rest : count_by test (filter_map h (range_with_len (a + 1) n)) ≡ count_by (another h test at) (range_with_len (a + 1) n) + 1 = around_it h test at (a + 1) n (omega arith) (omega arith) pass in
          let here : cond (another h test at a) 1 0 ≡ cond (option_map_or test (h a) false) 1 0 = ap (λ b. cond (not b && option_map_or test (h a) false) 1 0) differs in
          passed _ _ _ _ _ _ all others here rest
      | inr not_before_it ↦
          let same : at ≡ a = omega arith in
          let itself : eqb a at ≡ true = eq-eqb a at (sym same) in
          let rest : count_by test (filter_map h (range_with_len (a + 1) n)) ≡ count_by (another h test at) (range_with_len (a + 1) n) = after_it h test at (a + 1) n (omega arith) in
          let here : cond (another h test at a) 1 0 ≡ 0 = ap (λ b. cond (not b && option_map_or test (h a) false) 1 0) itself in
          let its : cond (option_map_or test (h a) false) 1 0 ≡ 1 = ap (λ b. cond b 1 0) (subst (λ (k : ℕ). option_map_or test (h k) false ≡ true) same pass) in
          reached _ _ _ _ _ _ all others here its rest
    ]
  where
    passed : (all others p q x y : ℕ) → all ≡ p + x → others ≡ q + y → q ≡ p → x ≡ y + 1 → all ≡ others + 1
    passed all others p q x y = omega arith

    reached : (all others p q x y : ℕ) → all ≡ p + x → others ≡ q + y → q ≡ 0 → p ≡ 1 → x ≡ y → all ≡ others + 1
    reached all others p q x y = omega arith

all_got : (spans : List Span) (a n : ℕ) → a + n ≡ length spans → filter_map (slice_get spans) (range_with_len a n) ≡ drop a spans
all_got spans a zero e = sym (drop_all a spans (omega arith))
all_got spans a (suc n) e =
    let within : a < length spans = omega arith in
    let d : Span = element spans a within in
    ap (λ o. cons_option o (filter_map (slice_get spans) (range_with_len (a + 1) n))) (slice_get-get_or spans a d within)
    ∙ ap (λ xs. get_or spans a d ∷ xs) (all_got spans (a + 1) n (omega arith))
    ∙ sym (drop_more spans a d within)
  where
    element : (xs : List Span) (at : ℕ) → at < length xs → Span
    element [] at within = absurd (omega arith)
    element (x ∷ xs) zero within = x
    element (x ∷ xs) (suc at) within = element xs at (omega arith)

overlaps_itself : (span : Span) → span.from < span.to → overlap span span ≡ true
overlaps_itself span some = and_from _ _ (and_from _ _ (eq-eqb span.section span.section refl) (lt-ltb span.from span.to some)) (lt-ltb span.from span.to some)

-- itself and the others that overlap a range
others_counted : (spans : List Span) (at : ℕ) (own : Span) → IsSpan own → slice_get spans at ≡ Some own → count_by (overlap own) spans ≡ count_by (another (slice_get spans) (overlap own) at) (range_with_len 0 (length spans)) + 1
others_counted spans at own is there =
    let within : at < length spans = slice_get_within spans at own there in
    let itself : option_map_or (overlap own) (slice_get spans at) false ≡ true = ap (λ o. option_map_or (overlap own) o false) there ∙ overlaps_itself own is.some in
    ap (count_by (overlap own)) (sym (all_got spans 0 (length spans) (omega arith)))
    ∙ around_it (slice_get spans) (overlap own) at 0 (length spans) (omega arith) (omega arith) itself

-- a range overlaps another one where two ranges overlap it, itself among them
pub by_count : (spans : List Span) (at : ℕ) (own : Span) → IsSpan own → slice_get spans at ≡ Some own → overlaps_another spans at own ≡ leb 2 (count_by (overlap own) spans)
by_count spans at own is there =
    any_counts (another (slice_get spans) (overlap own) at) (range_with_len 0 (length spans))
    ∙ one_aside (count_by (another (slice_get spans) (overlap own) at) (range_with_len 0 (length spans))) (count_by (overlap own) spans) (others_counted spans at own is there)
  where
    one_aside : (others all : ℕ) → all ≡ others + 1 → leb 1 others ≡ leb 2 all
    one_aside others all e =
        elim (cases_lt 0 others) [
          | inl more ↦ le-leb 1 others (omega arith) ∙ sym (le-leb 2 all (omega arith))
          | inr none ↦ lt-leb 1 others (omega arith) ∙ sym (lt-leb 2 all (omega arith))
        ]

same_span : (x y : Span) → Some x ≡ Some y → x ≡ y
same_span x y e = cc

pub more_than_itself : (spans : List Span) (at : ℕ) (begins ends : List Bound) (own : Span) (begun ended spare : ℕ) → All IsSpan spans → AreBounds spans begins ends → at < length spans → own ≡ get_or spans at own → begun ≡ count_by (λ other. is_before other (end_of own)) begins → ended ≡ count_by (λ other. not (is_before (begin_of own) other)) ends → spare ≡ begun - ended → (span : Span) → slice_get spans at ≡ Some span → ltb 1 spare ≡ overlaps_another spans at span
more_than_itself spans at begins ends own begun ended spare all bounds within is begins_is ends_is rest span here =
    let same : own ≡ span = is ∙ get_or_from_slice_get spans at span own here in
    subst (λ (s : Span). ltb 1 spare ≡ overlaps_another spans at s) same (counted (here ∙ ap Some (sym same)))
  where
    taken : (over others ended begun spare : ℕ) {stopped started : ℕ} → over ≡ others + 1 → ended ≡ stopped → over + stopped ≡ started → begun ≡ started → spare ≡ begun - ended → spare ≡ others + 1
    taken over others ended begun spare = omega arith

    some_left : (others spare : ℕ) → spare ≡ others + 1 → ltb 1 spare ≡ leb 1 others
    some_left others spare e =
        elim (cases_lt 0 others) [
          | inl more ↦ lt-ltb 1 spare (omega arith) ∙ sym (le-leb 1 others (omega arith))
          | inr none ↦ le-ltb 1 spare (omega arith) ∙ sym (lt-leb 1 others (omega arith))
        ]

    counted : slice_get spans at ≡ Some own → ltb 1 spare ≡ overlaps_another spans at own
    counted there =
        let some : own.from < own.to = subst (λ (s : Span). s.from < s.to) (sym is) (all at own within).some in
        let others : ℕ = count_by (another (slice_get spans) (overlap own) at) (range_with_len 0 (length spans)) in
        let around : count_by (overlap own) spans ≡ others + 1 = others_counted spans at own (record { some = some }) there in
        let begun_is : begun ≡ count_by (λ other. is_before (begin_of other) (end_of own)) spans =
        begins_is ∙ count_moved (λ other. is_before other (end_of own)) (map begin_of spans) begins bounds.from.moved ∙ count_mapped (λ other. is_before other (end_of own)) begin_of spans in
        let ended_is : ended ≡ count_by (λ other. not (is_before (begin_of own) (end_of other))) spans =
        ends_is ∙ count_moved (λ other. not (is_before (begin_of own) other)) (map end_of spans) ends bounds.to.moved ∙ count_mapped (λ other. not (is_before (begin_of own) other)) end_of spans in
        let left : spare ≡ others + 1 = taken _ _ _ _ _ around ended_is (splits own spans some all) begun_is rest in
        some_left others spare left ∙ sym (any_counts (another (slice_get spans) (overlap own) at) (range_with_len 0 (length spans)))

pub ruleset overlaps = (more_than_itself)

pub least_so_far : (spans : List Span) (at : ℕ) (fault here more : Option ℕ) → fault ≡ least (filter_map (overlap_at spans) (range_with_len 0 at)) → here ≡ overlap_at spans at → more ≡ lesser fault here → more ≡ least (filter_map (overlap_at spans) (range_with_len 0 (at + 1)))
least_so_far spans at fault here more is e joined = least_more (overlap_at spans) at fault more here is e joined

pub least_all : (spans : List Span) (at : ℕ) (fault : Option ℕ) → fault ≡ least (filter_map (overlap_at spans) (range_with_len 0 at)) → at ≡ length spans → fault ≡ least (overlap_faults spans)
unfolding overlap_faults
least_all spans at fault is last = is ∙ ap (λ n. least (filter_map (overlap_at spans) (range_with_len 0 n))) last

pub ruleset sweeps = (least_so_far, least_all)

-- places in order

before_is : (a b : Bound) → is_before a b ≡ true → Before a b
before_is a b e =
    elim (or_cases _ _ e) [
      | inl less ↦ inl (ltb-true a.section b.section less)
      | inr same ↦ let parts = and_parts _ _ same in inr (eqb-true a.section b.section parts.0, ltb-true a.offset b.offset parts.1)
    ]

before_later : (x y b : Bound) → NotBefore y x → Before y b → Before x b
before_later x y b (inl less) (inl more) = inl (omega arith)
before_later x y b (inl less) (inr same) = let is : y.section ≡ b.section = same.0 in inl (omega arith)
before_later x y b (inr equal) (inl more) = let is : y.section ≡ x.section = equal.0 in inl (omega arith)
before_later x y b (inr equal) (inr same) =
    let low : x.offset ≤ y.offset = equal.1 in
    let high : y.offset < b.offset = same.1 in
    inr (sym equal.0 ∙ same.0, omega arith)

not_before_later : (x y b : Bound) → NotBefore y x → NotBefore b y → NotBefore b x
not_before_later x y b (inl less) (inl more) = inl (omega arith)
not_before_later x y b (inl less) (inr same) = let is : b.section ≡ y.section = same.0 in inl (omega arith)
not_before_later x y b (inr equal) (inl more) = let is : y.section ≡ x.section = equal.0 in inl (omega arith)
not_before_later x y b (inr equal) (inr same) =
    let low : x.offset ≤ y.offset = equal.1 in
    let high : y.offset ≤ b.offset = same.1 in
    inr (same.0 ∙ equal.0, omega arith)

pub parted_before : (bounds : List Bound) (bound : Bound) → IsRising bounds → IsPartitionedBy (λ other. is_before other bound) bounds
parted_before bounds bound rising i j d less within pass =
    elim (cases_lt i j) [
      | inl below ↦ before_true (get_or bounds i d) bound (before_later (get_or bounds i d) (get_or bounds j d) bound (not_before _ _ (rising.rise i j d below within)) (before_is _ _ pass))
      | inr above ↦ let same : j ≡ i = omega arith in subst (λ (k : ℕ). is_before (get_or bounds k d) bound ≡ true) same pass
    ]

pub parted_up_to : (bounds : List Bound) (bound : Bound) → IsRising bounds → IsPartitionedBy (λ other. not (is_before bound other)) bounds
parted_up_to bounds bound rising i j d less within pass =
    elim (cases_lt i j) [
      | inl below ↦ not_from_false _ (before_false bound (get_or bounds i d) (not_before_later (get_or bounds i d) (get_or bounds j d) bound (not_before _ _ (rising.rise i j d below within)) (not_before _ _ (not-true _ pass))))
      | inr above ↦ let same : j ≡ i = omega arith in subst (λ (k : ℕ). not (is_before bound (get_or bounds k d)) ≡ true) same pass
    ]

abbrev pub compare_bounds : Bound → Bound → Ordering
compare_bounds a b = ordering_then (nat_cmp a.section b.section) (nat_cmp a.offset b.offset)

compare_total : IsTotalOrder compare_bounds
compare_total = then_total (on_total (λ (b : Bound). b.section) nat_cmp_total) (on_total (λ (b : Bound). b.offset) nat_cmp_total)

same_test : (p q r t : Bound → Bound → Bool) (a b : Bound) → (p a b || (q a b && r a b)) ≡ is_lt (ordering_then (cond (p a b) Less (cond (q a b) Equal Greater)) (cond (r a b) Less (cond (t a b) Equal Greater)))
same_test p q r t a b = by_cases (p a b) (q a b) (r a b) (t a b)
  where
    by_cases : (p q r t : Bool) → (p || (q && r)) ≡ is_lt (ordering_then (cond p Less (cond q Equal Greater)) (cond r Less (cond t Equal Greater)))
    by_cases true q r t = refl
    by_cases false true true t = refl
    by_cases false true false true = refl
    by_cases false true false false = refl
    by_cases false false r t = refl

before_is_less : (a b : Bound) → is_before a b ≡ is_lt (compare_bounds a b)
before_is_less a b = same_test (λ a b. ltb a.section b.section) (λ a b. eqb a.section b.section) (λ a b. ltb a.offset b.offset) (λ a b. eqb a.offset b.offset) a b

pub rising_from_sort : (bounds : List Bound) → IsSortedBy (λ x y. is_lt (compare_bounds x y)) bounds → IsRising bounds
rising_from_sort bounds sorted = record {
  rise = λ i j d less within.
      before_is_less (get_or bounds j d) (get_or bounds i d)
      ∙ sorted_far (λ x y. is_lt (compare_bounds x y)) (ranks_by compare_total (λ (b : Bound). b)) bounds sorted i j d (omega arith) within;
}
