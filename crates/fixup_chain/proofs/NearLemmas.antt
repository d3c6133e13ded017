-- What is told of pointers from those beside them is so of all of them.
use Rattle.std.proofs.Common.{◌≡◌, ℕ, zero, suc, ◌+◌, ◌-◌, ◌/◌, ◌%◌, ◌<◌, ◌≤◌, ◌==◌, nat_lt, nat_le, Bool, true, false, List, [], ◌∷◌, length, get_or, slice_get, Option, Some, None, refl, sym, ap, subst, ◌∙◌, inl, inr, arith}
use Rattle.std.specs.List.Sorted.{IsPartitionPoint}
use Rattle.std.specs.Option.{option_map}
use Rattle.std.proofs.lemmas.Bool.{lt-ltb, le-leb, ltb-true, leb-true, eqb-true, eq-eqb, cases_lt}
use Rattle.sect_place.specs.declared.layout.Segment.{Segment}
use Rattle.fixup_chain.specs.Encoded.{AreApart}
use Rattle.fixup_chain.specs.Places.{PAGE, page_of, addresses_of, steps_to_next, page_start, pages_of}
use Rattle.fixup_chain.specs.inner.Near.{IsThere, address_at, last_address, pages_by, start_by, steps_by}
use Rattle.fixup_chain.specs.declared.chains.Fixup.{Fixup}
use Rattle.image_format.specs.declared.fixup_chains.TheConstants.{DYLD_CHAINED_PTR_START_NONE}
use Rattle.fixup_chain.proofs.PlaceLemmas.{in_turn, not_below, pages_missing, pages_there, start_missing, start_there, steps_missing, steps_there}

-- ---- the address at an index

some_is : (xs : List Fixup) (k a : ℕ) → option_map (λ (f : Fixup). f.address) (slice_get xs k) ≡ Some a → (k < length xs) × ((d : Fixup) → (get_or xs k d).address ≡ a)
some_is [] k a e = cc
some_is (x ∷ xs) zero a e = (omega arith, λ d. (let f : Some x.address ≡ Some a = e in cc))
some_is (x ∷ xs) (suc k) a e = let rest = some_is xs k a e in (omega (arith, rest.0), rest.1)

none_past : (xs : List Fixup) (k : ℕ) → option_map (λ (f : Fixup). f.address) (slice_get xs k) ≡ None → length xs ≤ k
none_past [] k e = omega arith
none_past (x ∷ xs) zero e = cc
none_past (x ∷ xs) (suc k) e = let rest : length xs ≤ k = none_past xs k e in omega (arith, rest)

first_of : (xs : List Fixup) → 0 < length xs → Fixup
first_of [] low = absurd (omega arith)
first_of (x ∷ xs) low = x

not_true : (b : Bool) → (b ≡ true → ⊥) → b ≡ false
not_true true never = absurd (never refl)
not_true false never = refl

-- ---- the next one

pub steps_are : (fixups : List Fixup) (at after address : ℕ) (next : Option ℕ) (result : ℕ) → AreApart fixups → IsThere fixups at address → after ≡ at + 1 → next ≡ address_at fixups after → result ≡ steps_by address next → result ≡ steps_to_next (addresses_of fixups) address
steps_are fixups at after address next result apart here behind n r = by next n r
  where
    d : Fixup
    d = first_of fixups (omega (arith, here.within))

    is : (get_or fixups at d).address ≡ address
    is = here.is d

    at_next : (o : Option ℕ) → o ≡ address_at fixups after → o ≡ address_at fixups (at + 1)
    at_next o e = e ∙ ap (address_at fixups) behind

    turned : (k : ℕ) → steps_to_next (addresses_of fixups) (get_or fixups at d).address ≡ k → k ≡ steps_to_next (addresses_of fixups) address
    turned k e = sym e ∙ ap (steps_to_next (addresses_of fixups)) is

    on_page : (to : ℕ) → (at + 1 < length fixups) → (get_or fixups (at + 1) d).address ≡ to → (same : Bool) → (page_of to == page_of address) ≡ same → result ≡ steps_by address (Some to) → result ≡ steps_to_next (addresses_of fixups) address
    on_page to within there true t q =
        let page : page_of to ≡ page_of address = eqb-true (page_of to) (page_of address) t in
        let far : (get_or fixups at d).address + 8 ≤ (get_or fixups (at + 1) d).address = in_turn fixups at (at + 1) d apart (omega arith) within in
        let steps = steps_there fixups at d apart within (ap page_of there ∙ page ∙ sym (ap page_of is)) in
        let value : ((get_or fixups (at + 1) d).address - (get_or fixups at d).address) / 4 ≡ (to % PAGE - address % PAGE) / 4 = omega (arith, far, there, is, page) in
        (rw t at q) ∙ sym value ∙ turned (((get_or fixups (at + 1) d).address - (get_or fixups at d).address) / 4) steps
    on_page to within there false t q =
        let other : page_of to ≡ page_of address → ⊥ = (λ e. let f : true ≡ false = sym (eq-eqb (page_of to) (page_of address) e) ∙ t in cc) in
        let steps = steps_missing fixups at d apart here.within (λ room e. other (sym (ap page_of there) ∙ e ∙ ap page_of is)) in
        (rw t at q) ∙ turned 0 steps

    by : (o : Option ℕ) → o ≡ address_at fixups after → result ≡ steps_by address o → result ≡ steps_to_next (addresses_of fixups) address
    by None e q =
        let past : length fixups ≤ at + 1 = none_past fixups (at + 1) (sym (at_next None e)) in
        q ∙ turned 0 (steps_missing fixups at d apart here.within (λ room e. omega (arith, room, past)))
    by (Some to) e q =
        let there = some_is fixups (at + 1) to (sym (at_next (Some to) e)) in
        on_page to there.0 (there.1 d) (page_of to == page_of address) refl q

pub ruleset stepping = (steps_are)

-- ---- the first one of a page

above_page : (page a b : ℕ) → (page_of a ≡ page → ⊥) → b ≡ a → nat_lt (page_of b) page ≡ false → page < page_of b
above_page page a b other same fails = elim (cases_lt page (page_of b)) [
  | inl less ↦ less
  | inr more ↦ elim (cases_lt (page_of b) page) [
    | inl under ↦ absurd (let clash : true ≡ false = sym (lt-ltb (page_of b) page under) ∙ fails in cc)
    | inr over ↦ absurd (other (let e : page_of b ≡ page = omega (arith, more, over) in sym (ap page_of same) ∙ e))
  ]
]

no_start : (page : ℕ) → page_start (addresses_of []) page ≡ DYLD_CHAINED_PTR_START_NONE
unfolding page_start addresses_of
no_start page = refl

no_pages : (segment : Segment) → pages_of (addresses_of []) segment ≡ 0
unfolding pages_of addresses_of
no_pages segment = refl

pub start_is : (fixups : List Fixup) (page before : ℕ) (first : Option ℕ) (result : ℕ) → AreApart fixups → IsPartitionPoint (λ (f : Fixup). nat_lt (page_of f.address) page ≡ true) (λ (f : Fixup). nat_lt (page_of f.address) page ≡ false) fixups before → first ≡ address_at fixups before → result ≡ start_by page first → result ≡ page_start (addresses_of fixups) page
start_is fixups page before first result apart parted f r = by first f r
  where
    low : (d : Fixup) (k : ℕ) → k < before → page_of (get_or fixups k d).address < page
    low d k less = ltb-true (page_of (get_or fixups k d).address) page (parted.0 k d (omega arith) less)

    on_page : (a : ℕ) → before < length fixups → ((d : Fixup) → (get_or fixups before d).address ≡ a) → (same : Bool) → (page_of a == page) ≡ same → result ≡ start_by page (Some a) → result ≡ page_start (addresses_of fixups) page
    on_page a within is true t q =
        let d = first_of fixups (omega (arith, within)) in
        let page_is : page_of a ≡ page = eqb-true (page_of a) page t in
        let start = start_there fixups page before d apart within (low d) (ap page_of (is d) ∙ page_is) in
        (rw t at q) ∙ ap (λ (n : ℕ). n % PAGE) (sym (is d)) ∙ sym start
    on_page a within is false t q =
        let d = first_of fixups (omega (arith, within)) in
        let other : page_of a ≡ page → ⊥ = (λ e. let f : true ≡ false = sym (eq-eqb (page_of a) page e) ∙ t in cc) in
        let fails : nat_lt (page_of (get_or fixups before d).address) page ≡ false = parted.1 before d (omega arith) within in
        let high : page < page_of (get_or fixups before d).address = above_page page a (get_or fixups before d).address other (is d) fails in
        (rw t at q) ∙ sym (start_missing fixups page before d apart (low d) (λ room. high))

    empty : length fixups ≤ before → (xs : List Fixup) → xs ≡ fixups → page_start (addresses_of fixups) page ≡ DYLD_CHAINED_PTR_START_NONE
    empty past [] is = subst (λ (ys : List Fixup). page_start (addresses_of ys) page ≡ DYLD_CHAINED_PTR_START_NONE) is (no_start page)
    empty past (x ∷ xs) is = start_missing fixups page before x apart (low x) (λ room. absurd (omega (arith, past, room)))

    by : (o : Option ℕ) → o ≡ address_at fixups before → result ≡ start_by page o → result ≡ page_start (addresses_of fixups) page
    by None e q =
        let past : length fixups ≤ before = none_past fixups before (sym e) in
        q ∙ sym (empty past fixups refl)
    by (Some a) e q =
        let there = some_is fixups before a (sym e) in
        on_page a there.0 there.1 (page_of a == page) refl q

pub ruleset starting = (start_is)

-- ---- the last one of a segment

pub pages_are : (fixups : List Fixup) (segment : Segment) (end count : ℕ) (last : Option ℕ) (result : ℕ) → AreApart fixups → end ≡ segment.address + segment.vmsize → IsPartitionPoint (λ (f : Fixup). nat_lt f.address end ≡ true) (λ (f : Fixup). nat_lt f.address end ≡ false) fixups count → count ≤ length fixups → last ≡ last_address fixups count → result ≡ pages_by segment.address last → result ≡ pages_of (addresses_of fixups) segment
pages_are fixups segment end count last result apart ends parted bound l r = by_count count refl
  where
    under : (d : Fixup) (k : ℕ) → k < count → (get_or fixups k d).address < end
    under d k less = ltb-true (get_or fixups k d).address end (parted.0 k d (omega arith) less)

    over : (d : Fixup) (k : ℕ) → count ≤ k → k < length fixups → end ≤ (get_or fixups k d).address
    over d k up within = elim (cases_lt (get_or fixups k d).address end) [
      | inl less ↦ absurd (let clash : true ≡ false = sym (lt-ltb (get_or fixups k d).address end less) ∙ parted.1 k d up within in cc)
      | inr more ↦ more
    ]

    none_there : (d : Fixup) → ((k : ℕ) → k < count → (get_or fixups k d).address < segment.address) → pages_of (addresses_of fixups) segment ≡ 0
    none_there d before = pages_missing fixups segment count d apart before (λ room. let high : end ≤ (get_or fixups count d).address = over d count (omega arith) room in omega (arith, high, ends))

    by_last : (k a : ℕ) → k + 1 ≡ count → k < length fixups → ((d : Fixup) → (get_or fixups k d).address ≡ a) → (inside : Bool) → nat_le segment.address a ≡ inside → result ≡ pages_by segment.address (Some a) → result ≡ pages_of (addresses_of fixups) segment
    by_last k a size within is true t q =
        let d = first_of fixups (omega (arith, within)) in
        let low : segment.address ≤ a = leb-true segment.address a t in
        let high : (get_or fixups k d).address < end = under d k (omega (arith, size)) in
        let same : (get_or fixups k d).address ≡ a = is d in
        let pages = pages_there fixups segment k d apart within (omega (arith, low, same)) (omega (arith, high, ends)) (λ room. let more : end ≤ (get_or fixups (k + 1) d).address = over d (k + 1) (omega (arith, size)) room in omega (arith, more, ends)) in
        (rw t at q) ∙ ap (λ (n : ℕ). (n - segment.address) / PAGE + 1) (sym same) ∙ sym pages
    by_last k a size within is false t q =
        let d = first_of fixups (omega (arith, within)) in
        let same : (get_or fixups k d).address ≡ a = is d in
        let low : a < segment.address = (elim (cases_lt a segment.address) [
          | inl less ↦ less
          | inr more ↦ absurd (let clash : true ≡ false = sym (le-leb segment.address a more) ∙ t in cc)
        ]) in
        (rw t at q) ∙ sym (none_there d (λ j less. let up : (get_or fixups j d).address ≤ (get_or fixups k d).address = not_below fixups j k d apart (omega (arith, less, size)) within in omega (arith, up, same, low)))

    by_some : (k : ℕ) → k + 1 ≡ count → (o : Option ℕ) → o ≡ address_at fixups k → result ≡ pages_by segment.address o → result ≡ pages_of (addresses_of fixups) segment
    by_some k size None e q = let past : length fixups ≤ k = none_past fixups k (sym e) in absurd (omega (arith, past, size, bound))
    by_some k size (Some a) e q = let there = some_is fixups k a (sym e) in by_last k a size there.0 there.1 (nat_le segment.address a) refl q

    by_zero : (xs : List Fixup) → xs ≡ fixups → count ≡ 0 → pages_of (addresses_of fixups) segment ≡ 0
    by_zero [] is none = subst (λ (ys : List Fixup). pages_of (addresses_of ys) segment ≡ 0) is (no_pages segment)
    by_zero (x ∷ xs) is none = none_there x (λ k less. absurd (omega (arith, less, none)))

    by_count : (n : ℕ) → n ≡ count → result ≡ pages_of (addresses_of fixups) segment
    by_count zero e =
        let none : count ≡ 0 = sym e in
        let missing : last ≡ None = l ∙ ap (last_address fixups) none in
        r ∙ ap (pages_by segment.address) missing ∙ sym (by_zero fixups refl none)
    by_count (suc k) e =
        let size : k + 1 ≡ count = omega (arith, e) in
        let fails : (count == 0) ≡ false = not_true (count == 0) (λ t. let z : count ≡ 0 = eqb-true count 0 t in omega (arith, z, size)) in
        let before : count - 1 ≡ k = omega (arith, size) in
        let here : last ≡ address_at fixups k = l ∙ (rw fails refl) ∙ ap (address_at fixups) before in
        by_some k size last here r

pub ruleset counting = (pages_are)
