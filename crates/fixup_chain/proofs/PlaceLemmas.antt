-- Pointers that stand apart: the next one of a page, the first one of a page, and the last one of a segment.
use Rattle.std.proofs.Common.{◌≡◌, ◌≢◌, ◌⊎◌, ℕ, ◌+◌, ◌-◌, ◌/◌, ◌%◌, ◌<◌, ◌≤◌, ◌==◌, ◌&&◌, nat_lt, nat_le, min, Bool, true, false, List, [], ◌∷◌, length, get_or, map, Option, Some, None, refl, sym, ap, subst, ◌∙◌, inl, inr, arith}
use Rattle.std.specs.List.{filter}
use Rattle.std.specs.Option.{option_map_or}
use Rattle.std.specs.List.Sorted.{IsNonDecreasingBy}
use Rattle.std.proofs.lemmas.Bool.{lt-ltb, le-leb, ltb-true, eqb-true, eq-eqb, leb-true, cases_lt}
use Rattle.std.proofs.lemmas.List.{get_or_default}
use Rattle.list_lemmas.proofs.Members.{In, in_from_Contains, Contains_from_in, in_filter, from_filter, in_map, from_map}
use Rattle.sect_place.specs.declared.layout.Segment.{Segment}
use Rattle.fixup_chain.specs.Encoded.{AreApart}
use Rattle.fixup_chain.specs.Places.{PAGE, page_of, addresses_of, least, greatest, is_after, next_after, steps_to_next, page_start, is_in, page_in, pages_of}
use Rattle.fixup_chain.specs.declared.chains.Fixup.{Fixup}
use Rattle.image_format.specs.declared.fixup_chains.TheConstants.{DYLD_CHAINED_PTR_START_NONE}

-- ---- the least of some numbers, and the greatest

pub record IsLeast (ns : List ℕ) (k : ℕ) : Type 0 where
  pub member : In k ns
  pub low : (n : ℕ) → In n ns → k ≤ n

min_cases : (n r : ℕ) → (min n r ≡ n) ⊎ (min n r ≡ r)
min_cases n r = elim (cases_lt n r) [
  | inl less ↦ inl (omega (arith, less))
  | inr more ↦ inr (omega (arith, more))
]

pub none_is : (ns : List ℕ) → least ns ≡ None → (n : ℕ) → In n ns → ⊥
none_is [] e n h = absurd h
none_is (m ∷ ns) e n h = cc

pub least_some : (ns : List ℕ) (k : ℕ) → least ns ≡ Some k → IsLeast ns k
least_some [] k e = cc
least_some (n ∷ ns) k e = by (least ns) refl (λ r is. least_some ns r is)
  where
    with_none : least ns ≡ None → IsLeast (n ∷ ns) k
    with_none is =
        let same : n ≡ k = (let whole : Some (option_map_or (min n) (least ns) n) ≡ Some k = e in let part : option_map_or (min n) (least ns) n ≡ n = rw is refl in cc) in
        record {
          member = inl same;
          low = λ m h. elim h [
            | inl here ↦ omega (arith, here, same)
            | inr later ↦ absurd (none_is ns is m later)
          ];
        }

    with_some : (r : ℕ) → least ns ≡ Some r → IsLeast ns r → IsLeast (n ∷ ns) k
    with_some r is rest =
        let same : min n r ≡ k = (let whole : Some (option_map_or (min n) (least ns) n) ≡ Some k = e in let part : option_map_or (min n) (least ns) n ≡ min n r = rw is refl in cc) in
        record {
          member = elim (min_cases n r) [
            | inl first ↦ inl (sym first ∙ same)
            | inr second ↦ inr (subst (λ (m : ℕ). In m ns) (sym second ∙ same) rest.member)
          ];
          low = λ m h. elim h [
            | inl here ↦ omega (arith, here, same)
            | inr later ↦ omega (arith, same, rest.low m later)
          ];
        }

    by : (o : Option ℕ) → least ns ≡ o → ((r : ℕ) → least ns ≡ Some r → IsLeast ns r) → IsLeast (n ∷ ns) k
    by None is rest = with_none is
    by (Some r) is rest = with_some r is (rest r is)

pub least_is : (ns : List ℕ) (m : ℕ) → In m ns → ((n : ℕ) → In n ns → m ≤ n) → least ns ≡ Some m
least_is ns m h low = by (least ns) refl
  where
    by : (o : Option ℕ) → least ns ≡ o → least ns ≡ Some m
    by None is = absurd (none_is ns is m h)
    by (Some k) is =
        let one : IsLeast ns k = least_some ns k is in
        let below : k ≤ m = one.low m h in
        let above : m ≤ k = low k one.member in
        let same : k ≡ m = omega arith in
        is ∙ ap (λ (x : ℕ). Some x) same

pub least_none : (ns : List ℕ) → ((n : ℕ) → In n ns → ⊥) → least ns ≡ None
least_none [] none = refl
least_none (n ∷ ns) none = absurd (none n (inl refl))

pub greatest_is : (ns : List ℕ) (m : ℕ) → In m ns → ((n : ℕ) → In n ns → n ≤ m) → greatest ns ≡ m
greatest_is [] m h high = absurd h
greatest_is (n ∷ ns) m h high = elim h [
  | inl here ↦ (let others : greatest ns ≤ m = all_below ns m (λ k there. high k (inr there)) in omega (arith, here, others))
  | inr later ↦ (let rest : greatest ns ≡ m = greatest_is ns m later (λ k there. high k (inr there)) in let first : n ≤ m = high n (inl refl) in omega (arith, rest, first))
]
  where
    all_below : (ks : List ℕ) (m : ℕ) → ((k : ℕ) → In k ks → k ≤ m) → greatest ks ≤ m
    all_below [] m low = omega arith
    all_below (k ∷ ks) m low = let rest : greatest ks ≤ m = all_below ks m (λ x there. low x (inr there)) in let first : k ≤ m = low k (inl refl) in omega (arith, rest, first)

pub greatest_none : (ns : List ℕ) → ((n : ℕ) → In n ns → ⊥) → greatest ns ≡ 0
greatest_none [] none = refl
greatest_none (n ∷ ns) none = absurd (none n (inl refl))

-- ---- tests

both : (a b : Bool) → (a && b) ≡ true → (a ≡ true) × (b ≡ true)
both true true e = (refl, refl)
both true false e = cc
both false b e = cc

pub after_true : (a n : ℕ) → is_after a n ≡ true → (a < n) × (page_of n ≡ page_of a)
after_true a n e = let p = both (nat_lt a n) (page_of n == page_of a) e in (ltb-true a n p.0, eqb-true (page_of n) (page_of a) p.1)

pub true_after : (a n : ℕ) → a < n → page_of n ≡ page_of a → is_after a n ≡ true
true_after a n low same = rw (lt-ltb a n low, eq-eqb (page_of n) (page_of a) same) refl

-- ---- the addresses of pointers that stand apart

-- an address and the index of its pointer
pub record IsAt (fixups : List Fixup) (n : ℕ) : Type 0 where
  pub k : ℕ
  pub within : k < length fixups
  pub is : (d : Fixup) → (get_or fixups k d).address ≡ n

pub at_index : (fixups : List Fixup) (n : ℕ) → In n (addresses_of fixups) → IsAt fixups n
unfolding addresses_of
at_index fixups n h =
    let found = from_map (λ (f : Fixup). f.address) fixups n h in
    let place = in_contains fixups found.0 found.1 in
    record {
      k = place.0;
      within = place.1;
      is = λ d. ap (λ (f : Fixup). f.address) (get_or_default fixups place.0 d found.0 place.1 ∙ place.2) ∙ found.2;
    }
  where
    in_contains : (xs : List Fixup) (x : Fixup) → In x xs → (k : ℕ) × (k < length xs) × (get_or xs k x ≡ x)
    in_contains xs x there = Contains_from_in xs x there

pub index_in : (fixups : List Fixup) (k : ℕ) (d : Fixup) → k < length fixups → In (get_or fixups k d).address (addresses_of fixups)
unfolding addresses_of
index_in fixups k d within =
    in_map (λ (f : Fixup). f.address) fixups (get_or fixups k d)
    (in_from_Contains fixups (get_or fixups k d) (k, within, get_or_default fixups k (get_or fixups k d) d within))

-- of two indices the one with the lesser address is the lesser
pub in_turn : (fixups : List Fixup) (i j : ℕ) (d : Fixup) → AreApart fixups → i < j → j < length fixups → (get_or fixups i d).address + 8 ≤ (get_or fixups j d).address
in_turn fixups i j d apart less within = apart i j d less within

pub not_below : (fixups : List Fixup) (i j : ℕ) (d : Fixup) → AreApart fixups → i ≤ j → j < length fixups → (get_or fixups i d).address ≤ (get_or fixups j d).address
not_below fixups i j d apart up within = elim (cases_lt i j) [
  | inl less ↦ (let far : (get_or fixups i d).address + 8 ≤ (get_or fixups j d).address = apart i j d less within in omega (arith, far))
  | inr more ↦ (let same : i ≡ j = omega (arith, up, more) in let e : (get_or fixups i d).address ≡ (get_or fixups j d).address = ap (λ (k : ℕ). (get_or fixups k d).address) same in omega (arith, e))
]

pub rising : (fixups : List Fixup) → AreApart fixups → IsNonDecreasingBy (λ (f : Fixup). f.address) fixups
rising fixups apart = λ i j d up within. not_below fixups i j d apart up within

pub pages_rise : (fixups : List Fixup) → AreApart fixups → IsNonDecreasingBy (λ (f : Fixup). f.address / PAGE) fixups
pages_rise fixups apart = λ i j d up within. let e : (get_or fixups i d).address ≤ (get_or fixups j d).address = not_below fixups i j d apart up within in omega (arith, e)

-- a greater address than that at an index stands behind the index
behind : (fixups : List Fixup) (i : ℕ) (d : Fixup) (n : ℕ) (h : IsAt fixups n) → AreApart fixups → i < length fixups → (get_or fixups i d).address < n → i < h.k
behind fixups i d n h apart within low = elim (cases_lt i h.k) [
  | inl less ↦ less
  | inr more ↦ (let up : (get_or fixups h.k d).address ≤ (get_or fixups i d).address = not_below fixups h.k i d apart (omega (arith, more)) within in let is : (get_or fixups h.k d).address ≡ n = h.is d in absurd (omega (arith, up, is, low)))
]

-- ---- the next pointer of a page

pub next_there : (fixups : List Fixup) (i : ℕ) (d : Fixup) → AreApart fixups → i + 1 < length fixups → page_of (get_or fixups (i + 1) d).address ≡ page_of (get_or fixups i d).address → next_after (addresses_of fixups) (get_or fixups i d).address ≡ Some (get_or fixups (i + 1) d).address
unfolding next_after
next_there fixups i d apart within same =
    let a = (get_or fixups i d).address in
    let b = (get_or fixups (i + 1) d).address in
    let far : a + 8 ≤ b = apart i (i + 1) d (omega arith) within in
    least_is (filter (is_after a) (addresses_of fixups)) b
    (in_filter (is_after a) (addresses_of fixups) b (index_in fixups (i + 1) d within) (true_after a b (omega (arith, far)) same))
    (λ n h.
    let found = from_filter (is_after a) (addresses_of fixups) n h in
    let place : IsAt fixups n = at_index fixups n found.0 in
    let past : i < place.k = behind fixups i d n place apart (omega (arith, within)) (after_true a n found.1).0 in
    let up : b ≤ (get_or fixups place.k d).address = not_below fixups (i + 1) place.k d apart (omega (arith, past)) place.within in
    subst (λ (m : ℕ). b ≤ m) (place.is d) up)

pub next_missing : (fixups : List Fixup) (i : ℕ) (d : Fixup) → AreApart fixups → i < length fixups → (i + 1 < length fixups → page_of (get_or fixups (i + 1) d).address ≢ page_of (get_or fixups i d).address) → next_after (addresses_of fixups) (get_or fixups i d).address ≡ None
unfolding next_after
next_missing fixups i d apart within other =
    let a = (get_or fixups i d).address in
    let b = (get_or fixups (i + 1) d).address in
    least_none (filter (is_after a) (addresses_of fixups))
    (λ n h.
    let found = from_filter (is_after a) (addresses_of fixups) n h in
    let place : IsAt fixups n = at_index fixups n found.0 in
    let after = after_true a n found.1 in
    let past : i < place.k = behind fixups i d n place apart within after.0 in
    let room : i + 1 < length fixups = omega (arith, past, place.within) in
    let far : a + 8 ≤ b = apart i (i + 1) d (omega arith) room in
    let up : b ≤ (get_or fixups place.k d).address = not_below fixups (i + 1) place.k d apart (omega (arith, past)) place.within in
    let is : (get_or fixups place.k d).address ≡ n = place.is d in
    let page : page_of n ≡ page_of a = after.1 in
    other room (omega (arith, far, up, is, page)))

steps_by : (addresses : List ℕ) (a b : ℕ) → next_after addresses a ≡ Some b → steps_to_next addresses a ≡ (b - a) / 4
unfolding steps_to_next
steps_by addresses a b e = rw e refl

steps_none : (addresses : List ℕ) (a : ℕ) → next_after addresses a ≡ None → steps_to_next addresses a ≡ 0
unfolding steps_to_next
steps_none addresses a e = rw e refl

pub steps_there : (fixups : List Fixup) (i : ℕ) (d : Fixup) → AreApart fixups → i + 1 < length fixups → page_of (get_or fixups (i + 1) d).address ≡ page_of (get_or fixups i d).address → steps_to_next (addresses_of fixups) (get_or fixups i d).address ≡ ((get_or fixups (i + 1) d).address - (get_or fixups i d).address) / 4
steps_there fixups i d apart within same = steps_by (addresses_of fixups) (get_or fixups i d).address (get_or fixups (i + 1) d).address (next_there fixups i d apart within same)

pub steps_missing : (fixups : List Fixup) (i : ℕ) (d : Fixup) → AreApart fixups → i < length fixups → (i + 1 < length fixups → page_of (get_or fixups (i + 1) d).address ≢ page_of (get_or fixups i d).address) → steps_to_next (addresses_of fixups) (get_or fixups i d).address ≡ 0
steps_missing fixups i d apart within other = steps_none (addresses_of fixups) (get_or fixups i d).address (next_missing fixups i d apart within other)

-- ---- the first pointer of a page

pub start_by : (addresses : List ℕ) (page : ℕ) (o : Option ℕ) → least (filter (λ address. page_of address == page) addresses) ≡ o → page_start addresses page ≡ option_map_or (λ first. first % PAGE) o DYLD_CHAINED_PTR_START_NONE
unfolding page_start
start_by addresses page o e = rw e refl

pub start_there : (fixups : List Fixup) (page first : ℕ) (d : Fixup) → AreApart fixups → first < length fixups → ((k : ℕ) → k < first → page_of (get_or fixups k d).address < page) → page_of (get_or fixups first d).address ≡ page → page_start (addresses_of fixups) page ≡ (get_or fixups first d).address % PAGE
start_there fixups page first d apart within before same =
    let a = (get_or fixups first d).address in
    start_by (addresses_of fixups) page (Some a)
    (least_is (filter (λ address. page_of address == page) (addresses_of fixups)) a
    (in_filter (λ (address : ℕ). page_of address == page) (addresses_of fixups) a (index_in fixups first d within) (eq-eqb (page_of a) page same))
    (λ n h.
    let found = from_filter (λ (address : ℕ). page_of address == page) (addresses_of fixups) n h in
    let place : IsAt fixups n = at_index fixups n found.0 in
    let on : page_of n ≡ page = eqb-true (page_of n) page found.1 in
    let is : (get_or fixups place.k d).address ≡ n = place.is d in
    elim (cases_lt place.k first) [
      | inl less ↦ (let low : page_of (get_or fixups place.k d).address < page = before place.k less in absurd (omega (arith, low, is, on)))
      | inr more ↦ subst (λ (m : ℕ). a ≤ m) is (not_below fixups first place.k d apart (omega (arith, more)) place.within)
    ]))

pub start_missing : (fixups : List Fixup) (page first : ℕ) (d : Fixup) → AreApart fixups → ((k : ℕ) → k < first → page_of (get_or fixups k d).address < page) → (first < length fixups → page < page_of (get_or fixups first d).address) → page_start (addresses_of fixups) page ≡ DYLD_CHAINED_PTR_START_NONE
start_missing fixups page first d apart before past =
    start_by (addresses_of fixups) page None
    (least_none (filter (λ address. page_of address == page) (addresses_of fixups))
    (λ n h.
    let found = from_filter (λ (address : ℕ). page_of address == page) (addresses_of fixups) n h in
    let place : IsAt fixups n = at_index fixups n found.0 in
    let on : page_of n ≡ page = eqb-true (page_of n) page found.1 in
    let is : (get_or fixups place.k d).address ≡ n = place.is d in
    elim (cases_lt place.k first) [
      | inl less ↦ (let low : page_of (get_or fixups place.k d).address < page = before place.k less in omega (arith, low, is, on))
      | inr more ↦
          (let up : (get_or fixups first d).address ≤ (get_or fixups place.k d).address = not_below fixups first place.k d apart (omega (arith, more)) place.within in
          let high : page < page_of (get_or fixups first d).address = past (omega (arith, more, place.within)) in
          omega (arith, up, high, is, on))
    ]))

-- ---- the last pointer of a segment

in_true : (segment : Segment) (n : ℕ) → is_in segment n ≡ true → (segment.address ≤ n) × (n < segment.address + segment.vmsize)
in_true segment n e =
    let p = both (nat_le segment.address n) (nat_lt (n - segment.address) segment.vmsize) e in
    let low : segment.address ≤ n = leb-true segment.address n p.0 in
    let high : n - segment.address < segment.vmsize = ltb-true (n - segment.address) segment.vmsize p.1 in
    (low, omega (arith, low, high))

true_in : (segment : Segment) (n : ℕ) → segment.address ≤ n → n < segment.address + segment.vmsize → is_in segment n ≡ true
true_in segment n low high =
    let near : n - segment.address < segment.vmsize = omega (arith, low, high) in
    rw (le-leb segment.address n low, lt-ltb (n - segment.address) segment.vmsize near) refl

pub pages_there : (fixups : List Fixup) (segment : Segment) (last : ℕ) (d : Fixup) → AreApart fixups → last < length fixups → segment.address ≤ (get_or fixups last d).address → (get_or fixups last d).address < segment.address + segment.vmsize → (last + 1 < length fixups → segment.address + segment.vmsize ≤ (get_or fixups (last + 1) d).address) → pages_of (addresses_of fixups) segment ≡ ((get_or fixups last d).address - segment.address) / PAGE + 1
unfolding pages_of
pages_there fixups segment last d apart within low high past =
    let a = (get_or fixups last d).address in
    let count = λ (address : ℕ). page_in segment address + 1 in
    greatest_is (map count (filter (is_in segment) (addresses_of fixups))) (count a)
    (in_map count (filter (is_in segment) (addresses_of fixups)) a (in_filter (is_in segment) (addresses_of fixups) a (index_in fixups last d within) (true_in segment a low high)))
    (λ m h.
    let counted = from_map count (filter (is_in segment) (addresses_of fixups)) m h in
    let n = counted.0 in
    let found = from_filter (is_in segment) (addresses_of fixups) n counted.1 in
    let place : IsAt fixups n = at_index fixups n found.0 in
    let inside = in_true segment n found.1 in
    let is : (get_or fixups place.k d).address ≡ n = place.is d in
    let below : n ≤ a = (elim (cases_lt last place.k) [
      | inl less ↦
          (let next : segment.address + segment.vmsize ≤ (get_or fixups (last + 1) d).address = past (omega (arith, less, place.within)) in
          let up : (get_or fixups (last + 1) d).address ≤ (get_or fixups place.k d).address = not_below fixups (last + 1) place.k d apart (omega (arith, less)) place.within in
          absurd (omega (arith, next, up, is, inside.1)))
      | inr more ↦ subst (λ (m : ℕ). m ≤ a) is (not_below fixups place.k last d apart (omega (arith, more)) within)
    ]) in
    let counts : page_in segment n + 1 ≡ m = counted.2 in
    omega (arith, below, counts))

pub pages_missing : (fixups : List Fixup) (segment : Segment) (end : ℕ) (d : Fixup) → AreApart fixups → ((k : ℕ) → k < end → (get_or fixups k d).address < segment.address) → (end < length fixups → segment.address + segment.vmsize ≤ (get_or fixups end d).address) → pages_of (addresses_of fixups) segment ≡ 0
unfolding pages_of
pages_missing fixups segment end d apart before past =
    let count = λ (address : ℕ). page_in segment address + 1 in
    greatest_none (map count (filter (is_in segment) (addresses_of fixups)))
    (λ m h.
    let counted = from_map count (filter (is_in segment) (addresses_of fixups)) m h in
    let n = counted.0 in
    let found = from_filter (is_in segment) (addresses_of fixups) n counted.1 in
    let place : IsAt fixups n = at_index fixups n found.0 in
    let inside = in_true segment n found.1 in
    let is : (get_or fixups place.k d).address ≡ n = place.is d in
    elim (cases_lt place.k end) [
      | inl less ↦ (let low : (get_or fixups place.k d).address < segment.address = before place.k less in omega (arith, low, is, inside.0))
      | inr more ↦
          (let up : (get_or fixups end d).address ≤ (get_or fixups place.k d).address = not_below fixups end place.k d apart (omega (arith, more)) place.within in
          let next : segment.address + segment.vmsize ≤ (get_or fixups end d).address = past (omega (arith, more, place.within)) in
          omega (arith, up, next, is, inside.1))
    ])
