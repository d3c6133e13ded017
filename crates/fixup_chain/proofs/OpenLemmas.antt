-- Segments that are open to the first pointer and to the last one are open to all.
use Rattle.std.proofs.Common.{◌≡◌, ℕ, ◌+◌, ◌-◌, ◌<◌, ◌≤◌, ◌&&◌, ◌||◌, nat_lt, nat_le, Bool, true, false, not, List, [], ◌∷◌, length, get_or, refl, sym, ap, ◌∙◌, inl, inr, arith}
use Rattle.std.specs.Prelude.{IsTrue}
use Rattle.std.specs.List.{list_any}
use Rattle.std.proofs.lemmas.Bool.{lt-ltb, le-leb, ltb-true, leb-true, cases_lt}
use Rattle.sect_place.specs.declared.layout.Segment.{Segment}
use Rattle.fixup_chain.specs.Encoded.{AreApart}
use Rattle.fixup_chain.specs.Faults.{is_closed, is_text}
use Rattle.fixup_chain.specs.Places.{is_in, page_in}
use Rattle.fixup_chain.specs.inner.Near.{IsThere}
use Rattle.fixup_chain.specs.inner.Open.{AreBetween, AreOpen, may_close}
use Rattle.fixup_chain.specs.declared.chains.Fixup.{Fixup}

both : (a b : Bool) → (a && b) ≡ true → (a ≡ true) × (b ≡ true)
both true b e = (refl, e)
both false b e = cc

joined : (a b c d : Bool) → a ≡ true → b ≡ true → (c || d) ≡ true → ((a && b) && (c || d)) ≡ true
joined a b c d e f g = rw (e, f) g

later : (first address last : ℕ) → first ≤ address → address ≤ last → (segment : Segment) → (b : Bool) → (b || nat_le 0xffff (page_in segment address)) ≡ true → (b || nat_le 0xffff (page_in segment last)) ≡ true
later first address last low high segment true e = refl
later first address last low high segment false e =
    let far : 0xffff ≤ page_in segment address = leb-true 0xffff (page_in segment address) e in
    le-leb 0xffff (page_in segment last) (omega (arith, far, high))

closed_may : (first address last : ℕ) → first ≤ address → address ≤ last → (segment : Segment) → is_closed address segment ≡ true → may_close first last segment ≡ true
closed_may first address last low high segment e =
    let parts = both (is_in segment address) (is_text segment || nat_le 0xffff (page_in segment address)) e in
    let inside = both (nat_le segment.address address) (nat_lt (address - segment.address) segment.vmsize) parts.0 in
    let begins : segment.address ≤ address = leb-true segment.address address inside.0 in
    let ends : address - segment.address < segment.vmsize = ltb-true (address - segment.address) segment.vmsize inside.1 in
    joined (nat_lt first (segment.address + segment.vmsize)) (nat_le segment.address last) (is_text segment) (nat_le 0xffff (page_in segment last))
    (lt-ltb first (segment.address + segment.vmsize) (omega (arith, low, begins, ends)))
    (le-leb segment.address last (omega (arith, high, begins)))
    (later first address last low high segment (is_text segment) parts.1)

none_closed : (first address last : ℕ) → first ≤ address → address ≤ last → (segments : List Segment) → list_any (may_close first last) segments ≡ false → list_any (is_closed address) segments ≡ false
none_closed first address last low high [] e = refl
none_closed first address last low high (s ∷ segments) e =
    by (is_closed address s) (may_close first last s) refl refl e (none_closed first address last low high segments)
  where
    by : (closed may : Bool) → is_closed address s ≡ closed → may_close first last s ≡ may → (may || list_any (may_close first last) segments) ≡ false → (list_any (may_close first last) segments ≡ false → list_any (is_closed address) segments ≡ false) → (closed || list_any (is_closed address) segments) ≡ false
    by true true c m f rest = cc
    by true false c m f rest = (let clash : true ≡ false = sym (closed_may first address last low high s c) ∙ m in cc)
    by false true c m f rest = cc
    by false false c m f rest = rest f

between_open : (segments : List Segment) (first last : ℕ) (some : Bool) → some ≡ list_any (may_close first last) segments → some ≡ false → AreBetween segments first last
between_open segments first last some is none = record {
  none = λ address low high. none_closed first address last low high segments (sym is ∙ none);
}

-- ---- from the first pointer to the last

pub none_open : (segments : List Segment) (fixups : List Fixup) → length fixups ≡ 0 → AreOpen segments fixups
none_open segments fixups e = record {
  none = λ k d low. absurd (omega (arith, low, e));
}

range_open : (segments : List Segment) (fixups : List Fixup) (at x y : ℕ) → AreApart fixups → at + 1 ≡ length fixups → IsThere fixups 0 x → IsThere fixups at y → AreBetween segments x y → AreOpen segments fixups
range_open segments fixups at x y apart size is_x is_y between = record {
  none = λ k d low. between.none (get_or fixups k d).address (begins k d low) (ends k d low);
}
  where
    begins : (k : ℕ) (d : Fixup) → k < length fixups → x ≤ (get_or fixups k d).address
    begins k d low = elim (cases_lt 0 k) [
      | inl more ↦ (let far : (get_or fixups 0 d).address + 8 ≤ (get_or fixups k d).address = apart 0 k d more low in let is = is_x.is d in omega (arith, far, is))
      | inr none ↦ (let same : k ≡ 0 = omega (arith, none) in let is : (get_or fixups k d).address ≡ x = ap (λ (n : ℕ). (get_or fixups n d).address) same ∙ is_x.is d in omega (arith, is))
    ]

    ends : (k : ℕ) (d : Fixup) → k < length fixups → (get_or fixups k d).address ≤ y
    ends k d low = elim (cases_lt k at) [
      | inl less ↦ (let far : (get_or fixups k d).address + 8 ≤ (get_or fixups at d).address = apart k at d less (omega (arith, size)) in let is = is_y.is d in omega (arith, far, is))
      | inr more ↦ (let same : k ≡ at = omega (arith, more, low, size) in let is : (get_or fixups k d).address ≡ y = ap (λ (n : ℕ). (get_or fixups n d).address) same ∙ is_y.is d in omega (arith, is))
    ]

pub ruleset opening = (none_open)

pub open_to : (segments : List Segment) (fixups : List Fixup) (at x y : ℕ) (some : Bool) → AreApart fixups → at + 1 ≡ length fixups → IsThere fixups 0 x → IsThere fixups at y → some ≡ list_any (may_close x y) segments → some ≡ false → AreOpen segments fixups
open_to segments fixups at x y some apart size is_x is_y is none = range_open segments fixups at x y apart size is_x is_y (between_open segments x y some is none)

-- ---- one of the pointers

pub open_at : (segments : List Segment) (fixups : List Fixup) (at : ℕ) (x : Fixup) (free : Bool) → (IsTrue free → AreOpen segments fixups) → at < length fixups → x ≡ get_or fixups at x → IsTrue free → list_any (is_closed x.address) segments ≡ false
open_at segments fixups at x free are within is holds =
    ap (λ (f : Fixup). list_any (is_closed f.address) segments) is ∙ (are holds).none at x within

pub from_not : (b : Bool) → IsTrue (not b) → b ≡ false
from_not true holds = cc
from_not false holds = refl
