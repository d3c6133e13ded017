-- The slots of personalities, by rising offset.
use Rattle.std.proofs.Common.{◌≡◌, ◌≢◌, ℕ, suc, ◌<◌, ◌≤◌, ◌==◌, ◌&&◌, ◌⊎◌, ltb, leb, cond, Bool, true, false, inl, inr, List, [], ◌∷◌, length, get_or, refl, sym, ap, subst, ◌∙◌, arith, Contains}
use Rattle.std.specs.List.{AllByRecursion, insert, position_or_len}
use Rattle.std.specs.List.Sorted.{IsStrictlySortedBy}
use Rattle.std.specs.Ordering.{nat_cmp, MatchOrdering}
use Rattle.std.specs.Cmp.{nat_cmp_is}
use Rattle.std.specs.declared.cmp.Ordering.{Ordering}
use Rattle.std.specs.declared.cmp.Ordering.TheVariants.{Less, Equal, Greater}
use Rattle.std.proofs.lemmas.Cmp.{ranked, nat_cmp_total}
use Rattle.std.proofs.lemmas.Bool.{lt-ltb, ltb-true, le-ltb, ltb-false, lt-leb, le-leb}
use Rattle.std.proofs.lemmas.Bool.Decides.{nat_tests}
use Rattle.std.proofs.lemmas.List.Sums.{prefix_len-le-length}
use Rattle.list_lemmas.proofs.Members.{In, in_from_Contains, Contains_from_in, all_weaker}
use Rattle.list_lemmas.proofs.Rising.{rising_same}
use Rattle.unwind_out.specs.declared.row.UnwindRow.{UnwindRow}
use Rattle.unwind_out.specs.Table.{with_slot, with_personality, slots_with, personalities}
use Rattle.unwind_out.specs.Law.{ArePersonalities}
use Rattle.unwind_out.proofs.Uses.{position_or_len_from}

-- ---- a slot more

pub with_low : (slot other : ℕ) (slots : List ℕ) → slot < other → with_slot slot (other ∷ slots) ≡ slot ∷ other ∷ slots
unfolding with_slot
with_low slot other slots low = let e = lt-ltb slot other low in rw e refl

pub with_same : (slot other : ℕ) (slots : List ℕ) → other ≡ slot → with_slot slot (other ∷ slots) ≡ other ∷ slots
unfolding with_slot
with_same slot other slots same =
    let first = le-ltb slot other (omega arith) in
    let second : (other == slot) ≡ true = grind (arith, nat_tests) in
    rw (first, second) refl

pub with_high : (slot other : ℕ) (slots : List ℕ) → other < slot → with_slot slot (other ∷ slots) ≡ other ∷ with_slot slot slots
unfolding with_slot
with_high slot other slots high =
    let first = le-ltb slot other (omega arith) in
    let second : (other == slot) ≡ false = grind (arith, nat_tests) in
    rw (first, second) refl

pub with_none : (slot : ℕ) → with_slot slot [] ≡ slot ∷ []
unfolding with_slot
with_none slot = refl

-- the three ways in which two numbers stand
pub data Way (a b : ℕ) : Type 0 where
  below : a < b → Way a b
  same : b ≡ a → Way a b
  above : b < a → Way a b

way_by : (a b : ℕ) (low high : Bool) → ltb a b ≡ low → ltb b a ≡ high → Way a b
way_by a b true high e f = below (ltb-true a b e)
way_by a b false true e f = above (ltb-true b a f)
way_by a b false false e f = let one = ltb-false a b e in let two = ltb-false b a f in same (omega arith)

pub way : (a b : ℕ) → Way a b
way a b = way_by a b (ltb a b) (ltb b a) refl refl

longer_by : (slot other : ℕ) (slots : List ℕ) → Way slot other → length slots ≤ length (with_slot slot slots) → length (other ∷ slots) ≤ length (with_slot slot (other ∷ slots))
longer_by slot other slots (below low) rest = rw (with_low slot other slots low) (omega arith)
longer_by slot other slots (same e) rest = rw (with_same slot other slots e) (omega arith)
longer_by slot other slots (above high) rest = rw (with_high slot other slots high) (omega arith)

pub with_slot_longer : (slot : ℕ) (slots : List ℕ) → length slots ≤ length (with_slot slot slots)
with_slot_longer slot [] = omega arith
with_slot_longer slot (other ∷ slots) = longer_by slot other slots (way slot other) (with_slot_longer slot slots)

-- ---- where it goes

pub place_within : (p : ℕ → Bool) (slots : List ℕ) → position_or_len p slots ≤ length slots
place_within p slots = prefix_len-le-length _ slots

pub ruleset placing = (position_or_len_from, place_within)

at : ℕ → List ℕ → ℕ
at slot slots = position_or_len (λ other. leb slot other) slots

is_there : ℕ → List ℕ → Bool
is_there slot slots = ltb (at slot slots) (length slots) && (get_or slots (at slot slots) 0 == slot)

at_here : (slot other : ℕ) (slots : List ℕ) → slot ≤ other → at slot (other ∷ slots) ≡ 0
unfolding at
at_here slot other slots low = let e = le-leb slot other low in rw e refl

at_later : (slot other : ℕ) (slots : List ℕ) → other < slot → at slot (other ∷ slots) ≡ suc (at slot slots)
unfolding at
at_later slot other slots high = let e = lt-leb slot other high in rw e (omega arith)

suc_by : (p n : ℕ) (low : Bool) → ltb p n ≡ low → ltb (suc p) (suc n) ≡ low
suc_by p n true e = let low = ltb-true p n e in lt-ltb (suc p) (suc n) (omega arith)
suc_by p n false e = let high = ltb-false p n e in le-ltb (suc p) (suc n) (omega arith)

moved : (slot other : ℕ) (slots : List ℕ) (p : ℕ) (there : Bool) → other ∷ cond there slots (insert slots p slot) ≡ cond there (other ∷ slots) (insert (other ∷ slots) (suc p) slot)
moved slot other slots p true = refl
moved slot other slots p false = refl

first_put : (slot other : ℕ) (slots : List ℕ) (there : Bool) → (other == slot) ≡ there → slot ≤ other → cond there (other ∷ slots) (slot ∷ other ∷ slots) ≡ cond (is_there slot (other ∷ slots)) (other ∷ slots) (insert (other ∷ slots) (at slot (other ∷ slots)) slot)
unfolding is_there
first_put slot other slots there e low =
    let place : at slot (other ∷ slots) ≡ 0 = at_here slot other slots low in
    let some : ltb 0 (length (other ∷ slots)) ≡ true = lt-ltb 0 (length (other ∷ slots)) (omega arith) in
    let test : (ltb 0 (length (other ∷ slots)) && (other == slot)) ≡ there = ap (λ (b : Bool). b && (other == slot)) some ∙ e in
    ap (λ (b : Bool). cond b (other ∷ slots) (insert (other ∷ slots) 0 slot)) (sym test)
    ∙ ap (λ (n : ℕ). cond (ltb n (length (other ∷ slots)) && (get_or (other ∷ slots) n 0 == slot)) (other ∷ slots) (insert (other ∷ slots) n slot)) (sym place)

put_by : (slot other : ℕ) (slots : List ℕ) → Way slot other
    → with_slot slot slots ≡ cond (is_there slot slots) slots (insert slots (at slot slots) slot)
    → with_slot slot (other ∷ slots) ≡ cond (is_there slot (other ∷ slots)) (other ∷ slots) (insert (other ∷ slots) (at slot (other ∷ slots)) slot)
unfolding is_there
put_by slot other slots (below low) rest =
    let apart : (other == slot) ≡ false = grind (arith, nat_tests) in
    with_low slot other slots low ∙ first_put slot other slots false apart (omega arith)
put_by slot other slots (same e) rest =
    let equal : (other == slot) ≡ true = grind (arith, nat_tests) in
    with_same slot other slots e ∙ first_put slot other slots true equal (omega arith)
put_by slot other slots (above high) rest =
    let p = at slot slots in
    let place : at slot (other ∷ slots) ≡ suc p = at_later slot other slots high in
    let test : (ltb (suc p) (length (other ∷ slots)) && (get_or (other ∷ slots) (suc p) 0 == slot)) ≡ (ltb p (length slots) && (get_or slots p 0 == slot)) =
    ap (λ (b : Bool). b && (get_or slots p 0 == slot)) (suc_by p (length slots) (ltb p (length slots)) refl) in
    with_high slot other slots high
    ∙ ap (λ (xs : List ℕ). other ∷ xs) rest
    ∙ moved slot other slots p (ltb p (length slots) && (get_or slots p 0 == slot))
    ∙ ap (λ (b : Bool). cond b (other ∷ slots) (insert (other ∷ slots) (suc p) slot)) (sym test)
    ∙ ap (λ (n : ℕ). cond (ltb n (length (other ∷ slots)) && (get_or (other ∷ slots) n 0 == slot)) (other ∷ slots) (insert (other ∷ slots) n slot)) (sym place)

put_at : (slot : ℕ) (slots : List ℕ) → with_slot slot slots ≡ cond (is_there slot slots) slots (insert slots (at slot slots) slot)
unfolding is_there at
put_at slot [] = with_none slot
put_at slot (other ∷ slots) = put_by slot other slots (way slot other) (put_at slot slots)

pub slot_there : (slot : ℕ) (slots : List ℕ) (place : ℕ) → place ≡ position_or_len (λ other. leb slot other) slots → (ltb place (length slots) && (get_or slots place 0 == slot)) ≡ true → with_slot slot slots ≡ slots
unfolding is_there at
slot_there slot slots place is there =
    let here : is_there slot slots ≡ true = ap (λ (n : ℕ). ltb n (length slots) && (get_or slots n 0 == slot)) (sym is) ∙ there in
    put_at slot slots ∙ ap (λ (b : Bool). cond b slots (insert slots (at slot slots) slot)) here

pub slot_put : (slot : ℕ) (slots : List ℕ) (place : ℕ) → place ≡ position_or_len (λ other. leb slot other) slots → (ltb place (length slots) && (get_or slots place 0 == slot)) ≡ false → with_slot slot slots ≡ insert slots place slot
unfolding is_there at
slot_put slot slots place is away =
    let here : is_there slot slots ≡ false = ap (λ (n : ℕ). ltb n (length slots) && (get_or slots n 0 == slot)) (sym is) ∙ away in
    put_at slot slots ∙ ap (λ (b : Bool). cond b slots (insert slots (at slot slots) slot)) here ∙ ap (λ (n : ℕ). insert slots n slot) (sym is)

-- ---- its members

own_by : (slot other : ℕ) (slots : List ℕ) → Way slot other → In slot (with_slot slot slots) → In slot (with_slot slot (other ∷ slots))
own_by slot other slots (below low) rest = rw (with_low slot other slots low) (inl refl)
own_by slot other slots (same e) rest = rw (with_same slot other slots e) (inl e)
own_by slot other slots (above high) rest = rw (with_high slot other slots high) (inr rest)

own_in : (slot : ℕ) (slots : List ℕ) → In slot (with_slot slot slots)
own_in slot [] = rw (with_none slot) (inl refl)
own_in slot (other ∷ slots) = own_by slot other slots (way slot other) (own_in slot slots)

old_by : (slot other : ℕ) (slots : List ℕ) (x : ℕ) → Way slot other → (In x slots → In x (with_slot slot slots)) → In x (other ∷ slots) → In x (with_slot slot (other ∷ slots))
old_by slot other slots x (below low) rest there = rw (with_low slot other slots low) (inr there)
old_by slot other slots x (same e) rest there = rw (with_same slot other slots e) there
old_by slot other slots x (above high) rest (inl e) = rw (with_high slot other slots high) (inl e)
old_by slot other slots x (above high) rest (inr there) = rw (with_high slot other slots high) (inr (rest there))

old_in : (slot : ℕ) (slots : List ℕ) (x : ℕ) → In x slots → In x (with_slot slot slots)
old_in slot [] x there = absurd there
old_in slot (other ∷ slots) x there = old_by slot other slots x (way slot other) (old_in slot slots x) there

later_from : (slot other : ℕ) (slots : List ℕ) (x : ℕ) → (In x (with_slot slot slots) → (slot ≡ x) ⊎ In x slots) → In x (other ∷ with_slot slot slots) → (slot ≡ x) ⊎ In x (other ∷ slots)
later_from slot other slots x rest (inl e) = inr (inl e)
later_from slot other slots x rest (inr there) = elim (rest there) [
  | inl e ↦ inl e
  | inr old ↦ inr (inr old)
]

from_by : (slot other : ℕ) (slots : List ℕ) (x : ℕ) → Way slot other → (In x (with_slot slot slots) → (slot ≡ x) ⊎ In x slots) → In x (with_slot slot (other ∷ slots)) → (slot ≡ x) ⊎ In x (other ∷ slots)
from_by slot other slots x (below low) rest there = subst (In x) (with_low slot other slots low) there
from_by slot other slots x (same e) rest there = inr (subst (In x) (with_same slot other slots e) there)
from_by slot other slots x (above high) rest there = later_from slot other slots x rest (subst (In x) (with_high slot other slots high) there)

pub from_with : (slot : ℕ) (slots : List ℕ) (x : ℕ) → In x (with_slot slot slots) → (slot ≡ x) ⊎ In x slots
from_with slot [] x there = subst (In x) (with_none slot) there
from_with slot (other ∷ slots) x there = from_by slot other slots x (way slot other) (from_with slot slots x) there

-- ---- they rise

pub less : (a b : ℕ) → a < b → nat_cmp a b ≡ Less
less a b low = sym (nat_cmp_is a b Less low)

pub less_from : (a b : ℕ) → nat_cmp a b ≡ Less → a < b
less_from a b e = by (nat_cmp a b) e (ranked a b (nat_cmp a b) refl)
  where
    by : (r : Ordering) → r ≡ Less → MatchOrdering r (a < b) (a ≡ b) (b < a) → a < b
    by Less e m = m
    by Equal e m = cc
    by Greater e m = cc

Above : ℕ → List ℕ → Type 0
Above low slots = AllByRecursion (λ other. nat_cmp low other ≡ Less) slots

above_by : (low slot other : ℕ) (slots : List ℕ) → Way slot other → nat_cmp low slot ≡ Less → Above low (other ∷ slots) → Above low (with_slot slot slots) → Above low (with_slot slot (other ∷ slots))
unfolding Above
above_by low slot other slots (below b) e all rest = rw (with_low slot other slots b) (e, all)
above_by low slot other slots (same s) e all rest = rw (with_same slot other slots s) all
above_by low slot other slots (above h) e all rest = rw (with_high slot other slots h) (all.0, rest)

above_with : (low slot : ℕ) (slots : List ℕ) → nat_cmp low slot ≡ Less → Above low slots → Above low (with_slot slot slots)
unfolding Above
above_with low slot [] e all = rw (with_none slot) (e, tt)
above_with low slot (other ∷ slots) e all = above_by low slot other slots (way slot other) e all (above_with low slot slots e all.1)

Rise : List ℕ → Type 0
Rise slots = IsStrictlySortedBy nat_cmp slots

rise_by : (slot other : ℕ) (slots : List ℕ) → Way slot other → Rise (other ∷ slots) → Rise (with_slot slot slots) → Rise (with_slot slot (other ∷ slots))
unfolding Rise IsStrictlySortedBy Above
rise_by slot other slots (below low) rise rest =
    rw (with_low slot other slots low)
    ((less slot other low, all_weaker (λ later. nat_cmp other later ≡ Less) (λ later. nat_cmp slot later ≡ Less) (λ later e. let high = less_from other later e in less slot later (omega arith)) slots rise.0), rise)
rise_by slot other slots (same e) rise rest = rw (with_same slot other slots e) rise
rise_by slot other slots (above high) rise rest = rw (with_high slot other slots high) (above_with other slot slots (less other slot high) rise.0, rest)

rise_tail : (other : ℕ) (slots : List ℕ) → Rise (other ∷ slots) → Rise slots
unfolding Rise IsStrictlySortedBy
rise_tail other slots rise = rise.1

rise_one : (slot : ℕ) → Rise (slot ∷ [])
unfolding Rise IsStrictlySortedBy
rise_one slot = (tt, tt)

rise_with : (slot : ℕ) (slots : List ℕ) → Rise slots → Rise (with_slot slot slots)
rise_with slot [] rise = rw (with_none slot) (rise_one slot)
rise_with slot (other ∷ slots) rise = rise_by slot other slots (way slot other) rise (rise_with slot slots (rise_tail other slots rise))

-- ---- those of functions

some_personality : (row : UnwindRow) (slots : List ℕ) → row.personality ≢ 0 → with_personality row slots ≡ with_slot row.personality slots
some_personality row slots some = let other : (row.personality == 0) ≡ false = grind (arith, nat_tests) in rw other refl

kept_by : (row : UnwindRow) (slots : List ℕ) (x : ℕ) (none : Bool) → (row.personality == 0) ≡ none → In x slots → In x (with_personality row slots)
kept_by row slots x true e there = rw e there
kept_by row slots x false e there = rw e (old_in row.personality slots x there)

slots_old : (slots : List ℕ) (rows : List UnwindRow) (x : ℕ) → In x slots → In x (slots_with slots rows)
unfolding slots_with
slots_old slots [] x there = there
slots_old slots (row ∷ rows) x there = slots_old (with_personality row slots) rows x (kept_by row slots x (row.personality == 0) refl there)

pub slots_own : (slots : List ℕ) (rows : List UnwindRow) (row : UnwindRow) → In row rows → row.personality ≢ 0 → In row.personality (slots_with slots rows)
unfolding slots_with
slots_own slots [] row there some = absurd there
slots_own slots (first ∷ rows) row (inl e) some =
    let own : In row.personality (with_personality first slots) =
    subst (λ (r : UnwindRow). In row.personality (with_personality r slots)) (sym e) (subst (In row.personality) (sym (some_personality row slots some)) (own_in row.personality slots)) in
    slots_old (with_personality first slots) rows row.personality own
slots_own slots (first ∷ rows) row (inr there) some = slots_own (with_personality first slots) rows row there some

Source : List UnwindRow → ℕ → Type 0
Source rows slot = (slot ≢ 0) × (row : UnwindRow) × In row rows × (row.personality ≡ slot)

source_by : (row : UnwindRow) (rows : List UnwindRow) (slots : List ℕ) (x : ℕ) (none : Bool) → (row.personality == 0) ≡ none → In x (with_personality row slots) → In x slots ⊎ Source (row ∷ rows) x
unfolding Source
source_by row rows slots x true e there = inl (rw e at there)
source_by row rows slots x false e there = elim (from_with row.personality slots x (rw e at there)) [
  | inl own ↦ inr ((λ none'. let is : row.personality ≡ 0 = own ∙ none' in let test : (row.personality == 0) ≡ true = grind (arith, nat_tests) in cc), row, inl refl, own)
  | inr old ↦ inl old
]

source_later : (row : UnwindRow) (rows : List UnwindRow) (x : ℕ) → Source rows x → Source (row ∷ rows) x
unfolding Source
source_later row rows x source = (source.0, source.1, inr source.2, source.3)

slots_from : (slots : List ℕ) (rows : List UnwindRow) (x : ℕ) → In x (slots_with slots rows) → In x slots ⊎ Source rows x
unfolding slots_with
slots_from slots [] x there = inl there
slots_from slots (row ∷ rows) x there = elim (slots_from (with_personality row slots) rows x there) [
  | inl old ↦ source_by row rows slots x (row.personality == 0) refl old
  | inr source ↦ inr (source_later row rows x source)
]

rise_personality : (row : UnwindRow) (slots : List ℕ) (none : Bool) → (row.personality == 0) ≡ none → Rise slots → Rise (with_personality row slots)
rise_personality row slots true e rise = rw e rise
rise_personality row slots false e rise = rw e (rise_with row.personality slots rise)

slots_rise : (slots : List ℕ) (rows : List UnwindRow) → Rise slots → Rise (slots_with slots rows)
unfolding slots_with
slots_rise slots [] rise = rise
slots_rise slots (row ∷ rows) rise = slots_rise (with_personality row slots) rows (rise_personality row slots (row.personality == 0) refl rise)

rise_none : Rise []
unfolding Rise IsStrictlySortedBy
rise_none = tt

rises_is : (slots : List ℕ) → Rise slots → IsStrictlySortedBy nat_cmp slots
unfolding Rise
rises_is slots rise = rise

source_is : (rows : List UnwindRow) (x : ℕ) → Source rows x → (x ≢ 0) × (row : UnwindRow) × Contains rows row × (row.personality ≡ x)
unfolding Source
source_is rows x source = (source.0, source.1, Contains_from_in rows source.1 source.2, source.3)

none_or : {A : Type 0} (x : ℕ) → In x [] ⊎ A → A
none_or x (inl there) = absurd there
none_or x (inr a) = a

pub personalities_are : (rows : List UnwindRow) → ArePersonalities rows (personalities rows)
personalities_are rows = record {
  rise = rises_is (personalities rows) (slots_rise [] rows rise_none);
  each = λ row there some. Contains_from_in (personalities rows) row.personality (slots_own [] rows row (in_from_Contains rows row there) some);
  only = λ slot there. source_is rows slot (none_or slot (slots_from [] rows slot (in_from_Contains (personalities rows) slot there)));
}

-- the members are those of the other
members_there : (rows : List UnwindRow) (a b : List ℕ) (x : ℕ) → ArePersonalities rows a → ArePersonalities rows b → In x a → In x b
members_there rows a b x one other there =
    let from = one.only x (Contains_from_in a x there) in
    let some : from.1.personality ≢ 0 = λ e. from.0 (sym from.3 ∙ e) in
    subst (λ (n : ℕ). In n b) from.3 (in_from_Contains b from.1.personality (other.each from.1 from.2 some))

pub personalities_one : (rows : List UnwindRow) (slots : List ℕ) → ArePersonalities rows slots → slots ≡ personalities rows
personalities_one rows slots are =
    rising_same nat_cmp_total slots (personalities rows) are.rise (personalities_are rows).rise
    (λ x there. members_there rows slots (personalities rows) x are (personalities_are rows) there)
    (λ x there. members_there rows (personalities rows) slots x (personalities_are rows) are there)
