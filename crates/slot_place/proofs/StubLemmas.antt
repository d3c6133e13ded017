-- The bytes of stubs, one after the other, and what each of them reaches.
use Rattle.std.proofs.Common.{◌≡◌, ℕ, ◌+◌, ◌*◌, ◌/◌, ◌%◌, ◌^◌, ◌<◌, ◌≤◌, List, [], ◌∷◌, ◌++◌, length, take, get_or, Option, Some, None, IfSome, refl, sym, ap, subst, ◌∙◌, arith, append_assoc, pos, ◌-ℤ◌}
use Rattle.std.specs.List.{enumerate_from, flat_map}
use Rattle.std.specs.Option.{option_and_then, option_map}
use Rattle.std.proofs.lemmas.Grind.{flat_map-append}
use Rattle.std.proofs.lemmas.Int.{ints}
use Rattle.std.proofs.lemmas.List.{append-nil, take_all, take_more}
use Rattle.std.proofs.lemmas.List.FromFn.{get_or-enumerate_from, length-enumerate_from}
use Rattle.std.proofs.lemmas.List.Quantifiers.{position-Some}
use Rattle.arm64_insn.specs.Low12.{IsWholeSteps, imm12_scale}
use Rattle.arm64_insn.specs.Page.{IsPageDelta}
use Rattle.arm64_insn.specs.Field.{field_at}
use Rattle.image_read.specs.Reaches.{LDR_X16}
use Rattle.mo_types.specs.declared.goal.Goal.{Goal}
use Rattle.mo_types.specs.declared.goal.Goal.TheVariants.{Nobody}
use Rattle.mo_types.specs.Goals.{compare_goals}
use Rattle.std.specs.Ordering.{is_eq}
use Rattle.slot_plan.specs.declared.list.Slots.{Slots}
use Rattle.slot_plan.specs.declared.need.Way.TheVariants.{Got}
use Rattle.slot_place.specs.Places.{address_from, number_of, slot_address, unit_at}
use Rattle.slot_place.specs.Stubs.{AreNear, AreReached, pages_between, stub_of}
use Rattle.slot_place.specs.declared.places.SlotStarts.{SlotStarts}

pub appended : (old mid new a b : List ℕ) → mid ≡ old ++ a → new ≡ mid ++ b → new ≡ old ++ (a ++ b)
appended old mid new a b first second = second ∙ ap (λ (z : List ℕ). z ++ b) first ∙ append_assoc old a b

pub ruleset appends = (appended)

-- ---- an address of a goal's slot

-- where a slot stands that has an address
pub record IsAmong (unit : ℕ) (start : Option ℕ) (goals : List Goal) (slot : ℕ) : Type 0 where
  pub first : ℕ
  pub begins : start ≡ Some first
  pub number : ℕ
  pub within : number < length goals
  pub stands : slot ≡ unit_at unit first number

pub among : (unit : ℕ) (start : Option ℕ) (goals : List Goal) (goal : Goal) (slot : ℕ) → address_from unit start goals goal ≡ Some slot → IsAmong unit start goals slot
unfolding address_from
among unit start goals goal slot e = by start (number_of goals goal) refl e
  where
    by : (first : Option ℕ) (number : Option ℕ) → number_of goals goal ≡ number → option_and_then (λ n. option_map (λ at. unit_at unit at n) first) number ≡ Some slot → IsAmong unit first goals slot
    by first None is f = absurd cc
    by None (Some n) is f = absurd cc
    by (Some at) (Some n) is f = record {
      first = at;
      begins = refl;
      number = n;
      within = (position-Some (λ other. is_eq (compare_goals other goal)) goals n Nobody is).0;
      stands = cc;
    }

-- ---- what a stub reaches

page_delta : (m n : ℕ) → m < n + 2 ^ 20 → n < m + 2 ^ 20 → IsPageDelta (pos n -ℤ pos m)
page_delta m n low high = record {
  least = grind (arith, ints);
  greatest = grind (arith, ints);
}

pub near_pages : (base a b : ℕ) → base % 0x1000 ≡ 0 → base ≤ a → a < base + 2 ^ 32 → base ≤ b → b < base + 2 ^ 32 → IsPageDelta (pages_between a b)
unfolding pages_between
near_pages base a b page after before after' before' =
    let low : base / 0x1000 ≤ a / 0x1000 = omega (arith, after) in
    let high : a / 0x1000 < base / 0x1000 + 2 ^ 20 = omega (arith, page, before) in
    let low' : base / 0x1000 ≤ b / 0x1000 = omega (arith, after') in
    let high' : b / 0x1000 < base / 0x1000 + 2 ^ 20 = omega (arith, page, before') in
    page_delta (a / 0x1000) (b / 0x1000) (omega (arith, low', high)) (omega (arith, low, high'))

pub whole_steps : (slot : ℕ) → slot % 8 ≡ 0 → IsWholeSteps LDR_X16 slot
unfolding imm12_scale field_at
whole_steps slot whole = omega (arith, whole)

-- ---- the stub of a number

some_is : {X : Type 0} (P : X → Type 0) (o : Option X) (x : X) → o ≡ Some x → IfSome o P → P x
some_is P None x e all = absurd cc
some_is P (Some y) x e all = let same : y ≡ x = cc in subst P same all

-- where a stub and the slot that it loads are, in an image that begins at an address
pub record IsReached (base at slot : ℕ) : Type 0 where
  pub pages : IsPageDelta (pages_between at slot)
  pub whole : IsWholeSteps LDR_X16 slot

pub reached : (base : ℕ) (starts : SlotStarts) (slots : Slots) (start number slot : ℕ) (goal : Goal) → AreReached base starts slots → starts.stubs ≡ Some start → number < length slots.stubs → slot_address starts slots Got goal ≡ Some slot → IsReached base (start + 12 * number) slot
reached base starts slots start number slot goal are begins within e =
    let one : IsAmong 8 starts.got slots.got slot = among 8 starts.got slots.got goal slot e in
    let stubs : AreNear base 12 start slots.stubs = some_is (λ (at : ℕ). AreNear base 12 at slots.stubs) starts.stubs start begins are.stubs in
    let got : AreNear base 8 one.first slots.got = some_is (λ (at : ℕ). AreNear base 8 at slots.got) starts.got one.first one.begins are.got in
    let whole : one.first % 8 ≡ 0 = some_is (λ (at : ℕ). at % 8 ≡ 0) starts.got one.first one.begins are.whole in
    let stands : slot ≡ one.first + 8 * one.number = one.stands in
    record {
      pages = near_pages base (start + 12 * number) slot are.page (omega (arith, stubs.after)) (omega (arith, stubs.before, within)) (omega (arith, got.after, stands)) (omega (arith, got.before, one.within, stands));
      whole = whole_steps slot (omega (arith, whole, stands));
    }

-- ---- all stubs

-- the stubs so far are those of the first goals
abbrev pub stubs_to : SlotStarts → Slots → ℕ → ℕ → List ℕ
stubs_to starts slots start at = flat_map (stub_of starts slots start) (take at (enumerate_from 0 slots.stubs))

pub stubs_go_on : (starts : SlotStarts) (slots : Slots) (start at : ℕ) (goal : Goal) (now new : List ℕ) → now ≡ stubs_to starts slots start at → at < length slots.stubs → get_or slots.stubs at goal ≡ goal → new ≡ now ++ stub_of starts slots start (at, goal) → new ≡ stubs_to starts slots start (at + 1)
stubs_go_on starts slots start at goal now new so low is more =
    more ∙ ap (λ (z : List ℕ). z ++ stub_of starts slots start (at, goal)) so ∙ sym all
  where
    within : at < length (enumerate_from 0 slots.stubs)
    within = subst (λ n. at < n) (sym (length-enumerate_from 0 slots.stubs)) low

    there : get_or (enumerate_from 0 slots.stubs) at (at, goal) ≡ (at, goal)
    there =
        let same : 0 + at ≡ at = omega arith in
        get_or-enumerate_from 0 slots.stubs at (at, goal) low ∙ ap {B = ℕ × Goal} (λ k. (k, get_or slots.stubs at goal)) same ∙ ap {B = ℕ × Goal} (λ g. (at, g)) is

    all : stubs_to starts slots start (at + 1) ≡ stubs_to starts slots start at ++ stub_of starts slots start (at, goal)
    all =
        ap (flat_map (stub_of starts slots start)) (take_more (enumerate_from 0 slots.stubs) at (at, goal) within)
        ∙ flat_map-append (stub_of starts slots start) (take at (enumerate_from 0 slots.stubs)) (get_or (enumerate_from 0 slots.stubs) at (at, goal) ∷ [])
        ∙ ap (λ (z : List ℕ). stubs_to starts slots start at ++ z) (append-nil (stub_of starts slots start (get_or (enumerate_from 0 slots.stubs) at (at, goal))) ∙ ap (stub_of starts slots start) there)

pub stubs_end : (starts : SlotStarts) (slots : Slots) (start at : ℕ) (now : List ℕ) → now ≡ stubs_to starts slots start at → length slots.stubs ≤ at → now ≡ flat_map (stub_of starts slots start) (enumerate_from 0 slots.stubs)
stubs_end starts slots start at now so past =
    so ∙ ap (flat_map (stub_of starts slots start)) (take_all at (enumerate_from 0 slots.stubs) (subst (λ n. n ≤ at) (sym (length-enumerate_from 0 slots.stubs)) past))
