-- Where slots and stubs of an image stand.
use Rattle.std.proofs.Common.{◌≡◌, ℕ, ◌+◌, ◌*◌, ◌<◌, inl, inr, Bool, false, List, [], length, get_or, Option, Some, None, Contains, refl, sym, ap, ◌∙◌, arith}
use Rattle.std.specs.List.{position_or_len}
use Rattle.std.specs.Option.{option_and_then, option_map}
use Rattle.std.specs.Ordering.{is_eq}
use Rattle.std.proofs.lemmas.Bool.{cases_lt, false≢true, lt-ltb}
use Rattle.std.proofs.lemmas.List.Quantifiers.{position-Some}
use Rattle.std.proofs.lemmas.List.Sums.{fails_before_first}
use Rattle.mo_types.proofs.Goals.{same_goals}
use Rattle.mo_types.specs.Goals.{compare_goals}
use Rattle.mo_types.specs.declared.goal.Goal.{Goal}
use Rattle.sect_place.specs.declared.layout.Layout.{Layout}
use Rattle.sect_place.specs.declared.layout.PlacedSection.{PlacedSection}
use Rattle.slot_place.specs.Places.{address_from, goals_for, number_of, own_section, slot_address, start_in, start_of, starts_of, unit_at, unit_of}
use Rattle.slot_plan.specs.declared.need.Way.{Way}
use Rattle.slot_plan.specs.declared.need.Way.TheVariants.{Got, Stub, Tlv}
use Rattle.image_make.specs.Made.{IsLaid, ImageInputs}
use Rattle.image_laws.proofs.Layouts.{own_none}

-- the slot or stub of a goal: the section that has it, and its number there
pub record IsUnit (m : ImageInputs) (layout : Layout) (way : Way) (goal : Goal) (address : ℕ) : Type 0 where
  pub placed : PlacedSection
  pub section : own_section layout.sections way ≡ Some placed
  pub number : ℕ
  pub within : number < length (goals_for m.slots way)
  pub is : get_or (goals_for m.slots way) number goal ≡ goal
  pub stands : address ≡ placed.address + unit_of way * number

pub start_is : (layout : Layout) (way : Way) → start_of (starts_of layout.sections) way ≡ start_in layout.sections way
unfolding starts_of
start_is layout Got = refl
start_is layout Stub = refl
start_is layout Tlv = refl

pub section_found : (layout : Layout) (way : Way) (first : ℕ) → start_of (starts_of layout.sections) way ≡ Some first → (placed : PlacedSection) × (own_section layout.sections way ≡ Some placed) × (placed.address ≡ first)
section_found layout way first e = by (own_section layout.sections way) refl (sym (start_is layout way) ∙ e)
  where
    by : (found : Option PlacedSection) → own_section layout.sections way ≡ found → option_map (λ (placed : PlacedSection). placed.address) found ≡ Some first → (placed : PlacedSection) × (own_section layout.sections way ≡ Some placed) × (placed.address ≡ first)
    by None is same = absurd cc
    by (Some placed) is same = (placed, is, cc)

-- the goal at its number
goal_at : (goals : List Goal) (goal : Goal) (n : ℕ) → number_of goals goal ≡ Some n → (n < length goals) × (get_or goals n goal ≡ goal)
goal_at goals goal n e =
    let passes = position-Some (λ (other : Goal). is_eq (compare_goals other goal)) goals n goal e in
    (passes.0, (same_goals (get_or goals n goal) goal).0 passes.1)

pub unit_found : (m : ImageInputs) (layout : Layout) (way : Way) (goal : Goal) (address : ℕ) → slot_address (starts_of layout.sections) m.slots way goal ≡ Some address → IsUnit m layout way goal address
unfolding address_from
unit_found m layout way goal address e = by (start_of (starts_of layout.sections) way) (number_of (goals_for m.slots way) goal) refl refl e
  where
    by : (start number : Option ℕ) → start_of (starts_of layout.sections) way ≡ start → number_of (goals_for m.slots way) goal ≡ number → option_and_then (λ (n : ℕ). option_map (λ (at : ℕ). unit_at (unit_of way) at n) start) number ≡ Some address → IsUnit m layout way goal address
    by start None s is f = absurd cc
    by None (Some n) s is f = absurd cc
    by (Some first) (Some n) s is f =
        let found = section_found layout way first s in
        let there = goal_at (goals_for m.slots way) goal n is in
        let stands : first + unit_of way * n ≡ address = cc in
        record {
          placed = found.0;
          section = found.1;
          number = n;
          within = there.0;
          is = there.1;
          stands = sym stands ∙ ap (λ (k : ℕ). k + unit_of way * n) (sym found.2);
        }

-- ---- what is needed has an address

number_found : (goals : List Goal) (goal : Goal) → Contains goals goal → (n : ℕ) × (number_of goals goal ≡ Some n)
number_found goals goal h = elim (cases_lt n (length goals)) [
  | inl less ↦ (n, rw (lt-ltb n (length goals) less) refl)
  | inr past ↦
      let fails : test (get_or goals h.0 goal) ≡ false = fails_before_first test goals h.0 goal (omega (arith, h.1, past)) in
      absurd (false≢true (sym fails ∙ ap test h.2 ∙ (same_goals goal goal).1 refl))
]
  where
    test : Goal → Bool
    test other = is_eq (compare_goals other goal)

    n : ℕ
    n = position_or_len test goals

no_member : (goals : List Goal) (goal : Goal) → goals ≡ [] → Contains goals goal → ⊥
no_member goals goal none h =
    let low = h.1 in
    let zero : length goals ≡ 0 = ap length none in
    omega arith

pub unit_there : (m : ImageInputs) (layout : Layout) (way : Way) (goal : Goal) → IsLaid m layout → Contains (goals_for m.slots way) goal → (address : ℕ) × (slot_address (starts_of layout.sections) m.slots way goal ≡ Some address)
unfolding address_from
unit_there m layout way goal laid h = by (own_section layout.sections way) refl
  where
    found : (n : ℕ) × (number_of (goals_for m.slots way) goal ≡ Some n)
    found = number_found (goals_for m.slots way) goal h

    by : (o : Option PlacedSection) → own_section layout.sections way ≡ o → (address : ℕ) × (option_and_then (λ (n : ℕ). option_map (λ (at : ℕ). unit_at (unit_of way) at n) (start_of (starts_of layout.sections) way)) (number_of (goals_for m.slots way) goal) ≡ Some address)
    by None e = absurd (no_member (goals_for m.slots way) goal (own_none m layout way laid e) h)
    by (Some placed) e =
        let start : start_of (starts_of layout.sections) way ≡ Some placed.address = start_is layout way ∙ ap (option_map (λ (p : PlacedSection). p.address)) e in
        (placed.address + unit_of way * found.0, rw (found.1, start) refl)
