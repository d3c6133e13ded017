-- The numbers of goals that rise.
use Rattle.std.proofs.Common.{◌≡◌, ℕ, zero, suc, ◌+◌, ◌<◌, Bool, true, false, List, [], ◌∷◌, length, Option, Some, None, Contains, IfSome, refl, sym, ap, subst, ◌∙◌, inl, inr, arith, nat_lt, position}
use Rattle.std.specs.Prelude.{MatchOption, slice_get}
use Rattle.std.specs.List.{AllByRecursion, position_or_len}
use Rattle.std.specs.List.Sorted.{IsStrictlySortedBy}
use Rattle.std.specs.Ordering.{is_eq}
use Rattle.std.specs.declared.cmp.Ordering.TheVariants.{Less}
use Rattle.std.proofs.lemmas.Bool.{cases_Bool}
use Rattle.std.proofs.lemmas.Cmp.{tied_itself}
use Rattle.std.proofs.lemmas.Option.{slice_get_within}
use Rattle.list_lemmas.proofs.Members.{In, Contains_from_in}
use Rattle.mo_types.specs.GoalOrder.{compare_goals_total}
use Rattle.mo_types.specs.Goals.{compare_goals}
use Rattle.mo_types.specs.declared.goal.Goal.{Goal}
use Rattle.mo_types.proofs.Goals.{same_goals}
use Rattle.slot_place.specs.Places.{number_of}

abbrev is : Goal → Goal → Bool
is goal other = is_eq (compare_goals other goal)

all_get : {X : Type 0} (P : X → Type 0) (xs : List X) (at : ℕ) (y : X) → AllByRecursion P xs → slice_get xs at ≡ Some y → P y
all_get P [] at y all e = absurd cc
all_get P (x ∷ xs) zero y all e = let same : x ≡ y = cc in subst P same all.0
all_get P (x ∷ xs) (suc at) y all e = all_get P xs at y all.1 e

first_at : (goals : List Goal) (goal : Goal) (at : ℕ) → IsStrictlySortedBy compare_goals goals → slice_get goals at ≡ Some goal → position_or_len (is goal) goals ≡ at
unfolding IsStrictlySortedBy
first_at [] goal at up e = absurd cc
first_at (x ∷ xs) goal zero up e =
    let same : x ≡ goal = cc in
    let hit : is goal x ≡ true = subst (λ (g : Goal). is goal g ≡ true) (sym same) (ap is_eq (tied_itself compare_goals_total goal)) in
    rw hit refl
first_at (x ∷ xs) goal (suc at) up e =
    let less : compare_goals x goal ≡ Less = all_get (λ (y : Goal). compare_goals x y ≡ Less) xs at goal up.0 e in
    let miss : is goal x ≡ false = ap is_eq less in
    let rest : position_or_len (is goal) xs ≡ at = first_at xs goal at up.1 e in
    let more : 1 + at ≡ suc at = omega arith in
    rw miss (ap (λ (n : ℕ). 1 + n) rest ∙ more)

none_at : (goals : List Goal) (goal : Goal) → ((other : Goal) → In other goals → is goal other ≡ false) → position_or_len (is goal) goals ≡ length goals
none_at [] goal none = refl
none_at (x ∷ xs) goal none =
    let miss : is goal x ≡ false = none x (inl refl) in
    let rest : position_or_len (is goal) xs ≡ length xs = none_at xs goal (λ other h. none other (inr h)) in
    let more : 1 + length xs ≡ suc (length xs) = omega arith in
    rw miss (ap (λ (n : ℕ). 1 + n) rest ∙ more)

low_place : (goals : List Goal) (goal : Goal) (at : ℕ) → at < length goals → position_or_len (is goal) goals ≡ at → position (is goal) goals ≡ Some at
low_place goals goal at low e = let t : nat_lt at (length goals) ≡ true = grind arith in rw e (rw t refl)

past_place : (goals : List Goal) (goal : Goal) → position_or_len (is goal) goals ≡ length goals → position (is goal) goals ≡ None
past_place goals goal e = let t : nat_lt (length goals) (length goals) ≡ false = grind arith in rw e (rw t refl)

pub numbered : (goals : List Goal) (goal : Goal) (at : ℕ) → IsStrictlySortedBy compare_goals goals → slice_get goals at ≡ Some goal → Some at ≡ number_of goals goal
numbered goals goal at up e = sym (low_place goals goal at (slice_get_within goals at goal e) (first_at goals goal at up e))

pub unnumbered : (goals : List Goal) (goal : Goal) → ¬ Contains goals goal → None ≡ number_of goals goal
unnumbered goals goal none = sym (past_place goals goal (none_at goals goal away))
  where
    away : (other : Goal) → In other goals → is goal other ≡ false
    away other h = elim (cases_Bool (is goal other)) [
      | inl same ↦ absurd (none (subst (Contains goals) ((same_goals other goal).0 same) (Contains_from_in goals other h)))
      | inr miss ↦ miss
    ]

-- what a look-up answers is the goal's number
pub found : (goals : List Goal) (goal : Goal) (answer : Option ℕ) → IsStrictlySortedBy compare_goals goals → MatchOption answer (¬ Contains goals goal) (λ at. slice_get goals at ≡ Some goal) → answer ≡ number_of goals goal
found goals goal None up none = unnumbered goals goal none
found goals goal (Some at) up e = numbered goals goal at up e

pub found_within : (goals : List Goal) (goal : Goal) (answer : Option ℕ) → MatchOption answer (¬ Contains goals goal) (λ at. slice_get goals at ≡ Some goal) → IfSome answer (λ at. at < length goals)
found_within goals goal None none = tt
found_within goals goal (Some at) e = slice_get_within goals at goal e

pub ruleset numbers = (found, found_within)
