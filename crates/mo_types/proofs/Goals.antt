-- The order of goals ties just the same goals.
use Rattle.std.proofs.Common.{◌≡◌, ◌<◌, ℕ, zero, suc, Bool, true, false, List, [], ◌∷◌, refl, sym, ap, subst, ◌∙◌}
use Rattle.std.specs.declared.cmp.Ordering.{Ordering}
use Rattle.std.specs.Ordering.{nat_cmp, ordering_then, MatchOrdering, eq_by_cmp, is_eq}
use Rattle.std.specs.declared.cmp.Ordering.TheVariants.{Less, Equal, Greater}
use Rattle.std.specs.Cmp.Lexicographic.{slice_cmp}
use Rattle.std.specs.Bool.{Decides}
use Rattle.std.proofs.lemmas.Cmp.{ranked, tied_itself}
use Rattle.std.proofs.lemmas.Map.Lookups.{exact_bytes}
use Rattle.mo_types.specs.declared.goal.Goal.{Goal}
use Rattle.mo_types.specs.declared.goal.Goal.TheVariants.{Def, WeakSelf, Header, Import, Flat, Nobody}
use Rattle.mo_types.specs.declared.key.AtomKey.{AtomKey}
use Rattle.mo_types.specs.Goals.{group_of, name_of, numbers_of, bit, compare_goals}
use Rattle.mo_types.specs.GoalOrder.{compare_goals_total}

-- ---- a goal from its group, its name and its numbers

abbrev bit_from : ℕ → Bool
bit_from zero = false
bit_from (suc n) = true

abbrev place_from : (AtomKey → ℕ → Goal) → List ℕ → Goal
place_from make (kind ∷ p ∷ m ∷ s ∷ k ∷ o ∷ rest) = make (record { file = record { position = p; member = m }; section = s; offset = k }) o
place_from make _ = Nobody

abbrev import_from : List ℕ → List ℕ → Goal
import_from name (kind ∷ ordinal ∷ w ∷ o ∷ rest) = Import name ordinal (bit_from w) (bit_from o)
import_from name _ = Nobody

abbrev named_from : List ℕ → ℕ → List ℕ → Goal
named_from name zero numbers = place_from (WeakSelf name) numbers
named_from name (suc zero) numbers = import_from name numbers
named_from name (suc (suc n)) numbers = Flat name

abbrev first_of_list : List ℕ → ℕ
first_of_list [] = 0
first_of_list (x ∷ xs) = x

abbrev goal_from : ℕ → List ℕ → List ℕ → Goal
goal_from zero name numbers = named_from name (first_of_list numbers) numbers
goal_from (suc zero) name numbers = Header
goal_from (suc (suc zero)) name numbers = place_from Def numbers
goal_from (suc (suc (suc n))) name numbers = Nobody

bit_back : (b : Bool) → bit_from (bit b) ≡ b
bit_back false = refl
bit_back true = refl

goal_back : (goal : Goal) → goal_from (group_of goal) (name_of goal) (numbers_of goal) ≡ goal
goal_back (Def key offset) = refl
goal_back (WeakSelf name key offset) = refl
goal_back Header = refl
goal_back (Import name ordinal by_weak optional) = rw (bit_back by_weak, bit_back optional) refl
goal_back (Flat name) = refl
goal_back Nobody = refl

tied_first : (a b : Ordering) → ordering_then a b ≡ Equal → a ≡ Equal
tied_first Less b e = e
tied_first Equal b e = refl
tied_first Greater b e = e

tied_second : (a b : Ordering) → ordering_then a b ≡ Equal → b ≡ Equal
tied_second Less b e = cc
tied_second Equal b e = e
tied_second Greater b e = cc

same_number : (x y : ℕ) → nat_cmp x y ≡ Equal → x ≡ y
same_number x y e = same (nat_cmp x y) e (ranked x y (nat_cmp x y) refl)
  where
    same : (r : Ordering) → r ≡ Equal → MatchOrdering r (x < y) (x ≡ y) (y < x) → x ≡ y
    same Less e m = cc
    same Equal e m = m
    same Greater e m = cc

-- goals that tie are the same one
pub same_goal : (a b : Goal) → compare_goals a b ≡ Equal → a ≡ b
unfolding compare_goals
same_goal a b e =
    let groups = same_number (group_of a) (group_of b) (tied_first (nat_cmp (group_of a) (group_of b)) _ e) in
    let rest = tied_second (nat_cmp (group_of a) (group_of b)) _ e in
    let names = exact_bytes (name_of a) (name_of b) (tied_first (slice_cmp nat_cmp (name_of a) (name_of b)) _ rest) in
    let numbers = exact_bytes (numbers_of a) (numbers_of b) (tied_second (slice_cmp nat_cmp (name_of a) (name_of b)) _ rest) in
    sym (goal_back a) ∙ (ap (λ (g : ℕ). goal_from g (name_of a) (numbers_of a)) groups ∙ (ap (λ (n : List ℕ). goal_from (group_of b) n (numbers_of a)) names ∙ (ap (goal_from (group_of b) (name_of b)) numbers ∙ goal_back b)))

tied : (a b : Goal) (r : Ordering) → compare_goals a b ≡ r → is_eq r ≡ true → a ≡ b
tied a b Less e h = cc
tied a b Equal e h = same_goal a b e
tied a b Greater e h = cc

-- a test by the order holds just of goals that are the same
pub same_goals : (a b : Goal) → Decides (eq_by_cmp compare_goals a b) (a ≡ b)
same_goals a b = (tied a b (compare_goals a b) refl, λ (e : a ≡ b). subst (λ (g : Goal). eq_by_cmp compare_goals a g ≡ true) e (ap is_eq (tied_itself compare_goals_total a)))
