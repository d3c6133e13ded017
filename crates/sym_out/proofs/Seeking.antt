-- The place of what a binary search finds among what rises.
use Rattle.std.proofs.Common.{◌≡◌, ℕ, zero, suc, ◌+◌, ◌<◌, Bool, true, false, List, [], ◌∷◌, length, get_or, refl, sym, ap, subst, ◌∙◌, arith, Option, Some, None, nat_lt, position}
use Rattle.std.specs.List.{All, AllPairs, HoldsAt, filter_map, position_or_len}
use Rattle.std.specs.List.Sorted.{IsNonDecreasingBy, IsPartitionPoint}
use Rattle.std.specs.Ordering.{is_eq, nat_cmp, ordering_index}
use Rattle.std.specs.Cmp.Lexicographic.{slice_cmp}
use Rattle.std.specs.Str.{bytes_eq}
use Rattle.std.specs.declared.cmp.Ordering.TheVariants.{Less, Equal, Greater}
use Rattle.std.proofs.lemmas.Cmp.{nat_list_cmp_total}
use Rattle.std.proofs.lemmas.List.Elements.{All-cons, All-head, All-tail}
use Rattle.std.proofs.lemmas.List.Kept.{AllPairs-cons}
use Rattle.std.proofs.lemmas.Map.Text.{is_eq-slice_cmp}
use Rattle.sym_out.specs.Entries.{Entry, place_named}
use Rattle.sym_out.proofs.Loops.{head_none, head_some}
use Rattle.sym_out.proofs.Sought.{below, none_has}

place_first : {X : Type 0} (p : X → Bool) (xs : List X) (at : ℕ) (d : X) → at < length xs → p (get_or xs at d) ≡ true → ((j : ℕ) → j < at → p (get_or xs j d) ≡ false) → position_or_len p xs ≡ at
place_first p [] at d low hit before = absurd (omega (arith, low))
place_first p (x ∷ xs) zero d low hit before = rw hit refl
place_first p (x ∷ xs) (suc at) d low hit before =
    let first : p x ≡ false = before 0 (omega arith) in
    let rest : position_or_len p xs ≡ at = place_first p xs at d (omega (arith, low)) hit (λ j l. before (suc j) (omega (arith, l))) in
    let more : 1 + at ≡ suc at = omega arith in
    rw first (ap (λ (n : ℕ). 1 + n) rest ∙ more)

no_place : {X : Type 0} (p : X → Bool) (xs : List X) → ((j : ℕ) (d : X) → j < length xs → p (get_or xs j d) ≡ false) → position_or_len p xs ≡ length xs
no_place p [] none = refl
no_place p (x ∷ xs) none =
    let first : p x ≡ false = none 0 x (omega arith) in
    let more : 1 + length xs ≡ suc (length xs) = omega arith in
    rw first (ap (λ (n : ℕ). 1 + n) (no_place p xs (λ j d l. none (suc j) d (omega (arith, l)))) ∙ more)

low_place : {X : Type 0} (p : X → Bool) (xs : List X) (at : ℕ) → at < length xs → position_or_len p xs ≡ at → position p xs ≡ Some at
low_place p xs at low e = let t : nat_lt at (length xs) ≡ true = grind arith in rw e (rw t refl)

past_place : {X : Type 0} (p : X → Bool) (xs : List X) → position_or_len p xs ≡ length xs → position p xs ≡ None
past_place p xs e = let t : nat_lt (length xs) (length xs) ≡ false = grind arith in rw e (rw t refl)

abbrev name_of : Entry → List ℕ
name_of entry = entry.name

abbrev pub ByName : List Entry → Type 0
ByName entries = AllPairs (λ a b. slice_cmp nat_cmp a.name b.name ≡ Less) entries

pub nothing : Entry
nothing = record { name = []; n_type = 0; n_sect = 0; n_desc = 0; n_value = 0 }

pub named_found : (entries : List Entry) (name : List ℕ) (at : ℕ) → ByName entries → at < length entries → HoldsAt (λ entry. slice_cmp nat_cmp entry.name name ≡ Equal) entries at → Some at ≡ place_named entries name
named_found entries name at rises low holds =
    sym (low_place (λ entry. bytes_eq entry.name name) entries at low
    (place_first (λ entry. bytes_eq entry.name name) entries at nothing low
    (sym (is_eq-slice_cmp (get_or entries at nothing).name name) ∙ ap is_eq (holds nothing))
    (λ j before. sym (is_eq-slice_cmp (get_or entries j nothing).name name)
    ∙ ap is_eq (below nat_list_cmp_total (get_or entries j nothing).name (get_or entries at nothing).name name (rises j at nothing before low) (holds nothing)))))

pub named_none : (entries : List Entry) (name : List ℕ) (at : ℕ) → ByName entries → (IsNonDecreasingBy (λ (entry : Entry). ordering_index (slice_cmp nat_cmp entry.name name)) entries → IsPartitionPoint (λ (entry : Entry). slice_cmp nat_cmp entry.name name ≡ Less) (λ (entry : Entry). slice_cmp nat_cmp entry.name name ≡ Greater) entries at) → None ≡ place_named entries name
named_none entries name at rises parted =
    sym (past_place (λ entry. bytes_eq entry.name name) entries
    (no_place (λ entry. bytes_eq entry.name name) entries
    (λ j d low. sym (is_eq-slice_cmp (get_or entries j d).name name) ∙ none_has nat_list_cmp_total name_of entries name at rises parted j d low)))

-- ---- what rises goes on to rise where some of it is left out

all_chosen : {X : Type 0} (f : X → Option Entry) (P : X → Type 0) (Q : Entry → Type 0) (xs : List X) → ((x : X) (entry : Entry) → f x ≡ Some entry → P x → Q entry) → All P xs → All Q (filter_map f xs)
all_chosen f P Q [] gives all = λ i d low. absurd (omega (arith, low))
all_chosen f P Q (x ∷ xs) gives all = by (all_chosen f P Q xs gives (All-tail P x xs all)) (f x) refl
  where
    by : All Q (filter_map f xs) → (o : Option Entry) → f x ≡ o → All Q (filter_map f (x ∷ xs))
    by rest None e = subst (All Q) (sym (head_none f x xs e)) rest
    by rest (Some y) e = subst (All Q) (sym (head_some f x xs y e)) (All-cons Q y (filter_map f xs) (gives x y e (All-head P x xs all)) rest)

pub chosen_rises : {X : Type 0} (f : X → Option Entry) (name : X → List ℕ) (xs : List X) → ((x : X) (entry : Entry) → f x ≡ Some entry → entry.name ≡ name x) → AllPairs (λ a b. slice_cmp nat_cmp (name a) (name b) ≡ Less) xs → ByName (filter_map f xs)
chosen_rises f name [] same rises = λ i j d low high. absurd (omega (arith, high))
chosen_rises {X} f name (x ∷ xs) same rises =
    by (chosen_rises f name xs same (λ i j d low high. rises (suc i) (suc j) d (omega (arith, low)) (omega (arith, high)))) (f x) refl
  where
    head : All (λ (b : X). slice_cmp nat_cmp (name x) (name b) ≡ Less) xs
    head = λ j d low. rises 0 (suc j) d (omega arith) (omega (arith, low))

    above : (y : Entry) → f x ≡ Some y → All (λ (b : Entry). slice_cmp nat_cmp y.name b.name ≡ Less) (filter_map f xs)
    above y e =
        all_chosen f (λ b. slice_cmp nat_cmp (name x) (name b) ≡ Less) (λ b. slice_cmp nat_cmp y.name b.name ≡ Less) xs
        (λ b entry gives less. ap (λ (n : List ℕ). slice_cmp nat_cmp n entry.name) (same x y e) ∙ ap (slice_cmp nat_cmp (name x)) (same b entry gives) ∙ less)
        head

    by : ByName (filter_map f xs) → (o : Option Entry) → f x ≡ o → ByName (filter_map f (x ∷ xs))
    by rest None e = subst ByName (sym (head_none f x xs e)) rest
    by rest (Some y) e = subst ByName (sym (head_some f x xs y e)) (AllPairs-cons (λ a b. slice_cmp nat_cmp a.name b.name ≡ Less) y (filter_map f xs) (above y e) rest)
