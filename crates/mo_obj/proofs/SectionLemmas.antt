-- Rules of sections that fail at no header.
use Rattle.std.proofs.Common.{tests, ◌≡◌, ℕ, ◌≤◌, List, length, get_or, true, false, not, nat_lt, Bool, Option, Some, None, Result, Ok, Err, IfOk, All, if◌then◌else◌, refl, sym, ◌∙◌, arith}
use Rattle.std.specs.List.{position, position_or_len}
use Rattle.std.proofs.lemmas.List.Sums.{prefix_len_passes}

only_false : (b : Bool) → not b ≡ true → b ≡ false
only_false false e = refl
only_false true e = cc

none_means_false : (n : ℕ) (b : Bool) → (if b then Some n else None) ≡ None → b ≡ false
none_means_false n true none = cc
none_means_false n false none = refl

past_end : (n m : ℕ) → false ≡ nat_lt n m → m ≤ n
past_end n m e = search tests

pub none_at_fault : {X : Type 0} (test : X → Bool) (xs : List X) (found : Option ℕ) → found ≡ position test xs → found ≡ None → All (λ x. test x ≡ false) xs
none_at_fault test xs found is none k d within =
    let past : length xs ≤ position_or_len test xs = past_end (position_or_len test xs) (length xs) (sym (none_means_false _ _ (sym is ∙ none))) in
    only_false (test (get_or xs k d)) (prefix_len_passes (λ x. not (test x)) xs k d (omega arith))

pub kept_by_all : {X A E : Type 0} (test : X → Bool) (xs : List X) (found : Option ℕ) (kept : Result A E) → found ≡ position test xs → IfOk kept (λ done. found ≡ None) → IfOk kept (λ done. All (λ x. test x ≡ false) xs)
kept_by_all test xs found (Ok done) is none = none_at_fault test xs found is none
kept_by_all test xs found (Err e) is none = tt

pub ruleset checks = (none_at_fault, kept_by_all)
