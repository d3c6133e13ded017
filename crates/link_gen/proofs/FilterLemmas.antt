-- Loops that keep what passes a test.
use Rattle.std.proofs.Common.{◌≡◌, ℕ, ◌+◌, ◌<◌, ◌≤◌, List, [], ◌∷◌, ◌++◌, length, take, get_or, filter, cond, Bool, true, false, sym, ap, ◌∙◌, subst, append-nil, arith}
use Rattle.std.specs.List.{range_with_len}
use Rattle.std.proofs.lemmas.List.{length-append, map-id, take_all}
use Rattle.std.proofs.lemmas.List.Elements.{filter_more}
use Rattle.std.proofs.lemmas.List.FromFn.{filter_of_map_range_with_len_more}

-- ---- of a list

pub record IsFiltering {X : Type 0} (p : X → Bool) (xs : List X) (at : ℕ) (now : List X) : Type 0 where
  pub is : now ≡ filter p (take at xs)

pub filtering_starts : {X : Type 0} (p : X → Bool) (xs now : List X) → now ≡ [] → IsFiltering p xs 0 now
filtering_starts p xs now none = record { is = none }

pub filtering_keeps : {X : Type 0} (p : X → Bool) (xs now new : List X) (at : ℕ) (x : X) → IsFiltering p xs at now → at < length xs → x ≡ get_or xs at x → p x ≡ true → new ≡ now ++ x ∷ [] → IsFiltering p xs (at + 1) new
filtering_keeps {X = X} p xs now new at x filtering within is test e =
    let passes : p (get_or xs at x) ≡ true = ap p (sym is) ∙ test in record {
      is =
          e ∙ ap (λ (ys : List X). ys ++ x ∷ []) filtering.is
          ∙ ap (λ (y : X). filter p (take at xs) ++ y ∷ []) is
          ∙ ap (λ (c : Bool). filter p (take at xs) ++ cond c (get_or xs at x ∷ []) []) (sym passes)
          ∙ sym (filter_more p xs at x within);
    }

pub filtering_leaves : {X : Type 0} (p : X → Bool) (xs now : List X) (at : ℕ) (x : X) → IsFiltering p xs at now → at < length xs → x ≡ get_or xs at x → p x ≡ false → IsFiltering p xs (at + 1) now
filtering_leaves {X = X} p xs now at x filtering within is test =
    let fails : p (get_or xs at x) ≡ false = ap p (sym is) ∙ test in record {
      is =
          filtering.is ∙ sym (append-nil (filter p (take at xs)))
          ∙ ap (λ (c : Bool). filter p (take at xs) ++ cond c (get_or xs at x ∷ []) []) (sym fails)
          ∙ sym (filter_more p xs at x within);
    }

pub filtering_ends : {X : Type 0} (p : X → Bool) (xs now : List X) (at : ℕ) → IsFiltering p xs at now → length xs ≤ at → now ≡ filter p xs
filtering_ends {X = X} p xs now at filtering past = filtering.is ∙ ap (filter p) (take_all at xs past)

pub ruleset filtering = (filtering_starts, filtering_keeps, filtering_leaves, filtering_ends)

-- ---- of the numbers below one

filter_range_more : (p : ℕ → Bool) (n : ℕ) → filter p (range_with_len 0 (n + 1)) ≡ filter p (range_with_len 0 n) ++ cond (p n) (n ∷ []) []
filter_range_more p n =
    ap (filter p) (sym (map-id (range_with_len 0 (n + 1))))
    ∙ filter_of_map_range_with_len_more p (λ (k : ℕ). k) 0 n n (omega arith)
    ∙ ap (λ (ks : List ℕ). filter p ks ++ cond (p n) (n ∷ []) []) (map-id (range_with_len 0 n))

pub record IsFilteringRange (p : ℕ → Bool) (at : ℕ) (now : List ℕ) : Type 0 where
  pub is : now ≡ filter p (range_with_len 0 at)
  pub few : length now ≤ at

pub range_starts : (p : ℕ → Bool) (now : List ℕ) → now ≡ [] → IsFilteringRange p 0 now
range_starts p now none = record { is = none; few = rw none (omega arith) }

pub range_keeps : (p : ℕ → Bool) (now new : List ℕ) (at : ℕ) → IsFilteringRange p at now → p at ≡ true → new ≡ now ++ at ∷ [] → IsFilteringRange p (at + 1) new
range_keeps p now new at filtering passes e = record {
  is =
      e ∙ ap (λ (ys : List ℕ). ys ++ at ∷ []) filtering.is
      ∙ ap (λ (c : Bool). filter p (range_with_len 0 at) ++ cond c (at ∷ []) []) (sym passes)
      ∙ sym (filter_range_more p at);
  few = let small = filtering.few in rw e (simp length-append (omega arith));
}

pub range_leaves : (p : ℕ → Bool) (now : List ℕ) (at : ℕ) → IsFilteringRange p at now → p at ≡ false → IsFilteringRange p (at + 1) now
range_leaves p now at filtering fails = record {
  is =
      filtering.is ∙ sym (append-nil (filter p (range_with_len 0 at)))
      ∙ ap (λ (c : Bool). filter p (range_with_len 0 at) ++ cond c (at ∷ []) []) (sym fails)
      ∙ sym (filter_range_more p at);
  few = let small = filtering.few in omega arith;
}

pub range_ends : (p : ℕ → Bool) (now : List ℕ) (at n : ℕ) → IsFilteringRange p at now → at ≤ n → n ≤ at → now ≡ filter p (range_with_len 0 n)
range_ends p now at n filtering low high =
    let e : at ≡ n = omega arith in subst (λ (k : ℕ). now ≡ filter p (range_with_len 0 k)) e filtering.is

pub ruleset filtering_range = (range_starts, range_keeps, range_leaves, range_ends)
