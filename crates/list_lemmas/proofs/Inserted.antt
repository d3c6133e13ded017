-- The members of a list into which keys are inserted, each once.
use Rattle.std.proofs.Common.{◌≡◌, ◌⊎◌, Bool, true, false, List, [], ◌∷◌, ◌++◌, refl, sym, ap, subst, ◌∙◌, inl, inr, append_assoc}
use Rattle.std.specs.List.{list_any}
use Rattle.std.proofs.lemmas.List.{append-nil}
use Rattle.indexmap.specs.IndexSet.{insert_all, insert_key}
use Rattle.list_lemmas.proofs.Members.{In, any_true, from_last, in_last, in_left}

module _ {K : Type 0} (same : K → K → Bool) (equal : (a b : K) → same a b ≡ true → a ≡ b) where
  kept_by_key : (ks : List K) (k x : K) (there : Bool) → list_any (same k) ks ≡ there → In x ks → In x (insert_key same ks k)
  kept_by_key ks k x true is h = rw is h
  kept_by_key ks k x false is h = rw is (in_left ks (k ∷ []) x h)

  key_there : (ks : List K) (k : K) (there : Bool) → list_any (same k) ks ≡ there → In k (insert_key same ks k)
  key_there ks k true is =
      let found : (x : K) × In x ks × (same k x ≡ true) = any_true (same k) ks is in
      rw is (subst (λ (q : K). In q ks) (sym (equal k found.0 found.2)) found.1)
  key_there ks k false is = rw is (in_last ks k)

  from_key : (ks : List K) (k x : K) (there : Bool) → list_any (same k) ks ≡ there → In x (insert_key same ks k) → In x ks ⊎ (k ≡ x)
  from_key ks k x true is h = inl (rw is at h)
  from_key ks k x false is h = from_last ks k x (rw is at h)

  key_behind : (ks : List K) (k : K) (there : Bool) → list_any (same k) ks ≡ there → (rest : List K) × (insert_key same ks k ≡ ks ++ rest)
  key_behind ks k true is = ([], rw is (sym (append-nil ks)))
  key_behind ks k false is = (k ∷ [], rw is refl)

  -- those before stay
  pub kept_inserted : (ks xs : List K) (x : K) → In x ks → In x (insert_all same ks xs)
  kept_inserted ks [] x h = h
  kept_inserted ks (y ∷ xs) x h = kept_inserted (insert_key same ks y) xs x (kept_by_key ks y x (list_any (same y) ks) refl h)

  -- each that is inserted is there
  pub in_inserted : (ks xs : List K) (x : K) → In x xs → In x (insert_all same ks xs)
  in_inserted ks [] x h = absurd h
  in_inserted ks (y ∷ xs) x (inl e) = kept_inserted (insert_key same ks y) xs x (subst (λ (q : K). In q (insert_key same ks y)) e (key_there ks y (list_any (same y) ks) refl))
  in_inserted ks (y ∷ xs) x (inr h) = in_inserted (insert_key same ks y) xs x h

  -- nothing else is
  pub from_inserted : (ks xs : List K) (x : K) → In x (insert_all same ks xs) → In x ks ⊎ In x xs
  from_inserted ks [] x h = inl h
  from_inserted ks (y ∷ xs) x h = elim (from_inserted (insert_key same ks y) xs x h) [
    | inl there ↦ elim (from_key ks y x (list_any (same y) ks) refl there) [
      | inl old ↦ inl old
      | inr e ↦ inr (inl e)
    ]
    | inr later ↦ inr (inr later)
  ]

  -- what is inserted goes behind
  pub behind : (ks xs : List K) → (rest : List K) × (insert_all same ks xs ≡ ks ++ rest)
  behind ks [] = ([], sym (append-nil ks))
  behind ks (y ∷ xs) =
      let first : (rest : List K) × (insert_key same ks y ≡ ks ++ rest) = key_behind ks y (list_any (same y) ks) refl in
      let later : (rest : List K) × (insert_all same (insert_key same ks y) xs ≡ insert_key same ks y ++ rest) = behind (insert_key same ks y) xs in
      (first.0 ++ later.0, later.1 ∙ ap (λ (front : List K). front ++ later.0) first.1 ∙ append_assoc ks first.0 later.0)
