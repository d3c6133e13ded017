-- The places of names, one by one.
use Rattle.std.proofs.Common.{◌≡◌, ℕ, ◌+◌, ◌<◌, Bool, true, false, List, length, get_or, refl, sym, ap, subst, ◌∙◌, inl, inr, arith, Some, None}
use Rattle.std.specs.Prelude.{IsSome, if◌then◌else◌}
use Rattle.std.specs.Str.{bytes_eq}
use Rattle.std.proofs.lemmas.Bool.{cases_lt}
use Rattle.std.proofs.lemmas.Slice.Eq.{bytes_eq-Decides}
use Rattle.symbol_winners.specs.declared.chosen.Chosen.{Chosen}
use Rattle.symbol_winners.specs.declared.name_index.NameIndex.{NameIndex}
use Rattle.symbol_winners.specs.inner.Best.{chosen_name}
use Rattle.symbol_winners.specs.inner.Index.{IsIndexOf, known}

pub index_start : (chosen : List Chosen) (index : NameIndex) → ((name : List ℕ) → known index name ≡ None) → IsIndexOf chosen 0 index
index_start chosen index none = record {
  within = λ name k is. let e : None ≡ Some k = sym (none name) ∙ is in cc;
  found = λ name k d is. let e : None ≡ Some k = sym (none name) ∙ is in cc;
  all = λ k d low. absurd (omega (arith, low));
}

pub index_step : (chosen : List Chosen) (old new : NameIndex) (i : ℕ) (one : Chosen) → IsIndexOf chosen i old → i < length chosen → ((d : Chosen) → one ≡ get_or chosen i d) → ((other : List ℕ) → known new other ≡ (if bytes_eq (chosen_name one) other then Some i else known old other)) → IsIndexOf chosen (i + 1) new
index_step chosen old new i one is_index low is after = record {
  within = λ name k at. within_by name k at (bytes_eq (chosen_name one) name) refl;
  found = λ name k d at. found_by name k d at (bytes_eq (chosen_name one) name) refl;
  all = λ k d under. all_by k d under (bytes_eq (chosen_name one) (chosen_name (get_or chosen k d))) refl;
}
  where
    here : (name : List ℕ) (k : ℕ) → known new name ≡ Some k → bytes_eq (chosen_name one) name ≡ true → i ≡ k
    here name k at e = let f : Some i ≡ Some k = sym (after name ∙ rw e refl) ∙ at in cc

    there : (name : List ℕ) (k : ℕ) → known new name ≡ Some k → bytes_eq (chosen_name one) name ≡ false → known old name ≡ Some k
    there name k at e = sym (after name ∙ rw e refl) ∙ at

    within_by : (name : List ℕ) (k : ℕ) → known new name ≡ Some k → (b : Bool) → bytes_eq (chosen_name one) name ≡ b → k < i + 1
    within_by name k at true e = let same : i ≡ k = here name k at e in omega (arith, same)
    within_by name k at false e = let l : k < i = is_index.within name k (there name k at e) in omega (arith, l)

    found_by : (name : List ℕ) (k : ℕ) (d : Chosen) → known new name ≡ Some k → (b : Bool) → bytes_eq (chosen_name one) name ≡ b → chosen_name (get_or chosen k d) ≡ name
    found_by name k d at true e = subst (λ (n : ℕ). chosen_name (get_or chosen n d) ≡ name) (here name k at e) (ap chosen_name (sym (is d)) ∙ (bytes_eq-Decides (chosen_name one) name).0 e)
    found_by name k d at false e = is_index.found name k d (there name k at e)

    all_by : (k : ℕ) (d : Chosen) → k < i + 1 → (b : Bool) → bytes_eq (chosen_name one) (chosen_name (get_or chosen k d)) ≡ b → IsSome (known new (chosen_name (get_or chosen k d)))
    all_by k d under true e = let f : known new (chosen_name (get_or chosen k d)) ≡ Some i = after (chosen_name (get_or chosen k d)) ∙ rw e refl in rw f refl
    all_by k d under false e = elim (cases_lt k i) [
      | inl before ↦ let f : known new (chosen_name (get_or chosen k d)) ≡ known old (chosen_name (get_or chosen k d)) = after (chosen_name (get_or chosen k d)) ∙ rw e refl in rw f (is_index.all k d before)
      | inr not_before ↦
          let same : k ≡ i = omega (arith, under, not_before) in
          absurd (let f : bytes_eq (chosen_name one) (chosen_name (get_or chosen k d)) ≡ true = (bytes_eq-Decides (chosen_name one) (chosen_name (get_or chosen k d))).1 (ap chosen_name (is d ∙ ap (λ (n : ℕ). get_or chosen n d) (sym same))) in let g : true ≡ false = sym f ∙ e in cc)
    ]
