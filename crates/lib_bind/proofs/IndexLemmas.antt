-- A map from names.
use Rattle.std.proofs.Common.{◌≡◌, ℕ, Bool, true, false, List, Option, refl, sym, subst, ◌∙◌}
use Rattle.std.specs.Prelude.{bytes_eq, if◌then◌else◌}
use Rattle.std.specs.Cmp.Lexicographic.{nat_list_eq_equiv}
use Rattle.std.specs.HashMap.{HashMap, get_by, UpdatesBy}
use Rattle.std.specs.Map.{KeepsOthers, IsKeyTest, AreApart, lookup}
use Rattle.std.proofs.lemmas.Slice.Eq.{bytes_eq-Decides}

apart : (bs cs ks : List ℕ) → bytes_eq bs cs ≡ false → bytes_eq bs ks ≡ true → bytes_eq cs ks ≡ false
apart bs cs ks n y = nat_list_eq_equiv.symm cs ks ∙ sym (nat_list_eq_equiv.congr bs ks cs y) ∙ n

module _ {K : Type 0} (eq : K → K → Bool) (test : K → Bool) where
  other_entries : {X : Type 0} (old new : List (K × X)) → KeepsOthers eq test old new → (other : K → Bool) → IsKeyTest eq other → AreApart test other → lookup other new ≡ lookup other old
  unfolding KeepsOthers
  other_entries old new h = h

chosen : {W : Type 0} (here : Bool) (bs cs : List ℕ) (w : W) (f g : List ℕ → W) → bytes_eq bs cs ≡ here → g bs ≡ w → (bytes_eq bs cs ≡ false → g cs ≡ f cs) → g cs ≡ (if here then w else f cs)
chosen true bs cs w f g is first other = subst (λ l. g l ≡ w) ((bytes_eq-Decides bs cs).0 is) first
chosen false bs cs w f g is first other = other is

module _ {K X S : Type 0} (bytes : K → List ℕ) where
  -- after a value is put at a key, each name has its value, the key's the new one
  pub put_at : (name : List ℕ) (m n : HashMap K X S) (w : Option X) → UpdatesBy (λ x y. bytes_eq (bytes x) (bytes y)) (λ k. bytes_eq name (bytes k)) m n w
      → (other : List ℕ) → get_by (λ k. bytes_eq other (bytes k)) n ≡ (if bytes_eq other name then w else get_by (λ k. bytes_eq other (bytes k)) m)
  put_at name m n w h other =
      rw (nat_list_eq_equiv.symm other name) (chosen (bytes_eq name other) name other w (λ ds. get_by (λ k. bytes_eq ds (bytes k)) m) (λ ds. get_by (λ k. bytes_eq ds (bytes k)) n) refl h.1
      (λ e. other_entries _ _ _ _ h.3 _ (λ x y. nat_list_eq_equiv.congr other (bytes x) (bytes y)) (λ k. apart name other (bytes k) e)))
