-- The members of a list in order, each once.
use Rattle.std.proofs.Common.{◌≡◌, ◌⊎◌, List, [], ◌∷◌, refl, sym, ap, subst, ◌∙◌, inl, inr}
use Rattle.std.specs.List.Sorted.{IsStrictlySortedBy}
use Rattle.std.specs.Cmp.{IsTotalOrder}
use Rattle.std.specs.Ordering.{ordering_reverse}
use Rattle.std.specs.declared.cmp.Ordering.{Ordering}
use Rattle.std.specs.declared.cmp.Ordering.TheVariants.{Less, Equal, Greater}
use Rattle.list_lemmas.proofs.Members.{In, all_from_in, all_in, all_weaker}
use Rattle.fixup_chain.specs.inner.InOrder.{in_order, put, put_by}

module _ {K : Type 0} (c : K → K → Ordering) where
  in_put : (x : K) (ys : List K) (z : K) → In z (put c x ys) → (x ≡ z) ⊎ In z ys
  unfolding put
  in_put x [] z h = h
  in_put x (y ∷ ys) z h = by (c x y) (in_put x ys z) h
    where
      by : (o : Ordering) → (In z (put c x ys) → (x ≡ z) ⊎ In z ys) → In z (put_by o x y ys (put c x ys)) → (x ≡ z) ⊎ In z (y ∷ ys)
      by Less rest h = h
      by Equal rest h = inr h
      by Greater rest (inl e) = inr (inl e)
      by Greater rest (inr h) = elim (rest h) [
        | inl e ↦ inl e
        | inr i ↦ inr (inr i)
      ]

  put_in : ((a b : K) → c a b ≡ Equal → a ≡ b) → (x : K) (ys : List K) (z : K) → (x ≡ z) ⊎ In z ys → In z (put c x ys)
  unfolding put
  put_in same x [] z h = h
  put_in same x (y ∷ ys) z h = by (c x y) refl (put_in same x ys z) h
    where
      by : (o : Ordering) → c x y ≡ o → ((x ≡ z) ⊎ In z ys → In z (put c x ys)) → (x ≡ z) ⊎ In z (y ∷ ys) → In z (put_by o x y ys (put c x ys))
      by Less e rest h = h
      by Equal e rest (inl f) = inl (sym (same x y e) ∙ f)
      by Equal e rest (inr h) = h
      by Greater e rest (inl f) = inr (rest (inl f))
      by Greater e rest (inr (inl f)) = inl f
      by Greater e rest (inr (inr h)) = inr (rest (inr h))

  rising_put : IsTotalOrder c → (x : K) (ys : List K) → IsStrictlySortedBy c ys → IsStrictlySortedBy c (put c x ys)
  unfolding IsStrictlySortedBy put
  rising_put o x [] h = (tt, tt)
  rising_put o x (y ∷ ys) h = by (c x y) refl (rising_put o x ys h.1)
    where
      by : (r : Ordering) → c x y ≡ r → IsStrictlySortedBy c (put c x ys) → IsStrictlySortedBy c (put_by r x y ys (put c x ys))
      by Less e rest = ((e, all_weaker (λ z. c y z ≡ Less) (λ z. c x z ≡ Less) (λ z f. o.trans x y z e f) ys h.0), h)
      by Equal e rest = h
      by Greater e rest =
          let back : c y x ≡ Less = o.antisymm y x ∙ ap ordering_reverse e in (
            all_from_in (λ z. c y z ≡ Less) (put c x ys)
                (λ z i. elim (in_put x ys z i) [
                  | inl f ↦ subst (λ (w : K). c y w ≡ Less) f back
                  | inr j ↦ all_in (λ z. c y z ≡ Less) ys z h.0 j
                ]),
            rest,
          )

  pub order_rises : IsTotalOrder c → (xs : List K) → IsStrictlySortedBy c (in_order c xs)
  unfolding IsStrictlySortedBy in_order
  order_rises o [] = tt
  order_rises o (x ∷ xs) = rising_put o x (in_order c xs) (order_rises o xs)

  pub in_in_order : ((a b : K) → c a b ≡ Equal → a ≡ b) → (xs : List K) (z : K) → In z xs → In z (in_order c xs)
  unfolding in_order
  in_in_order same [] z h = absurd h
  in_in_order same (x ∷ xs) z (inl e) = put_in same x (in_order c xs) z (inl e)
  in_in_order same (x ∷ xs) z (inr h) = put_in same x (in_order c xs) z (inr (in_in_order same xs z h))

  pub from_in_order : (xs : List K) (z : K) → In z (in_order c xs) → In z xs
  unfolding in_order
  from_in_order [] z h = absurd h
  from_in_order (x ∷ xs) z h = elim (in_put x (in_order c xs) z h) [
    | inl e ↦ inl e
    | inr i ↦ inr (from_in_order xs z i)
  ]
