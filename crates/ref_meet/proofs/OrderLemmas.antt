-- The orders of the references of files.
use Rattle.std.proofs.Common.{◌≡◌, ℕ, suc, ◌+◌, ◌<◌, ◌≤◌, List, [], ◌∷◌, ◌++◌, length, take, get_or, slice_get, Some, None, zero, ◌⊎◌, inl, inr, refl, sym, ap, ◌∙◌, subst, arith, length-append}
use Rattle.std.proofs.lemmas.List.{take_all, take_more}
use Rattle.liveness.specs.Order.{AreInOrder}
use Rattle.mo_types.specs.declared.loaded.LoadedFile.{LoadedFile}
use Rattle.ref_meet.specs.inner.Orders.{AreOrders}

-- orders of the files before a place
pub record AreSoFar (files : List LoadedFile) (at : ℕ) (orders : List (List ℕ)) : Type 0 where
  pub are : AreOrders (take at files) orders

none_there : (at : ℕ) (file : LoadedFile) → ◌≡◌ None (Some file) → ⊥
none_there at file e = cc

pub orders_start : (files : List LoadedFile) (orders : List (List ℕ)) → orders ≡ [] → AreSoFar files 0 orders
orders_start files orders none = record {
  are = record { count = ap length none; each = λ at file order f o. absurd (none_there at file f) };
}

-- the last of a list, or one before it
pub last_or : {X : Type 0} (xs : List X) (x y : X) (at : ℕ) → slice_get (xs ++ x ∷ []) at ≡ Some y → ((at ≡ length xs) × (y ≡ x)) ⊎ (slice_get xs at ≡ Some y)
last_or [] x y zero e = inl (refl, cc)
last_or [] x y (suc at) e = absurd cc
last_or (z ∷ xs) x y zero e = inr e
last_or (z ∷ xs) x y (suc at) e = elim (last_or xs x y at e) [
  | inl p ↦ inl (ap suc p.0, p.1)
  | inr before ↦ inr before
]

within : {X : Type 0} (xs : List X) (x : X) (at : ℕ) → slice_get xs at ≡ Some x → at < length xs
within [] x at e = absurd cc
within (y ∷ ys) x zero e = omega arith
within (y ∷ ys) x (suc at) e = omega (arith, within ys x at e)

more : (files : List LoadedFile) (orders : List (List ℕ)) (file : LoadedFile) (order : List ℕ) → AreOrders files orders → AreInOrder file.refs order → AreOrders (files ++ file ∷ []) (orders ++ order ∷ [])
more files orders file order are one = record {
  count = length-append orders (order ∷ []) ∙ ap (λ n. n + 1) are.count ∙ sym (length-append files (file ∷ []));
  each = λ at f o is_f is_o. elim (last_or files file f at is_f) [
    | inl p ↦ elim (last_or orders order o at is_o) [
      | inl q ↦ subst (λ (x : LoadedFile). AreInOrder x.refs o) (sym p.1) (subst (λ (x : List ℕ). AreInOrder file.refs x) (sym q.1) one)
      | inr early ↦ absurd (omega (arith, within orders o at early, p.0, are.count))
    ]
    | inr before ↦ elim (last_or orders order o at is_o) [
      | inl q ↦ absurd (omega (arith, within files f at before, q.0, are.count))
      | inr early ↦ are.each at f o before early
    ]
  ];
}

pub order_more : (files : List LoadedFile) (at : ℕ) (orders new : List (List ℕ)) (file : LoadedFile) (order : List ℕ) → AreSoFar files at orders → at < length files → file ≡ get_or files at file → AreInOrder file.refs order → new ≡ orders ++ order ∷ [] → AreSoFar files (at + 1) new
order_more files at orders new file order so_far low is one grown =
    let next : take (at + 1) files ≡ take at files ++ file ∷ [] = take_more files at file low ∙ ap (λ (x : LoadedFile). take at files ++ x ∷ []) (sym is) in
    record { are = subst (λ (xs : List LoadedFile). AreOrders xs new) (sym next) (subst (λ (os : List (List ℕ)). AreOrders (take at files ++ file ∷ []) os) (sym grown) (more (take at files) orders file order so_far.are one)) }

pub orders_end : (files : List LoadedFile) (at : ℕ) (orders : List (List ℕ)) → AreSoFar files at orders → length files ≤ at → AreOrders files orders
orders_end files at orders so_far past = subst (λ (xs : List LoadedFile). AreOrders xs orders) (take_all at files past) so_far.are

pub ruleset orders = (orders_start, orders_end)

pub order_of : (files : List LoadedFile) (orders : List (List ℕ)) (at : ℕ) (file : LoadedFile) (order : List ℕ) → AreOrders files orders → slice_get files at ≡ Some file → slice_get orders at ≡ Some order → AreInOrder file.refs order
order_of files orders at file order are f o = are.each at file order f o

past : {X : Type 0} (xs : List X) (at : ℕ) → slice_get xs at ≡ None → length xs ≤ at
past [] at e = omega arith
past (x ∷ xs) zero e = absurd cc
past (x ∷ xs) (suc at) e = omega (arith, past xs at e)

pub no_order : (files : List LoadedFile) (orders : List (List ℕ)) (at : ℕ) (file : LoadedFile) → AreOrders files orders → slice_get files at ≡ Some file → slice_get orders at ≡ None → ⊥
no_order files orders at file are f o = absurd (omega (arith, within files file at f, past orders at o, are.count))
