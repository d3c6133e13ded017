-- A write that fails and leaves the files as they were has written no bytes of its piece.
use Rattle.std.proofs.Common.{◌≡◌, ◌∙◌, ap, sym, refl, arith, append-nil, List, [], ◌∷◌, ℕ, OnErr, Result, Ok, Err}
use Rattle.mo_outside.specs.declared.traits.Failed.{Failed}
use Rattle.mo_outside.specs.Written.{Written, at_last, with_more, TakesSome}

at_last_same : {A : Type 0} (change : A → A) → ((x : A) → change x ≡ x) → (xs : List A) → at_last change xs ≡ xs
at_last_same change same [] = refl
at_last_same change same (x ∷ []) = ap (λ y. y ∷ []) (same x)
at_last_same change same (x ∷ y ∷ ys) = ap (λ zs. x ∷ zs) (at_last_same change same (y ∷ ys))

with_no_more : (file : Written) → with_more [] file ≡ file
with_no_more file = ap (λ bytes. record file { bytes = bytes }) (append-nil file.bytes)

pub takes_nothing : {T : Type 0} (r : Result T Failed) (piece : List ℕ) (old new : List Written)
    → OnErr r (new ≡ old) → OnErr r (TakesSome piece old new)
takes_nothing (Ok x) piece old new h = h
takes_nothing (Err e) piece old new same =
    record { count = 0; within = omega arith; taken = same ∙ sym (at_last_same (with_more []) with_no_more old) }
