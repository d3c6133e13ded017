-- What is held for a pointer tells its offset, if that has room in a word.
use Rattle.std.proofs.Common.{◌≡◌, ℕ, ◌<◌, ◌^◌, ◌==◌, ◌&&◌, Bool, true, false, not, nat_lt, ℤ, pos, negsuc, List, Option, Some, None, is_none, refl, sym, ap, ◌∙◌, if◌then◌else◌, arith}
use Rattle.std.specs.Prelude.{unwrap_or}
use Rattle.std.proofs.lemmas.Bool.{eq-eqb, lt-ltb, ltb-true, ne_eqb}
use Rattle.image_format.specs.ChainedPointer.{rebase_word}
use Rattle.sect_place.specs.declared.layout.Layout.{Layout}
use Rattle.fixup_chain.specs.Faults.{is_far, target_of}
use Rattle.fixup_chain.specs.ImportOrder.{Import}
use Rattle.fixup_chain.specs.Imports.{is_bound}
use Rattle.fixup_chain.specs.Words.{in_rebase, word_by}
use Rattle.fixup_chain.specs.inner.Held.{FAR, HasOffset, offset_by}
use Rattle.fixup_chain.specs.declared.chains.Fixup.{Fixup}

offset_is : (target : ℤ) (o : Option ℕ) → in_rebase target ≡ o → offset_by target ≡ unwrap_or o FAR
unfolding offset_by
offset_is target o e = rw e refl

-- an offset with room in a word is far below what tells that there is none
low : (target : ℤ) (n : ℕ) → in_rebase target ≡ Some n → n < 2 ^ 36
low (pos m) n e = by (nat_lt m (2 ^ 36)) refl e
  where
    by : (b : Bool) → nat_lt m (2 ^ 36) ≡ b → (if b then Some m else None) ≡ Some n → n < 2 ^ 36
    by true f g = let same : m ≡ n = cc in omega (arith, ltb-true m (2 ^ 36) f, same)
    by false f g = absurd (cc)
low (negsuc m) n e = absurd (cc)

no_room : (target : ℤ) (o : Option ℕ) → in_rebase target ≡ o → (offset_by target == FAR) ≡ is_none o
no_room target None e = eq-eqb (offset_by target) FAR (offset_is target None e)
no_room target (Some n) e =
    let value : offset_by target ≡ n = offset_is target (Some n) e in
    let small : n < 2 ^ 36 = low target n e in
    ne_eqb (offset_by target) FAR (λ f. omega (arith, value, small, f))

pub far_is : (layout : Layout) (x : Fixup) (held : ℕ) → HasOffset layout x held → (not (is_bound x.goal) && (held == FAR)) ≡ is_far layout x
far_is layout x held has = by (is_bound x.goal) refl
  where
    by : (b : Bool) → is_bound x.goal ≡ b → (not b && (held == FAR)) ≡ (not b && is_none (in_rebase (target_of layout x)))
    by true e = refl
    by false e = ap (λ (h : ℕ). h == FAR) (has.is e) ∙ no_room (target_of layout x) (in_rebase (target_of layout x)) refl

pub room_is : (target : ℤ) (held : ℕ) → held ≡ offset_by target → (if nat_lt held (2 ^ 36) then held else 0) ≡ unwrap_or (in_rebase target) 0
room_is target held e = by (in_rebase target) refl
  where
    by : (o : Option ℕ) → in_rebase target ≡ o → (if nat_lt held (2 ^ 36) then held else 0) ≡ unwrap_or o 0
    by None f = let value : held ≡ FAR = e ∙ offset_is target None f in rw value refl
    by (Some n) f =
        let value : held ≡ n = e ∙ offset_is target (Some n) f in
        let small : n < 2 ^ 36 = low target n f in
        ap (λ (b : Bool). if b then held else 0) (lt-ltb held (2 ^ 36) (omega (arith, value, small))) ∙ value

pub far_where : (layout : Layout) (x : Fixup) (held : ℕ) → is_bound x.goal ≡ false → HasOffset layout x held → (held == FAR) ≡ is_far layout x
far_where layout x held other has = ap (λ (b : Bool). not b && (held == FAR)) (sym other) ∙ far_is layout x held has

-- ---- the word of a pointer

pub rebase_is : (layout : Layout) (wide : Bool) (imports : List Import) (next held room word : ℕ) (x : Fixup) → is_bound x.goal ≡ false → HasOffset layout x held → ((target : ℤ) → held ≡ offset_by target → room ≡ unwrap_or (in_rebase target) 0) → word ≡ rebase_word (record { target = room; high8 = 0; reserved = 0; next = next }) → word ≡ word_by wide imports (target_of layout x) next x
unfolding word_by
rebase_is layout wide imports next held room word x other has told e =
    e
    ∙ ap (λ (n : ℕ). rebase_word (record { target = n; high8 = 0; reserved = 0; next = next })) (told (target_of layout x) (has.is other))
    ∙ sym (rw other refl)
