-- What the loader reads of the words of pointers.
use Rattle.std.proofs.Common.{◌≡◌, ℕ, ◌+◌, ◌/◌, ◌%◌, ◌^◌, ◌<◌, ◌≤◌, Bool, true, false, ℤ, pos, negsuc, List, nat_lt, unwrap_or, Some, None, FitsSigned, lit<, Ok, if◌then◌else◌, refl, sym, ap, ◌∙◌, arith}
use Rattle.std.specs.Int.{cast_signed, cast_unsigned, w64}
use Rattle.std.proofs.lemmas.Bool.{lt-ltb, ltb-true, false≢true}
use Rattle.std.proofs.lemmas.Int.{to_z-of_z}
use Rattle.image_format.specs.ChainedPointer as pointer
use Rattle.image_format.specs.ChainedPointer.{bind_word, rebase_word}
use Rattle.image_format.specs.declared.chained_pointer.ChainedBind.{ChainedBind}
use Rattle.image_format.specs.declared.chained_pointer.ChainedRebase.{ChainedRebase}
use Rattle.image_format.proofs.PointerLemmas.{bind_of-bind_word, rebase_of-rebase_word}
use Rattle.mo_types.specs.declared.goal.Goal.{Goal}
use Rattle.mo_types.specs.declared.goal.Goal.TheVariants as goal
use Rattle.fixup_chain.specs.ImportOrder as order
use Rattle.fixup_chain.specs.Imports as imports
use Rattle.fixup_chain.specs.Imports.{import_of, is_bound, is_small}
use Rattle.fixup_chain.specs.Words.{in_rebase, number_of, word_addend, word_by}
use Rattle.fixup_chain.specs.declared.chains.Fixup.{Fixup}
use Rattle.image_read.specs.Fixups.{fixup_of, import_at, next_of, ordinal_of}
use Rattle.image_read.specs.declared.fixups.FixupRead.TheVariants.{Bind, Rebase}
use Rattle.image_read.specs.declared.fixups.Import.{Import}
use Rattle.image_read.specs.declared.imports.FixupsHeader.{FixupsHeader}
use Rattle.chain_laws.specs.Carried.{HasOrdinal, signed_ordinal}
use Rattle.chain_laws.proofs.ImportReading.{import_told, read_ordinal, unsigned_small}
use Rattle.chain_laws.proofs.Steps.{goes_on}

-- ---- binds

abbrev pub bind_by : ℕ → ℕ → ℕ → ChainedBind
bind_by number addend next = record { ordinal = number; addend = addend; reserved = 0; next = next }

-- the fields of a bind's word
pub record IsBindWord (word number addend next : ℕ) : Type 0 where
  pub high : 2 ^ 63 ≤ word
  pub number_is : word % 2 ^ 24 ≡ number
  pub addend_is : word / 2 ^ 24 % 2 ^ 8 ≡ addend
  pub next_is : next_of word ≡ next

bind_fields : (number addend next : ℕ) → number < 2 ^ 24 → addend < 2 ^ 8 → next < 2 ^ 12 → IsBindWord (bind_word (bind_by number addend next)) number addend next
unfolding pointer.bind_of
bind_fields number addend next a b c =
    let same : pointer.bind_of (bind_word (bind_by number addend next)) ≡ bind_by number addend next = bind_of-bind_word (bind_by number addend next) (record { ordinal = a; addend = b; reserved = lit< tt; next = c }) in
    record {
      high = omega arith;
      number_is = ap (λ (s : ChainedBind). s.ordinal) same;
      addend_is = ap (λ (s : ChainedBind). s.addend) same;
      next_is = ap (λ (s : ChainedBind). s.next) same;
    }

addend_small : (wide : Bool) (addend : ℤ) → word_addend wide addend < 2 ^ 8
addend_small true addend = lit< tt
addend_small false addend = omega arith

pub bind_word_is : (wide : Bool) (all : List order.Import) (target : ℤ) (next : ℕ) (fixup : Fixup) → is_bound fixup.goal ≡ true → number_of all (import_of wide fixup) < 2 ^ 24 → next < 2 ^ 12 → IsBindWord (word_by wide all target next fixup) (number_of all (import_of wide fixup)) (word_addend wide fixup.addend) next
unfolding word_by
bind_word_is wide all target next fixup bound few low =
    let word = bind_word (bind_by (number_of all (import_of wide fixup)) (word_addend wide fixup.addend) next) in
    rw bound (bind_fields (number_of all (import_of wide fixup)) (word_addend wide fixup.addend) next few (addend_small wide fixup.addend) low)

-- ---- rebases

abbrev pub rebase_by : ℕ → ℕ → ChainedRebase
rebase_by target next = record { target = target; high8 = 0; reserved = 0; next = next }

pub record IsRebaseWord (word target next : ℕ) : Type 0 where
  pub low : word < 2 ^ 63
  pub target_is : word % 2 ^ 36 ≡ target
  pub next_is : next_of word ≡ next

rebase_fields : (target next : ℕ) → target < 2 ^ 36 → next < 2 ^ 12 → IsRebaseWord (rebase_word (rebase_by target next)) target next
unfolding pointer.rebase_of
rebase_fields target next a b =
    let same : pointer.rebase_of (rebase_word (rebase_by target next)) ≡ rebase_by target next = rebase_of-rebase_word (rebase_by target next) (record { target = a; high8 = lit< tt; reserved = lit< tt; next = b }) in
    record {
      low = omega (arith, a, b);
      target_is = ap (λ (s : ChainedRebase). s.target) same;
      next_is = ap (λ (s : ChainedRebase). s.next) same;
    }

rebase_small : (target : ℤ) → unwrap_or (in_rebase target) 0 < 2 ^ 36
rebase_small (pos n) = by (nat_lt n (2 ^ 36)) refl
  where
    by : (b : Bool) → nat_lt n (2 ^ 36) ≡ b → unwrap_or (if b then Some n else None) 0 < 2 ^ 36
    by true e = ltb-true n (2 ^ 36) e
    by false e = lit< tt
rebase_small (negsuc n) = lit< tt

pub rebase_word_is : (wide : Bool) (all : List order.Import) (target : ℤ) (next : ℕ) (fixup : Fixup) → is_bound fixup.goal ≡ false → next < 2 ^ 12 → IsRebaseWord (word_by wide all target next fixup) (unwrap_or (in_rebase target) 0) next
unfolding word_by
rebase_word_is wide all target next fixup other low = rw other (rebase_fields (unwrap_or (in_rebase target) 0) next (rebase_small target) low)

-- the target that a rebase holds is where it leads
pub target_held : (target : ℤ) (offset : ℕ) → in_rebase target ≡ Some offset → pos offset ≡ target
target_held (pos n) offset e = by (nat_lt n (2 ^ 36)) e
  where
    by : (b : Bool) → (if b then Some n else None) ≡ Some offset → pos offset ≡ pos n
    by true f = let same : n ≡ offset = cc in ap pos (sym same)
    by false f = absurd (let g : ⊥ = cc in g)
target_held (negsuc n) offset e = absurd (let g : ⊥ = cc in g)

-- each word tells the distance
pub next_told : (wide : Bool) (all : List order.Import) (target : ℤ) (next : ℕ) (fixup : Fixup) → number_of all (import_of wide fixup) < 2 ^ 24 → next < 2 ^ 12 → next_of (word_by wide all target next fixup) ≡ next
next_told wide all target next fixup few low = by (is_bound fixup.goal) refl
  where
    by : (b : Bool) → is_bound fixup.goal ≡ b → next_of (word_by wide all target next fixup) ≡ next
    by true e = (bind_word_is wide all target next fixup e few low).next_is
    by false e = (rebase_word_is wide all target next fixup e low).next_is

-- ---- what is read

pub rebase_read : (image : List ℕ) (header : FixupsHeader) (word target next : ℕ) → IsRebaseWord word target next → fixup_of image header word ≡ Ok (Rebase target)
unfolding fixup_of
rebase_read image header word target next is =
    let test : nat_lt word (2 ^ 63) ≡ true = lt-ltb word (2 ^ 63) is.low in
    rw test (ap (λ (n : ℕ). Ok (Rebase n)) is.target_is)

not_less : (a b : ℕ) → b ≤ a → nat_lt a b ≡ false
not_less a b high = by (nat_lt a b) refl
  where
    by : (t : Bool) → nat_lt a b ≡ t → nat_lt a b ≡ false
    by true e = let less : a < b = ltb-true a b e in absurd (omega (arith, less, high))
    by false e = e

pub bind_read : (image : List ℕ) (header : FixupsHeader) (word number addend next : ℕ) (import : Import) → IsBindWord word number addend next → import_at image header number ≡ Ok import → fixup_of image header word ≡ Ok (Bind number import.ordinal (cast_signed w64 ((addend + import.addend) % 2 ^ 64)) import.optional)
unfolding fixup_of
bind_read image header word number addend next import is at =
    let test : nat_lt word (2 ^ 63) ≡ false = not_less word (2 ^ 63) is.high in
    rw (test, is.number_is) (goes_on (import_at image header number) import _ (Ok (Bind number import.ordinal (cast_signed w64 ((addend + import.addend) % 2 ^ 64)) import.optional)) at (rw is.addend_is refl))

-- the addend that is read is the pointer's
pub addend_read : (wide : Bool) (fixup : Fixup) → FitsSigned w64 fixup.addend → (wide ≡ false → is_small fixup.addend ≡ true) → cast_signed w64 ((word_addend wide fixup.addend + (import_told wide (import_of wide fixup)).addend) % 2 ^ 64) ≡ fixup.addend
unfolding import_of
addend_read true fixup fits small =
    let low : cast_unsigned w64 fixup.addend < 2 ^ 64 = unsigned_small fixup.addend fits in
    let same : (0 + cast_unsigned w64 fixup.addend) % 2 ^ 64 ≡ cast_unsigned w64 fixup.addend = omega (arith, low) in
    ap (cast_signed w64) same ∙ to_z-of_z w64 fixup.addend fits
addend_read false fixup fits small =
    let same : (cast_unsigned w64 fixup.addend % 2 ^ 8 + 0) % 2 ^ 64 ≡ cast_unsigned w64 fixup.addend = by fixup.addend (small refl) in
    ap (cast_signed w64) same ∙ to_z-of_z w64 fixup.addend fits
  where
    by : (z : ℤ) → is_small z ≡ true → (cast_unsigned w64 z % 2 ^ 8 + 0) % 2 ^ 64 ≡ cast_unsigned w64 z
    by (pos n) e = let low : n < 256 = ltb-true n 256 e in omega (arith, low)
    by (negsuc n) e = absurd (false≢true e)

-- the ordinal that is read is that of the name
narrow_ordinal : (ordinal : ℕ) → ordinal ≤ 240 → ordinal_of 0xf0 0xff (ordinal % 2 ^ 8) ≡ pos ordinal
narrow_ordinal ordinal low =
    let test : nat_lt 0xf0 (ordinal % 2 ^ 8) ≡ false = not_less 0xf0 (ordinal % 2 ^ 8) (omega (arith, low)) in
    let same : ordinal % 2 ^ 8 ≡ ordinal = omega (arith, low) in
    rw test (ap pos same)

wide_ordinal : (ordinal : ℕ) → ordinal ≤ 240 → ordinal_of 0xfff0 0xffff ordinal ≡ pos ordinal
wide_ordinal ordinal low =
    let test : nat_lt 0xfff0 ordinal ≡ false = not_less 0xfff0 ordinal (omega (arith, low)) in
    rw test refl

pub ordinal_read : (wide : Bool) (g : Goal) → is_bound g ≡ true → HasOrdinal g → read_ordinal wide (imports.ordinal_of g) ≡ signed_ordinal g
ordinal_read wide (goal.Def key offset) bound has = absurd (false≢true bound)
ordinal_read true (goal.WeakSelf name key offset) bound has = refl
ordinal_read false (goal.WeakSelf name key offset) bound has = refl
ordinal_read wide goal.Header bound has = absurd (false≢true bound)
ordinal_read true (goal.Import name ordinal true optional) bound has = refl
ordinal_read false (goal.Import name ordinal true optional) bound has = refl
ordinal_read true (goal.Import name ordinal false optional) bound has = wide_ordinal ordinal has
ordinal_read false (goal.Import name ordinal false optional) bound has = narrow_ordinal ordinal has
ordinal_read true (goal.Flat name) bound has = refl
ordinal_read false (goal.Flat name) bound has = refl
ordinal_read wide goal.Nobody bound has = absurd (false≢true bound)

pub ordinal_small : (g : Goal) → HasOrdinal g → imports.ordinal_of g < 2 ^ 16
ordinal_small (goal.Def key offset) has = lit< tt
ordinal_small (goal.WeakSelf name key offset) has = lit< tt
ordinal_small goal.Header has = lit< tt
ordinal_small (goal.Import name ordinal true optional) has = lit< tt
ordinal_small (goal.Import name ordinal false optional) has = omega (arith, has)
ordinal_small (goal.Flat name) has = lit< tt
ordinal_small goal.Nobody has = lit< tt
