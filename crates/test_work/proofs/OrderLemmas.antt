-- Lists in an order, of which neighbours are asked.
use Rattle.std.proofs.Common.{◌≡◌, ℕ, zero, suc, ◌+◌, ◌-◌, ◌<◌, ◌≤◌, ◌^◌, List, length, get_or, inl, inr, sym, subst, arith}
use borrow.Author.Count.{below_more}
use Rattle.std.specs.Prelude.{All}
use Rattle.std.specs.List.{AllPairs}
use Rattle.std.proofs.lemmas.Bool.{cases_eq}
use Rattle.std.proofs.lemmas.List.Elements.{at_read}
use Rattle.mo_types.specs.declared.loaded.LoadedFile.{LoadedFile}
use Rattle.patch.specs.declared.met.Met.{Met}
use Rattle.patch.specs.declared.range.PlacedWork.{PlacedWork}
use Rattle.patch.specs.Order.{StandsBefore}
use Rattle.patch.specs.Range.{AreStanding, IsStanding}
use Rattle.patch.specs.Patched.{size_of}
use Rattle.test_work.specs.Order.{AreFieldsInOrder, IsAfter, IsBefore}

-- neighbours before a place keep an order
pub record AreSteps {X : Type 0} (R : X → X → Type 0) (xs : List X) (at : ℕ) : Type 0 where
  pub each : (k : ℕ) (d : X) → k + 1 < at → R (get_or xs k d) (get_or xs (k + 1) d)

pub steps_begin : {X : Type 0} (R : X → X → Type 0) (xs : List X) → AreSteps R xs 1
steps_begin R xs = record { each = λ k d low. absurd (omega arith) }

pub steps_go_on : {X : Type 0} (R : X → X → Type 0) (xs : List X) (at : ℕ) → AreSteps R xs at → 0 < at → ((d : X) → R (get_or xs (at - 1) d) (get_or xs at d)) → AreSteps R xs (at + 1)
steps_go_on R xs at steps some here = record {
  each = λ k d low. elim (cases_eq (k + 1) at) [
    | inl e ↦
        let back : k ≡ at - 1 = omega arith in
        subst (λ (j : ℕ). R (get_or xs k d) (get_or xs j d)) (sym e) (subst (λ (j : ℕ). R (get_or xs j d) (get_or xs at d)) (sym back) (here d))
    | inr other ↦ steps.each k d (omega arith)
  ];
}

-- with steps between them, later elements are in the order with earlier ones
further : {X : Type 0} (R : X → X → Type 0) (xs : List X) (i n : ℕ) (d : X) → ((a b c : X) → R a b → R b c → R a c) → ((k : ℕ) (d : X) → k + 1 < length xs → R (get_or xs k d) (get_or xs (k + 1) d)) → i + n + 1 < length xs → R (get_or xs i d) (get_or xs (i + n + 1) d)
further R xs i zero d through steps within =
    let e : i + 0 + 1 ≡ i + 1 = omega arith in
    subst (λ (j : ℕ). R (get_or xs i d) (get_or xs j d)) (sym e) (steps i d (omega arith))
further R xs i (suc n) d through steps within =
    let e : i + suc n + 1 ≡ i + n + 1 + 1 = omega arith in
    subst (λ (j : ℕ). R (get_or xs i d) (get_or xs j d)) (sym e)
    (through (get_or xs i d) (get_or xs (i + n + 1) d) (get_or xs (i + n + 1 + 1) d) (further R xs i n d through steps (omega arith)) (steps (i + n + 1) d (omega arith)))

pairs_of_steps : {X : Type 0} (R : X → X → Type 0) (xs : List X) (at : ℕ) → ((a b c : X) → R a b → R b c → R a c) → AreSteps R xs at → length xs ≤ at → AllPairs R xs
pairs_of_steps R xs at through steps past = λ i j d low high.
    let e : i + (j - (i + 1)) + 1 ≡ j = omega arith in
    subst (λ (k : ℕ). R (get_or xs i d) (get_or xs k d)) e
    (further R xs i (j - (i + 1)) d through (λ k d low. steps.each k d (omega arith)) (omega arith))

pub rising_pairs : (mets : List Met) (at : ℕ) → AreSteps IsBefore mets at → length mets ≤ at → AllPairs IsBefore mets
rising_pairs mets at steps past = pairs_of_steps IsBefore mets at (λ a b c first second. omega (arith, first, second)) steps past

pub falling_pairs : (mets : List Met) (at : ℕ) → AreSteps IsAfter mets at → length mets ≤ at → AllPairs IsAfter mets
falling_pairs mets at steps past = pairs_of_steps IsAfter mets at (λ a b c first second. omega (arith, first, second)) steps past

pub work_pairs : (files : List LoadedFile) (work : List PlacedWork) (at : ℕ) → AreSteps (StandsBefore files) work at → length work ≤ at → AllPairs (StandsBefore files) work
work_pairs files work at steps past = pairs_of_steps (StandsBefore files) work at (λ a b c first second. omega (arith, first, second)) steps past

pub rising_fields : (address size : ℕ) (mets : List Met) → address + size < 2 ^ 64 → All (λ met. met.place + size_of met ≤ size) mets → AllPairs IsBefore mets → AreFieldsInOrder address size mets
rising_fields address size mets addresses within rising = record {
  fields = record { addresses = addresses; within = within; apart = λ i j d low high. inl (rising i j d low high) };
  order = inl rising;
}

pub falling_fields : (address size : ℕ) (mets : List Met) → address + size < 2 ^ 64 → All (λ met. met.place + size_of met ≤ size) mets → AllPairs IsAfter mets → AreFieldsInOrder address size mets
falling_fields address size mets addresses within falling = record {
  fields = record { addresses = addresses; within = within; apart = λ i j d low high. inr (falling i j d low high) };
  order = inr falling;
}

pub work_of : (files : List LoadedFile) (from size : ℕ) (work : List PlacedWork) → All (IsStanding files from size) work → AllPairs (StandsBefore files) work → AreStanding files from size work
work_of files from size work items in_order = record { items = items; in_order = in_order }

-- ---- what holds of the elements before a place

pub record AllBefore {X : Type 0} (P : X → Type 0) (xs : List X) (at : ℕ) : Type 0 where
  pub each : (k : ℕ) (d : X) → k < at → P (get_or xs k d)

pub none_before : {X : Type 0} (P : X → Type 0) (xs : List X) → AllBefore P xs 0
none_before P xs = record { each = λ k d low. absurd (omega arith) }

pub one_more_before : {X : Type 0} (P : X → Type 0) (xs : List X) (at : ℕ) (x : X) → AllBefore P xs at → at < length xs → x ≡ get_or xs at x → P x → AllBefore P xs (at + 1)
one_more_before {X = X} P xs at x before within is holds = record {
  each = λ k d low. below_more (λ j. (e : X) → P (get_or xs j e)) at (λ j less e. before.each j e less) (λ e. at_read xs P at x within is holds e) k low d;
}

pub all_before : {X : Type 0} (P : X → Type 0) (xs : List X) (at : ℕ) → AllBefore P xs at → length xs ≤ at → All P xs
all_before P xs at before past = λ k d low. before.each k d (omega arith)
