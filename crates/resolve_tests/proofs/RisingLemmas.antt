-- Files that rise one by one rise.
use Rattle.std.proofs.Common.{◌≡◌, ℕ, zero, suc, ◌+◌, ◌-◌, ◌<◌, ◌≤◌, List, length, get_or, sym, ap, subst, ◌∙◌, inl, inr, arith}
use Rattle.std.specs.List.{AllPairs}
use Rattle.std.specs.declared.cmp.Ordering.TheVariants.{Less}
use Rattle.std.proofs.lemmas.Bool.{cases_lt}
use Rattle.std.proofs.lemmas.List.{get_or_default}
use Rattle.mo_types.specs.Keys.{compare_files}
use Rattle.mo_types.specs.Loaded.{IsBefore}
use Rattle.mo_types.specs.declared.loaded.LoadedFile.{LoadedFile}
use Rattle.mo_types.proofs.KeyOrder.{compare_files_total}

abbrev RisesTo : List LoadedFile → ℕ → Type 0
RisesTo files i = (k : ℕ) (d : LoadedFile) → k + 1 < i → IsBefore (get_or files k d).id (get_or files (k + 1) d).id

pub rises_more : (files : List LoadedFile) (i : ℕ) (a b : LoadedFile) → RisesTo files i → 1 ≤ i → i < length files → Less ≡ compare_files (get_or files (i - 1) a).id (get_or files i b).id → RisesTo files (i + 1)
rises_more files i a b rises low high less k d under = elim (cases_lt (k + 1) i) [
  | inl before ↦ rises k d before
  | inr not_before ↦
      let here : k + 1 ≡ i = omega (arith, under, not_before) in
      let back : i - 1 ≡ k = omega (arith, here) in
      let first : get_or files k d ≡ get_or files (i - 1) a = subst (λ (n : ℕ). get_or files n d ≡ get_or files (i - 1) a) back (get_or_default files (i - 1) d a (omega (arith, low, high))) in
      let second : get_or files (k + 1) d ≡ get_or files i b = subst (λ (n : ℕ). get_or files n d ≡ get_or files i b) (sym here) (get_or_default files i d b high) in
      ap (λ (x : LoadedFile). compare_files x.id (get_or files (k + 1) d).id) first ∙ (ap (λ (x : LoadedFile). compare_files (get_or files (i - 1) a).id x.id) second ∙ sym less)
]

rises_far : (files : List LoadedFile) (n : ℕ) → RisesTo files n → (i s : ℕ) (d : LoadedFile) → i + s + 1 < n → IsBefore (get_or files i d).id (get_or files (i + s + 1) d).id
rises_far files n rises i zero d low =
    let e : i + 0 + 1 ≡ i + 1 = omega arith in
    subst (λ (k : ℕ). IsBefore (get_or files i d).id (get_or files k d).id) (sym e) (rises i d (omega (arith, low)))
rises_far files n rises i (suc s) d low =
    let e : i + suc s + 1 ≡ i + s + 1 + 1 = omega arith in
    let first : IsBefore (get_or files i d).id (get_or files (i + s + 1) d).id = rises_far files n rises i s d (omega (arith, low)) in
    let second : IsBefore (get_or files (i + s + 1) d).id (get_or files (i + s + 1 + 1) d).id = rises (i + s + 1) d (omega (arith, low)) in
    subst (λ (k : ℕ). IsBefore (get_or files i d).id (get_or files k d).id) (sym e) (compare_files_total.trans (get_or files i d).id (get_or files (i + s + 1) d).id (get_or files (i + s + 1 + 1) d).id first second)

pub rises_all : (files : List LoadedFile) (n : ℕ) → RisesTo files n → length files ≤ n → AllPairs (λ a b. IsBefore a.id b.id) files
rises_all files n rises past i j d less within =
    let e : i + (j - (i + 1)) + 1 ≡ j = omega (arith, less) in
    subst (λ (k : ℕ). IsBefore (get_or files i d).id (get_or files k d).id) e (rises_far files n rises i (j - (i + 1)) d (omega (arith, less, within, past)))
