-- The greatest alignment of some sections.
use Rattle.std.proofs.Common.{◌≡◌, ℕ, zero, suc, ◌<◌, ◌≤◌, List, [], ◌∷◌, length, get_or, slice_get, Some, All, refl, inl, inr, arith}
use Rattle.std.proofs.lemmas.Bool.{cases_lt}
use Rattle.mo_types.specs.declared.out_section.OutSection.{OutSection}
use Rattle.tlv_plan.specs.Template.{greatest_align}

bounded : (sections : List OutSection) (k : ℕ) (d : OutSection) → k < length sections → (get_or sections k d).align ≤ greatest_align sections
unfolding greatest_align
bounded [] k d within = absurd (omega arith)
bounded (section ∷ sections) zero d within = omega arith
bounded (section ∷ sections) (suc k) d within = let rest : (get_or sections k d).align ≤ greatest_align sections = bounded sections k d (omega arith) in omega arith

pub none_above : (sections : List OutSection) → All (λ (section : OutSection). section.align ≤ greatest_align sections) sections
none_above sections = λ k d within. bounded sections k d within

pub one_has_it : (first : OutSection) (rest : List OutSection) → (k : ℕ) × (section : OutSection) × (slice_get (first ∷ rest) k ≡ Some section) × (section.align ≡ greatest_align (first ∷ rest))
unfolding greatest_align
one_has_it first [] = (0, first, refl, omega arith)
one_has_it first (second ∷ rest) =
    let later : (k : ℕ) × (section : OutSection) × (slice_get (second ∷ rest) k ≡ Some section) × (section.align ≡ greatest_align (second ∷ rest)) = one_has_it second rest in
    let is : later.1.align ≡ greatest_align (second ∷ rest) = later.3 in
    elim (cases_lt first.align (greatest_align (second ∷ rest))) [
      | inl less ↦ (suc later.0, later.1, later.2, omega (arith, is, less))
      | inr more ↦ (0, first, refl, omega (arith, more))
    ]

pub ruleset greatest = (none_above, one_has_it)
