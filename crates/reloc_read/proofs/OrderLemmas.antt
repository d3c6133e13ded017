-- Fields of rows that rise or fall.
use Rattle.std.proofs.Common.{◌≡◌, ℕ, ◌+◌, ◌≤◌, inl, inr, List, length, Option, Some, None, ap, ◌∙◌, subst, arith}
use Rattle.std.proofs.lemmas.Bool.{cases_lt}
use Rattle.mo_types.specs.declared.object.RawReloc.{RawReloc}
use Rattle.mo_types.specs.declared.reference.FieldRange.{FieldRange}
use Rattle.mo_types.specs.RelocationRules.{field_at}
use Rattle.reloc_read.specs.Fields.{AreAbove, AreApart, AreBelow}
use Rattle.reloc_read.proofs.ApartLemmas.{apart_of_pairs, no_overlap, overlap_flips}

same_field : (x y : FieldRange) → Some x ≡ Some y → x ≡ y
same_field x y e = cc

no_field : (o : Option FieldRange) (x : FieldRange) → o ≡ None → o ≡ Some x → ⊥
no_field o x none some = cc

one_field : (relocs : List RawReloc) (at k : ℕ) (x y : FieldRange) → Some x ≡ field_at relocs at → at ≡ k → field_at relocs k ≡ Some y → x ≡ y
one_field relocs at k x y is same there = same_field x y (is ∙ ap (field_at relocs) same ∙ there)

pub below_at_first : (relocs : List RawReloc) (bound : ℕ) → AreBelow relocs 0 bound
below_at_first relocs bound = record {
  each = λ k field within there. absurd (omega arith);
  apart = λ i j a b less within there here. absurd (omega arith);
}

pub below_none : (relocs : List RawReloc) (count bound : ℕ) → AreBelow relocs count bound → field_at relocs count ≡ None → AreBelow relocs (count + 1) bound
below_none relocs count bound are none = record {
  each = λ k field within there. elim (cases_lt k count) [
    | inl less ↦ are.each k field less there
    | inr more ↦ let same : k ≡ count = omega arith in absurd (no_field (field_at relocs k) field (ap (field_at relocs) same ∙ none) there)
  ];
  apart = λ i j a b less within there here. elim (cases_lt j count) [
    | inl below ↦ are.apart i j a b less below there here
    | inr more ↦ let same : j ≡ count = omega arith in absurd (no_field (field_at relocs j) b (ap (field_at relocs) same ∙ none) here)
  ];
}

pub below_more : (relocs : List RawReloc) (count bound : ℕ) (field : FieldRange) → AreBelow relocs count bound → Some field ≡ field_at relocs count → bound ≤ field.offset → AreBelow relocs (count + 1) (field.offset + field.size)
below_more relocs count bound field are is low = record {
  each = λ k f within there. elim (cases_lt k count) [
    | inl less ↦ let fits : f.offset + f.size ≤ bound = are.each k f less there in omega arith
    | inr more ↦ let same : count ≡ k = omega arith in subst (λ (g : FieldRange). g.offset + g.size ≤ field.offset + field.size) (one_field relocs count k field f is same there) (omega arith)
  ];
  apart = λ i j a b less within there here. elim (cases_lt j count) [
    | inl below ↦ are.apart i j a b less below there here
    | inr more ↦ let same : count ≡ j = omega arith in
        let fits : a.offset + a.size ≤ bound = are.each i a (omega arith) there in
        no_overlap a b (subst (λ (g : FieldRange). a.offset + a.size ≤ g.offset) (one_field relocs count j field b is same here) (omega arith))
  ];
}

pub below_all : (relocs : List RawReloc) (count bound : ℕ) → AreBelow relocs count bound → length relocs ≤ count → AreApart relocs
below_all relocs count bound are past = apart_of_pairs relocs (λ i j a b less within there here. are.apart i j a b less (omega arith) there here)

pub ruleset rises = (below_at_first, below_none, below_more, below_all)

pub above_at_first : (relocs : List RawReloc) (bound : ℕ) → AreAbove relocs 0 bound
above_at_first relocs bound = record {
  each = λ k field within there. absurd (omega arith);
  apart = λ i j a b less within there here. absurd (omega arith);
}

pub above_none : (relocs : List RawReloc) (count bound : ℕ) → AreAbove relocs count bound → field_at relocs count ≡ None → AreAbove relocs (count + 1) bound
above_none relocs count bound are none = record {
  each = λ k field within there. elim (cases_lt k count) [
    | inl less ↦ are.each k field less there
    | inr more ↦ let same : k ≡ count = omega arith in absurd (no_field (field_at relocs k) field (ap (field_at relocs) same ∙ none) there)
  ];
  apart = λ i j a b less within there here. elim (cases_lt j count) [
    | inl below ↦ are.apart i j a b less below there here
    | inr more ↦ let same : j ≡ count = omega arith in absurd (no_field (field_at relocs j) b (ap (field_at relocs) same ∙ none) here)
  ];
}

pub above_more : (relocs : List RawReloc) (count bound : ℕ) (field : FieldRange) → AreAbove relocs count bound → Some field ≡ field_at relocs count → field.offset + field.size ≤ bound → AreAbove relocs (count + 1) field.offset
above_more relocs count bound field are is high = record {
  each = λ k f within there. elim (cases_lt k count) [
    | inl less ↦ let past : bound ≤ f.offset = are.each k f less there in omega arith
    | inr more ↦ let same : count ≡ k = omega arith in subst (λ (g : FieldRange). field.offset ≤ g.offset) (one_field relocs count k field f is same there) (omega arith)
  ];
  apart = λ i j a b less within there here. elim (cases_lt j count) [
    | inl below ↦ are.apart i j a b less below there here
    | inr more ↦ let same : count ≡ j = omega arith in
        let past : bound ≤ a.offset = are.each i a (omega arith) there in
        overlap_flips a b ∙ no_overlap b a (subst (λ (g : FieldRange). g.offset + g.size ≤ a.offset) (one_field relocs count j field b is same here) (omega arith))
  ];
}

pub above_all : (relocs : List RawReloc) (count bound : ℕ) → AreAbove relocs count bound → length relocs ≤ count → AreApart relocs
above_all relocs count bound are past = apart_of_pairs relocs (λ i j a b less within there here. are.apart i j a b less (omega arith) there here)

pub ruleset falls = (above_at_first, above_none, above_more, above_all)
