-- The first header whose section is at fault.
use Rattle.std.proofs.Common.{◌≡◌, ℕ, ◌+◌, ◌*◌, ◌<◌, Bool, false, List, [], ◌∷◌, get_or, position, option_map, Option, Some, None, refl, sym, ap, subst, ◌∙◌, arith}
use Rattle.std.proofs.lemmas.List.Quantifiers.{position-Some}
use Rattle.std.proofs.lemmas.Option.{slice_get-get_or, get_or_from_slice_get, slice_get_within}
use Rattle.mo_obj.specs.Rules.{IsHeaderOf}
use Rattle.mo_obj.specs.Sections.{header_place}
use Rattle.mo_obj.specs.declared.commands.Frame.{Frame}
use Rattle.mo_obj.proofs.FactsLeast.{IsLeast, both_ways}
use Rattle.mo_obj.proofs.SectionLemmas.{none_at_fault}

place_rises : (headers i j : ℕ) → headers + 80 * j < headers + 80 * i → j < i
place_rises headers i j less = omega arith

found_or_not : {A : Type 0} (frame : Frame) (xs : List A) (test : A → Bool) (found : Option ℕ) → position test xs ≡ found → IsLeast (IsHeaderOf frame xs test) (option_map (header_place frame) found)
found_or_not frame xs test None is = λ place has.
    let fails : test (get_or xs has.number has.section) ≡ false =
    none_at_fault test xs None (sym is) refl has.number has.section (slice_get_within xs has.number has.section has.is) in
    both_ways (test has.section) has.at_fault (ap test (sym (get_or_from_slice_get xs has.number has.section has.section has.is)) ∙ fails)
found_or_not frame [] test (Some i) is = cc
found_or_not frame (x ∷ xs) test (Some i) is =
    let first = position-Some test (x ∷ xs) i x is in (
      record {
        number = i;
        section = get_or (x ∷ xs) i x;
        is = slice_get-get_or (x ∷ xs) i x first.0;
        at_fault = first.1;
        header = refl;
      },
      λ place less has.
          let before : has.number < i = place_rises frame.headers i has.number (subst (λ p. p < header_place frame i) has.header less) in
          let same : get_or (x ∷ xs) has.number x ≡ has.section = get_or_from_slice_get (x ∷ xs) has.number has.section x has.is in
          both_ways (test has.section) has.at_fault (ap test (sym same) ∙ first.2 has.number before),
    )

pub header_least : {A : Type 0} (frame : Frame) (xs : List A) (test : A → Bool) → IsLeast (IsHeaderOf frame xs test) (option_map (header_place frame) (position test xs))
header_least frame xs test = found_or_not frame xs test (position test xs) refl
