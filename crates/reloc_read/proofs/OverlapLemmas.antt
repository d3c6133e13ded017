-- Fields that overlap, and fields that don't.
use Rattle.std.proofs.Common.{◌≡◌, ℕ, zero, suc, ◌+◌, ◌-◌, ◌<◌, ◌≤◌, ◌∷◌, [], ◌&&◌, inl, inr, List, length, map, Bool, true, false, not, cond, eqb, ltb, leb, Option, Some, None, refl, sym, ap, ◌∙◌, subst, arith}
use Rattle.std.specs.List.{cons_option, count_by, filter_map, range_with_len}
use Rattle.std.specs.Option.{option_map_or}
use Rattle.std.proofs.lemmas.Bool.{cases_lt, eq-eqb, ne_eqb, lt-ltb, le-ltb, lt-leb, le-leb}
use Rattle.std.proofs.lemmas.List.Sums.{sum_by-cons}
use Rattle.mo_types.specs.declared.object.RawReloc.{RawReloc}
use Rattle.mo_types.specs.declared.reference.FieldRange.{FieldRange}
use Rattle.mo_types.specs.RelocationRules.{field_at, overlap, overlaps_another}
use Rattle.reloc_read.specs.Fields.{AreApart, overlaps_at}
use Rattle.reloc_read.specs.Overlaps.{AreBounds, end_of, fields_of}
use Rattle.reloc_read.proofs.CountLemmas.{any_counts, count_mapped, count_moved}

pub apart_overlap_none : (relocs : List RawReloc) (at : ℕ) (field : FieldRange) → AreApart relocs → at < length relocs → field_at relocs at ≡ Some field → false ≡ overlaps_another relocs at field
apart_overlap_none relocs at field are within is = sym (are.apart at field within is)

-- of the fields that begin below the end of one, all overlap it but those that end at its start or below

one_splits : (field other : FieldRange) → 0 < field.size → cond (overlap field other) 1 0 + cond (leb (end_of other) field.offset) 1 0 ≡ cond (ltb other.offset (end_of field)) 1 0
one_splits field other some =
    elim (cases_lt field.offset (end_of other)) [
      | inl over ↦
          let begins : ltb field.offset (end_of other) ≡ true = lt-ltb field.offset (end_of other) over in
          let ends : leb (end_of other) field.offset ≡ false = lt-leb (end_of other) field.offset over in
          rw (begins, ends) (omega arith)
      | inr under ↦
          let begins : ltb field.offset (end_of other) ≡ false = le-ltb field.offset (end_of other) under in
          let ends : leb (end_of other) field.offset ≡ true = le-leb (end_of other) field.offset under in
          let below : ltb other.offset (end_of field) ≡ true = lt-ltb other.offset (end_of field) (omega arith) in
          rw (begins, ends, below) refl
    ]

splits : (field : FieldRange) (fields : List FieldRange) → 0 < field.size → count_by (overlap field) fields + count_by (λ other. leb (end_of other) field.offset) fields ≡ count_by (λ other. ltb other.offset (end_of field)) fields
splits field [] some = refl
splits field (other ∷ fields) some =
    let over : count_by (overlap field) (other ∷ fields) ≡ cond (overlap field other) 1 0 + count_by (overlap field) fields = sum_by-cons (λ x. cond (overlap field x) 1 0) other fields in
    let ended : count_by (λ x. leb (end_of x) field.offset) (other ∷ fields) ≡ cond (leb (end_of other) field.offset) 1 0 + count_by (λ x. leb (end_of x) field.offset) fields = sum_by-cons (λ x. cond (leb (end_of x) field.offset) 1 0) other fields in
    let begun : count_by (λ x. ltb x.offset (end_of field)) (other ∷ fields) ≡ cond (ltb other.offset (end_of field)) 1 0 + count_by (λ x. ltb x.offset (end_of field)) fields = sum_by-cons (λ x. cond (ltb x.offset (end_of field)) 1 0) other fields in
    let one : cond (overlap field other) 1 0 + cond (leb (end_of other) field.offset) 1 0 ≡ cond (ltb other.offset (end_of field)) 1 0 = one_splits field other some in
    let rest : count_by (overlap field) fields + count_by (λ x. leb (end_of x) field.offset) fields ≡ count_by (λ x. ltb x.offset (end_of field)) fields = splits field fields some in
    joined _ _ _ _ _ _ _ _ _ over ended begun one rest
  where
    joined : (a b c p q r x y z : ℕ) → a ≡ p + x → b ≡ q + y → c ≡ r + z → p + q ≡ r → x + y ≡ z → a + b ≡ c
    joined a b c p q r x y z = omega arith

-- the rows whose fields pass, one of them aside

abbrev another : (ℕ → Option FieldRange) → (FieldRange → Bool) → ℕ → ℕ → Bool
another h test at other = not (eqb other at) && option_map_or test (h other) false

one_more : (test : FieldRange → Bool) (o : Option FieldRange) (fields : List FieldRange) → count_by test (cons_option o fields) ≡ cond (option_map_or test o false) 1 0 + count_by test fields
one_more test None fields = omega arith
one_more test (Some field) fields = sum_by-cons (λ x. cond (test x) 1 0) field fields

rows_after : (h : ℕ → Option FieldRange) (test : FieldRange → Bool) (at a n : ℕ) → at < a → count_by test (filter_map h (range_with_len a n)) ≡ count_by (another h test at) (range_with_len a n)
rows_after h test at a zero after = refl
rows_after h test at a (suc n) after =
    let differs : eqb a at ≡ false = ne_eqb a at (λ e. absurd (omega arith)) in
    let here : another h test at a ≡ option_map_or test (h a) false = ap (λ b. not b && option_map_or test (h a) false) differs in
    one_more test (h a) (filter_map h (range_with_len (a + 1) n))
    ∙ ap (λ k. cond (option_map_or test (h a) false) 1 0 + k) (rows_after h test at (a + 1) n (omega arith))
    ∙ sym (sum_by-cons (λ x. cond (another h test at x) 1 0) a (range_with_len (a + 1) n) ∙ ap (λ b. cond b 1 0 + count_by (another h test at) (range_with_len (a + 1) n)) here)

rows_around : (h : ℕ → Option FieldRange) (test : FieldRange → Bool) (at a n : ℕ) → a ≤ at → at < a + n → option_map_or test (h at) false ≡ true → count_by test (filter_map h (range_with_len a n)) ≡ count_by (another h test at) (range_with_len a n) + 1
rows_around h test at a zero low high pass = absurd (omega arith)
rows_around h test at a (suc n) low high pass =
    let all : count_by test (filter_map h (range_with_len a (suc n))) ≡ cond (option_map_or test (h a) false) 1 0 + count_by test (filter_map h (range_with_len (a + 1) n)) = one_more test (h a) (filter_map h (range_with_len (a + 1) n)) in
    let others : count_by (another h test at) (range_with_len a (suc n)) ≡ cond (another h test at a) 1 0 + count_by (another h test at) (range_with_len (a + 1) n) = sum_by-cons (λ x. cond (another h test at x) 1 0) a (range_with_len (a + 1) n) in
    elim (cases_lt a at) [
      | inl before ↦
          let differs : eqb a at ≡ false = ne_eqb a at (λ e. absurd (omega arith)) in
          let rest : count_by test (filter_map h (range_with_len (a + 1) n)) ≡ count_by (another h test at) (range_with_len (a + 1) n) + 1 = rows_around h test at (a + 1) n (omega arith) (omega arith) pass in
          let here : cond (another h test at a) 1 0 ≡ cond (option_map_or test (h a) false) 1 0 = ap (λ b. cond (not b && option_map_or test (h a) false) 1 0) differs in
          passed _ _ _ _ _ _ all others here rest
      | inr not_before ↦
          let same : at ≡ a = omega arith in
          let itself : eqb a at ≡ true = eq-eqb a at (sym same) in
          let rest : count_by test (filter_map h (range_with_len (a + 1) n)) ≡ count_by (another h test at) (range_with_len (a + 1) n) = rows_after h test at (a + 1) n (omega arith) in
          let here : cond (another h test at a) 1 0 ≡ 0 = ap (λ b. cond (not b && option_map_or test (h a) false) 1 0) itself in
          let its : cond (option_map_or test (h a) false) 1 0 ≡ 1 = ap (λ b. cond b 1 0) (subst (λ (k : ℕ). option_map_or test (h k) false ≡ true) same pass) in
          reached _ _ _ _ _ _ all others here its rest
    ]
  where
    passed : (all others p q x y : ℕ) → all ≡ p + x → others ≡ q + y → q ≡ p → x ≡ y + 1 → all ≡ others + 1
    passed all others p q x y = omega arith

    reached : (all others p q x y : ℕ) → all ≡ p + x → others ≡ q + y → q ≡ 0 → p ≡ 1 → x ≡ y → all ≡ others + 1
    reached all others p q x y = omega arith

overlaps_itself : (field : FieldRange) → 0 < field.size → overlap field field ≡ true
overlaps_itself field some = let below : ltb field.offset (end_of field) ≡ true = lt-ltb field.offset (end_of field) (omega arith) in rw below refl

pub more_than_itself : (relocs : List RawReloc) (at : ℕ) (field : FieldRange) (fields : List FieldRange) (ends : List ℕ) (begun ended spare : ℕ) → AreBounds relocs fields ends → at < length relocs → field_at relocs at ≡ Some field → 0 < field.size → begun ≡ count_by (λ other. ltb other.offset (end_of field)) fields → ended ≡ count_by (λ end. leb end field.offset) ends → spare ≡ begun - ended → ltb 1 spare ≡ overlaps_another relocs at field
more_than_itself relocs at field fields ends begun ended spare bounds within is some begins stops rest =
    let others : ℕ = count_by (overlaps_at relocs at field) (range_with_len 0 (length relocs)) in
    let sorted : count_by (overlap field) fields ≡ count_by (overlap field) (fields_of relocs) = count_moved (overlap field) (fields_of relocs) fields bounds.sorted.moved in
    let itself : option_map_or (overlap field) (field_at relocs at) false ≡ true = ap (λ o. option_map_or (overlap field) o false) is ∙ overlaps_itself field some in
    let all : count_by (overlap field) (fields_of relocs) ≡ others + 1 = rows_around (field_at relocs) (overlap field) at 0 (length relocs) (omega arith) (omega arith) itself in
    let moved : count_by (λ end. leb end field.offset) ends ≡ count_by (λ end. leb end field.offset) (map end_of fields) = count_moved (λ end. leb end field.offset) (map end_of fields) ends bounds.moved in
    let mapped : count_by (λ end. leb end field.offset) (map end_of fields) ≡ count_by (λ other. leb (end_of other) field.offset) fields = count_mapped (λ end. leb end field.offset) end_of fields in
    let split : count_by (overlap field) fields + count_by (λ other. leb (end_of other) field.offset) fields ≡ count_by (λ other. ltb other.offset (end_of field)) fields = splits field fields some in
    let left : spare ≡ others + 1 = taken _ _ _ _ _ _ sorted all (stops ∙ moved ∙ mapped) split begins rest in
    some_left others spare left ∙ sym (any_counts (overlaps_at relocs at field) (range_with_len 0 (length relocs)))
  where
    taken : (over all others ended begun spare : ℕ) {stopped started : ℕ} → over ≡ all → all ≡ others + 1 → ended ≡ stopped → over + stopped ≡ started → begun ≡ started → spare ≡ begun - ended → spare ≡ others + 1
    taken over all others ended begun spare = omega arith

    some_left : (others spare : ℕ) → spare ≡ others + 1 → ltb 1 spare ≡ leb 1 others
    some_left others spare e =
        elim (cases_lt 0 others) [
          | inl more ↦ lt-ltb 1 spare (omega arith) ∙ sym (le-leb 1 others (omega arith))
          | inr none ↦ le-ltb 1 spare (omega arith) ∙ sym (lt-leb 1 others (omega arith))
        ]

pub ruleset overlaps = (apart_overlap_none, more_than_itself)
