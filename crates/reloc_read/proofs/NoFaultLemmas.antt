-- What holds of a row where no rule fails.
use Rattle.std.proofs.Common.{◌≡◌, ℕ, zero, suc, ◌+◌, ◌-◌, ◌*◌, ◌<◌, ◌≤◌, ◌++◌, ◌∷◌, [], ◌&&◌, ◌||◌, inl, inr, List, length, get_or, Bool, true, false, not, Option, Some, None, if◌then◌else◌, refl, sym, subst, arith}
use Rattle.std.specs.List.{cons_option, filter_map, range_with_len}
use Rattle.std.specs.Option.{option_map, option_map_or}
use Rattle.std.proofs.lemmas.Bool.{cases_lt, false≢true, leb-true}
use Rattle.mo_types.specs.declared.object.Object.{Object}
use Rattle.mo_types.specs.declared.object.RawReloc.{RawReloc}
use Rattle.mo_types.specs.declared.object.Section.{Section}
use Rattle.mo_types.specs.declared.reference.FieldRange.{FieldRange}
use Rattle.mo_types.specs.declared.reference.RefKind.{RefKind}
use Rattle.mo_types.specs.RelocationRules.{RelocationRule, faults_in, faults_from, first_fault, least, place_fault, target_fault, is_bad_field, is_bad_target, is_outside, is_within, section_numbered, field_at, field_number, row_start}
use Rattle.mo_types.specs.Rows.{when, kind_at, last_at, first_before, is_subtractor}
use Rattle.mo_types.specs.Whole.{is_dropped}

least_none : (xs : List ℕ) → least xs ≡ None → xs ≡ []
least_none [] e = refl
least_none (x ∷ xs) e = cc

no_parts : (xs ys : List ℕ) → xs ++ ys ≡ [] → (xs ≡ []) × (ys ≡ [])
no_parts [] ys e = (refl, e)
no_parts (x ∷ xs) ys e = cc

no_section_fault : (rule : RelocationRule) (object : Object) (number : ℕ) (sections : List Section) (index : ℕ) (d : Section) → faults_from rule object number sections ≡ [] → index < length sections → faults_in rule object (number + index) (get_or sections index d) ≡ []
no_section_fault rule object number [] index d e within = absurd (omega arith)
no_section_fault rule object number (section ∷ sections) zero d e within =
    let same : number + zero ≡ number = omega arith in
    rw same ((no_parts (faults_in rule object number section) (faults_from rule object (number + 1) sections) e).0)
no_section_fault rule object number (section ∷ sections) (suc index) d e within =
    let same : number + suc index ≡ number + 1 + index = omega arith in
    rw same (no_section_fault rule object (number + 1) sections index d ((no_parts (faults_in rule object number section) (faults_from rule object (number + 1) sections) e).1) (omega arith))

no_option : (o : Option ℕ) (xs : List ℕ) → cons_option o xs ≡ [] → (o ≡ None) × (xs ≡ [])
no_option None xs e = (refl, e)
no_option (Some x) xs e = cc

nothing_mapped : (h : ℕ → Option ℕ) (a n k : ℕ) → filter_map h (range_with_len a n) ≡ [] → a ≤ k → k < a + n → h k ≡ None
nothing_mapped h a zero k e low high = absurd (omega arith)
nothing_mapped h a (suc n) k e low high =
    let parts : (h a ≡ None) × (filter_map h (range_with_len (a + 1) n) ≡ []) = no_option (h a) (filter_map h (range_with_len (a + 1) n)) e in
    elim (cases_lt a k) [
      | inl more ↦ nothing_mapped h (a + 1) n k parts.1 (omega arith) (omega arith)
      | inr less ↦ let same : a ≡ k = omega arith in subst (λ (j : ℕ). h j ≡ None) same parts.0
    ]

unmapped : (f : ℕ → ℕ) (o : Option ℕ) → option_map f o ≡ None → o ≡ None
unmapped f None e = refl
unmapped f (Some x) e = cc

no_row_in : (rule : RelocationRule) (object : Object) (number : ℕ) (section : Section) (at : ℕ) → faults_in rule object number section ≡ [] → is_dropped section ≡ false → at < length section.relocs → rule object number section at ≡ None
unfolding faults_in
no_row_in rule object number section at e kept within =
    let mapped : filter_map (λ k. option_map (λ index. section.reloc_offset + 8 * index) (rule object number section k)) (range_with_len 0 (length section.relocs)) ≡ [] = rw kept at e in
    unmapped (λ index. section.reloc_offset + 8 * index) (rule object number section at)
    (nothing_mapped (λ k. option_map (λ index. section.reloc_offset + 8 * index) (rule object number section k)) 0 (length section.relocs) at mapped (omega arith) (omega arith))

pub no_row_fault : (rule : RelocationRule) (object : Object) (index : ℕ) (section : Section) (at : ℕ) → first_fault rule object ≡ None → index < length object.sections → ((d : Section) → get_or object.sections index d ≡ section) → is_dropped section ≡ false → at < length section.relocs → rule object (index + 1) section at ≡ None
unfolding first_fault
no_row_fault rule object index section at none within is kept below =
    let empty : faults_from rule object 1 object.sections ≡ [] = least_none (faults_from rule object 1 object.sections) none in
    let here : faults_in rule object (1 + index) (get_or object.sections index section) ≡ [] = no_section_fault rule object 1 object.sections index section empty within in
    let number : 1 + index ≡ index + 1 = omega arith in
    no_row_in rule object (index + 1) section at (subst (λ (n : ℕ). faults_in rule object n section ≡ []) number (rw (is section) at here)) kept below

unless : {A : Type 0} (test : Bool) (x : A) → when test x ≡ None → test ≡ false
unless true x e = cc
unless false x e = refl

neither : (a b : Bool) → (a || b) ≡ false → (a ≡ false) × (b ≡ false)
neither true b e = absurd (false≢true (sym e))
neither false b e = (refl, e)

not_false : (b : Bool) → not b ≡ false → b ≡ true
not_false true e = refl
not_false false e = absurd (false≢true (sym e))

both : (a b : Bool) → (a && b) ≡ true → (a ≡ true) × (b ≡ true)
both true b e = (refl, e)
both false b e = absurd (false≢true e)

pub field_fits : (object : Object) (number : ℕ) (section : Section) (at : ℕ) (kind : RefKind) (field : FieldRange) → place_fault object number section at ≡ None → kind_at section.relocs at ≡ Some kind → field_at section.relocs at ≡ Some field → field.offset + field.size ≤ section.size
unfolding place_fault
field_fits object number section at kind field none is its =
    let bad : is_bad_field object number section at kind field ≡ false = unless _ (row_start section.relocs at) (rw (is, its) at none) in
    let first : is_bad_field object number section at kind field ≡ false = bad in
    let a = (neither _ _ bad).0 in
    let b = (neither _ _ a).0 in
    let d = (neither _ _ b).0 in
    leb-true (field.offset + field.size) section.size ((both _ _ (not_false _ d)).0)

pub target_is_good : (object : Object) (number : ℕ) (section : Section) (at : ℕ) (reloc : RawReloc) (field : FieldRange) → target_fault object number section at ≡ None → last_at section.relocs at ≡ Some reloc → field_at section.relocs at ≡ Some field → is_bad_target object section.bytes field reloc ≡ false
unfolding target_fault
target_is_good object number section at reloc field none is its =
    second (option_map_or (λ first. is_subtractor first && is_bad_target object section.bytes field first) (first_before section.relocs at) false) (is_bad_target object section.bytes field reloc) at (at - 1) (rw (its, is) at none)
  where
    second : (a b : Bool) (x y : ℕ) → (if a then Some y else when b x) ≡ None → b ≡ false
    second true b x y e = cc
    second false b x y e = unless b x e

held : (section : Section) (address : ℕ) (dropped within : Bool) → is_dropped section ≡ dropped → is_within section address ≡ within → (dropped || not within) ≡ false → (is_dropped section ≡ false) × (section.address ≤ address)
held section address true within e w none = absurd (false≢true (sym none))
held section address false true e w none = (e, leb-true section.address address ((both _ _ w).0))
held section address false false e w none = absurd (false≢true (sym none))

-- the section of a target that isn't outside is linked
pub target_section : (object : Object) (bytes : List ℕ) (field : FieldRange) (reloc : RawReloc) (section : Section) → is_bad_target object bytes field reloc ≡ false → reloc.external ≡ false → section_numbered object.sections reloc.number ≡ Some section → (is_dropped section ≡ false) × (section.address ≤ field_number bytes field)
target_section object bytes field reloc section good local is =
    let outside : is_outside object.sections reloc.number (field_number bytes field) ≡ false = rw local at good in
    held section (field_number bytes field) (is_dropped section) (is_within section (field_number bytes field)) refl refl (rw is at outside)
