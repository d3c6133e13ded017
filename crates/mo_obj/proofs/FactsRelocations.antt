-- The first relocation at fault by a rule.
use Rattle.std.proofs.Common.{◌≡◌, ◌⊎◌, ℕ, zero, suc, ◌+◌, ◌*◌, ◌<◌, ◌≤◌, min, Bool, true, false, List, [], ◌∷◌, ◌++◌, length, slice_get, option_map, filter_map, Option, Some, None, if◌then◌else◌, inl, inr, ⊎_elim, refl, sym, ap, subst, ◌∙◌, arith}
use Rattle.std.specs.List.{cons_option, range_with_len}
use Rattle.std.specs.Option.{option_map_or}
use Rattle.mo_types.specs.RelocationRules.{RelocationRule, faults_from, faults_in, first_fault, least}
use Rattle.mo_types.specs.Whole.{is_dropped}
use Rattle.mo_types.specs.declared.object.Object.{Object}
use Rattle.mo_types.specs.declared.object.Section.{Section}
use Rattle.mo_obj.specs.Rules.{IsBadRelocation}
use Rattle.mo_obj.proofs.FactsLeast.{IsLeast, either_order, here_or_later, least_alike, lesser_first}

-- the numbers of a list
abbrev pub Has : List ℕ → ℕ → Type 0
Has [] p = ⊥
Has (x ∷ xs) p = (p ≡ x) ⊎ Has xs p

not_itself : (p x : ℕ) → p < x → p ≡ x → ⊥
not_itself p x less same = absurd (omega arith)

least_with : (x : ℕ) (xs : List ℕ) (found : Option ℕ) → IsLeast (Has xs) found → IsLeast (Has (x ∷ xs)) (Some (option_map_or (min x) found x))
least_with x xs None rest = (inl refl, λ p less has. ⊎_elim (not_itself p x less) (rest p) has)
least_with x xs (Some y) rest = (
  lesser_first (λ p. p ≡ x) (Has xs) x y (either_order x y) refl rest.0,
  λ p less has. ⊎_elim (not_itself p x (omega arith)) (rest.1 p (omega arith)) has,
)

pub least_of_list : (xs : List ℕ) → IsLeast (Has xs) (least xs)
least_of_list [] = λ p has. has
least_of_list (x ∷ xs) = least_with x xs (least xs) (least_of_list xs)

in_either : (xs ys : List ℕ) (p : ℕ) → Has (xs ++ ys) p → Has xs p ⊎ Has ys p
in_either [] ys p has = inr has
in_either (x ∷ xs) ys p (inl same) = inl (inl same)
in_either (x ∷ xs) ys p (inr has) = ⊎_elim (λ a. inl (inr a)) (λ b. inr b) (in_either xs ys p has)

in_first : (xs ys : List ℕ) (p : ℕ) → Has xs p → Has (xs ++ ys) p
in_first [] ys p has = absurd has
in_first (x ∷ xs) ys p (inl same) = inl same
in_first (x ∷ xs) ys p (inr has) = inr (in_first xs ys p has)

in_second : (xs ys : List ℕ) (p : ℕ) → Has ys p → Has (xs ++ ys) p
in_second [] ys p has = has
in_second (x ∷ xs) ys p has = inr (in_second xs ys p has)

-- a place of a range at which a number is given
record IsGiven (given : ℕ → Option ℕ) (from n p : ℕ) : Type 0 where
  at : ℕ
  low : from ≤ at
  high : at < from + n
  is : given at ≡ Some p

wider : (given : ℕ → Option ℕ) (from n p : ℕ) → IsGiven given (from + 1) n p → IsGiven given from (suc n) p
wider given from n p has =
    let low : from + 1 ≤ has.at = has.low in
    let high : has.at < from + 1 + n = has.high in
    record { at = has.at; low = omega arith; high = omega arith; is = has.is }

given_here : (given : ℕ → Option ℕ) (from n p : ℕ) (here : Option ℕ) (rest : List ℕ) → given from ≡ here → (Has rest p → IsGiven given (from + 1) n p) → Has (cons_option here rest) p → IsGiven given from (suc n) p
given_here given from n p None rest is later has = wider given from n p (later has)
given_here given from n p (Some x) rest is later (inl same) = record { at = from; low = omega arith; high = omega arith; is = is ∙ ap Some (sym same) }
given_here given from n p (Some x) rest is later (inr has) = wider given from n p (later has)

is_given : (given : ℕ → Option ℕ) (from n p : ℕ) → Has (filter_map given (range_with_len from n)) p → IsGiven given from n p
is_given given from zero p has = absurd has
is_given given from (suc n) p has = given_here given from n p (given from) (filter_map given (range_with_len (from + 1) n)) refl (is_given given (from + 1) n p) has

behind : (here : Option ℕ) (rest : List ℕ) (p : ℕ) → Has rest p → Has (cons_option here rest) p
behind None rest p has = has
behind (Some x) rest p has = inr has

has_given : (given : ℕ → Option ℕ) (from n p at : ℕ) → from ≤ at → at < from + n → given at ≡ Some p → Has (filter_map given (range_with_len from n)) p
has_given given from zero p at low high is = absurd (omega arith)
has_given given from (suc n) p at low high is = ⊎_elim
    (λ same. let here : given from ≡ Some p = ap given same ∙ is in rw here (inl refl))
    (λ later. behind (given from) (filter_map given (range_with_len (from + 1) n)) p (has_given given (from + 1) n p at later (omega arith) is))
    (here_or_later from at low)

-- a section of a list of sections that have numbers, and a fault in it
record IsInSection (fails : RelocationRule) (object : Object) (first : ℕ) (sections : List Section) (p : ℕ) : Type 0 where
  number : ℕ
  section : Section
  is : slice_get sections number ≡ Some section
  counted : ℕ
  from_first : counted ≡ first + number
  fault : Has (faults_in fails object counted section) p

in_sections : (fails : RelocationRule) (object : Object) (first : ℕ) (sections : List Section) (p : ℕ) → Has (faults_from fails object first sections) p → IsInSection fails object first sections p
in_sections fails object first [] p has = absurd has
in_sections fails object first (section ∷ sections) p has = ⊎_elim
    (λ here. record { number = zero; section = section; is = refl; counted = first; from_first = omega arith; fault = here })
    (λ later. (let rest = in_sections fails object (first + 1) sections p later in
    let counts : rest.counted ≡ first + 1 + rest.number = rest.from_first in
    record { number = suc rest.number; section = rest.section; is = rest.is; counted = rest.counted; from_first = omega arith; fault = rest.fault }))
    (in_either (faults_in fails object first section) (faults_from fails object (first + 1) sections) p has)

of_section : (fails : RelocationRule) (object : Object) (first : ℕ) (sections : List Section) (p number : ℕ) (section : Section) (counted : ℕ) → slice_get sections number ≡ Some section → counted ≡ first + number → Has (faults_in fails object counted section) p → Has (faults_from fails object first sections) p
of_section fails object first [] p number section counted is from_first has = cc
of_section fails object first (s ∷ ss) p zero section counted is from_first has =
    let same : section ≡ s = cc in
    let number : counted ≡ first = omega arith in
    in_first (faults_in fails object first s) (faults_from fails object (first + 1) ss) p
    (subst (λ c. Has (faults_in fails object c s) p) number (subst (λ t. Has (faults_in fails object counted t) p) same has))
of_section fails object first (s ∷ ss) p (suc number) section counted is from_first has =
    in_second (faults_in fails object first s) (faults_from fails object (first + 1) ss) p
    (of_section fails object (first + 1) ss p number section counted is (omega arith) has)

-- the place of the relocation that is at fault
abbrev given_in : RelocationRule → Object → ℕ → Section → ℕ → Option ℕ
given_in fails object number section at = option_map (λ relocation. section.reloc_offset + 8 * relocation) (fails object number section at)

record IsFaultIn (fails : RelocationRule) (object : Object) (number : ℕ) (section : Section) (p : ℕ) : Type 0 where
  linked : is_dropped section ≡ false
  given : IsGiven (given_in fails object number section) 0 (length section.relocs) p

fault_by : (fails : RelocationRule) (object : Object) (number : ℕ) (section : Section) (p : ℕ) (dropped : Bool) → is_dropped section ≡ dropped → Has (if dropped then [] else filter_map (given_in fails object number section) (range_with_len 0 (length section.relocs))) p → IsFaultIn fails object number section p
fault_by fails object number section p true is has = absurd has
fault_by fails object number section p false is has = record { linked = is; given = is_given (given_in fails object number section) 0 (length section.relocs) p has }

fault_in : (fails : RelocationRule) (object : Object) (number : ℕ) (section : Section) (p : ℕ) → Has (faults_in fails object number section) p → IsFaultIn fails object number section p
unfolding faults_in
fault_in fails object number section p has = fault_by fails object number section p (is_dropped section) refl has

has_fault : (fails : RelocationRule) (object : Object) (number : ℕ) (section : Section) (p at : ℕ) → is_dropped section ≡ false → at < length section.relocs → given_in fails object number section at ≡ Some p → Has (faults_in fails object number section) p
unfolding faults_in
has_fault fails object number section p at linked within is =
    rw linked (has_given (given_in fails object number section) 0 (length section.relocs) p at (omega arith) (omega arith) is)

-- what an option's value was before it was mapped
record IsMappedTo (f : ℕ → ℕ) (o : Option ℕ) (p : ℕ) : Type 0 where
  value : ℕ
  is : o ≡ Some value
  to : p ≡ f value

mapped_to : (f : ℕ → ℕ) (o : Option ℕ) (p : ℕ) → option_map f o ≡ Some p → IsMappedTo f o p
mapped_to f None p is = cc
mapped_to f (Some x) p is = record { value = x; is = refl; to = cc }

bad_relocation : (fails : RelocationRule) (object : Object) (p : ℕ) → Has (faults_from fails object 1 object.sections) p → IsBadRelocation fails object p
bad_relocation fails object p has =
    let there = in_sections fails object 1 object.sections p has in
    let fault = fault_in fails object there.counted there.section p there.fault in
    let mapped = mapped_to (λ relocation. there.section.reloc_offset + 8 * relocation) (fails object there.counted there.section fault.given.at) p fault.given.is in
    let count : there.counted ≡ 1 + there.number = there.from_first in
    let number : there.counted ≡ there.number + 1 = omega arith in
    let high : fault.given.at < 0 + length there.section.relocs = fault.given.high in
    record {
      number = there.number;
      section = there.section;
      is = there.is;
      linked = fault.linked;
      at = fault.given.at;
      within = omega arith;
      relocation = mapped.value;
      bad = subst (λ n. fails object n there.section fault.given.at ≡ Some mapped.value) number mapped.is;
      there = mapped.to;
    }

has_bad : (fails : RelocationRule) (object : Object) (p : ℕ) → IsBadRelocation fails object p → Has (faults_from fails object 1 object.sections) p
has_bad fails object p bad =
    of_section fails object 1 object.sections p bad.number bad.section (bad.number + 1) bad.is (omega arith)
    (has_fault fails object (bad.number + 1) bad.section p bad.at bad.linked bad.within
    (ap (option_map (λ relocation. bad.section.reloc_offset + 8 * relocation)) bad.bad ∙ ap Some (sym bad.there)))

pub relocation_least : (fails : RelocationRule) (object : Object) → IsLeast (IsBadRelocation fails object) (first_fault fails object)
unfolding first_fault
relocation_least fails object =
    least_alike (Has (faults_from fails object 1 object.sections)) (IsBadRelocation fails object) (least (faults_from fails object 1 object.sections))
    (bad_relocation fails object) (has_bad fails object) (least_of_list (faults_from fails object 1 object.sections))
