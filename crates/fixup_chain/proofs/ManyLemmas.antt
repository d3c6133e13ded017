-- How many imports pointers have.
use Rattle.std.proofs.Common.{◌≡◌, ℕ, ◌+◌, ◌<◌, ◌≤◌, ◌^◌, ◌⊎◌, ◌||◌, ◌&&◌, Bool, true, false, not, nat_le, ℤ, pos, List, [], ◌∷◌, ◌++◌, length, map, Contains, if◌then◌else◌, refl, sym, ap, subst, ◌∙◌, inl, inr, arith, length-append}
use Rattle.std.specs.List.{filter, flat_map, list_any}
use Rattle.std.specs.List.Sorted.{IsStrictlySortedBy}
use Rattle.std.specs.Cmp.{IsTotalOrder}
use Rattle.std.specs.Cmp.Lexicographic.{nat_list_cmp_total}
use Rattle.std.specs.declared.cmp.Ordering.{Ordering}
use Rattle.std.specs.declared.cmp.Ordering.TheVariants.{Less}
use Rattle.std.proofs.lemmas.Bool.{le-leb, leb-true}
use Rattle.std.proofs.lemmas.Cmp.{tied_itself}
use Rattle.list_lemmas.proofs.Members.{In, all_in, any_from_in, any_true, Contains_from_in, from_filter, from_map, in_from_Contains, in_map}
use Rattle.mo_types.specs.Goals.{name_of}
use Rattle.mo_types.specs.declared.goal.Goal.{Goal}
use Rattle.fixup_chain.specs.Chained.{AreAmong, AreMany}
use Rattle.fixup_chain.specs.Encoded.{IMPORTS}
use Rattle.fixup_chain.specs.ImportOrder.{Import, compare_imports_total}
use Rattle.fixup_chain.specs.Imports.{bound, import_of, is_bound, is_small, is_wide, optional_of, ordinal_of, pool_of}
use Rattle.fixup_chain.specs.declared.chains.Fixup.{Fixup}
use Rattle.fixup_chain.specs.declared.import_row.ImportRow.{ImportRow}
use Rattle.fixup_chain.specs.inner.Held.{imports_in, is_large}
use Rattle.fixup_chain.specs.inner.Rows.{names_of, rows_at}
use Rattle.fixup_chain.proofs.EncodeLemmas.{few_imports}
use Rattle.fixup_chain.proofs.ImportLemmas.{are_in, forms}
use Rattle.fixup_chain.proofs.NameLemmas.{from_names, in_names, names_rise, pool_names}
use Rattle.fixup_chain.proofs.OneLemmas.{same_formed}
use Rattle.fixup_chain.proofs.UseLemmas.{same_size}
use Rattle.fixup_chain.proofs.WideLemmas.{by_pointer, import_in, is_among}

-- ---- a list that has each member once has no more than one with all its members

-- a list without one place of a member, by the parts that its members give
record IsLeft {X Y : Type 0} (g : X → List Y) (ys : List X) (x : X) : Type 0 where
  rest : List X
  size : length (flat_map g ys) ≡ length (g x) + length (flat_map g rest)
  others : (z : X) → In z ys → (x ≡ z) ⊎ In z rest

left : {X Y : Type 0} (g : X → List Y) (ys : List X) (x : X) → In x ys → IsLeft g ys x
left g [] x h = absurd h
left {X = X} g (y ∷ ys) x (inl e) = record {
  rest = ys;
  size = length-append (g y) (flat_map g ys) ∙ ap (λ (z : X). length (g z) + length (flat_map g ys)) e;
  others = first;
}
  where
    first : (z : X) → (y ≡ z) ⊎ In z ys → (x ≡ z) ⊎ In z ys
    first z (inl f) = inl (sym e ∙ f)
    first z (inr i) = inr i
left {X = X} g (y ∷ ys) x (inr h) =
    let more = left g ys x h in
    record {
      rest = y ∷ more.rest;
      size = (let size = more.size in let here = length-append (g y) (flat_map g ys) in let there = length-append (g y) (flat_map g more.rest) in omega (arith, size, here, there));
      others = later more;
    }
  where
    later : (more : IsLeft g ys x) → (z : X) → (y ≡ z) ⊎ In z ys → (x ≡ z) ⊎ ((y ≡ z) ⊎ In z more.rest)
    later more z (inl f) = inr (inl f)
    later more z (inr i) = elim (more.others z i) [
      | inl e ↦ inl e
      | inr j ↦ inr (inr j)
    ]

irreflexive : {K : Type 0} {R : K → K → Ordering} (o : IsTotalOrder R) (x : K) → R x x ≡ Less → ⊥
irreflexive o x less = let equal = tied_itself o x in cc

parts_among : {X Y : Type 0} {R : X → X → Ordering} (g : X → List Y) → IsTotalOrder R → (xs ys : List X) → IsStrictlySortedBy R xs → ((z : X) → In z xs → In z ys) → length (flat_map g xs) ≤ length (flat_map g ys)
unfolding IsStrictlySortedBy
parts_among g o [] ys rises among = omega arith
parts_among {X = X} {R = R} g o (x ∷ xs) ys rises among =
    let one = left g ys x (among x (inl refl)) in
    let rest : length (flat_map g xs) ≤ length (flat_map g one.rest) = parts_among g o xs one.rest rises.1
    (λ z i. elim (one.others z (among z (inr i))) [
      | inl e ↦ absurd (irreflexive o x (subst (λ (w : X). R x w ≡ Less) (sym e) (all_in (λ w. R x w ≡ Less) xs z rises.0 i)))
      | inr j ↦ j
    ]) in
    let size = one.size in
    let here = length-append (g x) (flat_map g xs) in
    omega (arith, rest, size, here)

singles : {X : Type 0} (xs : List X) → flat_map (λ x. x ∷ []) xs ≡ xs
singles [] = refl
singles (x ∷ xs) = ap (λ ys. x ∷ ys) (singles xs)

no_more : {X : Type 0} {R : X → X → Ordering} → IsTotalOrder R → (xs ys : List X) → IsStrictlySortedBy R xs → ((z : X) → In z xs → In z ys) → length xs ≤ length ys
no_more {X = X} o xs ys rises among =
    let parts : length (flat_map (λ (x : X). x ∷ []) xs) ≤ length (flat_map (λ (x : X). x ∷ []) ys) = parts_among (λ (x : X). x ∷ []) o xs ys rises among in
    let here : length (flat_map (λ (x : X). x ∷ []) xs) ≡ length xs = ap length (singles xs) in
    let there : length (flat_map (λ (x : X). x ∷ []) ys) ≡ length ys = ap length (singles ys) in
    omega (arith, parts, here, there)

-- ---- no more imports than pointers

imports_low : (wide : Bool) (fixups : List Fixup) → length (imports_in wide fixups) ≤ length (bound fixups)
imports_low wide fixups =
    let low : length (imports_in wide fixups) ≤ length (map (import_of wide) (bound fixups)) =
    no_more compare_imports_total (imports_in wide fixups) (map (import_of wide) (bound fixups)) (are_in wide fixups).rising
    (λ i h. let from : (f : Fixup) × In f (bound fixups) × (import_of wide f ≡ i) = by_pointer wide fixups i h in
    subst (λ (j : Import). In j (map (import_of wide) (bound fixups))) from.2 (in_map (import_of wide) (bound fixups) from.0 from.1)) in
    let size : length (map (import_of wide) (bound fixups)) ≡ length (bound fixups) = same_size (import_of wide) (bound fixups) in
    omega (arith, low, size)

-- the form of pointers' imports
abbrev form_of : List Fixup → Bool
form_of fixups = is_wide fixups (pool_of (imports_in false fixups))

enough_in : (fixups : List Fixup) (wide : Bool) → wide ≡ form_of fixups → AreMany fixups → IMPORTS ≤ length (imports_in wide fixups)
enough_in fixups wide form many =
    let size : length many.imports ≡ length (imports_in wide fixups) =
    ap length (same_formed fixups many.wide wide many.imports (imports_in wide fixups) many.formed (forms fixups wide form)) in
    let enough = many.many in
    omega (arith, size, enough)

pub few_bound : (fixups : List Fixup) → AreMany fixups → 2 ^ 24 ≤ length (bound fixups)
few_bound fixups many =
    let low = imports_low (form_of fixups) fixups in
    let enough = enough_in fixups (form_of fixups) refl many in
    omega (arith, low, enough)

bound_low : (fixups : List Fixup) → length (bound fixups) ≤ length fixups
unfolding bound
bound_low [] = omega arith
bound_low (f ∷ fixups) = by (is_bound f.goal) (bound_low fixups)
  where
    by : (b : Bool) → length (filter (λ (g : Fixup). is_bound g.goal) fixups) ≤ length fixups → length (if b then f ∷ filter (λ (g : Fixup). is_bound g.goal) fixups else filter (λ (g : Fixup). is_bound g.goal) fixups) ≤ length (f ∷ fixups)
    by true low = omega (arith, low)
    by false low = omega (arith, low)

-- ---- others that are bound alike

same_import_of : (wide : Bool) (f g : Fixup) → g.goal ≡ f.goal → g.addend ≡ f.addend → import_of wide g ≡ import_of wide f
unfolding import_of
same_import_of wide f g e h = ap (λ (to : Goal). made to g.addend) e ∙ ap (made f.goal) h
  where
    made : Goal → ℤ → Import
    made to addend = record { name = name_of to; addend = (if wide then addend else pos 0); ordinal = ordinal_of to; optional = optional_of to }

-- an import in a form, by it in the same form or the wide one
in_form : Bool → Import → Import
in_form true import = import
in_form false import = record { name = import.name; addend = pos 0; ordinal = import.ordinal; optional = import.optional }

in_form_is : (few more : Bool) (f : Fixup) → (few ≡ true → more ≡ true) → in_form few (import_of more f) ≡ import_of few f
unfolding import_of in_form
in_form_is false more f wider = refl
in_form_is true true f wider = refl
in_form_is true false f wider = absurd (let e : false ≡ true = wider refl in cc)

module _ (few more : List Fixup) (among : AreAmong few more) where
  -- a bound pointer of the others
  other_of : (f : Fixup) → In f (bound few) → (g : Fixup) × In g (bound more) × (g.goal ≡ f.goal) × (g.addend ≡ f.addend)
  unfolding bound
  other_of f h =
      let here : In f few × (is_bound f.goal ≡ true) = from_filter (λ (g : Fixup). is_bound g.goal) few f h in
      let other : (g : Fixup) × Contains more g × (g.goal ≡ f.goal) × (g.addend ≡ f.addend) = among.each f (Contains_from_in few f here.0) here.1 in
      (other.0, is_among more other.0 (in_from_Contains more other.0 other.1) (ap is_bound other.2 ∙ here.1), other.2, other.3)

  imports_among : (a b : Bool) → (a ≡ true → b ≡ true) → (i : Import) → In i (imports_in a few) → In i (map (in_form a) (imports_in b more))
  imports_among a b wider i h =
      let from : (f : Fixup) × In f (bound few) × (import_of a f ≡ i) = by_pointer a few i h in
      let other : (g : Fixup) × In g (bound more) × (g.goal ≡ from.0.goal) × (g.addend ≡ from.0.addend) = other_of from.0 from.1 in
      let same : in_form a (import_of b other.0) ≡ i = in_form_is a b other.0 wider ∙ same_import_of a from.0 other.0 other.2 other.3 ∙ from.2 in
      subst (λ (j : Import). In j (map (in_form a) (imports_in b more))) same (in_map (in_form a) (imports_in b more) (import_of b other.0) (import_in b more other.0 other.1))

  imports_fewer : (a b : Bool) → (a ≡ true → b ≡ true) → length (imports_in a few) ≤ length (imports_in b more)
  imports_fewer a b wider =
      let low : length (imports_in a few) ≤ length (map (in_form a) (imports_in b more)) =
      no_more compare_imports_total (imports_in a few) (map (in_form a) (imports_in b more)) (are_in a few).rising (imports_among a b wider) in
      let size : length (map (in_form a) (imports_in b more)) ≡ length (imports_in b more) = same_size (in_form a) (imports_in b more) in
      omega (arith, low, size)

  names_among : (n : List ℕ) → In n (names_of (imports_in false few)) → In n (names_of (imports_in false more))
  unfolding in_form
  names_among n h =
      let from : (i : Import) × In i (imports_in false few) × (i.name ≡ n) = from_names (imports_in false few) n h in
      let other : (j : Import) × In j (imports_in false more) × (in_form false j ≡ from.0) =
      from_map (in_form false) (imports_in false more) from.0 (imports_among false false (λ e. e) from.0 from.1) in
      let same : other.0.name ≡ n = ap (λ (i : Import). i.name) other.2 ∙ from.2 in
      subst (λ (m : List ℕ). In m (names_of (imports_in false more))) same (in_names (imports_in false more) other.0 other.1)

  pool_low : length (pool_of (imports_in false few)) ≤ length (pool_of (imports_in false more))
  pool_low =
      let low : length (flat_map (λ (n : List ℕ). n ++ 0 ∷ []) (names_of (imports_in false few))) ≤ length (flat_map (λ (n : List ℕ). n ++ 0 ∷ []) (names_of (imports_in false more))) =
      parts_among (λ (n : List ℕ). n ++ 0 ∷ []) nat_list_cmp_total (names_of (imports_in false few)) (names_of (imports_in false more)) (names_rise (imports_in false few) (are_in false few).rising) names_among in
      let here = ap length (pool_names (imports_in false few)) in
      let there = ap length (pool_names (imports_in false more)) in
      omega (arith, low, here, there)

  large_among : list_any is_large few ≡ true → list_any is_large more ≡ true
  large_among e =
      let one : (f : Fixup) × In f few × (is_large f ≡ true) = any_true is_large few e in
      let parts : (is_bound one.0.goal ≡ true) × (not (is_small one.0.addend) ≡ true) = both (is_bound one.0.goal) (not (is_small one.0.addend)) one.2 in
      let other : (g : Fixup) × Contains more g × (g.goal ≡ one.0.goal) × (g.addend ≡ one.0.addend) = among.each one.0 (Contains_from_in few one.0 one.1) parts.0 in
      let same : is_large other.0 ≡ true = joined (is_bound other.0.goal) (not (is_small other.0.addend)) (ap is_bound other.2 ∙ parts.0) (ap (λ (z : ℤ). not (is_small z)) other.3 ∙ parts.1) in
      any_from_in is_large more other.0 (in_from_Contains more other.0 other.1) same
    where
      both : (a b : Bool) → (a && b) ≡ true → (a ≡ true) × (b ≡ true)
      both true b e = (refl, e)
      both false b e = cc

      joined : (a b : Bool) → a ≡ true → b ≡ true → (a && b) ≡ true
      joined a b e f = rw (e, f) refl

  wider : form_of few ≡ true → form_of more ≡ true
  unfolding is_wide
  wider e = by (list_any is_large few) (list_any is_large more) large_among e
    where
      longer : (m n : ℕ) → m ≤ n → nat_le (2 ^ 23) m ≡ true → nat_le (2 ^ 23) n ≡ true
      longer m n low far = let reach : 2 ^ 23 ≤ m = leb-true (2 ^ 23) m far in le-leb (2 ^ 23) n (omega (arith, low, reach))

      by : (a b : Bool) → (a ≡ true → b ≡ true) → (a || nat_le (2 ^ 23) (length (pool_of (imports_in false few)))) ≡ true → (b || nat_le (2 ^ 23) (length (pool_of (imports_in false more)))) ≡ true
      by a true h f = refl
      by true false h f = absurd (let g : false ≡ true = h refl in cc)
      by false false h f = longer (length (pool_of (imports_in false few))) (length (pool_of (imports_in false more))) pool_low f

  pub more_are_many : AreMany few → AreMany more
  more_are_many many = record {
    wide = form_of more;
    imports = imports_in (form_of more) more;
    formed = forms more (form_of more) refl;
    many = (let low = imports_fewer (form_of few) (form_of more) wider in let enough = enough_in few (form_of few) refl many in omega (arith, low, enough));
  }

-- ---- the call

pub too_few : (fixups given : List Fixup) → fixups ≡ given → length fixups < IMPORTS → AreMany given → ⊥
too_few fixups given e few many =
    let enough = few_bound given many in
    let low = bound_low given in
    let size : length fixups ≡ length given = ap length e in
    omega (arith, enough, low, size, few)

pub many_rows : (fixups given : List Fixup) (wide : Bool) (rows : List ImportRow) → fixups ≡ given → wide ≡ is_wide fixups (pool_of (imports_in false fixups)) → rows ≡ rows_at 1 (imports_in wide fixups) → AreMany given → IMPORTS ≤ length rows
many_rows fixups given wide rows e form rows_are many =
    let enough = enough_in fixups wide form (subst AreMany (sym e) many) in
    let size : length rows ≡ length (imports_in wide fixups) = few_imports wide fixups rows rows_are in
    omega (arith, size, enough)
