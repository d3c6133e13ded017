-- What the cuts of a section are, by its type.
use Rattle.std.proofs.Common.{◌≡◌, ℕ, zero, suc, ◌+◌, ◌-◌, ◌%◌, ◌<◌, ◌≤◌, ◌∷◌, [], ◌&&◌, ◌||◌, ◌⊎◌, inl, inr, List, length, get_or, Bool, true, false, if◌then◌else◌, eqb, ltb, filter, Option, Some, None, refl, sym, ap, ◌∙◌, subst, arith}
use Rattle.std.specs.List.{AllByRecursion, list_any, filter_map, cons_option, range_with_len}
use Rattle.std.proofs.lemmas.Bool.{eqb-true, ne_eqb, false≢true, ltb-true, lt-ltb, eq-eqb}
use Rattle.std.proofs.lemmas.List.{get_or_read}
use Rattle.std.proofs.lemmas.List.Elements.{recursion_from_All}
use Rattle.mo_types.specs.declared.object.Object.{Object}
use Rattle.mo_types.specs.declared.object.Section.{Section}
use Rattle.mo_types.specs.declared.object.Symbol.{Symbol}
use Rattle.mo_types.specs.declared.object.SymbolKind.{SymbolKind}
use Rattle.mo_types.specs.declared.object.SymbolKind.TheVariants.{Undefined, Common, Defined, Absolute, Passed}
use Rattle.mo_types.specs.Atoms.{may_cut, is_defined_at, begins_piece, is_cut, cuts}
use Rattle.mo_types.specs.Whole.{IsWhole, IsWholeSection, IsDefinedWithin, is_strings, literal_size}
use Rattle.atom_cut.specs.Cutting.{AreInOrder}
use Rattle.atom_cut.specs.Offsets.{offset_in, cut_offset, offsets_in}
use Rattle.atom_cut.proofs.RisingLemmas.{Has, Rises, Agree, has_from_Contains, Contains_from_has, rises_from_increasing, same_as_filter}

-- a definition in the section of a number isn't before its start
abbrev IsFrom : ℕ → Section → SymbolKind → Type 0
IsFrom number section (Defined place value) = place ≡ number → section.address ≤ value
IsFrom number section _ = Unit {0}

-- a symbol cuts the section at an offset
abbrev cuts_at : ℕ → Section → ℕ → Symbol → Bool
cuts_at number section at symbol = may_cut symbol && is_defined_at number (section.address + at) symbol.kind

both : (a b : Bool) → (a && b) ≡ true → (a ≡ true) × (b ≡ true)
both true b e = (refl, e)
both false b e = absurd (false≢true e)

chosen_some : (test : Bool) (x y : ℕ) → (if test then Some x else None) ≡ Some y → (test ≡ true) × (x ≡ y)
chosen_some true x y e = let same : x ≡ y = cc in (refl, same)
chosen_some false x y e = cc

offset_is : (number : ℕ) (section : Section) (kind : SymbolKind) (y : ℕ) → IsFrom number section kind → offset_in number section kind ≡ Some y → (y < section.size) × (is_defined_at number (section.address + y) kind ≡ true)
offset_is number section (Defined place value) y from e =
    let parts : ((eqb place number && ltb (value - section.address) section.size) ≡ true) × (value - section.address ≡ y) = chosen_some _ _ _ e in
    let tests : (eqb place number ≡ true) × (ltb (value - section.address) section.size ≡ true) = both _ _ parts.0 in
    let start : section.address ≤ value = from (eqb-true place number tests.0) in
    let below : value - section.address < section.size = ltb-true _ _ tests.1 in
    let offset : value - section.address ≡ y = parts.1 in
    let same : value ≡ section.address + y = omega arith in
    (omega arith, rw (tests.0, eq-eqb value (section.address + y) same) refl)
offset_is number section Undefined y from e = cc
offset_is number section (Common align size) y from e = cc
offset_is number section Absolute y from e = cc
offset_is number section Passed y from e = cc

offset_from : (number : ℕ) (section : Section) (kind : SymbolKind) (y : ℕ) → y < section.size → is_defined_at number (section.address + y) kind ≡ true → offset_in number section kind ≡ Some y
offset_from number section (Defined place value) y below e =
    let tests : (eqb place number ≡ true) × (eqb value (section.address + y) ≡ true) = both _ _ e in
    let same : value ≡ section.address + y = eqb-true _ _ tests.1 in
    let offset : value - section.address ≡ y = omega arith in
    rw (tests.0, offset, lt-ltb y section.size below) refl
offset_from number section Undefined y below e = absurd (false≢true e)
offset_from number section (Common align size) y below e = absurd (false≢true e)
offset_from number section Absolute y below e = absurd (false≢true e)
offset_from number section Passed y below e = absurd (false≢true e)

symbol_is : (number : ℕ) (section : Section) (symbol : Symbol) (test : Bool) (y : ℕ) → may_cut symbol ≡ test → IsFrom number section symbol.kind → (if test then offset_in number section symbol.kind else None) ≡ Some y → (y < section.size) × (cuts_at number section y symbol ≡ true)
symbol_is number section symbol true y may from e =
    let parts : (y < section.size) × (is_defined_at number (section.address + y) symbol.kind ≡ true) = offset_is number section symbol.kind y from e in
    (parts.0, rw (may, parts.1) refl)
symbol_is number section symbol false y may from e = cc

symbol_from : (number : ℕ) (section : Section) (symbol : Symbol) (y : ℕ) → y < section.size → cuts_at number section y symbol ≡ true → cut_offset number section symbol ≡ Some y
symbol_from number section symbol y below e =
    let tests : (may_cut symbol ≡ true) × (is_defined_at number (section.address + y) symbol.kind ≡ true) = both _ _ e in
    rw tests.0 (offset_from number section symbol.kind y below tests.1)

either : (a b : Bool) → (a || b) ≡ true → (a ≡ true) ⊎ (b ≡ true)
either true b e = inl refl
either false b e = inr e

or_left : (a b : Bool) → a ≡ true → (a || b) ≡ true
or_left a b e = rw e refl

or_right : (a b : Bool) → b ≡ true → (a || b) ≡ true
or_right true b e = refl
or_right false b e = e

abbrev AreFrom : ℕ → Section → List Symbol → Type 0
AreFrom number section symbols = AllByRecursion (λ symbol. IsFrom number section symbol.kind) symbols

abbrev IsCutBy : ℕ → Section → List Symbol → ℕ → Type 0
IsCutBy number section symbols y = (y < section.size) × (list_any (cuts_at number section y) symbols ≡ true)

first_offset_is : (number : ℕ) (section : Section) (symbol : Symbol) (symbols : List Symbol) (offset : Option ℕ) (y : ℕ) → cut_offset number section symbol ≡ offset → IsFrom number section symbol.kind → (Has y (filter_map (cut_offset number section) symbols) → IsCutBy number section symbols y) → Has y (cons_option offset (filter_map (cut_offset number section) symbols)) → IsCutBy number section (symbol ∷ symbols) y
first_offset_is number section symbol symbols None y e from rest has =
    let inside : IsCutBy number section symbols y = rest has in
    (inside.0, or_right _ _ inside.1)
first_offset_is number section symbol symbols (Some x) y e from rest (inl here) =
    let is : cut_offset number section symbol ≡ Some y = e ∙ ap Some here in
    let parts : (y < section.size) × (cuts_at number section y symbol ≡ true) = symbol_is number section symbol (may_cut symbol) y refl from is in
    (parts.0, or_left _ _ parts.1)
first_offset_is number section symbol symbols (Some x) y e from rest (inr there) =
    let inside : IsCutBy number section symbols y = rest there in
    (inside.0, or_right _ _ inside.1)

offsets_are : (number : ℕ) (section : Section) (symbols : List Symbol) (y : ℕ) → AreFrom number section symbols → Has y (filter_map (cut_offset number section) symbols) → IsCutBy number section symbols y
offsets_are number section [] y from has = absurd has
offsets_are number section (symbol ∷ symbols) y from has =
    first_offset_is number section symbol symbols (cut_offset number section symbol) y refl from.0 (offsets_are number section symbols y from.1) has

has_first : (y : ℕ) (offset : Option ℕ) (rest : List ℕ) → offset ≡ Some y → Has y (cons_option offset rest)
has_first y None rest e = cc
has_first y (Some x) rest e = let same : x ≡ y = cc in inl same

has_later : (y : ℕ) (offset : Option ℕ) (rest : List ℕ) → Has y rest → Has y (cons_option offset rest)
has_later y None rest has = has
has_later y (Some x) rest has = inr has

offsets_from : (number : ℕ) (section : Section) (symbols : List Symbol) (y : ℕ) → y < section.size → list_any (cuts_at number section y) symbols ≡ true → Has y (filter_map (cut_offset number section) symbols)
offsets_from number section [] y below e = absurd (false≢true e)
offsets_from number section (symbol ∷ symbols) y below e =
    elim (either (cuts_at number section y symbol) (list_any (cuts_at number section y) symbols) e) [
      | inl here ↦ has_first y (cut_offset number section symbol) (filter_map (cut_offset number section) symbols) (symbol_from number section symbol y below here)
      | inr there ↦ has_later y (cut_offset number section symbol) (filter_map (cut_offset number section) symbols) (offsets_from number section symbols y below there)
    ]

-- whether a piece begins at an offset above 0 and below the size
abbrev begins : Object → ℕ → Section → ℕ → Bool
begins object number section at = begins_piece object number section (literal_size section.kind) at

cut_from : (object : Object) (number : ℕ) (section : Section) (at : ℕ) → at < section.size → begins object number section at ≡ true → is_cut object number section at ≡ true
unfolding is_cut
cut_from object number section at below e = or_right (eqb at 0) (ltb at section.size && begins object number section at) (rw (lt-ltb at section.size below, e) refl)

cut_is : (object : Object) (number : ℕ) (section : Section) (at : ℕ) → is_cut object number section at ≡ true → (at ≡ 0) ⊎ ((at < section.size) × (begins object number section at ≡ true))
unfolding is_cut
cut_is object number section at e =
    elim (either (eqb at 0) (ltb at section.size && begins object number section at) e) [
      | inl zero_is ↦ inl (eqb-true at 0 zero_is)
      | inr more ↦
          let parts : (ltb at section.size ≡ true) × (begins object number section at ≡ true) = both _ _ more in
          inr (ltb-true at section.size parts.0, parts.1)
    ]

pub start_is_cut : (object : Object) (number : ℕ) (section : Section) → is_cut object number section 0 ≡ true
unfolding is_cut
start_is_cut object number section = refl

all_cuts : (object : Object) (number : ℕ) (section : Section) → filter (is_cut object number section) (range_with_len 0 (suc (section.size - 1))) ≡ cuts object number section
unfolding cuts
all_cuts object number section = rw start_is_cut refl

-- the cuts are the start and some offsets, in order, where a piece begins at just these
cuts_in_order : (object : Object) (number : ℕ) (section : Section) (offsets ordered : List ℕ) → ((y : ℕ) → Has y offsets → (y < section.size) × (begins object number section y ≡ true)) → ((y : ℕ) → y < section.size → begins object number section y ≡ true → Has y offsets) → AreInOrder (0 ∷ offsets) ordered → ordered ≡ cuts object number section
cuts_in_order object number section offsets ordered are all order =
    let p : ℕ → Bool = is_cut object number section in
    let rises : Rises 0 ordered = rises_from_increasing 0 ordered order.rises (λ some. omega arith) in
    let inside : (y : ℕ) → Has y (0 ∷ offsets) → (y < 0 + suc (section.size - 1)) × (p y ≡ true) = λ y has.
    elim has [
      | inl here ↦ (omega (arith, here), subst (λ (k : ℕ). p k ≡ true) here (start_is_cut object number section))
      | inr there ↦
          let parts : (y < section.size) × (begins object number section y ≡ true) = are y there in
          let below : y < section.size = parts.0 in
          (omega arith, cut_from object number section y below parts.1)
    ] in
    let agree : Agree p 0 (suc (section.size - 1)) ordered = record {
      inside = λ y has. inside y (has_from_Contains (0 ∷ offsets) y (order.adds_none y (Contains_from_has ordered y has)));
      all = λ y low below pass. has_from_Contains ordered y (order.keeps y (Contains_from_has (0 ∷ offsets) y (
          elim (cut_is object number section y pass) [ inl start ↦ inl (sym start) | inr piece ↦ inr (all y piece.0 piece.1) ])));
    } in
    same_as_filter p 0 (suc (section.size - 1)) ordered rises agree ∙ all_cuts object number section

begins_by_symbols : (object : Object) (number : ℕ) (section : Section) (y : ℕ) → literal_size section.kind ≡ None → is_strings section.kind ≡ false → begins object number section y ≡ (object.subsections && list_any (cuts_at number section y) object.symbols)
begins_by_symbols object number section y plain other = rw (plain, other) refl

are_offsets : (symbols : List Symbol) (number : ℕ) (section : Section) → offsets_in symbols number section ≡ filter_map (cut_offset number section) symbols
unfolding offsets_in
are_offsets symbols number section = refl

cuts_by_symbols : (object : Object) (number : ℕ) (section : Section) (allowed : Bool) (offsets ordered : List ℕ) → object.subsections ≡ allowed → literal_size section.kind ≡ None → is_strings section.kind ≡ false → AreFrom number section object.symbols → offsets ≡ (if allowed then offsets_in object.symbols number section else []) → AreInOrder (0 ∷ offsets) ordered → ordered ≡ cuts object number section
cuts_by_symbols object number section true offsets ordered sub plain other from is order =
    let same : offsets ≡ filter_map (cut_offset number section) object.symbols = is ∙ are_offsets object.symbols number section in
    let by : (y : ℕ) → begins object number section y ≡ list_any (cuts_at number section y) object.symbols = λ y. begins_by_symbols object number section y plain other ∙ rw sub refl in
    cuts_in_order object number section offsets ordered
    (λ y has.
    let parts : IsCutBy number section object.symbols y = offsets_are number section object.symbols y from (subst (Has y) same has) in
    (parts.0, by y ∙ parts.1))
    (λ y below begun. subst (Has y) (sym same) (offsets_from number section object.symbols y below (sym (by y) ∙ begun)))
    order
cuts_by_symbols object number section false offsets ordered sub plain other from is order =
    let by : (y : ℕ) → begins object number section y ≡ false = λ y. begins_by_symbols object number section y plain other ∙ rw sub refl in
    cuts_in_order object number section offsets ordered
    (λ y has. absurd (subst (Has y) is has))
    (λ y below begun. absurd (false≢true (sym (by y) ∙ begun)))
    order

filter_range_same : (p q : ℕ → Bool) (a n : ℕ) → ((k : ℕ) → a ≤ k → k < a + n → p k ≡ q k) → filter p (range_with_len a n) ≡ filter q (range_with_len a n)
filter_range_same p q a zero same = refl
filter_range_same p q a (suc n) same =
    let here : p a ≡ q a = same a (omega arith) (omega arith) in
    let rest : filter p (range_with_len (a + 1) n) ≡ filter q (range_with_len (a + 1) n) = filter_range_same p q (a + 1) n (λ k low high. same k (omega arith) (omega arith)) in
    rw (here, rest) refl

piece_is_cut : (object : Object) (number : ℕ) (section : Section) (at : ℕ) → 1 ≤ at → at < section.size → is_cut object number section at ≡ begins object number section at
unfolding is_cut
piece_is_cut object number section at low below = rw (ne_eqb at 0 (λ is. absurd (omega arith)), lt-ltb at section.size below) refl

cuts_by_test : (object : Object) (number : ℕ) (section : Section) (p : ℕ → Bool) → ((k : ℕ) → begins object number section k ≡ p k) → 0 ∷ filter p (range_with_len 1 (section.size - 1)) ≡ cuts object number section
unfolding cuts
cuts_by_test object number section p by =
    ap (λ xs. 0 ∷ xs) (filter_range_same p (is_cut object number section) 1 (section.size - 1) (λ k low high. sym (by k) ∙ sym (piece_is_cut object number section k low (omega arith))))

pub cuts_by_literals : (object : Object) (number : ℕ) (section : Section) (literal : ℕ) (found : List ℕ) → literal_size section.kind ≡ Some literal → found ≡ 0 ∷ filter (λ at. eqb (at % literal) 0) (range_with_len 1 (section.size - 1)) → found ≡ cuts object number section
cuts_by_literals object number section literal found is e =
    e ∙ cuts_by_test object number section (λ at. eqb (at % literal) 0) (λ k. rw is refl)

pub cuts_by_strings : (object : Object) (number : ℕ) (section : Section) (found : List ℕ) → is_strings section.kind ≡ true → length section.bytes ≡ section.size → found ≡ 0 ∷ filter (λ at. eqb (get_or section.bytes (at - 1) 0) 0) (range_with_len 1 (length section.bytes - 1)) → found ≡ cuts object number section
cuts_by_strings object number section found strings size e =
    let kind : section.kind ≡ 2 = eqb-true section.kind 2 strings in
    e ∙ ap (λ n. 0 ∷ filter (λ at. eqb (get_or section.bytes (at - 1) 0) 0) (range_with_len 1 (n - 1))) size
    ∙ cuts_by_test object number section (λ at. eqb (get_or section.bytes (at - 1) 0) 0) (λ k. rw kind refl)

-- what a whole object says of the section of an index

from_definition : (sections : List Section) (index : ℕ) (d : Section) (kind : SymbolKind) → IsDefinedWithin sections kind → IsFrom (index + 1) (get_or sections index d) kind
from_definition sections index d (Defined place value) within = λ same.
    let before : place - 1 ≡ index = omega arith in
    subst (λ (k : ℕ). (get_or sections k d).address ≤ value) before (within.low d)
from_definition sections index d Undefined within = tt
from_definition sections index d (Common align size) within = tt
from_definition sections index d Absolute within = tt
from_definition sections index d Passed within = tt

from_definitions : (sections : List Section) (index : ℕ) (d : Section) (symbols : List Symbol) → AllByRecursion (λ symbol. IsDefinedWithin sections symbol.kind) symbols → AreFrom (index + 1) (get_or sections index d) symbols
from_definitions sections index d [] all = tt
from_definitions sections index d (symbol ∷ symbols) all = (from_definition sections index d symbol.kind all.0, from_definitions sections index d symbols all.1)

pub cuts_at_index : (object : Object) (index : ℕ) (d : Section) (offsets ordered : List ℕ) → IsWhole object → literal_size (get_or object.sections index d).kind ≡ None → is_strings (get_or object.sections index d).kind ≡ false → offsets ≡ (if object.subsections then offsets_in object.symbols (index + 1) (get_or object.sections index d) else []) → AreInOrder (0 ∷ offsets) ordered → ordered ≡ cuts object (index + 1) (get_or object.sections index d)
cuts_at_index object index d offsets ordered whole plain other is order =
    cuts_by_symbols object (index + 1) (get_or object.sections index d) object.subsections offsets ordered refl plain other
    (from_definitions object.sections index d object.symbols (recursion_from_All (λ symbol. IsDefinedWithin object.sections symbol.kind) object.symbols whole.symbols))
    is order

pub strings_have_bytes : (section : Section) → IsWholeSection section → is_strings section.kind ≡ true → length section.bytes ≡ section.size
strings_have_bytes section whole strings =
    let kind : section.kind ≡ 2 = eqb-true section.kind 2 strings in
    rw kind at whole.bytes

pub literals_are_whole : (section : Section) (literal : ℕ) → IsWholeSection section → literal_size section.kind ≡ Some literal → section.size % literal ≡ 0
literals_are_whole section literal whole is = rw is at whole.literals

some_literal : (kind literal : ℕ) (a b c : Bool) → (if a then Some 4 else if b then Some 8 else if c then Some 16 else None) ≡ Some literal → 0 < literal
some_literal kind literal true b c e = let is : 4 ≡ literal = cc in omega arith
some_literal kind literal false true c e = let is : 8 ≡ literal = cc in omega arith
some_literal kind literal false false true e = let is : 16 ≡ literal = cc in omega arith
some_literal kind literal false false false e = cc

pub literal_above_0 : (kind literal : ℕ) → literal_size kind ≡ Some literal → 0 < literal
literal_above_0 kind literal e = some_literal kind literal (eqb kind 3) (eqb kind 4) (eqb kind 14) e

-- the same of the section that stands at an index
pub literal_cuts_at : (object : Object) (index : ℕ) (section d : Section) (literal : ℕ) (found : List ℕ) → index < length object.sections → section ≡ get_or object.sections index section → Some literal ≡ literal_size section.kind → found ≡ 0 ∷ filter (λ at. eqb (at % literal) 0) (range_with_len 1 (section.size - 1)) → found ≡ cuts object (index + 1) (get_or object.sections index d)
literal_cuts_at object index section d literal found within is literals e =
    let same : section ≡ get_or object.sections index d = get_or_read object.sections index section within is d in
    rw (← same) (cuts_by_literals object (index + 1) section literal found (sym literals) e)

pub symbol_cuts_at : (object : Object) (index : ℕ) (section d : Section) (offsets begun ordered : List ℕ) → IsWhole object → index < length object.sections → section ≡ get_or object.sections index section → literal_size section.kind ≡ None → is_strings section.kind ≡ false → ((e : Section) → offsets ≡ offsets_in object.symbols (index + 1) (get_or object.sections index e)) → begun ≡ (if object.subsections then offsets else []) → AreInOrder (0 ∷ begun) ordered → ordered ≡ cuts object (index + 1) (get_or object.sections index d)
symbol_cuts_at object index section d offsets begun ordered whole within is plain other are chosen order =
    let same : section ≡ get_or object.sections index d = get_or_read object.sections index section within is d in
    cuts_at_index object index d begun ordered whole (rw (← same) plain) (rw (← same) other)
    (chosen ∙ ap (λ xs. if object.subsections then xs else []) (are d)) order

pub ruleset section_cuts = (cuts_by_strings, strings_have_bytes, literals_are_whole, literal_above_0)
