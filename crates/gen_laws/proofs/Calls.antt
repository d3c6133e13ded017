-- The relocations of the calls keep each rule.
use Rattle.std.proofs.Common.{◌≡◌, ℕ, zero, suc, ◌+◌, ◌-◌, ◌*◌, ◌/◌, ◌%◌, ◌<◌, ◌^◌, List, [], ◌∷◌, length, map, slice_get, Option, Some, None, Bool, true, false, inl, inr, refl, sym, ap, ◌∙◌, arith}
use Rattle.std.specs.Prelude.{◌==◌, ◌&&◌, ◌||◌, is_none, nat_le, nat_lt, not, if◌then◌else◌}
use Rattle.std.specs.List.{list_any, range_with_len}
use Rattle.std.specs.Option.{option_and_then, option_map, option_map_or}
use Rattle.std.proofs.lemmas.Bool.{and_from, cases_eq, eq-eqb, le-leb, lt-ltb, ltb-true, ne_eqb}
use Rattle.std.proofs.lemmas.List.FromFn.{get_or-map-range_with_len, length-map-range_with_len}
use Rattle.std.proofs.lemmas.Option.{slice_get-get_or, slice_get-map}
use Rattle.list_lemmas.proofs.Members.{In, from_map}
use Rattle.mo_types.specs.Atoms.{cut_of, greatest, is_cut, is_defined_at, may_cut}
use Rattle.mo_types.specs.RelocationRules.{RelocationRule, field_at, has_fields, is_bad_field, is_bad_target, is_in_dropped, is_in_one_atom, is_misplaced, is_passed, is_unnameable, overlap, overlaps_another, pair_fault, place_fault, row_start, shape_fault, target_fault}
use Rattle.mo_types.specs.Rows.{field_size, first_before, is_authenticated, is_first, is_second, is_subtractor, kind_at, kind_of, last_at, when}
use Rattle.mo_types.specs.declared.object.RawReloc.{RawReloc}
use Rattle.mo_types.specs.declared.object.Section.{Section}
use Rattle.mo_types.specs.declared.object.Symbol.{Symbol}
use Rattle.mo_types.specs.declared.reference.FieldRange.{FieldRange}
use Rattle.mo_types.specs.declared.reference.RefKind.{RefKind}
use Rattle.mo_types.specs.declared.reference.RefKind.TheVariants.{Branch}
use Rattle.mo_obj.specs.Rules.{IsBadRelocation}
use Rattle.link_gen.specs.Calls.{IsMade, called, first_function, function_count}
use Rattle.link_gen.specs.Laws.{LeadsTo}
use Rattle.link_gen.specs.Parts.{relocation, text_size}
use Rattle.link_gen.specs.Symbols.{symbols_of}
use Rattle.link_gen.specs.declared.calls.MadeObject.{MadeObject}
use Rattle.link_gen.specs.declared.symbols.MadeSymbol.{MadeSymbol}
use Rattle.link_gen.proofs.LawLemmas.{calls_lead}
use Rattle.gen_laws.specs.Object.{kind_of as kind_in}
use Rattle.gen_laws.specs.Object.{call_at, made_object, symbol_of, text_section}
use Rattle.gen_laws.proofs.Symbolic.{IsInText, from_range, in_text}

-- ---- lists

pub none_passes : {X : Type 0} (test : X → Bool) (xs : List X) → ((x : X) → In x xs → test x ≡ false) → list_any test xs ≡ false
none_passes test [] fails = refl
none_passes test (x ∷ xs) fails =
    ap (λ (b : Bool). b || list_any test xs) (fails x (inl refl)) ∙ none_passes test xs (λ y h. fails y (inr h))

-- ---- the relocation of a number

abbrev pub calls_of : MadeObject → List RawReloc
calls_of made = map (call_at made) (range_with_len 0 (3 * function_count made))

pub relocs_are : (made : MadeObject) → (text_section made).relocs ≡ calls_of made
unfolding text_section
relocs_are made = refl

pub how_many : (made : MadeObject) → length (calls_of made) ≡ 3 * function_count made
how_many made = length-map-range_with_len (call_at made) 0 (3 * function_count made)

pub call_there : (made : MadeObject) (r : ℕ) → r < 3 * function_count made → slice_get (calls_of made) r ≡ Some (call_at made r)
call_there made r low =
    let long = how_many made in
    slice_get-get_or (calls_of made) r (call_at made r) (omega arith)
    ∙ ap Some (get_or-map-range_with_len (call_at made) 0 (3 * function_count made) r r (call_at made r) low (let e : 0 + r ≡ r = omega arith in e))

not_first : (made : MadeObject) (r : ℕ) → is_first (call_at made r) ≡ false
unfolding call_at
not_first made r = refl

pub none_before : (made : MadeObject) (r : ℕ) → r < 3 * function_count made → first_before (calls_of made) r ≡ None
none_before made zero low = refl
none_before made (suc r) low =
    let back : suc r - 1 ≡ r = omega arith in
    ap (λ (b : Bool). let before : Option RawReloc = if b then None else option_and_then (λ (reloc : RawReloc). when (is_first reloc) reloc) (slice_get (calls_of made) (suc r - 1)) in before) (ne_eqb (suc r) 0 (λ e. omega arith))
    ∙ ap (λ (k : ℕ). option_and_then (λ (reloc : RawReloc). when (is_first reloc) reloc) (slice_get (calls_of made) k)) back
    ∙ ap (option_and_then (λ (reloc : RawReloc). when (is_first reloc) reloc)) (call_there made r (omega arith))
    ∙ ap (λ (b : Bool). when b (call_at made r)) (not_first made r)

pub last_there : (made : MadeObject) (r : ℕ) → r < 3 * function_count made → last_at (calls_of made) r ≡ Some (call_at made r)
unfolding call_at
last_there made r low = ap (option_and_then (λ (reloc : RawReloc). when (not (is_first reloc) && not (is_authenticated reloc)) reloc)) (call_there made r low)

kind_there : (made : MadeObject) (r : ℕ) → r < 3 * function_count made → kind_at (calls_of made) r ≡ Some Branch
unfolding kind_at kind_of call_at
kind_there made r low =
    ap (λ (o : Option RawReloc). option_and_then (kind_of o) (last_at (calls_of made) r)) (none_before made r low)
    ∙ ap (option_and_then (kind_of None)) (last_there made r low)

-- the bytes of an instruction
field_of : ℕ → FieldRange
field_of r = record { offset = 16 * (r / 3) + 4 * (r % 3); size = 4 }

field_there : (made : MadeObject) (r : ℕ) → r < 3 * function_count made → field_at (calls_of made) r ≡ Some (field_of r)
unfolding field_at call_at field_of
field_there made r low =
    ap (option_and_then (λ (kind : RefKind). option_and_then (λ (reloc : RawReloc). when (nat_lt reloc.address (2 ^ 31)) (record { offset = reloc.address; size = field_size kind })) (slice_get (calls_of made) r))) (kind_there made r low)
    ∙ ap (option_and_then (λ (reloc : RawReloc). when (nat_lt reloc.address (2 ^ 31)) (record { offset = reloc.address; size = 4 }))) (call_there made r low)
    ∙ ap (λ (b : Bool). let field : Option FieldRange = when b (record { offset = 16 * (r / 3) + 4 * (r % 3); size = 4 }) in field) (lt-ltb (16 * (r / 3) + 4 * (r % 3)) (2 ^ 31) (omega arith))

-- ---- Pair, Shape

pair_kept : (made : MadeObject) (r : ℕ) → r < 3 * function_count made → pair_fault (made_object made) 1 (text_section made) r ≡ None
unfolding pair_fault text_section call_at
pair_kept made r low = ap (option_and_then (λ (reloc : RawReloc). when (is_first reloc && not (option_map_or (is_second reloc) (slice_get (calls_of made) (r + 1)) false)) r)) (call_there made r low)

shape_kept : (made : MadeObject) (r : ℕ) → r < 3 * function_count made → shape_fault (made_object made) 1 (text_section made) r ≡ None
unfolding shape_fault text_section
shape_kept made r low =
    ap (λ (o : Option RefKind). option_and_then (λ (reloc : RawReloc). when (is_none o) (if option_map_or is_subtractor (first_before (calls_of made) r) false then r - 1 else r)) (last_at (calls_of made) r)) (kind_there made r low)
    ∙ ap (option_and_then (λ (reloc : RawReloc). when false (if option_map_or is_subtractor (first_before (calls_of made) r) false then r - 1 else r))) (last_there made r low)

-- ---- Place

defined_elsewhere : (made : MadeObject) (at : ℕ) (symbol : MadeSymbol) → IsInText made symbol → (at % 4 ≡ 0 → ⊥) → is_defined_at 1 (0 + at) (symbol_of symbol).kind ≡ false
unfolding symbol_of
defined_elsewhere made at symbol is odd = by symbol.place refl
  where
    by : (place : Option ℕ) → symbol.place ≡ place → is_defined_at 1 (0 + at) (kind_in place) ≡ false
    by None none = refl
    by (Some p) here = ne_eqb p (0 + at) (λ e. let even = is.aligned p here in odd (omega arith))

no_cut : (made : MadeObject) (at : ℕ) → IsMade made → (at % 4 ≡ 0 → ⊥) → is_cut (made_object made) 1 (text_section made) at ≡ false
unfolding is_cut made_object text_section
no_cut made at is_made odd =
    let none : list_any (λ (symbol : Symbol). may_cut symbol && is_defined_at 1 (0 + at) symbol.kind) (map symbol_of (symbols_of made)) ≡ false =
    none_passes (λ (symbol : Symbol). may_cut symbol && is_defined_at 1 (0 + at) symbol.kind) (map symbol_of (symbols_of made))
    (λ symbol h.
    let from = from_map symbol_of (symbols_of made) symbol h in
    ap (λ (s : Symbol). may_cut s && is_defined_at 1 (0 + at) s.kind) (sym from.2)
    ∙ at_false (may_cut (symbol_of from.0)) (is_defined_at 1 (0 + at) (symbol_of from.0).kind) (defined_elsewhere made at from.0 (in_text made from.0 is_made from.1) odd)) in
    let start : (at == 0) ≡ false = ne_eqb at 0 (λ e. odd (omega arith)) in
    ap (λ (b : Bool). b || (nat_lt at (text_size made) && list_any (λ (symbol : Symbol). may_cut symbol && is_defined_at 1 (0 + at) symbol.kind) (map symbol_of (symbols_of made)))) start
    ∙ at_false (nat_lt at (text_size made)) (list_any (λ (symbol : Symbol). may_cut symbol && is_defined_at 1 (0 + at) symbol.kind) (map symbol_of (symbols_of made))) none
  where
    at_false : (a b : Bool) → b ≡ false → (a && b) ≡ false
    at_false true b e = e
    at_false false b e = refl

below : (test : ℕ → Bool) (bound next : ℕ) → next ≡ suc bound → test next ≡ false → greatest test next ≡ greatest test bound
below test bound next e fails =
    ap (greatest test) e ∙ ap (λ (b : Bool). if b then suc bound else greatest test bound) (ap test (sym e) ∙ fails)

one_atom : (made : MadeObject) (at : ℕ) → IsMade made → at % 4 ≡ 0 → cut_of (made_object made) 1 (text_section made) (at + 4 - 1) ≡ cut_of (made_object made) 1 (text_section made) at
one_atom made at is_made even =
    below (is_cut (made_object made) 1 (text_section made)) (at + 2) (at + 4 - 1) (omega arith) (no_cut made (at + 4 - 1) is_made (λ e. omega arith))
    ∙ below (is_cut (made_object made) 1 (text_section made)) (at + 1) (at + 2) (omega arith) (no_cut made (at + 2) is_made (λ e. omega arith))
    ∙ below (is_cut (made_object made) 1 (text_section made)) at (at + 1) (omega arith) (no_cut made (at + 1) is_made (λ e. omega arith))

apart : (r s : ℕ) → (s ≡ r → ⊥) → overlap (field_of r) (field_of s) ≡ false
unfolding field_of
apart r s other = by (nat_lt (16 * (r / 3) + 4 * (r % 3)) (16 * (s / 3) + 4 * (s % 3) + 4)) (nat_lt (16 * (s / 3) + 4 * (s % 3)) (16 * (r / 3) + 4 * (r % 3) + 4)) refl refl
  where
    by : (a b : Bool) → nat_lt (16 * (r / 3) + 4 * (r % 3)) (16 * (s / 3) + 4 * (s % 3) + 4) ≡ a → nat_lt (16 * (s / 3) + 4 * (s % 3)) (16 * (r / 3) + 4 * (r % 3) + 4) ≡ b → (a && b) ≡ false
    by false b one two = refl
    by true false one two = refl
    by true true one two =
        let low = ltb-true (16 * (r / 3) + 4 * (r % 3)) (16 * (s / 3) + 4 * (s % 3) + 4) one in
        let high = ltb-true (16 * (s / 3) + 4 * (s % 3)) (16 * (r / 3) + 4 * (r % 3) + 4) two in
        absurd (other (omega arith))

alone : (made : MadeObject) (r : ℕ) → r < 3 * function_count made → overlaps_another (calls_of made) r (field_of r) ≡ false
alone made r low = none_passes (λ (other : ℕ). not (other == r) && option_map_or (overlap (field_of r)) (field_at (calls_of made) other) false) (range_with_len 0 (length (calls_of made)))
    (λ other h.
    let long = how_many made in
    let within = from_range 0 (length (calls_of made)) other h in
    let there : field_at (calls_of made) other ≡ Some (field_of other) = field_there made other (omega arith) in
    elim (cases_eq other r) [
      | inl e ↦ ap (λ (b : Bool). not b && option_map_or (overlap (field_of r)) (field_at (calls_of made) other) false) (eq-eqb other r e)
      | inr ne ↦
          ap (λ (b : Bool). not b && option_map_or (overlap (field_of r)) (field_at (calls_of made) other) false) (ne_eqb other r ne)
          ∙ ap (λ (o : Option FieldRange). option_map_or (overlap (field_of r)) o false) there
          ∙ apart r other ne
    ])

may_have : (made : MadeObject) → has_fields (text_section made) ≡ true
unfolding text_section
may_have made = refl

size_of : (made : MadeObject) → (text_section made).size ≡ text_size made
unfolding text_section
size_of made = refl

inside : (made : MadeObject) (r : ℕ) → IsMade made → r < 3 * function_count made → is_in_one_atom (made_object made) 1 (text_section made) (field_of r) ≡ true
unfolding field_of
inside made r is_made low =
    let whole = size_of made in
    and_from (nat_le (16 * (r / 3) + 4 * (r % 3) + 4) (text_section made).size) (cut_of (made_object made) 1 (text_section made) (16 * (r / 3) + 4 * (r % 3) + 4 - 1) == cut_of (made_object made) 1 (text_section made) (16 * (r / 3) + 4 * (r % 3)))
    (le-leb (16 * (r / 3) + 4 * (r % 3) + 4) (text_section made).size (omega arith))
    (eq-eqb (cut_of (made_object made) 1 (text_section made) (16 * (r / 3) + 4 * (r % 3) + 4 - 1)) (cut_of (made_object made) 1 (text_section made) (16 * (r / 3) + 4 * (r % 3))) (one_atom made (16 * (r / 3) + 4 * (r % 3)) is_made (omega arith)))

aligned : (r : ℕ) → ((field_of r).offset % 4 == 0) ≡ true
unfolding field_of
aligned r = eq-eqb ((16 * (r / 3) + 4 * (r % 3)) % 4) 0 (omega arith)

good_field : (made : MadeObject) (r : ℕ) → IsMade made → r < 3 * function_count made → is_bad_field (made_object made) 1 (text_section made) r Branch (field_of r) ≡ false
good_field made r is_made low = joined _ _ _ _ (inside made r is_made low) (aligned r) (ap (λ (l : List RawReloc). overlaps_another l r (field_of r)) (relocs_are made) ∙ alone made r low) (may_have made)
  where
    joined : (a b c d : Bool) → a ≡ true → b ≡ true → c ≡ false → d ≡ true → (not a || (true && not b) || c || not d) ≡ false
    joined a b c d p q r s = rw (p, q, r, s) refl

well_placed : (made : MadeObject) (r : ℕ) → IsMade made → r < 3 * function_count made → is_misplaced (made_object made) 1 (text_section made) r Branch ≡ false
well_placed made r is_made low =
    ap (λ (l : List RawReloc). option_map_or (is_bad_field (made_object made) 1 (text_section made) r Branch) (field_at l r) true) (relocs_are made)
    ∙ ap (λ (o : Option FieldRange). option_map_or (is_bad_field (made_object made) 1 (text_section made) r Branch) o true) (field_there made r low)
    ∙ good_field made r is_made low

place_kept : (made : MadeObject) (r : ℕ) → IsMade made → r < 3 * function_count made → place_fault (made_object made) 1 (text_section made) r ≡ None
unfolding place_fault
place_kept made r is_made low =
    ap (λ (l : List RawReloc). option_and_then (λ (kind : RefKind). when (is_misplaced (made_object made) 1 (text_section made) r kind) (row_start (text_section made).relocs r)) (kind_at l r)) (relocs_are made)
    ∙ ap (option_and_then (λ (kind : RefKind). when (is_misplaced (made_object made) 1 (text_section made) r kind) (row_start (text_section made).relocs r))) (kind_there made r low)
    ∙ ap (λ (b : Bool). when b (row_start (text_section made).relocs r)) (well_placed made r is_made low)

-- ---- Target

-- the symbol of a call
pub symbol_there : (made : MadeObject) (r : ℕ) → IsMade made → r < 3 * function_count made → LeadsTo (symbols_of made) (call_at made r).number (called made.count (first_function made + r / 3) (r % 3))
unfolding call_at relocation
symbol_there made r is_made low = calls_lead made r is_made low

pub symbol_read : (made : MadeObject) (number : ℕ) (symbol : MadeSymbol) → slice_get (symbols_of made) number ≡ Some symbol → slice_get (made_object made).symbols number ≡ Some (symbol_of symbol)
unfolding made_object
symbol_read made number symbol is = slice_get-map symbol_of (symbols_of made) number ∙ ap (option_map symbol_of) is

nameable : (sections : List Section) (symbol : MadeSymbol) → is_unnameable sections (symbol_of symbol) ≡ false
unfolding symbol_of
nameable sections symbol = by symbol.place
  where
    by : (place : Option ℕ) → (is_passed (kind_in place) || (false && is_in_dropped sections (kind_in place))) ≡ false
    by None = refl
    by (Some p) = refl

by_number : (made : MadeObject) (r : ℕ) (contents : List ℕ) (field : FieldRange) → is_bad_target (made_object made) contents field (call_at made r) ≡ option_map_or (is_unnameable (made_object made).sections) (slice_get (made_object made).symbols (call_at made r).number) true
unfolding call_at
by_number made r contents field = refl

good_target : (made : MadeObject) (r : ℕ) (contents : List ℕ) (field : FieldRange) → IsMade made → r < 3 * function_count made → is_bad_target (made_object made) contents field (call_at made r) ≡ false
good_target made r contents field is_made low =
    let there = symbol_there made r is_made low in
    by_number made r contents field
    ∙ ap (λ (o : Option Symbol). option_map_or (is_unnameable (made_object made).sections) o true) (symbol_read made (call_at made r).number there.symbol there.is)
    ∙ nameable (made_object made).sections there.symbol

target_kept : (made : MadeObject) (r : ℕ) → IsMade made → r < 3 * function_count made → target_fault (made_object made) 1 (text_section made) r ≡ None
unfolding target_fault
target_kept made r is_made low =
    ap (λ (l : List RawReloc). option_and_then (λ (field : FieldRange). option_and_then (λ (reloc : RawReloc). if option_map_or (λ first. is_subtractor first && is_bad_target (made_object made) (text_section made).bytes field first) (first_before l r) false then Some (r - 1) else when (is_bad_target (made_object made) (text_section made).bytes field reloc) r) (last_at l r)) (field_at l r)) (relocs_are made)
    ∙ ap (option_and_then (λ (field : FieldRange). option_and_then (λ (reloc : RawReloc). if option_map_or (λ first. is_subtractor first && is_bad_target (made_object made) (text_section made).bytes field first) (first_before (calls_of made) r) false then Some (r - 1) else when (is_bad_target (made_object made) (text_section made).bytes field reloc) r) (last_at (calls_of made) r))) (field_there made r low)
    ∙ ap (λ (o : Option RawReloc). option_and_then (λ (reloc : RawReloc). if option_map_or (λ first. is_subtractor first && is_bad_target (made_object made) (text_section made).bytes (field_of r) first) o false then Some (r - 1) else when (is_bad_target (made_object made) (text_section made).bytes (field_of r) reloc) r) (last_at (calls_of made) r)) (none_before made r low)
    ∙ ap (option_and_then (λ (reloc : RawReloc). when (is_bad_target (made_object made) (text_section made).bytes (field_of r) reloc) r)) (last_there made r low)
    ∙ ap (λ (b : Bool). when b r) (good_target made r (text_section made).bytes (field_of r) is_made low)

-- ---- no relocation is at fault

sections_one : (made : MadeObject) → (made_object made).sections ≡ text_section made ∷ []
unfolding made_object
sections_one made = refl

none_bad : (fails : RelocationRule) (made : MadeObject) (place : ℕ) → ((r : ℕ) → r < 3 * function_count made → fails (made_object made) 1 (text_section made) r ≡ None) → IsBadRelocation fails (made_object made) place → ⊥
none_bad fails made place kept bad = by bad.number bad.section (ap (λ (l : List Section). slice_get l bad.number) (sym (sections_one made)) ∙ bad.is) bad.at bad.within bad.relocation bad.bad
  where
    by : (number : ℕ) (section : Section) → slice_get (text_section made ∷ []) number ≡ Some section → (at : ℕ) → at < length section.relocs → (relocation : ℕ) → fails (made_object made) (number + 1) section at ≡ Some relocation → ⊥
    by zero section is at low relocation found =
        let same : text_section made ≡ section = cc in
        let long = how_many made in
        let whole : length section.relocs ≡ length (calls_of made) = ap (λ (s : Section). length s.relocs) (sym same) ∙ ap length (relocs_are made) in
        let none : fails (made_object made) 1 (text_section made) at ≡ None = kept at (omega arith) in
        let some : fails (made_object made) 1 (text_section made) at ≡ Some relocation = ap (λ (s : Section). fails (made_object made) 1 s at) same ∙ found in
        cc
    by (suc number) section is at low relocation found = cc

pub pairs_kept : (made : MadeObject) (place : ℕ) → IsBadRelocation pair_fault (made_object made) place → ⊥
pairs_kept made place = none_bad pair_fault made place (pair_kept made)

pub shapes_kept : (made : MadeObject) (place : ℕ) → IsBadRelocation shape_fault (made_object made) place → ⊥
shapes_kept made place = none_bad shape_fault made place (shape_kept made)

pub places_kept : (made : MadeObject) (place : ℕ) → IsMade made → IsBadRelocation place_fault (made_object made) place → ⊥
places_kept made place is_made = none_bad place_fault made place (λ r low. place_kept made r is_made low)

pub targets_kept : (made : MadeObject) (place : ℕ) → IsMade made → IsBadRelocation target_fault (made_object made) place → ⊥
targets_kept made place is_made = none_bad target_fault made place (λ r low. target_kept made r is_made low)
