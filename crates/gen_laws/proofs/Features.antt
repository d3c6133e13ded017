-- An object that was made has no feature that the linker doesn't have.
use Rattle.std.proofs.Common.{◌≡◌, ℕ, ◌*◌, ◌<◌, List, [], ◌∷◌, length, map, slice_get, get_or, Option, Some, None, Bool, true, false, refl, sym, ap, ◌∙◌, arith}
use Rattle.std.specs.Prelude.{◌&&◌, ◌||◌, not, if◌then◌else◌}
use Rattle.std.specs.List.{list_any, range_with_len}
use Rattle.std.specs.Option.{option_map_or}
use Rattle.std.proofs.lemmas.Option.{slice_get-get_or}
use Rattle.list_lemmas.proofs.Members.{from_map}
use Rattle.mo_format.specs.declared.symbol.SymtabCommand.{SymtabCommand}
use Rattle.mo_types.specs.RelocationRules.{is_absolute}
use Rattle.mo_types.specs.Refs.{has_absolute, has_authenticated, names_absolute, row_names_absolute}
use Rattle.mo_types.specs.Rows.{first_before, is_authenticated, last_at}
use Rattle.mo_types.specs.Whole.{is_dropped}
use Rattle.mo_types.specs.declared.cause.Feature.{Feature}
use Rattle.mo_types.specs.declared.cause.Feature.TheVariants as feature
use Rattle.mo_types.specs.declared.object.Object.{Object}
use Rattle.mo_types.specs.declared.object.RawReloc.{RawReloc}
use Rattle.mo_types.specs.declared.object.Section.{Section}
use Rattle.mo_types.specs.declared.object.Symbol.{Symbol}
use Rattle.mo_obj.specs.Facts.{feature_in}
use Rattle.mo_obj.specs.Features.{first_feature, is_external_absolute, is_overaligned_common, or_else}
use Rattle.mo_obj.specs.Parts.{foreign_in}
use Rattle.mo_obj.specs.Relocations.{reloc_feature}
use Rattle.mo_obj.specs.Symbols.{any_foreign, is_foreign, is_foreign_at}
use Rattle.link_gen.specs.Calls.{IsMade, function_count}
use Rattle.link_gen.specs.Generated.{places_of, symtab}
use Rattle.link_gen.specs.Symbols.{entry_of, entry_with, symbols_of}
use Rattle.link_gen.specs.declared.calls.MadeObject.{MadeObject}
use Rattle.link_gen.specs.declared.names.SymbolName.{SymbolName}
use Rattle.link_gen.specs.declared.names.SymbolName.TheVariants.{Function, Main, Weak}
use Rattle.link_gen.specs.declared.symbols.MadeSymbol.{MadeSymbol}
use Rattle.gen_laws.specs.Object.{kind_of as kind_in}
use Rattle.gen_laws.specs.Object.{call_at, made_object, symbol_of, text_section}
use Rattle.gen_laws.proofs.Calls.{calls_of, how_many, last_there, none_before, none_passes, relocs_are, symbol_read, symbol_there}
use Rattle.gen_laws.proofs.Reading.{entry_is, object_is, symtab_is}
use Rattle.gen_laws.proofs.Spelled.{Stands, name_place}
use Rattle.gen_laws.proofs.Symbolic.{from_range}

-- ---- symbols

none_among : (test : Symbol → Bool) (made : MadeObject) → ((symbol : MadeSymbol) → test (symbol_of symbol) ≡ false) → list_any test (map symbol_of (symbols_of made)) ≡ false
none_among test made fails = none_passes test (map symbol_of (symbols_of made))
    (λ symbol h. let from = from_map symbol_of (symbols_of made) symbol h in ap test (sym from.2) ∙ fails from.0)

not_common : (symbol : MadeSymbol) → is_overaligned_common (symbol_of symbol).kind ≡ false
unfolding symbol_of
not_common symbol = by symbol.place
  where
    by : (place : Option ℕ) → is_overaligned_common (kind_in place) ≡ false
    by None = refl
    by (Some p) = refl

not_absolute : (symbol : MadeSymbol) → is_absolute (symbol_of symbol).kind ≡ false
unfolding symbol_of
not_absolute symbol = by symbol.place
  where
    by : (place : Option ℕ) → is_absolute (kind_in place) ≡ false
    by None = refl
    by (Some p) = refl

not_external_absolute : (symbol : MadeSymbol) → is_external_absolute (symbol_of symbol) ≡ false
unfolding symbol_of
not_external_absolute symbol = by symbol.place
  where
    by : (place : Option ℕ) → is_absolute (kind_in place) ≡ false
    by None = refl
    by (Some p) = refl

not_foreign : (at : ℕ) (name : SymbolName) (place : Option ℕ) → is_foreign (entry_with at name place) ≡ false
not_foreign at name None = refl
not_foreign at (Function i) (Some p) = refl
not_foreign at Main (Some p) = refl
not_foreign at (Weak k) (Some p) = refl

entry_not_foreign : (made : MadeObject) (bytes : List ℕ) (i : ℕ) → Stands made bytes → i < length (symbols_of made) → is_foreign_at bytes (symtab (places_of made)) i ≡ false
unfolding is_foreign_at entry_of
entry_not_foreign made bytes i stands low =
    let symbol : MadeSymbol = get_or (symbols_of made) i (record { name = Main; place = None }) in
    ap is_foreign (entry_is made bytes stands i symbol (slice_get-get_or (symbols_of made) i (record { name = Main; place = None }) low))
    ∙ not_foreign (name_place 1 (symbols_of made) i) symbol.name symbol.place

none_foreign : (made : MadeObject) (bytes : List ℕ) → Stands made bytes → foreign_in bytes ≡ false
unfolding foreign_in any_foreign
none_foreign made bytes stands =
    ap (λ (t : SymtabCommand). list_any (is_foreign_at bytes t) (range_with_len 0 t.nsyms)) (symtab_is made bytes stands)
    ∙ none_passes (is_foreign_at bytes (symtab (places_of made))) (range_with_len 0 (length (symbols_of made)))
    (λ i h. let within = from_range 0 (length (symbols_of made)) i h in entry_not_foreign made bytes i stands (omega arith))

-- ---- relocations

names_by_number : (made : MadeObject) (r : ℕ) → names_absolute (made_object made).symbols (call_at made r) ≡ option_map_or (λ symbol. is_absolute symbol.kind) (slice_get (made_object made).symbols (call_at made r).number) false
unfolding call_at
names_by_number made r = refl

names_none : (made : MadeObject) (r : ℕ) → IsMade made → r < 3 * function_count made → names_absolute (made_object made).symbols (call_at made r) ≡ false
names_none made r is_made low =
    let there = symbol_there made r is_made low in
    names_by_number made r
    ∙ ap (λ (o : Option Symbol). option_map_or (λ symbol. is_absolute symbol.kind) o false) (symbol_read made (call_at made r).number there.symbol there.is)
    ∙ not_absolute there.symbol

abbrev names_at : MadeObject → ℕ → Bool
names_at made r = option_map_or (row_names_absolute (made_object made).symbols (first_before (calls_of made) r)) (last_at (calls_of made) r) false

none_at : (made : MadeObject) (r : ℕ) → IsMade made → r < 3 * function_count made → names_at made r ≡ false
none_at made r is_made low =
    ap (λ (o : Option RawReloc). option_map_or (row_names_absolute (made_object made).symbols o) (last_at (calls_of made) r) false) (none_before made r low)
    ∙ ap (λ (o : Option RawReloc). option_map_or (row_names_absolute (made_object made).symbols None) o false) (last_there made r low)
    ∙ names_none made r is_made low

one_linked : (test : Section → Bool) (made : MadeObject) → test (text_section made) ≡ false → list_any (λ section. not (is_dropped section) && test section) (text_section made ∷ []) ≡ false
one_linked test made fails = by (not (is_dropped (text_section made)))
  where
    by : (b : Bool) → (b && test (text_section made) || false) ≡ false
    by true = ap (λ (c : Bool). c || false) fails
    by false = refl

sections_one : (made : MadeObject) → (made_object made).sections ≡ text_section made ∷ []
unfolding made_object
sections_one made = refl

none_absolute : (made : MadeObject) → IsMade made → has_absolute (made_object made) ≡ false
unfolding has_absolute
none_absolute made is_made =
    ap (list_any (λ section. not (is_dropped section) && list_any (λ at. option_map_or (row_names_absolute (made_object made).symbols (first_before section.relocs at)) (last_at section.relocs at) false) (range_with_len 0 (length section.relocs)))) (sections_one made)
    ∙ one_linked (λ section. list_any (λ at. option_map_or (row_names_absolute (made_object made).symbols (first_before section.relocs at)) (last_at section.relocs at) false) (range_with_len 0 (length section.relocs))) made
    (ap (λ (l : List RawReloc). list_any (λ at. option_map_or (row_names_absolute (made_object made).symbols (first_before l at)) (last_at l at) false) (range_with_len 0 (length l))) (relocs_are made)
    ∙ none_passes (names_at made) (range_with_len 0 (length (calls_of made)))
    (λ r h. let within = from_range 0 (length (calls_of made)) r h in let long = how_many made in none_at made r is_made (omega arith)))

not_authenticated : (made : MadeObject) (r : ℕ) → is_authenticated (call_at made r) ≡ false
unfolding call_at
not_authenticated made r = refl

none_authenticated : (made : MadeObject) → has_authenticated (made_object made) ≡ false
unfolding has_authenticated
none_authenticated made =
    ap (list_any (λ section. not (is_dropped section) && list_any is_authenticated section.relocs)) (sections_one made)
    ∙ one_linked (λ section. list_any is_authenticated section.relocs) made
    (ap (list_any is_authenticated) (relocs_are made)
    ∙ none_passes is_authenticated (calls_of made)
    (λ reloc h. let from = from_map (call_at made) (range_with_len 0 (3 * function_count made)) reloc h in ap is_authenticated (sym from.2) ∙ not_authenticated made from.0))

no_reloc_feature : (made : MadeObject) → IsMade made → reloc_feature (made_object made) ≡ None
no_reloc_feature made is_made =
    ap (λ (b : Bool). let found : Option Feature = if b then Some feature.Absolute else if has_authenticated (made_object made) then Some feature.PointerAuth else None in found) (none_absolute made is_made)
    ∙ ap (λ (b : Bool). let found : Option Feature = if b then Some feature.PointerAuth else None in found) (none_authenticated made)

-- ---- all of them

of_symbols : (made : MadeObject) → first_feature (made_object made) false None ≡ or_else (list_any (λ symbol. is_overaligned_common symbol.kind) (map symbol_of (symbols_of made))) feature.Alignment (or_else (list_any is_external_absolute (map symbol_of (symbols_of made))) feature.Absolute None)
unfolding first_feature made_object text_section is_dropped
of_symbols made = refl

none_left : (made : MadeObject) → first_feature (made_object made) false None ≡ None
none_left made =
    of_symbols made
    ∙ ap (λ (b : Bool). or_else b feature.Alignment (or_else (list_any is_external_absolute (map symbol_of (symbols_of made))) feature.Absolute None)) (none_among (λ symbol. is_overaligned_common symbol.kind) made not_common)
    ∙ ap (λ (b : Bool). or_else b feature.Absolute None) (none_among is_external_absolute made not_external_absolute)

pub no_feature : (made : MadeObject) (bytes : List ℕ) → IsMade made → Stands made bytes → feature_in bytes ≡ None
no_feature made bytes is_made stands =
    ap (λ (o : Object). first_feature o (foreign_in bytes) (reloc_feature o)) (object_is made bytes stands)
    ∙ ap (λ (b : Bool). first_feature (made_object made) b (reloc_feature (made_object made))) (none_foreign made bytes stands)
    ∙ ap (first_feature (made_object made) false) (no_reloc_feature made is_made)
    ∙ none_left made
