-- How large the tables and the parts are.
use Rattle.std.proofs.Common.{◌≡◌, ℕ, suc, ◌+◌, ◌*◌, ◌≤◌, List, [], ◌∷◌, ◌++◌, length, map, filter, Bool, true, false, not, refl, ap, ◌∙◌, arith}
use Rattle.std.specs.Prelude.{◌==◌, if◌then◌else◌, min}
use Rattle.std.specs.List.{count_by, flat_map, range_with_len}
use Rattle.std.proofs.lemmas.List.{length-append, length-map}
use Rattle.std.proofs.lemmas.List.FromFn.{length-map-range_with_len, length-range_with_len}
use Rattle.std.proofs.lemmas.List.Sums.{count_by-le-length, length-filter}
use Rattle.link_gen.proofs.CallLemmas.{length_drawn}
use Rattle.link_gen.specs.Calls.{drawn_functions, function_count, has_weak, outside_functions, outside_weaks, own_weaks}
use Rattle.link_gen.specs.Generated.{AreFew, places_of}
use Rattle.link_gen.specs.Names.{name_of, string_of}
use Rattle.link_gen.specs.Numbers.{AreNumbered}
use Rattle.link_gen.specs.Symbols.{defined, defined_symbols, function_symbol, main_symbols, strings_of, symbols_of, undefined_function, undefined_symbols, undefined_weak, weak_symbols}
use Rattle.link_gen.specs.Tables.{AreTables}
use Rattle.link_gen.specs.declared.calls.MadeObject.{MadeObject}
use Rattle.link_gen.specs.declared.names.SymbolName.{SymbolName}
use Rattle.link_gen.specs.declared.names.SymbolName.TheVariants.{Function, Main, Weak}
use Rattle.link_gen.specs.declared.symbols.MadeSymbol.{MadeSymbol}
use Rattle.link_gen.specs.declared.tables.Tables.{Tables}

length_weaks : (place : ℕ) (ks : List ℕ) → length (weak_symbols place ks) ≡ length ks
length_weaks place [] = refl
length_weaks place (k ∷ ks) = ap suc (length_weaks (place + 4) ks)

few_own : (made : MadeObject) → length (own_weaks made) ≤ 4
unfolding own_weaks
few_own made =
    let e : length (filter (has_weak made) (range_with_len 0 4)) ≡ count_by (has_weak made) (range_with_len 0 4) = length-filter (has_weak made) (range_with_len 0 4) in
    let few : count_by (has_weak made) (range_with_len 0 4) ≤ 4 = count_by-le-length (has_weak made) (range_with_len 0 4) in omega arith

few_outside : (made : MadeObject) → length (outside_weaks made) ≤ 4
unfolding outside_weaks
few_outside made =
    let e = length-filter (λ (k : ℕ). not (has_weak made k)) (range_with_len 0 (min 4 (function_count made))) in
    let few = count_by-le-length (λ (k : ℕ). not (has_weak made k)) (range_with_len 0 (min 4 (function_count made))) in
    let long = length-range_with_len 0 (min 4 (function_count made)) in omega arith

few_main : (made : MadeObject) → length (main_symbols made) ≤ 1
few_main made = by (made.object == 0)
  where
    by : (b : Bool) → length (if b then defined Main 0 ∷ [] else []) ≤ 1
    by true = omega arith
    by false = omega arith

pub few_defined : (made : MadeObject) → length (defined_symbols made) ≤ 69
few_defined made =
    let one = length-map-range_with_len (function_symbol made) 0 (function_count made) in
    let two = few_main made in
    let three = length_weaks (16 * function_count made) (own_weaks made) in
    let four = few_own made in
    simp length-append (omega arith)

pub few_symbols : (made : MadeObject) (outside : ℕ) → length (outside_functions made) ≤ 128 → length (symbols_of made) ≤ 201
unfolding symbols_of
few_symbols made outside few =
    let one = few_defined made in
    let two = length-map (outside_functions made) undefined_function in
    let three = length-map (outside_weaks made) undefined_weak in
    let four = few_outside made in
    let sum = length-append (defined_symbols made) (undefined_symbols made) in
    let others = length-append (map undefined_function (outside_functions made)) (map undefined_weak (outside_weaks made)) in
    omega arith

string_few : (name : SymbolName) → length (string_of name) ≤ 9
unfolding name_of string_of
string_few (Function i) = omega arith
string_few Main = omega arith
string_few (Weak k) = omega arith

names_few : (list : List MadeSymbol) → length (flat_map (λ (symbol : MadeSymbol). string_of symbol.name) list) ≤ 9 * length list
names_few [] = omega arith
names_few (symbol ∷ list) =
    let here = string_few symbol.name in
    let rest = names_few list in
    let sum = length-append (string_of symbol.name) (flat_map (λ (s : MadeSymbol). string_of s.name) list) in
    omega arith

pub strings_few : (list : List MadeSymbol) → length (strings_of list) ≤ 1 + 9 * length list
unfolding strings_of
strings_few list = let few = names_few list in omega arith

-- ---- the tables

pub numbered : (made : MadeObject) (outside : List ℕ) (defined : ℕ) (list : List MadeSymbol) → outside ≡ outside_functions made → list ≡ defined_symbols made → defined ≡ length list → AreNumbered made outside defined
numbered made outside defined list are is long = record { are = are; before = long ∙ ap length is }

pub all_symbols : (made : MadeObject) (outside weaks : List ℕ) (old list : List MadeSymbol) → old ≡ defined_symbols made → outside ≡ outside_functions made → weaks ≡ outside_weaks made → list ≡ old ++ (map undefined_function outside ++ map undefined_weak weaks) → list ≡ symbols_of made
unfolding symbols_of
all_symbols made outside weaks old list is are also e =
    e ∙ ap (λ (z : List MadeSymbol). z ++ (map undefined_function outside ++ map undefined_weak weaks)) is
    ∙ ap (λ (z : List ℕ). defined_symbols made ++ (map undefined_function z ++ map undefined_weak weaks)) are
    ∙ ap (λ (z : List ℕ). defined_symbols made ++ (map undefined_function (outside_functions made) ++ map undefined_weak z)) also

pub few_called : (made : MadeObject) (outside drawn : List ℕ) (defined : ℕ) (list : List MadeSymbol) → drawn ≡ drawn_functions made → length outside ≤ length drawn → list ≡ defined_symbols made → defined ≡ length list → defined + length outside ≤ 1000
few_called made outside drawn defined list are few is long =
    let one = few_defined made in
    let two = length_drawn made in
    let three = ap length are in
    let four = ap length is in omega arith

pub few_in_all : (made : MadeObject) (outside drawn : List ℕ) → drawn ≡ drawn_functions made → length outside ≤ length drawn → outside ≡ outside_functions made → length (symbols_of made) ≤ 201
few_in_all made outside drawn are few is =
    let two = length_drawn made in
    let three = ap length are in
    let four = ap length is in
    few_symbols made 0 (omega arith)

pub ruleset tables = (numbered, all_symbols, few_called, few_in_all)

-- ---- the places

pub places_are : (made : MadeObject) (tables : Tables) (strings : List ℕ) (text relocations symbols size : ℕ) → AreTables made tables → strings ≡ strings_of (symbols_of made) → text ≡ 16 * function_count made + 4 * tables.weaks → relocations ≡ 3 * function_count made → symbols ≡ length tables.symbols.items → size ≡ length strings → record { text_size = text; relocations = relocations; symbols = symbols; strings_size = size } ≡ places_of made
places_are made tables strings text relocations symbols size are is one two three four =
    let text_is : text ≡ 16 * function_count made + 4 * length (own_weaks made) = one ∙ ap (λ (n : ℕ). 16 * function_count made + 4 * n) are.weak_count in
    let symbols_is : symbols ≡ length (symbols_of made) = three ∙ ap length are.symbols_are in
    let size_is : size ≡ length (strings_of (symbols_of made)) = four ∙ ap length is in
    cc

pub places_few_of : (made : MadeObject) → length (symbols_of made) ≤ 201 → AreFew (places_of made)
places_few_of made few =
    let own = few_own made in
    let strings = strings_few (symbols_of made) in
    record {
      text = omega arith;
      relocations = omega arith;
      symbols = omega arith;
      strings = omega arith;
    }

pub places_few : (made : MadeObject) (tables : Tables) → AreTables made tables → AreFew (places_of made)
places_few made tables are = places_few_of made are.few_symbols

pub strings_low : (made : MadeObject) (tables : Tables) (strings : List ℕ) → AreTables made tables → strings ≡ strings_of (symbols_of made) → length strings ≤ 10000
strings_low made tables strings are is =
    let few = are.few_symbols in
    let size = strings_few (symbols_of made) in
    let e = ap length is in omega arith

pub ruleset places = (places_are, places_few, strings_low)
