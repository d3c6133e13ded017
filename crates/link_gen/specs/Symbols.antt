-- The symbols of an object (`nlist.h`: nlist_64).
use Rattle.std.specs.Prelude.{ℕ, ◌+◌, ◌*◌, ◌==◌, List, [], ◌∷◌, ◌++◌, length, map, Option, Some, None, if◌then◌else◌}
use Rattle.std.specs.List.{flat_map, position_or_len, range_with_len}
use Rattle.mo_format.specs.declared.nlist.TheConstants.{N_EXT, N_SECT, N_WEAK_DEF}
use Rattle.mo_format.specs.declared.symbol.Nlist.{Nlist}
use Rattle.link_gen.specs.Calls.{first_function, function_count, outside_functions, outside_weaks, own_weaks}
use Rattle.link_gen.specs.Names.{is_same, string_of}
use Rattle.link_gen.specs.declared.calls.MadeObject.{MadeObject}
use Rattle.link_gen.specs.declared.names.SymbolName.{SymbolName}
use Rattle.link_gen.specs.declared.names.SymbolName.TheVariants.{Function, Main, Weak}
use Rattle.link_gen.specs.declared.symbols.MadeSymbol.{MadeSymbol}

abbrev pub defined : SymbolName → ℕ → MadeSymbol
defined name place = record { name = name; place = Some place }

abbrev pub undefined : SymbolName → MadeSymbol
undefined name = record { name = name; place = None }

abbrev pub undefined_function : ℕ → MadeSymbol
undefined_function i = undefined (Function i)

abbrev pub undefined_weak : ℕ → MadeSymbol
undefined_weak k = undefined (Weak k)

-- the functions, of 16 bytes each
abbrev pub function_symbol : MadeObject → ℕ → MadeSymbol
function_symbol made k = defined (Function (first_function made + k)) (16 * k)

-- the weak functions from a place on, of 4 bytes each
abbrev pub weak_symbols : ℕ → List ℕ → List MadeSymbol
weak_symbols place [] = []
weak_symbols place (k ∷ ks) = defined (Weak k) place ∷ weak_symbols (place + 4) ks

-- the first object's first function is the program's entry too
abbrev pub main_symbols : MadeObject → List MadeSymbol
main_symbols made = if made.object == 0 then defined Main 0 ∷ [] else []

abbrev pub defined_symbols : MadeObject → List MadeSymbol
defined_symbols made =
    map (function_symbol made) (range_with_len 0 (function_count made))
    ++ (main_symbols made ++ weak_symbols (16 * function_count made) (own_weaks made))

-- the names that other objects have, in the order of their bytes
abbrev pub undefined_symbols : MadeObject → List MadeSymbol
undefined_symbols made =
    map undefined_function (outside_functions made) ++ map undefined_weak (outside_weaks made)

unfoldable pub symbols_of : MadeObject → List MadeSymbol
symbols_of made = defined_symbols made ++ undefined_symbols made

-- the number of the symbol of a name
unfoldable pub number_of : List MadeSymbol → SymbolName → ℕ
number_of symbols name = position_or_len (λ symbol. is_same symbol.name name) symbols

-- of a function, among the symbols of an object
abbrev pub number_of_function : MadeObject → ℕ → ℕ
number_of_function made i = number_of (symbols_of made) (Function i)

-- of a weak function
abbrev pub number_of_weak : List MadeSymbol → ℕ → ℕ
number_of_weak symbols k = number_of symbols (Weak k)

abbrev pub weak_bit : SymbolName → ℕ
weak_bit (Weak k) = N_WEAK_DEF
weak_bit _ = 0

-- the entry of a symbol whose name stands at a place of the strings; the section has the number 1
abbrev pub entry_with : ℕ → SymbolName → Option ℕ → Nlist
entry_with at name (Some place) = record { n_strx = at; n_type = N_SECT + N_EXT; n_sect = 1; n_desc = weak_bit name; n_value = place }
entry_with at name None = record { n_strx = at; n_type = N_EXT; n_sect = 0; n_desc = 0; n_value = 0 }

unfoldable pub entry_of : ℕ → MadeSymbol → Nlist
entry_of at symbol = entry_with at symbol.name symbol.place

-- the entries of symbols whose names stand one after the other, the first one at a place
abbrev pub entries_from : ℕ → List MadeSymbol → List Nlist
entries_from at [] = []
entries_from at (symbol ∷ symbols) = entry_of at symbol ∷ entries_from (at + length (string_of symbol.name)) symbols

-- the strings are a NUL and the names of all symbols
unfoldable pub strings_of : List MadeSymbol → List ℕ
strings_of symbols = 0 ∷ flat_map (λ symbol. string_of symbol.name) symbols
