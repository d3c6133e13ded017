-- The numbers of the symbols that are called.
use Rattle.std.proofs.Common.{◌≡◌, ℕ, ◌+◌, ◌*◌, ◌/◌, ◌%◌, ◌<◌, ◌≤◌, List, length, get_or, Bool, refl, sym, ap, ◌∙◌, arith}
use Rattle.std.specs.Prelude.{if◌then◌else◌}
use Rattle.std.proofs.lemmas.Bool.{eq-eqb, ne_eqb}
use Rattle.std.proofs.lemmas.List.{get_or-map, length-map}
use Rattle.std.proofs.lemmas.List.FromFn.{get_or-map-range_with_len, length-map-range_with_len}
use Rattle.std.proofs.lemmas.List.Sums.{prefix_len-le-length}
use Rattle.link_gen.specs.Calls.{called, drawn_functions, first_function, function_count}
use Rattle.link_gen.specs.Draws.{drawn}
use Rattle.link_gen.specs.Symbols.{number_of, number_of_function, number_of_weak, symbols_of}
use Rattle.link_gen.specs.Tables.{AreTables}
use Rattle.link_gen.specs.declared.calls.MadeObject.{MadeObject}
use Rattle.link_gen.specs.declared.names.SymbolName.{SymbolName}
use Rattle.link_gen.specs.declared.names.SymbolName.TheVariants.{Function, Weak}
use Rattle.link_gen.specs.declared.symbols.MadeSymbol.{MadeSymbol}
use Rattle.link_gen.specs.declared.tables.Tables.{Tables}

pub length_drawn : (made : MadeObject) → length (drawn_functions made) ≡ 2 * function_count made
unfolding drawn_functions
length_drawn made = length-map-range_with_len (drawn made.count) (2 * first_function made) (2 * function_count made)

pub length_numbers : (made : MadeObject) (tables : Tables) → AreTables made tables → length tables.numbers.items ≡ 2 * function_count made
length_numbers made tables are = ap length are.functions ∙ length-map (drawn_functions made) (number_of_function made) ∙ length_drawn made

pub length_weak_numbers : (made : MadeObject) (tables : Tables) → AreTables made tables → length tables.weak_numbers ≡ 4
length_weak_numbers made tables are = ap length are.weak_functions

pub number_within : (list : List MadeSymbol) (name : SymbolName) → number_of list name ≤ length list
unfolding number_of
number_within list name = prefix_len-le-length _ list

pub number_low : (made : MadeObject) (tables : Tables) (name : SymbolName) (x : ℕ) → AreTables made tables → x ≡ number_of (symbols_of made) name → x ≤ 1000
number_low made tables name x are is =
    let within = number_within (symbols_of made) name in
    let few = are.few_symbols in omega arith

-- a call of a weak function
weak_name : (count i call : ℕ) → call ≡ 2 → called count i call ≡ Weak (i % 4)
weak_name count i call e = ap (λ (b : Bool). if b then Weak (i % 4) else Function (drawn count (2 * i + call))) (eq-eqb call 2 e)

pub weak_called : (made : MadeObject) (tables : Tables) (r k : ℕ) → AreTables made tables → r % 3 ≡ 2 → k ≡ (first_function made + r / 3) % 4 → get_or tables.weak_numbers k 0 ≡ number_of (symbols_of made) (called made.count (first_function made + r / 3) (r % 3))
weak_called made tables r k are last is =
    let low : k < 4 = omega arith in
    ap (λ (xs : List ℕ). get_or xs k 0) are.weak_functions
    ∙ get_or-map-range_with_len (number_of_weak (symbols_of made)) 0 4 k k 0 low (omega arith)
    ∙ ap (number_of_weak (symbols_of made)) is
    ∙ ap (number_of (symbols_of made)) (sym (weak_name made.count (first_function made + r / 3) (r % 3) last))

-- a call of a function that is drawn
drawn_name : (count i call : ℕ) → (call ≡ 2 → ⊥) → called count i call ≡ Function (drawn count (2 * i + call))
drawn_name count i call e = ap (λ (b : Bool). if b then Weak (i % 4) else Function (drawn count (2 * i + call))) (ne_eqb call 2 e)

drawn_at : (made : MadeObject) (draw : ℕ) → draw < 2 * function_count made → get_or (drawn_functions made) draw 0 ≡ drawn made.count (2 * first_function made + draw)
unfolding drawn_functions
drawn_at made draw low = get_or-map-range_with_len (drawn made.count) (2 * first_function made) (2 * function_count made) draw (2 * first_function made + draw) 0 low refl

pub drawn_called : (made : MadeObject) (tables : Tables) (r draw : ℕ) → AreTables made tables → (r % 3 ≡ 2 → ⊥) → r < 3 * function_count made → draw ≡ 2 * (r / 3) + r % 3 → get_or tables.numbers.items draw 0 ≡ number_of (symbols_of made) (called made.count (first_function made + r / 3) (r % 3))
drawn_called made tables r draw are other within is =
    let low : draw < 2 * function_count made = omega arith in
    let long = length_drawn made in
    let place : 2 * first_function made + draw ≡ 2 * (first_function made + r / 3) + r % 3 = omega arith in
    ap (λ (xs : List ℕ). get_or xs draw 0) are.functions
    ∙ get_or-map (number_of_function made) (drawn_functions made) draw 0 0 (omega arith)
    ∙ ap (number_of_function made) (drawn_at made draw low)
    ∙ ap (λ (d : ℕ). number_of_function made (drawn made.count d)) place
    ∙ ap (number_of (symbols_of made)) (sym (drawn_name made.count (first_function made + r / 3) (r % 3) other))

pub ruleset calling = (length_numbers, length_weak_numbers, number_low, weak_called, drawn_called)
