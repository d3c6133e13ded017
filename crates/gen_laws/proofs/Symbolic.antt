-- Where the definitions of an object stand in its section.
use Rattle.std.proofs.Common.{◌≡◌, ℕ, zero, suc, ◌+◌, ◌*◌, ◌%◌, ◌<◌, ◌≤◌, List, [], ◌∷◌, ◌++◌, length, map, slice_get, Some, None, Bool, true, false, inl, inr, sym, ap, arith}
use Rattle.std.specs.Prelude.{◌==◌, if◌then◌else◌}
use Rattle.std.specs.List.{range_with_len}
use Rattle.list_lemmas.proofs.Members.{In, from_map, in_either}
use Rattle.link_gen.specs.Calls.{IsMade, function_count, outside_functions, outside_weaks, own_weaks}
use Rattle.link_gen.specs.Parts.{text_size}
use Rattle.link_gen.specs.Symbols.{defined, defined_symbols, function_symbol, main_symbols, symbols_of, undefined_function, undefined_symbols, undefined_weak, weak_symbols}
use Rattle.link_gen.specs.declared.calls.MadeObject.{MadeObject}
use Rattle.link_gen.specs.declared.names.SymbolName.TheVariants.{Main}
use Rattle.link_gen.specs.declared.symbols.MadeSymbol.{MadeSymbol}

-- ---- lists

pub from_range : (a n i : ℕ) → In i (range_with_len a n) → (a ≤ i) × (i < a + n)
from_range a zero i h = absurd h
from_range a (suc n) i (inl e) = (omega arith, omega arith)
from_range a (suc n) i (inr h) = let rest = from_range (a + 1) n i h in (omega arith, omega arith)

pub in_from_slice_get : {X : Type 0} (xs : List X) (k : ℕ) (x : X) → slice_get xs k ≡ Some x → In x xs
in_from_slice_get [] k x is = cc
in_from_slice_get (y ∷ ys) zero x is = inl (cc)
in_from_slice_get (y ∷ ys) (suc k) x is = inr (in_from_slice_get ys k x is)

-- ---- a definition begins an instruction of the section

pub record IsInText (made : MadeObject) (symbol : MadeSymbol) : Type 0 where
  pub inside : (place : ℕ) → symbol.place ≡ Some place → place < text_size made
  pub aligned : (place : ℕ) → symbol.place ≡ Some place → place % 4 ≡ 0

at_place : (made : MadeObject) (symbol : MadeSymbol) (at : ℕ) → symbol.place ≡ Some at → at < text_size made → at % 4 ≡ 0 → IsInText made symbol
at_place made symbol at is low even = record {
  inside = λ place e. (let same : at ≡ place = cc in omega arith);
  aligned = λ place e. (let same : at ≡ place = cc in omega arith);
}

undefined_is : (made : MadeObject) (symbol : MadeSymbol) → symbol.place ≡ None → IsInText made symbol
undefined_is made symbol none = record {
  inside = λ place e. cc;
  aligned = λ place e. cc;
}

some_functions : (made : MadeObject) → IsMade made → 0 < function_count made
some_functions made is = let low = is.object in let some = is.some in omega arith

function_is : (made : MadeObject) (symbol : MadeSymbol) → In symbol (map (function_symbol made) (range_with_len 0 (function_count made))) → IsInText made symbol
function_is made symbol h =
    let from = from_map (function_symbol made) (range_with_len 0 (function_count made)) symbol h in
    let within = from_range 0 (function_count made) from.0 from.1 in
    at_place made symbol (16 * from.0) (ap (λ (s : MadeSymbol). s.place) (sym from.2)) (omega arith) (omega arith)

main_is : (made : MadeObject) (symbol : MadeSymbol) → IsMade made → In symbol (main_symbols made) → IsInText made symbol
main_is made symbol is h = by (made.object == 0) h
  where
    by : (b : Bool) → In symbol (if b then defined Main 0 ∷ [] else []) → IsInText made symbol
    by true (inl e) = let some = some_functions made is in at_place made symbol 0 (ap (λ (s : MadeSymbol). s.place) (sym e)) (omega arith) (omega arith)
    by true (inr none) = absurd none
    by false none = absurd none

weak_is : (made : MadeObject) (symbol : MadeSymbol) (place : ℕ) (ks : List ℕ) → place % 4 ≡ 0 → place + 4 * length ks ≤ text_size made → In symbol (weak_symbols place ks) → IsInText made symbol
weak_is made symbol place [] even low h = absurd h
weak_is made symbol place (k ∷ ks) even low (inl e) = at_place made symbol place (ap (λ (s : MadeSymbol). s.place) (sym e)) (omega arith) even
weak_is made symbol place (k ∷ ks) even low (inr h) = weak_is made symbol (place + 4) ks (omega arith) (omega arith) h

outside_is : (made : MadeObject) (symbol : MadeSymbol) → In symbol (map undefined_function (outside_functions made)) → IsInText made symbol
outside_is made symbol h =
    let from = from_map undefined_function (outside_functions made) symbol h in
    undefined_is made symbol (ap (λ (s : MadeSymbol). s.place) (sym from.2))

outside_weak_is : (made : MadeObject) (symbol : MadeSymbol) → In symbol (map undefined_weak (outside_weaks made)) → IsInText made symbol
outside_weak_is made symbol h =
    let from = from_map undefined_weak (outside_weaks made) symbol h in
    undefined_is made symbol (ap (λ (s : MadeSymbol). s.place) (sym from.2))

defined_is : (made : MadeObject) (symbol : MadeSymbol) → IsMade made → In symbol (defined_symbols made) → IsInText made symbol
defined_is made symbol is h =
    elim (in_either (map (function_symbol made) (range_with_len 0 (function_count made))) (main_symbols made ++ weak_symbols (16 * function_count made) (own_weaks made)) symbol h) [
      | inl one ↦ function_is made symbol one
      | inr others ↦
          elim (in_either (main_symbols made) (weak_symbols (16 * function_count made) (own_weaks made)) symbol others) [
            | inl main ↦ main_is made symbol is main
            | inr weak ↦ weak_is made symbol (16 * function_count made) (own_weaks made) (omega arith) (omega arith) weak
          ]
    ]

undefined_one_is : (made : MadeObject) (symbol : MadeSymbol) → In symbol (undefined_symbols made) → IsInText made symbol
undefined_one_is made symbol h =
    elim (in_either (map undefined_function (outside_functions made)) (map undefined_weak (outside_weaks made)) symbol h) [
      | inl one ↦ outside_is made symbol one
      | inr weak ↦ outside_weak_is made symbol weak
    ]

pub in_text : (made : MadeObject) (symbol : MadeSymbol) → IsMade made → In symbol (symbols_of made) → IsInText made symbol
unfolding symbols_of
in_text made symbol is h =
    elim (in_either (defined_symbols made) (undefined_symbols made) symbol h) [
      | inl one ↦ defined_is made symbol is one
      | inr other ↦ undefined_one_is made symbol other
    ]
