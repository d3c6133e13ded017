-- Which object of an input defines a name.
use Rattle.std.proofs.Common.{◌≡◌, ℕ, ◌+◌, ◌*◌, ◌/◌, ◌%◌, ◌<◌, ◌≤◌, List, [], ◌∷◌, ◌++◌, map, Some, None, Bool, true, false, inl, inr, refl, ap, subst, arith}
use Rattle.std.specs.Prelude.{◌==◌, ◌&&◌, ◌||◌, nat_le, if◌then◌else◌}
use Rattle.std.specs.List.{range_with_len}
use Rattle.std.proofs.lemmas.Bool.{cases_lt, eq-eqb, le-leb}
use Rattle.list_lemmas.proofs.Members.{Contains_from_in, In, from_map, in_either, in_filter, in_from_Contains, in_left, in_map, in_right}
use Rattle.link_gen.proofs.OutsideLemmas.{drawn_below, in_range}
use Rattle.link_gen.specs.Calls.{IsMade, called, first_function, function_count, has_weak, object_count, outside_functions, outside_weaks, own_weaks}
use Rattle.link_gen.specs.Draws.{drawn}
use Rattle.link_gen.specs.Symbols.{defined, defined_symbols, function_symbol, main_symbols, symbols_of, undefined_function, undefined_symbols, undefined_weak, weak_symbols}
use Rattle.link_gen.specs.declared.calls.MadeObject.{MadeObject}
use Rattle.link_gen.specs.declared.names.SymbolName.{SymbolName}
use Rattle.link_gen.specs.declared.names.SymbolName.TheVariants.{Function, Main, Weak}
use Rattle.link_gen.specs.declared.symbols.MadeSymbol.{MadeSymbol}
use Rattle.gen_laws.specs.Input.{Defines, IsDefinedIn}
use Rattle.gen_laws.proofs.Symbolic.{from_range}

-- ---- each name that is called

is_defined : (made : MadeObject) (name : SymbolName) (place : ℕ) → IsMade made → In (defined name place) (defined_symbols made) → IsDefinedIn made.count name
unfolding symbols_of
is_defined made name place is there = record {
  made = made;
  of_input = refl;
  is_made = is;
  place = place;
  defines = Contains_from_in (defined_symbols made ++ undefined_symbols made) (defined name place) (in_left (defined_symbols made) (undefined_symbols made) (defined name place) there);
}

object_of_input : ℕ → ℕ → MadeObject
object_of_input count object = record { count = count; object = object }

function_there : (count i : ℕ) → 0 < count → count ≤ 20000 → i < count → IsDefinedIn count (Function i)
unfolding object_of_input
function_there count i some few low =
    let is : IsMade (object_of_input count (i / 64)) = record { some = some; few = few; object = omega arith } in
    let number : 64 * (i / 64) + i % 64 ≡ i = omega arith in
    let there : In (defined (Function (64 * (i / 64) + i % 64)) (16 * (i % 64))) (defined_symbols (object_of_input count (i / 64))) =
    in_left (map (function_symbol (object_of_input count (i / 64))) (range_with_len 0 (function_count (object_of_input count (i / 64)))))
    (main_symbols (object_of_input count (i / 64)) ++ weak_symbols (16 * function_count (object_of_input count (i / 64))) (own_weaks (object_of_input count (i / 64))))
    (function_symbol (object_of_input count (i / 64)) (i % 64))
    (in_map (function_symbol (object_of_input count (i / 64))) (range_with_len 0 (function_count (object_of_input count (i / 64)))) (i % 64) (in_range 0 (function_count (object_of_input count (i / 64))) (i % 64) (omega arith) (omega arith))) in
    subst (λ (n : ℕ). IsDefinedIn count (Function n)) number (is_defined (object_of_input count (i / 64)) (Function (64 * (i / 64) + i % 64)) (16 * (i % 64)) is there)

weak_among : (place k : ℕ) (ks : List ℕ) → In k ks → (at : ℕ) × In (defined (Weak k) at) (weak_symbols place ks)
weak_among place k [] h = absurd h
weak_among place k (j ∷ ks) (inl e) = (place, inl (ap (λ (n : ℕ). defined (Weak n) place) e))
weak_among place k (j ∷ ks) (inr h) = let rest : (at : ℕ) × In (defined (Weak k) at) (weak_symbols (place + 4) ks) = weak_among (place + 4) k ks h in (rest.0, inr rest.1)

weak_in : (made : MadeObject) (k : ℕ) → IsMade made → k < 4 → has_weak made k ≡ true → IsDefinedIn made.count (Weak k)
unfolding own_weaks
weak_in made k is low has =
    let among = weak_among (16 * function_count made) k (own_weaks made) (in_filter (has_weak made) (range_with_len 0 4) k (in_range 0 4 k (omega arith) (omega arith)) has) in
    is_defined made (Weak k) among.0 is
    (in_right (map (function_symbol made) (range_with_len 0 (function_count made))) (main_symbols made ++ weak_symbols (16 * function_count made) (own_weaks made)) (defined (Weak k) among.0)
    (in_right (main_symbols made) (weak_symbols (16 * function_count made) (own_weaks made)) (defined (Weak k) among.0) among.1))

weak_there : (count k : ℕ) → 0 < count → count ≤ 20000 → k < 4 → IsDefinedIn count (Weak k)
weak_there count k some few low =
    elim (cases_lt k (object_count count)) [
      | inl own ↦
          weak_in (record { count = count; object = k }) k (record { some = some; few = few; object = own }) low
          (ap (λ (b : Bool). b || (k == 0 && nat_le (object_count count) k)) (eq-eqb k (k % 4) (omega arith)))
      | inr beyond ↦
          weak_in (record { count = count; object = 0 }) k (record { some = some; few = few; object = omega arith }) low
          (last (k == 0) (nat_le (object_count count) k) (le-leb (object_count count) k beyond))
    ]
  where
    last : (a b : Bool) → b ≡ true → (a || (true && b)) ≡ true
    last true b e = refl
    last false b e = e

pub calls_met : (made : MadeObject) (i call : ℕ) → IsMade made → IsDefinedIn made.count (called made.count i call)
calls_met made i call is = by (call == 2)
  where
    by : (b : Bool) → IsDefinedIn made.count (if b then Weak (i % 4) else Function (drawn made.count (2 * i + call)))
    by true = weak_there made.count (i % 4) is.some is.few (omega arith)
    by false = function_there made.count (drawn made.count (2 * i + call)) is.some is.few (drawn_below made.count (2 * i + call) is.some)

-- ---- where a function is defined

not_undefined : (symbol : MadeSymbol) (name : SymbolName) (place : ℕ) → symbol.place ≡ None → symbol ≡ defined name place → ⊥
not_undefined symbol name place none is =
    let some : symbol.place ≡ Some place = ap (λ (s : MadeSymbol). s.place) is in cc

not_among_weak : (start : ℕ) (ks : List ℕ) (name : SymbolName) (place : ℕ) → ((k : ℕ) → Weak k ≡ name → ⊥) → In (defined name place) (weak_symbols start ks) → ⊥
not_among_weak start [] name place other h = h
not_among_weak start (k ∷ ks) name place other (inl e) = other k (ap (λ (s : MadeSymbol). s.name) e)
not_among_weak start (k ∷ ks) name place other (inr h) = not_among_weak (start + 4) ks name place other h

not_elsewhere : (made : MadeObject) (name : SymbolName) (place : ℕ) → In (defined name place) (undefined_symbols made) → ⊥
not_elsewhere made name place h =
    elim (in_either (map undefined_function (outside_functions made)) (map undefined_weak (outside_weaks made)) (defined name place) h) [
      | inl one ↦ (let from = from_map undefined_function (outside_functions made) (defined name place) one in not_undefined (undefined_function from.0) name place refl from.2)
      | inr weak ↦ (let from = from_map undefined_weak (outside_weaks made) (defined name place) weak in not_undefined (undefined_weak from.0) name place refl from.2)
    ]

among_defined : (made : MadeObject) (name : SymbolName) (place : ℕ) → Defines made name place → In (defined name place) (defined_symbols made)
unfolding symbols_of
among_defined made name place h =
    elim (in_either (defined_symbols made) (undefined_symbols made) (defined name place) (in_from_Contains (defined_symbols made ++ undefined_symbols made) (defined name place) h)) [
      | inl here ↦ here
      | inr away ↦ absurd (not_elsewhere made name place away)
    ]

not_main : (made : MadeObject) (name : SymbolName) (place : ℕ) → (Main ≡ name → ⊥) → In (defined name place) (main_symbols made) → ⊥
not_main made name place other h = by (made.object == 0) h
  where
    by : (b : Bool) → In (defined name place) (if b then defined Main 0 ∷ [] else []) → ⊥
    by true (inl e) = other (ap (λ (s : MadeSymbol). s.name) e)
    by true (inr none) = none
    by false none = none

in_its_object : (made : MadeObject) (i place : ℕ) → IsMade made → Defines made (Function i) place → (made.object ≡ i / 64) × (place ≡ 16 * (i % 64))
in_its_object made i place is h =
    elim (in_either (map (function_symbol made) (range_with_len 0 (function_count made))) (main_symbols made ++ weak_symbols (16 * function_count made) (own_weaks made)) (defined (Function i) place) (among_defined made (Function i) place h)) [
      | inl own ↦
          (let from = from_map (function_symbol made) (range_with_len 0 (function_count made)) (defined (Function i) place) own in
          let within = from_range 0 (function_count made) from.0 from.1 in
          let named : Function (first_function made + from.0) ≡ Function i = ap (λ (s : MadeSymbol). s.name) from.2 in
          let placed : Some (16 * from.0) ≡ Some place = ap (λ (s : MadeSymbol). s.place) from.2 in
          let number : first_function made + from.0 ≡ i = cc in
          let offset : 16 * from.0 ≡ place = cc in
          (omega arith, omega arith))
      | inr others ↦
          absurd (elim (in_either (main_symbols made) (weak_symbols (16 * function_count made) (own_weaks made)) (defined (Function i) place) others) [
            | inl main ↦ not_main made (Function i) place (λ e. cc) main
            | inr weak ↦ not_among_weak (16 * function_count made) (own_weaks made) (Function i) place (λ k e. cc) weak
          ])
    ]

pub its_object : (made : MadeObject) (i place : ℕ) → IsMade made → Defines made (Function i) place → made.object ≡ i / 64
its_object made i place is h = (in_its_object made i place is h).0

pub its_place : (made : MadeObject) (i place : ℕ) → IsMade made → Defines made (Function i) place → place ≡ 16 * (i % 64)
its_place made i place is h = (in_its_object made i place is h).1
