-- Each call leads to a symbol, which has the name that is called.
use Rattle.std.proofs.Common.{◌≡◌, ℕ, zero, suc, ◌+◌, ◌-◌, ◌*◌, ◌/◌, ◌%◌, ◌<◌, ◌≤◌, List, [], ◌∷◌, ◌++◌, length, get_or, map, Bool, true, false, not, ◌⊎◌, inl, inr, refl, ap, ◌∙◌, arith}
use Rattle.std.specs.Prelude.{◌==◌, min, nat_le, nat_lt, Some, slice_get, if◌then◌else◌}
use Rattle.std.specs.List.{position_or_len, range_with_len}
use Rattle.std.proofs.lemmas.Bool.{and_parts, cases_eq, eq-eqb, eqb-true, leb-true, ltb-true}
use Rattle.std.proofs.lemmas.List.Sums.{passes_at_first}
use Rattle.std.proofs.lemmas.Option.{slice_get-get_or}
use Rattle.list_lemmas.proofs.Members.{In, in_filter, in_left, in_map, in_right}
use Rattle.link_gen.proofs.NumberLemmas.{is_named}
use Rattle.link_gen.proofs.OutsideLemmas.{in_range, is_outside}
use Rattle.link_gen.specs.Calls.{IsMade, called, drawn_functions, first_function, function_count, has_function, has_weak, outside_functions, outside_weaks, own_weaks}
use Rattle.link_gen.specs.Draws.{drawn}
use Rattle.link_gen.specs.Laws.{LeadsTo}
use Rattle.link_gen.specs.Names.{is_same}
use Rattle.link_gen.specs.Parts.{relocation}
use Rattle.link_gen.specs.Symbols.{defined_symbols, function_symbol, main_symbols, number_of, symbols_of, undefined_function, undefined_symbols, undefined_weak, weak_symbols}
use Rattle.link_gen.specs.declared.calls.MadeObject.{MadeObject}
use Rattle.link_gen.specs.declared.names.SymbolName.{SymbolName}
use Rattle.link_gen.specs.declared.names.SymbolName.TheVariants.{Function, Main, Weak}
use Rattle.link_gen.specs.declared.symbols.MadeSymbol.{MadeSymbol}

-- a symbol of a name is among some
abbrev pub HasName : List MadeSymbol → SymbolName → Type 0
HasName list name = (symbol : MadeSymbol) × In symbol list × (symbol.name ≡ name)

-- ---- a search among symbols of which one has the name

same_itself : (name : SymbolName) → (name ≡ Main → ⊥) → is_same name name ≡ true
same_itself (Function i) other = eq-eqb i i refl
same_itself Main other = absurd (other refl)
same_itself (Weak k) other = eq-eqb k k refl

same_name : (one other : SymbolName) → is_same one other ≡ true → one ≡ other
same_name (Function i) (Function j) e = ap Function (eqb-true i j e)
same_name (Weak i) (Weak j) e = ap Weak (eqb-true i j e)
same_name (Function i) Main e = cc
same_name (Function i) (Weak j) e = cc
same_name Main other e = cc
same_name (Weak i) Main e = cc
same_name (Weak i) (Function j) e = cc

found_below : {X : Type 0} (p : X → Bool) (xs : List X) (x : X) → In x xs → p x ≡ true → position_or_len p xs < length xs
found_below p [] x h passes = absurd h
found_below {X = X} p (y ∷ ys) x h passes = by (p y) refl h (λ later. found_below p ys x later passes)
  where
    by : (b : Bool) → p y ≡ b → (y ≡ x) ⊎ In x ys → (In x ys → position_or_len p ys < length ys) → position_or_len p (y ∷ ys) < length (y ∷ ys)
    by true here found_one behind = rw here (omega arith)
    by false away (inl e) behind = let passes_here : p y ≡ true = ap p e ∙ passes in cc
    by false away (inr later) behind = let rest : position_or_len p ys < length ys = behind later in rw away (omega arith)

numbered : (list : List MadeSymbol) (name : SymbolName) → (name ≡ Main → ⊥) → HasName list name → LeadsTo list (number_of list name) name
unfolding number_of
numbered list name other (symbol, there, is) =
    let passes : is_same symbol.name name ≡ true = ap (λ (n : SymbolName). is_same n name) is ∙ same_itself name other in
    let below = found_below (is_named name) list symbol there passes in
    record {
      symbol = get_or list (position_or_len (is_named name) list) symbol;
      is = slice_get-get_or list (position_or_len (is_named name) list) symbol below;
      name_is = same_name (get_or list (position_or_len (is_named name) list) symbol).name name (passes_at_first (is_named name) list symbol below);
    }

-- ---- each name that is called is that of a symbol

in_weak_symbols : (place : ℕ) (ks : List ℕ) (k : ℕ) → In k ks → HasName (weak_symbols place ks) (Weak k)
in_weak_symbols place [] k h = absurd h
in_weak_symbols place (j ∷ ks) k (inl e) = (record { name = Weak j; place = Some place }, inl refl, ap Weak e)
in_weak_symbols place (j ∷ ks) k (inr h) = let rest : HasName (weak_symbols (place + 4) ks) (Weak k) = in_weak_symbols (place + 4) ks k h in (rest.0, inr rest.1, rest.2)

in_defined : (made : MadeObject) (name : SymbolName) → HasName (defined_symbols made) name → HasName (symbols_of made) name
unfolding symbols_of
in_defined made name (symbol, there, is) = (symbol, in_left (defined_symbols made) (undefined_symbols made) symbol there, is)

in_undefined : (made : MadeObject) (name : SymbolName) → HasName (undefined_symbols made) name → HasName (symbols_of made) name
unfolding symbols_of
in_undefined made name (symbol, there, is) = (symbol, in_right (defined_symbols made) (undefined_symbols made) symbol there, is)

has_function_symbol : (made : MadeObject) (i : ℕ) → IsMade made → In i (drawn_functions made) → HasName (symbols_of made) (Function i)
has_function_symbol made i is_made h = by (has_function made i) refl
  where
    by : (b : Bool) → has_function made i ≡ b → HasName (symbols_of made) (Function i)
    by true own =
        let parts = and_parts (nat_le (first_function made) i) (nat_lt i (first_function made + function_count made)) own in
        let low : first_function made ≤ i = leb-true (first_function made) i parts.0 in
        let high : i < first_function made + function_count made = ltb-true i (first_function made + function_count made) parts.1 in
        let k : ℕ = i - first_function made in
        in_defined made (Function i) (
          function_symbol made (i - first_function made),
          in_left (map (function_symbol made) (range_with_len 0 (function_count made))) (main_symbols made ++ weak_symbols (16 * function_count made) (own_weaks made)) (function_symbol made (i - first_function made))
              (in_map (function_symbol made) (range_with_len 0 (function_count made)) (i - first_function made) (in_range 0 (function_count made) (i - first_function made) (omega arith) (omega arith))),
          ap Function (omega arith),
        )
    by false away =
        in_undefined made (Function i) (
          undefined_function i,
          in_left (map undefined_function (outside_functions made)) (map undefined_weak (outside_weaks made)) (undefined_function i)
              (in_map undefined_function (outside_functions made) i (is_outside made i is_made.some h (ap not away))),
          refl,
        )

has_weak_symbol : (made : MadeObject) (k : ℕ) → k < 4 → k < function_count made → HasName (symbols_of made) (Weak k)
unfolding own_weaks outside_weaks
has_weak_symbol made k low called_here = by (has_weak made k) refl
  where
    by : (b : Bool) → has_weak made k ≡ b → HasName (symbols_of made) (Weak k)
    by true own =
        let there : HasName (weak_symbols (16 * function_count made) (own_weaks made)) (Weak k) =
        in_weak_symbols (16 * function_count made) (own_weaks made) k (in_filter (has_weak made) (range_with_len 0 4) k (in_range 0 4 k (omega arith) (omega arith)) own) in
        in_defined made (Weak k) (
          there.0,
          in_right (map (function_symbol made) (range_with_len 0 (function_count made))) (main_symbols made ++ weak_symbols (16 * function_count made) (own_weaks made)) there.0
              (in_right (main_symbols made) (weak_symbols (16 * function_count made) (own_weaks made)) there.0 there.1),
          there.2,
        )
    by false away =
        in_undefined made (Weak k) (
          undefined_weak k,
          in_right (map undefined_function (outside_functions made)) (map undefined_weak (outside_weaks made)) (undefined_weak k)
              (in_map undefined_weak (outside_weaks made) k (in_filter (λ (j : ℕ). not (has_weak made j)) (range_with_len 0 (min 4 (function_count made))) k (in_range 0 (min 4 (function_count made)) k (omega arith) (omega arith)) (ap not away))),
          refl,
        )

in_drawn : (made : MadeObject) (draw : ℕ) → 2 * first_function made ≤ draw → draw < 2 * first_function made + 2 * function_count made → In (drawn made.count draw) (drawn_functions made)
unfolding drawn_functions
in_drawn made draw low high = in_map (drawn made.count) (range_with_len (2 * first_function made) (2 * function_count made)) draw (in_range (2 * first_function made) (2 * function_count made) draw low high)

no_main : (i call count : ℕ) → called count i call ≡ Main → ⊥
no_main i call count e = by (call == 2) e
  where
    by : (b : Bool) → (if b then Weak (i % 4) else Function (drawn count (2 * i + call))) ≡ Main → ⊥
    by true f = cc
    by false f = cc

has_called : (made : MadeObject) (f call : ℕ) → IsMade made → f < function_count made → call < 3 → HasName (symbols_of made) (called made.count (first_function made + f) call)
has_called made f call is_made low small = by (call == 2) refl
  where
    by : (b : Bool) → (call == 2) ≡ b → HasName (symbols_of made) (if b then Weak ((first_function made + f) % 4) else Function (drawn made.count (2 * (first_function made + f) + call)))
    by true last = has_weak_symbol made ((first_function made + f) % 4) (omega arith) (omega arith)
    by false other =
        let before : call < 2 = elim (cases_eq call 2) [ inl e ↦ (let yes_two = eq-eqb call 2 e in absurd (both other yes_two)) | inr ne ↦ omega arith ] in
        has_function_symbol made (drawn made.count (2 * (first_function made + f) + call)) is_made
        (in_drawn made (2 * (first_function made + f) + call) (omega arith) (omega arith))
      where
        both : (call == 2) ≡ false → (call == 2) ≡ true → ⊥
        both a b = cc

pub calls_lead : (made : MadeObject) (r : ℕ) → IsMade made → r < 3 * function_count made → LeadsTo (symbols_of made) (relocation made r).r_symbolnum (called made.count (first_function made + r / 3) (r % 3))
unfolding relocation
calls_lead made r is_made low =
    numbered (symbols_of made) (called made.count (first_function made + r / 3) (r % 3)) (no_main (first_function made + r / 3) (r % 3) made.count)
    (has_called made (r / 3) (r % 3) is_made (omega arith) (omega arith))

pub ruleset laws = (calls_lead)
