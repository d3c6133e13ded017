-- The names to which symbols refer weakly alone, symbol by symbol.
use Rattle.std.proofs.Common.{◌≡◌, ℕ, ◌+◌, ◌<◌, Bool, true, false, ◌||◌, ◌&&◌, not, List, [], length, take, get_or, refl, sym, ap, ◌∙◌}
use Rattle.std.specs.Prelude.{if◌then◌else◌}
use Rattle.std.specs.List.{list_any}
use Rattle.std.specs.Str.{bytes_eq}
use Rattle.std.proofs.lemmas.List.Folds.{list_any_more}
use Rattle.mo_types.specs.declared.loaded.LoadedFile.{LoadedFile}
use Rattle.mo_types.specs.declared.object.Symbol.{Symbol}
use Rattle.symbol_winners.specs.SymbolTable.{any_symbol, is_strong_to, is_weak, is_weak_to, refers_strongly, refers_weakly}
use Rattle.symbol_winners.specs.Winners.{lists}
use Rattle.symbol_winners.proofs.SetLemmas.{either, turned}

neither : (hit old : Bool) → (if hit then false else old) ≡ (old && not hit)
neither true true = refl
neither true false = refl
neither false true = refl
neither false false = refl

or_false : (b : Bool) → b ≡ (b || false)
or_false true = refl
or_false false = refl

and_true : (b : Bool) → b ≡ (b && true)
and_true true = refl
and_true false = refl

pub weak_one : (name : List ℕ) (symbol : Symbol) (old new : Bool) → refers_weakly symbol ≡ true → new ≡ (if bytes_eq symbol.name name then true else old) → new ≡ (old || is_weak_to name symbol)
weak_one name symbol old new is after = after ∙ either (bytes_eq symbol.name name) old ∙ ap (λ b. old || b) (sym (rw is (turned name symbol.name (bytes_eq symbol.name name) refl)))

pub weak_other : (name : List ℕ) (symbol : Symbol) (old : Bool) → refers_weakly symbol ≡ false → old ≡ (old || is_weak_to name symbol)
weak_other name symbol old is = rw is (or_false old)

pub strong_one : (name : List ℕ) (symbol : Symbol) (old new : Bool) → refers_strongly symbol ≡ true → new ≡ (if bytes_eq symbol.name name then false else old) → new ≡ (old && not (is_strong_to name symbol))
strong_one name symbol old new is after = after ∙ neither (bytes_eq symbol.name name) old ∙ ap (λ b. old && not b) (sym (rw is (turned name symbol.name (bytes_eq symbol.name name) refl)))

pub strong_other : (name : List ℕ) (symbol : Symbol) (old : Bool) → refers_strongly symbol ≡ false → old ≡ (old && not (is_strong_to name symbol))
strong_other name symbol old is = rw is (and_true old)

pub ruleset one_symbol = (weak_one, weak_other, strong_one, strong_other)

or_after : (base a b : Bool) → ((base || a) || b) ≡ (base || (a || b))
or_after true a b = refl
or_after false a b = refl

and_after : (base a b : Bool) → ((base && not a) && not b) ≡ (base && not (a || b))
and_after true true b = refl
and_after true false b = refl
and_after false a b = refl

pub or_start : {X : Type 0} (p : X → Bool) (xs : List X) (base : Bool) → base ≡ (base || list_any p (take 0 xs))
or_start p xs base = or_false base

pub or_step : {X : Type 0} (p : X → Bool) (xs : List X) (i : ℕ) (x : X) (base old new : Bool) → i < length xs → x ≡ get_or xs i x → old ≡ (base || list_any p (take i xs)) → new ≡ (old || p x) → new ≡ (base || list_any p (take (i + 1) xs))
or_step p xs i x base old new low is before after =
    after ∙ ap (λ b. b || p x) before ∙ or_after base (list_any p (take i xs)) (p x)
    ∙ ap (λ b. base || b) (ap (λ y. list_any p (take i xs) || p y) is ∙ sym (list_any_more p xs i x low))

pub and_start : {X : Type 0} (p : X → Bool) (xs : List X) (base : Bool) → base ≡ (base && not (list_any p (take 0 xs)))
and_start p xs base = and_true base

pub and_step : {X : Type 0} (p : X → Bool) (xs : List X) (i : ℕ) (x : X) (base old new : Bool) → i < length xs → x ≡ get_or xs i x → old ≡ (base && not (list_any p (take i xs))) → new ≡ (old && not (p x)) → new ≡ (base && not (list_any p (take (i + 1) xs)))
and_step p xs i x base old new low is before after =
    after ∙ ap (λ b. b && not (p x)) before ∙ and_after base (list_any p (take i xs)) (p x)
    ∙ ap (λ b. base && not b) (ap (λ y. list_any p (take i xs) || p y) is ∙ sym (list_any_more p xs i x low))

-- a test of the symbols of a file
abbrev pub of_file : (Symbol → Bool) → LoadedFile → Bool
of_file test file = list_any test file.object.symbols

pub some_symbol : (test : Symbol → Bool) (files : List LoadedFile) → any_symbol test files ≡ list_any (of_file test) files
unfolding any_symbol
some_symbol test files = refl

no_names : (set : List (List ℕ)) (name : List ℕ) → set ≡ [] → lists set name ≡ false
no_names set name none = ap (λ ns. lists ns name) none

false_and : (a b : Bool) → a ≡ false → a ≡ (a && b)
false_and true b e = cc
false_and false b e = refl

pub weak_none : (files : List LoadedFile) (set : List (List ℕ)) (name : List ℕ) → set ≡ [] → lists set name ≡ any_symbol (is_weak_to name) files → lists set name ≡ is_weak files name
unfolding is_weak
weak_none files set name none are =
    are ∙ false_and (any_symbol (is_weak_to name) files) (not (any_symbol (is_strong_to name) files)) (sym are ∙ no_names set name none)

pub weak_all : (files : List LoadedFile) (before set : List (List ℕ)) (name : List ℕ) → lists before name ≡ any_symbol (is_weak_to name) files → lists set name ≡ (lists before name && not (any_symbol (is_strong_to name) files)) → lists set name ≡ is_weak files name
unfolding is_weak
weak_all files before set name are after = after ∙ ap (λ b. b && not (any_symbol (is_strong_to name) files)) are
