-- How symbols are named.
use Rattle.std.specs.Prelude.{ℕ, ◌+◌, ◌/◌, ◌%◌, ◌==◌, Bool, false, List, [], ◌∷◌, ◌++◌, codes}
use Rattle.link_gen.specs.declared.names.SymbolName.{SymbolName}
use Rattle.link_gen.specs.declared.names.SymbolName.TheVariants.{Function, Main, Weak}

-- a decimal digit's character, of the lowest digit of a number
abbrev pub digit : ℕ → ℕ
digit n = 48 + n % 10

-- `_g` and six digits
abbrev pub function_name : ℕ → List ℕ
function_name i =
    codes "_g" ++ digit (i / 100000) ∷ digit (i / 10000) ∷ digit (i / 1000) ∷ digit (i / 100) ∷ digit (i / 10) ∷ digit i ∷ []

-- or `_main`, or `_w` and a digit
unfoldable pub name_of : SymbolName → List ℕ
name_of (Function i) = function_name i
name_of Main = codes "_main"
name_of (Weak k) = codes "_w" ++ digit k ∷ []

-- a name in the strings, which ends in NUL
unfoldable pub string_of : SymbolName → List ℕ
string_of name = name_of name ++ 0 ∷ []

-- both name one thing
abbrev pub is_same : SymbolName → SymbolName → Bool
is_same (Function i) (Function j) = i == j
is_same (Weak i) (Weak j) = i == j
is_same _ _ = false
