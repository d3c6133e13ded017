-- How the symbols of an object are numbered.
use Rattle.std.specs.Prelude.{ℕ, ◌≡◌, List, length}
use Rattle.link_gen.specs.Calls.{outside_functions}
use Rattle.link_gen.specs.Symbols.{defined_symbols}
use Rattle.link_gen.specs.declared.calls.MadeObject.{MadeObject}

-- the functions of other objects that are called, and how many symbols stand before theirs
pub record AreNumbered (made : MadeObject) (outside : List ℕ) (defined : ℕ) : Type 0 where
  pub are : outside ≡ outside_functions made
  pub before : defined ≡ length (defined_symbols made)
