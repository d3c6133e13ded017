-- What the definition of an object says, in words of its own.
use Rattle.std.specs.Prelude.{ℕ, ◌≡◌, List, Some, slice_get}
use Rattle.link_gen.specs.declared.names.SymbolName.{SymbolName}
use Rattle.link_gen.specs.declared.symbols.MadeSymbol.{MadeSymbol}

-- the symbol of a number has a name
pub record LeadsTo (symbols : List MadeSymbol) (number : ℕ) (name : SymbolName) : Type 0 where
  pub symbol : MadeSymbol
  pub is : slice_get symbols number ≡ Some symbol
  pub name_is : symbol.name ≡ name
