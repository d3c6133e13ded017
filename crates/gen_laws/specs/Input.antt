-- How the objects of one input belong together.
use Rattle.std.specs.Prelude.{ℕ, ◌≡◌, Contains}
use Rattle.link_gen.specs.Calls.{IsMade}
use Rattle.link_gen.specs.Symbols.{defined, symbols_of}
use Rattle.link_gen.specs.declared.calls.MadeObject.{MadeObject}
use Rattle.link_gen.specs.declared.names.SymbolName.{SymbolName}

-- an object defines a name at an offset of its section
abbrev pub Defines : MadeObject → SymbolName → ℕ → Type 0
Defines made name place = Contains (symbols_of made) (defined name place)

-- an object of an input of so many functions defines a name
pub record IsDefinedIn (count : ℕ) (name : SymbolName) : Type 0 where
  pub made : MadeObject
  pub of_input : made.count ≡ count
  pub is_made : IsMade made
  pub place : ℕ
  pub defines : Defines made name place
