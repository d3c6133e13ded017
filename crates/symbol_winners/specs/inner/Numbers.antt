-- The numbers of the names of candidates.
use Rattle.std.specs.Prelude.{ℕ, ◌≡◌, true, List, slice_get, Some}
use Rattle.std.specs.List.{AllByRecursion}
use Rattle.name_ids.specs.Names.{number_of}
use Rattle.symbol_winners.specs.declared.found.FoundIn.{FoundIn}

-- an external symbol has the number of its name
pub record IsNumbered (names : List (List ℕ)) (f : FoundIn) : Type 0 where
  pub external : f.symbol.now.external ≡ true
  pub number_is : f.number ≡ number_of names f.symbol.now

-- a candidate's number is that of its name in a list
pub record IsListed (names : List (List ℕ)) (f : FoundIn) : Type 0 where
  pub listed : slice_get names f.number ≡ Some f.symbol.now.name

-- all of them do
abbrev pub AreNumbered : List (List ℕ) → List FoundIn → Type 0
AreNumbered names fs = AllByRecursion (IsNumbered names) fs
