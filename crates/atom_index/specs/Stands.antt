-- Where the value of an atom stands in a list.
use Rattle.std.specs.Prelude.{◌≡◌, ℕ, ◌<◌, List, length}
use Rattle.std.specs.List.{HoldsAt}
use Rattle.mo_types.specs.declared.key.AtomKey.{AtomKey}

-- the value at a place is that of an atom
pub record StandsAt {T : Type 0} (key_of : T → AtomKey) (values : List T) (atom : AtomKey) (at : ℕ) : Type 0 where
  pub within : at < length values
  pub of_atom : HoldsAt (λ value. key_of value ≡ atom) values at
