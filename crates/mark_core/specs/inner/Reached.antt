-- What arrows lead to from some atoms.
use Rattle.std.specs.Prelude.{◌≡◌, Bool, true, List, Contains}
use Rattle.mo_types.specs.declared.edge.Edge.{Edge}
use Rattle.mo_types.specs.declared.key.AtomKey.{AtomKey}

-- the least list that has the roots and is closed by arrows
pub record IsReached (all : List Edge) (roots found : List AtomKey) : Type 0 where
  pub rooted : (atom : AtomKey) → Contains roots atom → Contains found atom
  pub closed : (arrow : Edge) → Contains all arrow → Contains found arrow.from → Contains found arrow.to
  pub least : (set : AtomKey → Bool) → ((atom : AtomKey) → Contains roots atom → set atom ≡ true)
      → ((arrow : Edge) → Contains all arrow → set arrow.from ≡ true → set arrow.to ≡ true)
      → (atom : AtomKey) → Contains found atom → set atom ≡ true
