-- Edges and supports as arrows: where the source of one is kept, so is its end.
use Rattle.std.specs.Prelude.{◌≡◌, ◌++◌, Bool, List, map, Contains}
use Rattle.std.specs.List.{filter}
use Rattle.std.specs.List.Sorted.{IsSortedBy}
use Rattle.std.specs.Ordering.{is_le, is_lt}
use Rattle.mo_types.specs.Keys.{compare_keys}
use Rattle.mo_types.specs.declared.edge.Edge.{Edge}
use Rattle.mo_types.specs.declared.key.AtomKey.{AtomKey}
use Rattle.mark_core.specs.Kept.{has}

abbrev pub reversed : Edge → Edge
reversed edge = record { from = edge.to; to = edge.from }

abbrev pub end_of : Edge → AtomKey
end_of arrow = arrow.to

unfoldable pub arrows : List Edge → List Edge → List Edge
arrows edges supports = edges ++ map reversed supports

-- an arrow begins in one of some atoms
abbrev pub begins_in : List AtomKey → Edge → Bool
begins_in roots arrow = has roots arrow.from

-- where arrows from some atoms end
unfoldable pub ends_from : List AtomKey → List Edge → List AtomKey
ends_from roots all = map end_of (filter (begins_in roots) all)

-- by rising source
pub record AreSorted (all : List Edge) : Type 0 where
  pub sources : IsSortedBy (λ a b. is_lt (compare_keys a.from b.from)) all

-- an arrow's source is before a key, or isn't after it
abbrev pub is_before : AtomKey → Edge → Bool
is_before key arrow = is_lt (compare_keys arrow.from key)

abbrev pub is_up_to : AtomKey → Edge → Bool
is_up_to key arrow = is_le (compare_keys arrow.from key)

-- just the arrows from an atom
pub record AreFrom (all : List Edge) (key : AtomKey) (some : List Edge) : Type 0 where
  pub each : (arrow : Edge) → Contains all arrow → arrow.from ≡ key → Contains some arrow
  pub only : (arrow : Edge) → Contains some arrow → Contains all arrow × (arrow.from ≡ key)
