-- Which atoms an image keeps: no more than follows from its roots.
use Rattle.std.specs.Prelude.{◌≡◌, ◌==◌, ◌&&◌, Bool, true, not, List, All}
use Rattle.std.specs.List.{list_any}
use Rattle.std.specs.List.Sorted.{IsStrictlySortedBy}
use Rattle.std.specs.Ordering.{is_eq}
use Rattle.mo_types.specs.Keys.{compare_keys}
use Rattle.mo_types.specs.declared.edge.Edge.{Edge}
use Rattle.mo_types.specs.declared.key.AtomKey.{AtomKey}

-- two keys are of one atom
abbrev pub same_atom : AtomKey → AtomKey → Bool
same_atom a b = (a.file.position == b.file.position && a.file.member == b.file.member) && (a.section == b.section && a.offset == b.offset)

-- an atom is one of a list
abbrev pub has : List AtomKey → AtomKey → Bool
has atoms atom = list_any (λ other. is_eq (compare_keys other atom)) atoms

-- A set of atoms, by its test, holds the roots, with the source of an edge its end, and with the end of a support its
-- source.
pub record IsClosed (edges supports : List Edge) (roots : List AtomKey) (set : AtomKey → Bool) : Type 0 where
  pub rooted : All (λ atom. set atom ≡ true) roots
  pub led : All (λ edge. set edge.from ≡ true → set edge.to ≡ true) edges
  pub supported : All (λ support. set support.to ≡ true → set support.from ≡ true) supports

-- The atoms that are kept: the least set that is closed, by rising key and so each once.
pub record IsKept (edges supports : List Edge) (roots kept : List AtomKey) : Type 0 where
  pub closed : IsClosed edges supports roots (has kept)
  pub least : (set : AtomKey → Bool) → IsClosed edges supports roots set → All (λ atom. set atom ≡ true) kept
  pub rises : IsStrictlySortedBy compare_keys kept

-- An edge leads away from some atoms, and a support begins away from them. Where these are roots, the others add nothing to
-- what is kept.
abbrev pub leads_away : List AtomKey → Edge → Bool
leads_away roots edge = not (has roots edge.to)

abbrev pub begins_away : List AtomKey → Edge → Bool
begins_away roots support = not (has roots support.from)
