-- The last atoms of groups.
use Rattle.std.specs.Prelude.{ℕ, ◌≡◌, ◌/◌, List}
use Rattle.std.specs.List.Sorted.{IsStrictlySortedBy}
use Rattle.mo_types.specs.Keys.{compare_keys}
use Rattle.mo_types.specs.declared.atom.Atom.{Atom}
use Rattle.mo_types.specs.declared.key.AtomKey.{AtomKey}
use Rattle.sect_place.specs.declared.layout.Layout.{Layout}
use Rattle.island_core.specs.Groups.{AreEnds}
use Rattle.islands.specs.Text.{extents_of, lasts_of, text_atoms}

pub record IsCut (kept : List Atom) (layout : Layout) (reach : ℕ) (lasts : List AtomKey) : Type 0 where
  pub ends : List ℕ
  pub groups : AreEnds (reach / 2) (extents_of kept layout) ends
  pub lasts_are : lasts ≡ lasts_of (text_atoms kept layout) ends
  pub rises : IsStrictlySortedBy compare_keys lasts
