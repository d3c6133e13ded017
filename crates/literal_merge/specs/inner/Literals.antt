-- The order of what stands for literals.
use Rattle.std.specs.Prelude.{List}
use Rattle.std.specs.List.Sorted.{IsStrictlySortedBy}
use Rattle.std.specs.Ordering.{on}
use Rattle.mo_types.specs.Keys.{compare_keys}
use Rattle.mo_types.specs.declared.key.AtomKey.{AtomKey}
use Rattle.literal_merge.specs.declared.representative.Representative.{Representative}

abbrev pub literal_key : Representative → AtomKey
literal_key r = r.literal

-- the keys of the literals rise
pub record AreInOrder (literals : List Representative) : Type 0 where
  pub rise : IsStrictlySortedBy (on literal_key compare_keys) literals
