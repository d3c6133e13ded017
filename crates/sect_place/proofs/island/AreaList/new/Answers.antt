use Rattle.std.proofs.Common.{◌≡◌, List, []}
use Rattle.std.specs.List.Sorted.{IsStrictlySortedBy}
use Rattle.std.specs.Ordering.{on}
use Rattle.mo_types.specs.Keys.{compare_keys}
use Rattle.sect_place.specs.declared.island.IslandArea.{IslandArea}
use Rattle.sect_place.proofs.island.AreaList.new.Goals as goal

none_rise : (areas : List IslandArea) → areas ≡ [] → IsStrictlySortedBy (on (λ (area : IslandArea). area.last) compare_keys) areas
unfolding IsStrictlySortedBy
none_rise areas none = rw none tt

pub invariant_of-result : goal.invariant_of-result
invariant_of-result c = none_rise c.new.result.items c.new.ensures.items
