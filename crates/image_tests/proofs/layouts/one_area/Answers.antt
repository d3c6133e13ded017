use Rattle.std.proofs.Common.{◌≡◌, List, [], ◌∷◌, ◌++◌}
use Rattle.std.specs.List.Sorted.{IsStrictlySortedBy}
use Rattle.std.specs.Ordering.{on}
use Rattle.mo_types.specs.Keys.{compare_keys}
use Rattle.sect_place.specs.declared.island.IslandArea.{IslandArea}
use Rattle.image_tests.proofs.layouts.one_area.Goals as goal

one_rises : (empty areas : List IslandArea) (area : IslandArea) → empty ≡ [] → areas ≡ empty ++ area ∷ [] → IsStrictlySortedBy (on (λ (area : IslandArea). area.last) compare_keys) areas
unfolding IsStrictlySortedBy
one_rises empty areas area none one = rw (one, none) (tt, tt)

pub from_sorted-requires : goal.from_sorted-requires
from_sorted-requires c = one_rises c.new-list.result.items c.push.new.self.items _ c.new-list.ensures.items c.in_ok-push.ensures.items
