use Rattle.std.proofs.Common.{◌≡◌, ◌^◌, ◌<◌, All, map, take}
use Rattle.island_core.specs.declared.cut.Extent.{Extent}
use Rattle.islands.specs.Text.{extent_of}
use Rattle.islands.proofs.text.extents.Given as goal

abbrev pub invariant-loop-atom : goal.invariant-loop-atom
invariant-loop-atom l = record {
  exact : l.extents.items ≡ map (extent_of l.layout) (take l.atom-index l.atoms);
  near : All (λ (extent : Extent). extent.from < 2 ^ 66) l.extents.items;
}
