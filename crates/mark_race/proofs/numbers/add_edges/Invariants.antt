use Rattle.std.proofs.Common.{take}
use Rattle.mark_race.specs.inner.Numbers.{Adds}
use Rattle.mark_race.proofs.numbers.add_edges.Given as goal

abbrev pub invariant-loop-edge : goal.invariant-loop-edge
invariant-loop-edge l = Adds (take l.edge-index l.edges) l.fn.numbered.atoms.keys l.fn.numbered.arrows.items l.numbered.atoms.keys l.numbered.arrows.items
