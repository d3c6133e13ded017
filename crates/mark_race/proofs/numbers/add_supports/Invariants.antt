use Rattle.std.proofs.Common.{map, take}
use Rattle.mark_core.specs.inner.Arrows.{reversed}
use Rattle.mark_race.specs.inner.Numbers.{Adds}
use Rattle.mark_race.proofs.numbers.add_supports.Given as goal

abbrev pub invariant-loop-support : goal.invariant-loop-support
invariant-loop-support l = Adds (map reversed (take l.support-index l.supports)) l.fn.numbered.atoms.keys l.fn.numbered.arrows.items l.numbered.atoms.keys l.numbered.arrows.items
