use Rattle.std.proofs.Common.{◌≡◌, ◌++◌, map, take}
use Rattle.mark_core.specs.inner.Arrows.{reversed}
use Rattle.mark_core.proofs.arrows.all_arrows.Given as goal

abbrev pub invariant-loop-support : goal.invariant-loop-support
invariant-loop-support l = l.all.items ≡ l.fn.edges.items ++ map reversed (take l.support-index l.supports)
