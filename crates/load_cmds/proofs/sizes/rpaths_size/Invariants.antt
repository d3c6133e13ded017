use Rattle.load_cmds.specs.Sizes.{rpath_size}
use Rattle.load_cmds.proofs.Sums.{IsSumming}
use Rattle.load_cmds.proofs.sizes.rpaths_size.Given as goal

abbrev pub invariant-loop-path : goal.invariant-loop-path
invariant-loop-path l = IsSumming rpath_size l.rpaths l.path-index l.total
