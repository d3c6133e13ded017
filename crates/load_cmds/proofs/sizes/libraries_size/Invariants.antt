use Rattle.load_cmds.specs.Sizes.{library_size}
use Rattle.load_cmds.proofs.Sums.{IsSumming}
use Rattle.load_cmds.proofs.sizes.libraries_size.Given as goal

abbrev pub invariant-loop-library : goal.invariant-loop-library
invariant-loop-library l = IsSumming (library_size l.libs) l.libraries l.library-index l.total
