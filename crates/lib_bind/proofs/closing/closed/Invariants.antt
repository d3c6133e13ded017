use Rattle.std.proofs.Common.{Ok, length, ◌-◌, ◌^◌}
use Rattle.file_cache.specs.Kept.{seen}
use Rattle.file_cache.specs.Runs.{Runs}
use Rattle.lib_bind.specs.Closing.{IsBindFault}
use Rattle.lib_bind.specs.Closure.{after}
use Rattle.lib_bind.specs.inner.Held.{IsHeld}
use Rattle.lib_bind.proofs.closing.closed.Given as goal

abbrev pub invariant-loop-at : goal.invariant-loop-at
invariant-loop-at g l = record {
  runs : Runs g.F.Files.answers IsBindFault (after l.command.syslibroot l.heads l.at l.fn.start) (Ok l.closing)
      (seen g.F.Files.holds g.F.Files.asked g.F.Files.faults l.fn.files l.fn.cache) (seen g.F.Files.holds g.F.Files.asked g.F.Files.faults l.files l.cache);
  held : IsHeld (length l.fn.start.growing.documents) l.heads l.closing;
}

-- a list has fewer elements
abbrev pub decreases-loop-at : goal.decreases-loop-at
decreases-loop-at g l = 2 ^ 64 - l.at
