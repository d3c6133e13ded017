use Rattle.std.proofs.Common.{[]}
use Rattle.sym_out.specs.Symbols.{undefined_entry}
use Rattle.sym_out.proofs.Loops.{IsChoosing}
use Rattle.sym_out.proofs.ranges.undefined_of.Given as goal

abbrev pub invariant-loop-goal : goal.invariant-loop-goal
invariant-loop-goal l = IsChoosing undefined_entry l.bound [] l.goal-index l.entries.items
