use Rattle.std.proofs.Common.{length}
use Rattle.std.specs.List.{All}
use Rattle.unwind_out.specs.Held.{IsHeld}
use Rattle.unwind_out.proofs.Cutting.{IsCutting}
use Rattle.unwind_out.proofs.cut.pages.Given as goal

abbrev pub invariant-loop-rest : goal.invariant-loop-rest
invariant-loop-rest l = record { cutting : IsCutting l.fn.rows l.rest l.pages.items; held : All IsHeld l.pages.items }

abbrev pub decreases-loop-rest : goal.decreases-loop-rest
decreases-loop-rest l = length l.rest
