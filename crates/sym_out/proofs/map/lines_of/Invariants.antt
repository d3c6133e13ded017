use Rattle.std.proofs.Common.{[]}
use Rattle.sym_out.specs.Map.{line_of}
use Rattle.sym_out.proofs.Loops.{IsPutting}
use Rattle.sym_out.proofs.map.lines_of.Given as goal

abbrev pub invariant-loop-row : goal.invariant-loop-row
invariant-loop-row l = IsPutting (line_of l.files) l.rows [] l.row-index l.lines.items
