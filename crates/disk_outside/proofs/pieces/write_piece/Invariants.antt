use Rattle.std.specs.Io.KnownBytes.{Keeps}
use Rattle.disk_outside.proofs.pieces.write_piece.Given as goal

abbrev pub invariant-loop : goal.invariant-loop
invariant-loop g l = Keeps (g.W.Write.contents l.fn.to) (g.W.Write.contents l.to)
