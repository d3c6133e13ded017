use Rattle.input_files.proofs.CollectedLemmas.{IsCollecting}
use Rattle.input_files.proofs.collecting.collect.Given as goal

abbrev pub invariant-loop-piece : goal.invariant-loop-piece
invariant-loop-piece g l = IsCollecting l.fn.before l.all l.fn.pieces.items l.yielded l.piece-iterator.rest.items
