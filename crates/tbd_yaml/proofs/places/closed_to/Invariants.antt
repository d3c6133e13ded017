use Rattle.std.proofs.Common.{length}
use Rattle.tbd_yaml.proofs.BlockLemmas.{IsClosing}
use Rattle.tbd_yaml.proofs.places.closed_to.Given as goal

abbrev pub invariant-loop-block : goal.invariant-loop-block
invariant-loop-block l = IsClosing l.number l.column l.item l.fn.blocks l.fn.events l.blocks l.events

abbrev pub decreases-loop-block : goal.decreases-loop-block
decreases-loop-block l = length l.blocks
