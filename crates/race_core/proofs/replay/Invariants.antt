use Rattle.std.proofs.Common.{◌≡◌, take}
use Rattle.race_core.specs.Run.{bids_of, run}
use Rattle.race_core.proofs.replay.Given as goal

-- the words are those after the offers so far
abbrev pub invariant-loop-event : goal.invariant-loop-event
invariant-loop-event l = l.words ≡ run l.initial.words (bids_of (take l.event-index l.events))
