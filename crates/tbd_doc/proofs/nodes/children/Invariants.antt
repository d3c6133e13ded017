use Rattle.std.proofs.Common.{◌+◌, ◌-◌, ◌<◌, ◌≤◌, length}
use Rattle.tbd_doc.proofs.SearchLemmas.{IsSearching}
use Rattle.tbd_doc.proofs.nodes.children.Given as goal

abbrev pub invariant-loop-next : goal.invariant-loop-next
invariant-loop-next l = record { search : IsSearching l.events (l.at + 1) l.depth l.next l.places.items; low : l.depth < l.next; within : l.next ≤ length l.events }

abbrev pub decreases-loop-next : goal.decreases-loop-next
decreases-loop-next l = length l.events - l.next
