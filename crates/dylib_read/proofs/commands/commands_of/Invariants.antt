use Rattle.dylib_read.proofs.WalkLemmas.{IsWalking}
use Rattle.dylib_read.proofs.commands.commands_of.Given as goal

abbrev pub invariant-loop-number : goal.invariant-loop-number
invariant-loop-number l = IsWalking l.bytes l.end l.header.ncmds l._number l.at l.places.items
