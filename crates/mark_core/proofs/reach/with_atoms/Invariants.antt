use Rattle.std.proofs.Common.{◌≡◌, take}
use Rattle.indexmap.specs.IndexSet.{insert_all}
use Rattle.mark_core.specs.Kept.{same_atom}
use Rattle.mark_core.proofs.reach.with_atoms.Given as goal

abbrev pub invariant-loop-atom : goal.invariant-loop-atom
invariant-loop-atom l = l.found.keys ≡ insert_all same_atom l.fn.before.keys (take l.atom-index l.more)
