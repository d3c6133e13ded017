use Rattle.std.proofs.Common.{◌≡◌, nat_eq, take}
use Rattle.indexmap.specs.IndexSet.{insert_all}
use Rattle.lib_bind.proofs.reach.add_all.Given as goal

abbrev pub invariant-loop-document : goal.invariant-loop-document
invariant-loop-document l = l.found.keys ≡ insert_all nat_eq l.fn.before.keys (take l.document-index l.more)
