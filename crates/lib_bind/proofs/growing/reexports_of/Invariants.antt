use Rattle.std.proofs.Common.{[]}
use Rattle.lib_bind.specs.Closing.{reexport_by}
use Rattle.lib_bind.specs.Found.{found}
use Rattle.lib_bind.proofs.GrowingLemmas.{IsMapping}
use Rattle.lib_bind.proofs.growing.reexports_of.Given as goal

abbrev pub invariant-loop-install : goal.invariant-loop-install
invariant-loop-install l = IsMapping (λ install. reexport_by (found install l.places) (found install l.heads) install) l.names [] l.install-index l.all.items
