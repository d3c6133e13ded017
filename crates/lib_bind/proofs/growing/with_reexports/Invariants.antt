use Rattle.std.proofs.Common.{map}
use Rattle.tbd_doc.specs.declared.stub.Stub.{Stub}
use Rattle.lib_bind.specs.Closing.{reexport_by}
use Rattle.lib_bind.specs.Found.{found}
use Rattle.lib_bind.proofs.GrowingLemmas.{IsMapping}
use Rattle.lib_bind.proofs.growing.with_reexports.Given as goal

abbrev pub invariant-loop-stub : goal.invariant-loop-stub
invariant-loop-stub l =
    IsMapping (λ (stub : Stub). map (λ install. reexport_by (found install l.places) (found install l.heads) install) stub.reexports) l.stubs l.fn.before l.stub-index l.all
