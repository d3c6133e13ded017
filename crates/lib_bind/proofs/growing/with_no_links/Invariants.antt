use Rattle.std.proofs.Common.{[]}
use Rattle.tbd_doc.specs.declared.stub.Stub.{Stub}
use Rattle.lib_bind.proofs.GrowingLemmas.{IsMapping}
use Rattle.lib_bind.proofs.growing.with_no_links.Given as goal

abbrev pub invariant-loop-stub : goal.invariant-loop-stub
invariant-loop-stub l = IsMapping (λ (stub : Stub). []) l.stubs l.fn.before l._stub-index l.all
