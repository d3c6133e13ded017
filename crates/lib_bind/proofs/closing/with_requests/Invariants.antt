use Rattle.lib_bind.proofs.GrowingLemmas.{IsMapping}
use Rattle.lib_bind.proofs.closing.with_requests.Given as goal

abbrev pub invariant-loop-reexport : goal.invariant-loop-reexport
invariant-loop-reexport l = IsMapping (λ reexport. record { from = l.from; reexport = reexport }) l.reexports l.fn.before l.reexport-index l.all
