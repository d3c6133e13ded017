use Rattle.std.proofs.Common.{All}
use Rattle.mo_ar.specs.inner.Index.{IsEntry}
use Rattle.mo_ar.proofs.order.with_names.Given as goal

abbrev pub invariant-loop-entry : goal.invariant-loop-entry
invariant-loop-entry l = All (λ named. IsEntry l.strings named.entry) l.names.items
