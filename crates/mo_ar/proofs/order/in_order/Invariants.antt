use Rattle.std.proofs.Common.{All}
use Rattle.mo_ar.specs.inner.Index.{IsEntry}
use Rattle.mo_ar.proofs.order.in_order.Given as goal

abbrev pub invariant-loop-named : goal.invariant-loop-named
invariant-loop-named l = All (IsEntry l.strings) l.order.items
