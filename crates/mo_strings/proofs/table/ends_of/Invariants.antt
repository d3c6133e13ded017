use Rattle.mo_strings.proofs.TableLemmas.{IsNoting}
use Rattle.mo_strings.proofs.table.ends_of.Given as goal

abbrev pub invariant-loop-block : goal.invariant-loop-block
invariant-loop-block l = IsNoting l.bytes l.block l.to l.end l.ends.items

abbrev pub decreases-loop-block : goal.decreases-loop-block
decreases-loop-block l = l.block
