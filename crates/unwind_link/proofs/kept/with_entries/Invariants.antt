use Rattle.unwind_link.proofs.GrowLemmas.{IsGrowing}
use Rattle.unwind_link.proofs.KeptLemmas.{kept_if}
use Rattle.unwind_link.proofs.kept.with_entries.Given as goal

abbrev pub invariant-loop-unwind : goal.invariant-loop-unwind
invariant-loop-unwind l = IsGrowing (kept_if l.keys l.file) l.fn.before.items l.kept.items l.unwinds l.unwind-index
