use Rattle.std.proofs.Common.{[]}
use Rattle.std.specs.List.{enumerate_from}
use Rattle.unwind_link.specs.Kept.{kept_in}
use Rattle.unwind_link.proofs.GrowLemmas.{IsGrowing}
use Rattle.unwind_link.proofs.kept.kept_of.Given as goal

abbrev pub invariant-loop-at : goal.invariant-loop-at
invariant-loop-at l = IsGrowing (kept_in l.keys) [] l.kept.items (enumerate_from 0 l.files) l.at
