use Rattle.std.proofs.Common.{[]}
use Rattle.std.specs.List.{enumerate_from}
use Rattle.image_make.specs.Atoms.{kept_in}
use Rattle.liveness.proofs.GrowLemmas.{IsGrowing}
use Rattle.image_make.proofs.kept.kept_of.Given as goal

abbrev pub invariant-loop-at : goal.invariant-loop-at
invariant-loop-at l = IsGrowing (kept_in l.symbols.literals l.symbols.winners l.keys) [] l.kept (enumerate_from 0 l.files) l.at
