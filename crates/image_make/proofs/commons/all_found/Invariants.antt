use Rattle.std.proofs.Common.{[]}
use Rattle.liveness.proofs.GrowLemmas.{IsGrowing}
use Rattle.image_make.proofs.CommonLemmas.{atom_if}
use Rattle.image_make.proofs.commons.all_found.Given as goal

abbrev pub invariant-loop-one : goal.invariant-loop-one
invariant-loop-one l = IsGrowing atom_if [] l.atoms.items l.found l.one-index
