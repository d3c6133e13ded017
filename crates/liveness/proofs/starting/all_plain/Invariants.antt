use Rattle.std.proofs.Common.{[]}
use Rattle.liveness.specs.Roots.{plain_roots}
use Rattle.liveness.proofs.GrowLemmas.{IsGrowing}
use Rattle.liveness.proofs.starting.all_plain.Given as goal

abbrev pub invariant-loop-at : goal.invariant-loop-at
invariant-loop-at l = IsGrowing (plain_roots l.symbols) [] l.roots.items l.files l.at
