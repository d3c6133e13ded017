use Rattle.std.proofs.Common.{◌≡◌, All, IfSome, take}
use Rattle.islands.specs.Text.{place_in}
use Rattle.islands.specs.inner.Ground.{IsQuick}
use Rattle.islands.proofs.quick.all_reach.Given as goal

abbrev pub invariant-loop-branch : goal.invariant-loop-branch
invariant-loop-branch l = record {
  known : IfSome l.last (λ known. known.1 ≡ place_in l.layout known.0);
  quick : All (IsQuick l.layout l.reach) (take l.branch-index l.branches);
}
