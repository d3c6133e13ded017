use Rattle.std.proofs.Common.{All, List, refl, subst}
use Rattle.std.proofs.lemmas.List.{take_all}
use Rattle.std.proofs.lemmas.List.Elements.{All-more}
use Rattle.islands.specs.declared.branch.Branch.{Branch}
use Rattle.islands.specs.inner.Ground.{IsQuick}
use Rattle.islands.proofs.quick.all_reach.Goals as goal

pub loop-branch-preserved : goal.loop-branch-preserved
loop-branch-preserved c = record {
  known = c.from_in-from.ensures;
  quick = All-more (IsQuick c.args.layout.now c.args.reach) c.args.branches.now c.loop-branch.branch-index c.branch-item.result c.loop-branch-test.true c.loop-branch.invariant.quick
      (subst (λ (branch : Branch). IsQuick c.args.layout.now c.args.reach branch) c.branch-item.is (c.if-not-reaches.ensures refl));
}

pub returns : goal.returns
returns c = λ _. subst (λ (branches : List Branch). All (IsQuick c.args.layout.now c.args.reach) branches) (take_all c.loop-branch.branch-index c.args.branches.now c.loop-branch-test.false) c.loop-branch.invariant.quick
