use Rattle.std.proofs.lemmas.List.{get_or_default}
use Rattle.literal_merge.proofs.GroupLemmas.{listed}
use Rattle.literal_merge.proofs.groups.list.Goals as goal

pub loop-literal-preserved : goal.loop-literal-preserved
loop-literal-preserved c = λ all are.
    listed all c.args.literals.now c.loop-literal.literal-index _ c.loop-literal.list.items c.push.new.self.items c.representative_of.result c.loop-literal-test.true
    (get_or_default c.args.literals.now c.loop-literal.literal-index _ _ c.loop-literal-test.true)
    (c.loop-literal.invariant all are) (c.representative_of.ensures all are) c.in_ok-push.ensures.items
