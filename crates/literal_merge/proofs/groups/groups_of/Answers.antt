use Rattle.std.proofs.Common.{◌∙◌}
use Rattle.literal_merge.proofs.GroupLemmas.{groups_step}
use Rattle.literal_merge.proofs.groups.groups_of.Goals as goal

pub loop-literal-preserved : goal.loop-literal-preserved
loop-literal-preserved c =
    groups_step c.loop-literal.groups c.insert.new.self c.args.literals.now c.loop-literal.literal-index _ c.copied.result c.with-group.result c.loop-literal.invariant c.loop-literal-test.true
    (c.copied.ensures ∙ c.get.ensures.value) c.with-group.ensures c.in_ok-insert.ensures.updates
