-- The search goes on along the bucket, to the node of the name or to the end.
use Rattle.std.proofs.Common.{sym, ◌∙◌}
use Rattle.mo_ar.specs.declared.index.Node.{Node}
use Rattle.mo_ar.specs.inner.Index.{node_name}
use Rattle.mo_ar.proofs.IndexLemmas.{find_finds, find_goes_on}
use Rattle.mo_ar.proofs.index.find.Goals as goal

none : Node
none = record { entry = record { at = 0; size = 0; member = 0 }; next = 0 }

pub returns-then-is_named-clause-found : goal.returns-then-is_named-clause-found
unfolding node_name none
returns-then-is_named-clause-found c =
    find_finds c.args.strings.now c.args.order.now c.args.count c.args.nodes.now c.args.name.now c.loop-at.at none c.loop-at.invariant c.loop-at-test.true (sym c.is_named.ensures ∙ c.if-is_named.true)

pub loop-at-preserved : goal.loop-at-preserved
unfolding node_name none
loop-at-preserved c =
    find_goes_on c.args.strings.now c.args.order.now c.args.count c.args.nodes.now c.args.name.now c.loop-at.at none c.loop-at.invariant c.requires.nexts c.loop-at-test.true (sym c.is_named.ensures ∙ c.if-is_named.false)
