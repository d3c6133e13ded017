use Rattle.export_trie.proofs.Lengths.{row_more, row_all}
use Rattle.export_trie.proofs.spell.put_children.Goals as goal

pub loop-child-preserved : goal.loop-child-preserved
loop-child-preserved c =
    row_more _ _ _ c.args.above c.args.row.now c.loop-child.child-index c.loop-child.out.items _ c.put_child.new.out.items c.edge_of-edge.result.now
    c.loop-child-test.true c.loop-child.invariant c.edge_of-edge.ensures c.in_ok-put_child.ensures

pub returns : goal.returns
returns c = row_all _ _ _ _ _ c.loop-child.child-index _ _ c.loop-child-test.false c.loop-child.invariant
