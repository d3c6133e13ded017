use Rattle.dylib_read.proofs.OwnLemmas.{edges_is}
use Rattle.dylib_read.proofs.EdgeLemmas.{entering_ends, entering_goes_on, entering_starts}
use Rattle.dylib_read.proofs.TrieWalkLemmas.{entering_stops, not_a_node}
use Rattle.dylib_read.proofs.trie_walk.enter.Goals as goal

pub returns-in_default-clause-err : goal.returns-in_default-clause-err
returns-in_default-clause-err c =
    not_a_node c.args.trie.now c.args.links.now c.args.led.now c.args.pool.now.items c.args.at 0 c.args.at c.link_at-link.result c.in_ok-node.field-0
    c.requires.walked c.link_at-link.ensures c.in_ok-node.ensures c.in_default.is

pub loop-number-init : goal.loop-number-init
loop-number-init c =
    entering_starts c.args.trie.now c.args.links.now c.args.led.now c.args.pool.now.items c.put_bounds.new.bounds.items c.as_slice.result.now c.args.at c.link_at-link.result
    c.in_ok-node.field-0 c.in-Some.node c.requires.walked c.link_at-link.ensures c.as_slice.ensures.value c.in_ok-put_bounds.ensures c.in_ok-node.ensures c.in-Some.is

pub returns-then-not-branch-clause-err : goal.returns-then-not-branch-clause-err
returns-then-not-branch-clause-err c =
    entering_stops c.args.trie.now c.loop-number.links c.loop-number.led c.loop-number.pool.items c.loop-number.bounds.items c.args.at c.loop-number.number
    c.as_slice-edges.result.now _ c.loop-number.invariant
    (edges_is c.args.trie.now c.args.at c.in_ok-node.field-0 c.in-Some.node c.as_slice-edges.result.now c.in_ok-node.ensures c.in-Some.is c.as_slice-edges.ensures)
    c.loop-number-test.true (c.in_ok-follow.ensures.stops c.if-not-branch.true)

pub loop-number-preserved : goal.loop-number-preserved
loop-number-preserved c =
    entering_goes_on c.args.trie.now c.loop-number.links c.follow.new.links c.loop-number.led c.follow.new.led c.loop-number.pool.items c.follow.new.pool.items
    c.loop-number.bounds.items c.follow.new.bounds.items c.args.at c.loop-number.number c.as_slice-edges.result.now _ c.loop-number.invariant
    (edges_is c.args.trie.now c.args.at c.in_ok-node.field-0 c.in-Some.node c.as_slice-edges.result.now c.in_ok-node.ensures c.in-Some.is c.as_slice-edges.ensures)
    c.loop-number-test.true (c.in_ok-follow.ensures.goes c.if-not-branch.false)

pub returns-clause-ok : goal.returns-clause-ok
returns-clause-ok c =
    entering_ends c.args.trie.now c.loop-number.links c.loop-number.led c.loop-number.pool.items c.loop-number.bounds.items c.args.at c.loop-number.number
    c.as_slice-edges.result.now c.loop-number.invariant
    (edges_is c.args.trie.now c.args.at c.in_ok-node.field-0 c.in-Some.node c.as_slice-edges.result.now c.in_ok-node.ensures c.in-Some.is c.as_slice-edges.ensures)
    c.loop-number-test.false
