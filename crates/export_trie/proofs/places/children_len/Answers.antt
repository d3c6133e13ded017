use Rattle.std.proofs.Common.{◌-◌, ◌+◌, ◌^◌, ◌≤◌, get_or, refl, rules, arith}
use Rattle.export_trie.specs.Held.{node_at}
use Rattle.export_trie.specs.Sizes.{children_len}
use Rattle.export_trie.proofs.Lengths.{children_more, children_all}
use Rattle.export_trie.proofs.places.children_len.Goals as goal

pub loop-child-preserved : goal.loop-child-preserved
loop-child-preserved c =
    children_more c.args.nodes.now c.args.places.now c.args.above c.args.row.now c.loop-child.child-index c.loop-child.size
    ((get_or c.args.nodes.now (get_or c.args.row.now c.loop-child.child-index 0) (node_at 0 0)).len - c.args.above) c.uleb_len-number.result c.in_ok-size.size
    c.loop-child-test.true c.loop-child.invariant refl c.uleb_len-number.ensures.exact (omega (arith, c.in_ok-checked_add.ensures.1, c.in_ok-size.ensures.1))

pub returns-clause-exact : goal.returns-clause-exact
returns-clause-exact c = children_all _ _ _ _ c.loop-child.child-index c.loop-child.size c.loop-child-test.false c.loop-child.invariant

pub returns-in_err-checked_add-clause-none : goal.returns-in_err-checked_add-clause-none
returns-in_err-checked_add-clause-none c =
    let edge = (get_or c.args.nodes.now (get_or c.args.row.now c.loop-child.child-index 0) (node_at 0 0)).len - c.args.above in
    let more = children_more c.args.nodes.now c.args.places.now c.args.above c.args.row.now c.loop-child.child-index c.loop-child.size
    edge c.uleb_len-number.result (c.loop-child.size + edge + (1 + c.uleb_len-number.result))
    c.loop-child-test.true c.loop-child.invariant refl c.uleb_len-number.ensures.exact refl in
    let many : 2 ^ 64 ≤ children_len c.args.nodes.now c.args.places.now c.args.above c.args.row.now = omega (arith, more, c.in_err-checked_add.ensures) in
    search rules

pub returns-in_err-size-clause-none : goal.returns-in_err-size-clause-none
returns-in_err-size-clause-none c =
    let edge = (get_or c.args.nodes.now (get_or c.args.row.now c.loop-child.child-index 0) (node_at 0 0)).len - c.args.above in
    let more = children_more c.args.nodes.now c.args.places.now c.args.above c.args.row.now c.loop-child.child-index c.loop-child.size
    edge c.uleb_len-number.result (c.loop-child.size + edge + (1 + c.uleb_len-number.result))
    c.loop-child-test.true c.loop-child.invariant refl c.uleb_len-number.ensures.exact refl in
    let many : 2 ^ 64 ≤ children_len c.args.nodes.now c.args.places.now c.args.above c.args.row.now = omega (arith, more, c.in_ok-checked_add.ensures, c.in_err-size.ensures) in
    search rules
