use Rattle.std.proofs.Common.{ℕ, get_or, subst, sym, ◌∙◌, arith}
use Rattle.std.specs.List.{AllByRecursion}
use Rattle.std.proofs.lemmas.List.{get_or_default}
use Rattle.std.proofs.Common.{below_more}
use Rattle.export_trie.specs.declared.nodes.Node.{Node}
use Rattle.export_trie.specs.Held.{held, rows_of, node_at}
use Rattle.export_trie.specs.Sizes.{IsBelow, export_held, IsSmall}
use Rattle.export_trie.proofs.Reading.{row_is, length-rows_of}
use Rattle.export_trie.proofs.Lengths.{bytes_more, bytes_all}
use Rattle.export_trie.proofs.spell.spell.Goals as goal

pub put_node-requires-clause-below : goal.put_node-requires-clause-below
put_node-requires-clause-below c =
    let row = row_is c.args.rows.now c.loop-at.at c.index-rows-at.result c.as_slice.result.now (omega (arith, c.requires.rows)) c.index-rows-at.is c.as_slice.ensures.value in
    subst (AllByRecursion (IsBelow c.args.nodes.now (get_or c.args.nodes.now c.loop-at.at (node_at 0 0)).len)) (sym row) (c.requires.below c.loop-at.at c.loop-at-test.true)

pub loop-at-preserved : goal.loop-at-preserved
loop-at-preserved c =
    let row = row_is c.args.rows.now c.loop-at.at c.index-rows-at.result c.as_slice.result.now (omega (arith, c.requires.rows)) c.index-rows-at.is c.as_slice.ensures.value in
    record {
      exact = bytes_more (held c.args.exports.now) c.args.nodes.now c.args.places.now (rows_of c.args.rows.now) c.loop-at.at c.loop-at.out.items _ c.put_node.new.out.items c.as_slice.result.now (node_at 0 0)
          c.loop-at-test.true (length-rows_of c.args.rows.now ∙ c.requires.rows) c.loop-at.invariant.exact row c.in_ok-put_node.ensures.ok;
      small = below_more (λ (k : ℕ). IsSmall (export_held (held c.args.exports.now) (get_or c.args.nodes.now k (node_at 0 0)))) c.loop-at.at c.loop-at.invariant.small c.in_ok-put_node.ensures.small;
    }

pub returns-clause-exact : goal.returns-clause-exact
returns-clause-exact c = bytes_all _ _ _ _ c.loop-at.at _ _ c.loop-at-test.false c.loop-at.invariant.exact

pub returns-clause-small : goal.returns-clause-small
returns-clause-small c =
    λ k d within. subst (λ (node : Node). IsSmall (export_held (held c.args.exports.now) node)) (get_or_default c.args.nodes.now k (node_at 0 0) d within)
    (c.loop-at.invariant.small k (omega arith))
