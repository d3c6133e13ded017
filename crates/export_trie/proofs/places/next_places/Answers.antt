use Rattle.std.proofs.Common.{◌<◌, ◌^◌, ℕ, get_or, subst, sym, ap, ◌∙◌, arith}
use Rattle.std.specs.List.{AllByRecursion}
use Rattle.std.proofs.lemmas.List.Elements.{All-push}
use Rattle.export_trie.specs.Held.{held, rows_of, node_at}
use Rattle.export_trie.specs.Sizes.{IsBelow, node_len}
use Rattle.export_trie.proofs.Reading.{row_is, length-rows_of}
use Rattle.export_trie.proofs.Lengths.{starts_more, starts_all}
use Rattle.export_trie.proofs.places.next_places.Goals as goal

pub node_len-requires-clause-below : goal.node_len-requires-clause-below
node_len-requires-clause-below c =
    let row = row_is c.args.rows.now c.loop-at.at c.index-rows-at.result c.as_slice.result.now (omega (arith, c.requires.rows)) c.index-rows-at.is c.as_slice.ensures.value in
    subst (AllByRecursion (IsBelow c.args.nodes.now (get_or c.args.nodes.now c.loop-at.at (node_at 0 0)).len)) (sym row) (c.requires.below c.loop-at.at c.loop-at-test.true)

pub loop-at-preserved : goal.loop-at-preserved
loop-at-preserved c =
    let row = row_is c.args.rows.now c.loop-at.at c.index-rows-at.result c.as_slice.result.now (omega (arith, c.requires.rows)) c.index-rows-at.is c.as_slice.ensures.value in
    let size = c.in-Some.ensures.exact ∙ ap (node_len (held c.args.exports.now) c.args.nodes.now c.args.places.now (get_or c.args.nodes.now c.loop-at.at (node_at 0 0))) row in
    rw c.in_ok-push.ensures.items (record {
      exact = starts_more (held c.args.exports.now) c.args.nodes.now c.args.places.now (rows_of c.args.rows.now) c.loop-at.next.items c.loop-at.at c.loop-at.place c.in-Some.size c.in-Some-checked_add.end (node_at 0 0)
          c.loop-at-test.true (length-rows_of c.args.rows.now ∙ c.requires.rows) c.loop-at.invariant.exact size c.in-Some-checked_add.ensures.1;
      small = All-push (λ (place : ℕ). place < 2 ^ 64) c.loop-at.next.items c.loop-at.place c.loop-at.invariant.small (omega arith);
    })

pub returns-clause-exact : goal.returns-clause-exact
returns-clause-exact c = starts_all _ _ _ _ _ c.loop-at.at c.loop-at.place c.loop-at-test.false c.loop-at.invariant.exact
