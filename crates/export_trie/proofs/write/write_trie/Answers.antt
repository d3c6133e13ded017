use Rattle.std.proofs.Common.{◌<◌, ℕ, List, length, subst, sym, ap, ◌∙◌, arith, IsPermutation}
use Rattle.std.specs.Borrow.{Bor}
use Rattle.std.specs.List.Sorted.{IsStrictlySortedBy}
use Rattle.std.specs.Ordering.{nat_cmp}
use Rattle.std.specs.Cmp.Lexicographic.{slice_cmp}
use Rattle.export_trie.specs.declared.export.ExportAddress.{ExportAddress}
use Rattle.export_trie.specs.Trie.{padded}
use Rattle.export_trie.specs.Held.{held, held_names, rows_of}
use Rattle.export_trie.specs.Sizes.{AreLeast}
use Rattle.export_trie.proofs.Reading.{row_read, length-rows_of}
use Rattle.export_trie.proofs.Written.{order_rises}
use Rattle.export_trie.proofs.Finished.{tree_from, rows_few, trie_is, trie_answers}
use Rattle.export_trie.proofs.Unique.{one_trie}
use Rattle.export_trie.proofs.write.write_trie.Goals as goal

pub nodes-requires : goal.nodes-requires
nodes-requires c =
    subst (λ (order : List (Bor ExportAddress)). IsStrictlySortedBy (slice_cmp nat_cmp) (held_names order)) (sym c.as_slice-order.ensures.value)
    (order_rises c.args.exports.now (held c.in_ok-order.order.items) c.requires.distinct
    (subst (λ (es : List ExportAddress). IsPermutation es (held c.in_ok-order.order.items)) c.as_slice.ensures c.in_ok-order.ensures.permutation) c.in_ok-order.ensures.sorted)

pub places-requires-clause-below : goal.places-requires-clause-below
places-requires-clause-below c =
    let tree = tree_from c.args.exports.now _ c.as_slice-order.result.now _ c.as_slice-nodes.result.now _ c.as_slice-rows.result.now _
    c.as_slice.ensures c.as_slice-order.ensures.value c.as_slice-nodes.ensures.value c.as_slice-rows.ensures.value
    c.requires.distinct c.in_ok-order.ensures.permutation c.in_ok-order.ensures.sorted c.in_ok-nodes.ensures.held c.in_ok-rows.ensures in
    tree.below

pub spell-requires-clause-below : goal.spell-requires-clause-below
spell-requires-clause-below c =
    let tree = tree_from c.args.exports.now _ c.as_slice-order.result.now _ c.as_slice-nodes.result.now _ c.as_slice-rows.result.now _
    c.as_slice.ensures c.as_slice-order.ensures.value c.as_slice-nodes.ensures.value c.as_slice-rows.ensures.value
    c.requires.distinct c.in_ok-order.ensures.permutation c.in_ok-order.ensures.sorted c.in_ok-nodes.ensures.held c.in_ok-rows.ensures in
    tree.below

pub spell-requires-clause-few : goal.spell-requires-clause-few
spell-requires-clause-few c = λ k d within.
    let tree = tree_from c.args.exports.now _ c.as_slice-order.result.now _ c.as_slice-nodes.result.now _ c.as_slice-rows.result.now _
    c.as_slice.ensures c.as_slice-order.ensures.value c.as_slice-nodes.ensures.value c.as_slice-rows.ensures.value
    c.requires.distinct c.in_ok-order.ensures.permutation c.in_ok-order.ensures.sorted c.in_ok-nodes.ensures.held c.in_ok-rows.ensures in
    let few = rows_few c.args.exports.now (held c.as_slice-order.result.now) c.as_slice-nodes.result.now (rows_of c.as_slice-rows.result.now) k tree c.requires.no_nul c.in_ok-nodes.ensures.bytes (omega (arith, length-rows_of c.as_slice-rows.result.now)) in
    subst (λ (row : List ℕ). length row < 256) (row_read c.as_slice-rows.result.now k d within) few

pub returns-clause-exact : goal.returns-clause-exact
returns-clause-exact c =
    let tree = tree_from c.args.exports.now _ c.as_slice-order.result.now _ c.as_slice-nodes.result.now _ c.as_slice-rows.result.now _
    c.as_slice.ensures c.as_slice-order.ensures.value c.as_slice-nodes.ensures.value c.as_slice-rows.ensures.value
    c.requires.distinct c.in_ok-order.ensures.permutation c.in_ok-order.ensures.sorted c.in_ok-nodes.ensures.held c.in_ok-rows.ensures in
    trie_is c.args.exports.now (held c.as_slice-order.result.now) c.as_slice-nodes.result.now (rows_of c.as_slice-rows.result.now) tree c.as_slice-2.result.now _
    (subst (AreLeast (held c.as_slice-order.result.now) c.as_slice-nodes.result.now (rows_of c.as_slice-rows.result.now)) (sym c.as_slice-2.ensures.value) c.in_ok-places.ensures)
    (c.in_ok-pad.ensures ∙ ap padded c.in_ok-bytes.ensures.exact)

pub returns-clause-only : goal.returns-clause-only
returns-clause-only c = λ other is.
    let tree = tree_from c.args.exports.now _ c.as_slice-order.result.now _ c.as_slice-nodes.result.now _ c.as_slice-rows.result.now _
    c.as_slice.ensures c.as_slice-order.ensures.value c.as_slice-nodes.ensures.value c.as_slice-rows.ensures.value
    c.requires.distinct c.in_ok-order.ensures.permutation c.in_ok-order.ensures.sorted c.in_ok-nodes.ensures.held c.in_ok-rows.ensures in
    one_trie c.args.exports.now other _ is
    (trie_is c.args.exports.now (held c.as_slice-order.result.now) c.as_slice-nodes.result.now (rows_of c.as_slice-rows.result.now) tree c.as_slice-2.result.now _
    (subst (AreLeast (held c.as_slice-order.result.now) c.as_slice-nodes.result.now (rows_of c.as_slice-rows.result.now)) (sym c.as_slice-2.ensures.value) c.in_ok-places.ensures)
    (c.in_ok-pad.ensures ∙ ap padded c.in_ok-bytes.ensures.exact))

pub returns-clause-found : goal.returns-clause-found
returns-clause-found c =
    let tree = tree_from c.args.exports.now _ c.as_slice-order.result.now _ c.as_slice-nodes.result.now _ c.as_slice-rows.result.now _
    c.as_slice.ensures c.as_slice-order.ensures.value c.as_slice-nodes.ensures.value c.as_slice-rows.ensures.value
    c.requires.distinct c.in_ok-order.ensures.permutation c.in_ok-order.ensures.sorted c.in_ok-nodes.ensures.held c.in_ok-rows.ensures in
    trie_answers c.args.exports.now (held c.as_slice-order.result.now) c.as_slice-nodes.result.now (rows_of c.as_slice-rows.result.now) tree c.as_slice-2.result.now _
    (subst (AreLeast (held c.as_slice-order.result.now) c.as_slice-nodes.result.now (rows_of c.as_slice-rows.result.now)) (sym c.as_slice-2.ensures.value) c.in_ok-places.ensures)
    (c.in_ok-pad.ensures ∙ ap padded c.in_ok-bytes.ensures.exact)
    c.in_ok-bytes.ensures.small c.requires.no_nul (omega (arith, c.pad.new.out.ok.0, c.pad.new.out.small))
