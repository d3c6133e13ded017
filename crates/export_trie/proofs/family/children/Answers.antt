use Rattle.std.proofs.Common.{◌≡◌, [], ℕ, length, replicate, sym, subst, ap, ◌∙◌, arith}
use Rattle.std.proofs.lemmas.List.{get_or_read_under}
use Rattle.export_trie.specs.Held.{held_names, texts, rows_of, IsParent}
use Rattle.export_trie.proofs.Reading.{held_rising, held_root, length-texts, length-rows_of, rows_push}
use Rattle.export_trie.proofs.Parents.{holds_none, holds_more, holds_all}
use Rattle.export_trie.proofs.family.children.Goals as goal

pub loop-at-init : goal.loop-at-init
loop-at-init c =
    let strings = held_names c.args.exports.now in
    holds_none (texts strings c.args.nodes.now) (rows_of c.in_ok-rows.rows.items) (held_rising strings c.args.nodes.now c.requires) (held_root strings c.args.nodes.now c.requires)
    (c.in_ok-rows.ensures ∙ ap (λ (n : ℕ). replicate n []) (sym (length-texts strings c.args.nodes.now)))

pub index_mut-row-requires : goal.index_mut-row-requires
index_mut-row-requires c =
    let strings = held_names c.args.exports.now in
    let long : length (texts strings c.args.nodes.now) ≡ length c.args.nodes.now = length-texts strings c.args.nodes.now in
    let is = c.in_ok-parents.ensures.each c.loop-at.at c.loop-at.auto.at c.loop-at-test.true in
    let parent = get_or_read_under _ c.loop-at.at _ _ 0 c.index.ensures (omega (arith, c.in_ok-parents.ensures.long)) c.in_ok-parents.parents.ok.0 in
    omega (arith, is.before, parent, c.loop-at.rows.ok.0, length-rows_of c.loop-at.rows.items, c.loop-at.invariant.long)

pub loop-at-preserved : goal.loop-at-preserved
loop-at-preserved c =
    let strings = held_names c.args.exports.now in
    let nodes = texts strings c.args.nodes.now in
    let long : length nodes ≡ length c.args.nodes.now = length-texts strings c.args.nodes.now in
    let parent = get_or_read_under _ c.loop-at.at _ _ 0 c.index.ensures (omega (arith, c.in_ok-parents.ensures.long)) c.in_ok-parents.parents.ok.0 in
    let is = subst (IsParent nodes c.loop-at.at) (sym parent) (c.in_ok-parents.ensures.each c.loop-at.at c.loop-at.auto.at c.loop-at-test.true) in
    holds_more nodes (rows_of c.loop-at.rows.items) _ c.loop-at.at c.index.result.now (held_rising strings c.args.nodes.now c.requires) (omega arith) is c.loop-at.invariant
    (rows_push c.loop-at.rows.items c.index.result.now _ _ _ (omega (arith, is.before, length-rows_of c.loop-at.rows.items, c.loop-at.invariant.long)) c.index_mut-row.ensures.value c.in_ok-push.ensures.items)

pub returns : goal.returns
returns c =
    let strings = held_names c.args.exports.now in
    let long : length (texts strings c.args.nodes.now) ≡ length c.args.nodes.now = length-texts strings c.args.nodes.now in
    holds_all (texts strings c.args.nodes.now) (rows_of c.loop-at.rows.items) c.loop-at.at (omega arith) c.loop-at.invariant
