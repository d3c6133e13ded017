use Rattle.std.proofs.Common.{◌≤◌, length, ◌∙◌, sym, subst, ℕ, List}
use Rattle.std.proofs.lemmas.List.{length-take-le}
use Rattle.export_trie.specs.Held.{held_names}
use Rattle.export_trie.proofs.Reading.{name_at, text_is}
use Rattle.export_trie.proofs.nodes.text_of.Goals as goal

pub slice_bounds-result-end : goal.slice_bounds-result-end
slice_bounds-result-end c =
    let same = name_at c.args.exports.now c.args.node.name c.in-Some.export.now c.in-Some.ensures.lookup.3.0 c.in-Some.ensures.lookup.3.1 ∙ sym c.as_slice.ensures in
    sym (length-take-le c.args.node.len c.as_slice.result.now (subst (λ (name : List ℕ). c.args.node.len ≤ length name) same c.requires))

pub returns-in-Some-clause-value : goal.returns-in-Some-clause-value
returns-in-Some-clause-value c =
    text_is (held_names c.args.exports.now) c.args.node c.as_slice.result.now
    (name_at c.args.exports.now c.args.node.name c.in-Some.export.now c.in-Some.ensures.lookup.3.0 c.in-Some.ensures.lookup.3.1 ∙ sym c.as_slice.ensures)

pub returns-in-Some-clause-len : goal.returns-in-Some-clause-len
returns-in-Some-clause-len c =
    let same = name_at c.args.exports.now c.args.node.name c.in-Some.export.now c.in-Some.ensures.lookup.3.0 c.in-Some.ensures.lookup.3.1 ∙ sym c.as_slice.ensures in
    length-take-le c.args.node.len c.as_slice.result.now (subst (λ (name : List ℕ). c.args.node.len ≤ length name) same c.requires)
