use Rattle.std.proofs.Common.{◌≡◌, ℕ, ◌-◌, ◌<◌, ◌≤◌, List, length, get_or, ap, sym, ◌∙◌, arith}
use Rattle.std.specs.declared.cmp.Ordering.TheVariants.{Less}
use Rattle.std.proofs.lemmas.List.{get_or_default}
use Rattle.std.proofs.lemmas.List.Sorted.{all_adjacent_more}
use Rattle.fold_code.specs.declared.node.FoldNode.{FoldNode}
use Rattle.mo_types.specs.Keys.{compare_keys}
use Rattle.atom_index.proofs.Keys.{rises_from}
use Rattle.fold_tests.proofs.given.is_rising.Goals as goal

apart : (atoms : List FoldNode) (i : ℕ) (a b d : FoldNode) → 1 ≤ i → i < length atoms → Less ≡ compare_keys (get_or atoms (i - 1) a).key (get_or atoms i b).key → compare_keys (get_or atoms (i - 1) d).key (get_or atoms i d).key ≡ Less
apart atoms i a b d low high less =
    let first : get_or atoms (i - 1) d ≡ get_or atoms (i - 1) a = get_or_default atoms (i - 1) d a (omega arith) in
    let second : get_or atoms i d ≡ get_or atoms i b = get_or_default atoms i d b high in
    ap (λ (x : FoldNode). compare_keys x.key (get_or atoms i d).key) first ∙ (ap (λ (x : FoldNode). compare_keys (get_or atoms (i - 1) a).key x.key) second ∙ sym less)

pub loop-i-preserved : goal.loop-i-preserved
loop-i-preserved c = all_adjacent_more c.args.nodes.now (λ (a : FoldNode) (b : FoldNode). compare_keys a.key b.key ≡ Less) c.loop-i.i (omega arith) c.loop-i.invariant
    (λ d. apart c.args.nodes.now c.loop-i.i _ _ d (omega arith) c.loop-i-test.true c.in-Less.ensures)

pub returns : goal.returns
returns c = λ _. rises_from (λ (atom : FoldNode). atom.key) c.args.nodes.now c.loop-i.i c.loop-i.invariant c.loop-i-test.false
