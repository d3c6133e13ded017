use Rattle.std.proofs.Common.{◌∙◌, ap, length, sym, rules}
use Rattle.std.proofs.lemmas.Bool.{eq-eqb, eqb-true, true≢false}
use Rattle.dylib_read.proofs.TrieLemmas.{all_exports, fault_found, no_exports, no_fault, whole}
use Rattle.dylib_read.proofs.trie.read_trie.Goals as goal

pub returns-then-is_empty-clause-exports : goal.returns-then-is_empty-clause-exports
returns-then-is_empty-clause-exports c =
    rw c.new.ensures (no_exports c.args.trie.now (eqb-true (length c.args.trie.now) 0 (sym c.is_empty.ensures ∙ c.if-is_empty.true)))

pub returns-then-is_empty-clause-whole : goal.returns-then-is_empty-clause-whole
returns-then-is_empty-clause-whole c =
    no_fault c.args.trie.now (eqb-true (length c.args.trie.now) 0 (sym c.is_empty.ensures ∙ c.if-is_empty.true))

pub returns-clause-exports : goal.returns-clause-exports
returns-clause-exports c =
    rw c.from_vec.ensures
    (all_exports c.args.trie.now c.in_ok-links.links.items c.in_ok-exports.exports.items c.put_in_order.new.exports.items (length c.as_slice.result.now)
    c.in_ok-links.ensures.ok (ap length c.as_slice.ensures.value) c.in_ok-exports.ensures c.put_in_order.ensures.permutation c.put_in_order.ensures.sorted)

pub returns-clause-whole : goal.returns-clause-whole
returns-clause-whole c = whole c.args.trie.now c.in_ok-links.links.items c.in_ok-links.ensures.ok

pub returns-in_err-links-clause-fault : goal.returns-in_err-links-clause-fault
returns-in_err-links-clause-fault c =
    fault_found c.args.trie.now c.in_err-links.field-0.0 c.from_residual.result
    (λ e. true≢false (sym (eq-eqb (length c.args.trie.now) 0 e) ∙ (sym c.is_empty.ensures ∙ c.if-is_empty.false)))
    c.in_err-links.ensures.err (search rules)
