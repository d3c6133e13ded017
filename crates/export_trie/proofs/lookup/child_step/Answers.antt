use Rattle.std.proofs.Common.{◌+◌, ◌-◌, ◌≡◌, ◌∙◌, suc, sym, arith}
use Rattle.export_trie.proofs.Walks.{begins_is, child_found, child_more}
use Rattle.export_trie.proofs.lookup.child_step.Goals as goal

pub returns-then-starts_with-clause-exact : goal.returns-then-starts_with-clause-exact
returns-then-starts_with-clause-exact c =
    let some : c.args.count - c.loop.counter ≡ suc (c.args.count - (c.loop.counter + 1)) = omega arith in
    c.step_down.ensures
    ∙ sym (c.loop.invariant
    ∙ child_found _ _ _ _ _ _ _ _ _ some (sym c.in-Some.ensures.exact) (sym c.in-Some-uleb_read.ensures.exact) (sym (begins_is c.in-Some.edge.now c.args.rest.now) ∙ sym c.if-starts_with.ensures.value))

pub loop-preserved : goal.loop-preserved
loop-preserved c =
    let some : c.args.count - c.loop.counter ≡ suc (c.args.count - (c.loop.counter + 1)) = omega arith in
    c.loop.invariant
    ∙ child_more _ _ _ _ _ _ _ _ _ some (sym c.in-Some.ensures.exact) (sym c.in-Some-uleb_read.ensures.exact) (sym (begins_is c.in-Some.edge.now c.args.rest.now) ∙ sym c.if-starts_with.ensures.value)
