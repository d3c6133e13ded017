use Rattle.std.proofs.Common.{ℕ, ◌<◌, ◌≤◌, length, nat_eq, ap, subst, ◌∙◌, arith}
use Rattle.indexmap.specs.IndexSet.{insert_all}
use Rattle.lib_bind.proofs.ReachLemmas.{among, ends, few, next, reached_below}
use Rattle.lib_bind.proofs.reach.reached.Goals as goal

pub links_of-requires : goal.links_of-requires
links_of-requires c =
    let low : c.loop-at.at < length c.loop-at.found.keys = subst (λ (n : ℕ). c.loop-at.at < n) c.len.ensures.len c.if-at-len.false in
    reached_below c.args.links.now c.args.from c.document_at-document.result c.requires.links c.requires.from
    (c.loop-at.invariant.only c.document_at-document.result (among c.loop-at.found.keys c.loop-at.at c.document_at-document.result low c.document_at-document.ensures))

pub loop-at-preserved : goal.loop-at-preserved
loop-at-preserved c =
    let low : c.loop-at.at < length c.loop-at.found.keys = subst (λ (n : ℕ). c.loop-at.at < n) c.len.ensures.len c.if-at-len.false in
    next c.args.links.now c.args.from c.loop-at.found.keys c.in_ok-found.found.keys c.loop-at.at c.document_at-document.result c.loop-at.invariant low c.document_at-document.ensures
    (c.in_ok-found.ensures ∙ ap (insert_all nat_eq c.loop-at.found.keys) c.links_of.ensures)

pub returns : goal.returns
returns c =
    let count : length c.loop-at.found.keys ≤ length c.args.links.now = few c.args.links.now c.args.from c.loop-at.found.keys c.loop-at.at c.loop-at.invariant c.requires.links c.requires.from c.in_ok-list_of-2.ensures.once in
    ends c.args.links.now c.args.from c.loop-at.found.keys c.in_ok-list_of-2.field-0 c.loop-at.at c.loop-at.invariant (omega (arith, count, c.loop-at-test.false)) c.in_ok-list_of-2.ensures.same c.in_ok-list_of-2.ensures.rising

pub returns-then-at-len : goal.returns-then-at-len
returns-then-at-len c =
    let past : length c.loop-at.found.keys ≤ c.loop-at.at = subst (λ (n : ℕ). n ≤ c.loop-at.at) c.len.ensures.len c.if-at-len.true in
    ends c.args.links.now c.args.from c.loop-at.found.keys c.in_ok-list_of.field-0 c.loop-at.at c.loop-at.invariant past c.in_ok-list_of.ensures.same c.in_ok-list_of.ensures.rising
