-- The entries of the names are those that were sorted.
use Rattle.std.proofs.Common.{All, List, subst, sym}
use Rattle.std.proofs.lemmas.List.Elements.{All-push}
use Rattle.std.proofs.lemmas.List.Sorted.{All-permutation}
use Rattle.mo_ar.specs.declared.offers.Entry.{Entry}
use Rattle.mo_ar.specs.declared.order.Named.{Named}
use Rattle.mo_ar.specs.inner.Index.{IsEntry}
use Rattle.mo_ar.proofs.order.in_order.Goals as goal

pub loop-named-preserved : goal.loop-named-preserved
loop-named-preserved c =
    let sorted : All (λ (named : Named). IsEntry c.args.strings.now named.entry) c.sort_unstable_by.new.self.items =
    All-permutation (λ (named : Named). IsEntry c.args.strings.now named.entry) c.in_ok-names.names.items c.sort_unstable_by.new.self.items c.sort_unstable_by.ensures.permutation c.in_ok-names.ensures in
    let there : All (λ (named : Named). IsEntry c.args.strings.now named.entry) c.deref-named-items.result.now =
    subst (λ (names : List Named). All (λ (named : Named). IsEntry c.args.strings.now named.entry) names) (sym c.deref-named-items.ensures.value) sorted in
    subst (λ (entries : List Entry). All (IsEntry c.args.strings.now) entries) (sym c.in_ok-push.ensures.items)
    (All-push (IsEntry c.args.strings.now) c.loop-named.order.items _ c.loop-named.invariant (there c.loop-named.named-index _ c.loop-named-test.true))
