-- The offer's name has a node already, or gets one in front of its bucket.
use Rattle.std.proofs.Common.{All, List, ap, arith, length, refl, subst, sym, ◌∙◌}
use Rattle.std.proofs.Math.ListN.{set}
use Rattle.mo_ar.specs.declared.index.Node.{Node}
use Rattle.mo_ar.specs.inner.Index.{IsNodeOf, IsOther, bucket}
use Rattle.mo_ar.proofs.IndexLemmas.{put_known, put_new}
use Rattle.mo_ar.proofs.index.put.Goals as goal

pub returns-in-Some-clause-index : goal.returns-in-Some-clause-index
returns-in-Some-clause-index c =
    let offered = c.args.offered.now in
    put_known offered.strings.now offered.order.now offered.entries.now c.args.heads.now c.name_of-name.result.now c.args.nodes.now.items _ c.args.at c.in-Some.known (record { at = 0; size = 0; member = 0 }) (record { entry = record { at = 0; size = 0; member = 0 }; next = 0 })
    c.requires.index c.requires.place c.name_of-name.ensures
    (subst (λ (nodes : List Node). IsNodeOf offered.strings.now nodes c.name_of-name.result.now c.in-Some.known) c.as_slice.ensures.value c.in-Some.ensures.found)
    (c.lower.ensures.lowered (record { entry = record { at = 0; size = 0; member = 0 }; next = 0 }))

pub returns-in_ok-push-in-None-clause-index : goal.returns-in_ok-push-in-None-clause-index
returns-in_ok-push-in-None-clause-index c =
    let offered = c.args.offered.now in
    put_new offered.strings.now offered.order.now offered.entries.now c.args.heads.now c.name_of-name.result.now _ c.args.nodes.now.items _ c.args.at c.args.b (record { at = 0; size = 0; member = 0 }) _
    c.requires.index offered.entries_are c.requires.place c.name_of-name.ensures
    (c.requires.bucket (record { at = 0; size = 0; member = 0 }) ∙ ap (bucket offered.strings.now offered.order.now (length c.args.heads.now)) (sym c.name_of-name.ensures)) c.requires.inside
    (subst (λ (nodes : List Node). All (IsOther offered.strings.now c.name_of-name.result.now) nodes) c.as_slice.ensures.value c.in-None.ensures.none)
    refl c.in_ok-push-in-None.ensures.items
    (ap (set c.args.heads.now c.args.b) (omega (arith, c.len.ensures, c.in_ok-push-in-None.ensures.len)))
