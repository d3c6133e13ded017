use Rattle.std.proofs.Common.{◌≡◌, ◌≤◌, ◌<◌, ℕ, All, List, length, map, ap, sym, subst, ◌∙◌}
use Rattle.std.proofs.lemmas.List.{length-map}
use Rattle.std.proofs.lemmas.Result.{IfOk-weaker}
use Rattle.islands.specs.Text.{extent_of, lasts_of}
use Rattle.islands.proofs.Layouts.{ordered}
use Rattle.islands.proofs.Whole.{ends_within, is_cut, text_same}
use Rattle.islands.proofs.planning.cut.Goals as goal

pub extents-requires : goal.extents-requires
extents-requires c = ordered c.args.kept.now c.args.layout.now c.requires

pub lasts-requires : goal.lasts-requires
lasts-requires c =
    let are : c.as_slice-extents.result.now ≡ map (extent_of c.args.layout.now) c.as_slice-atoms.result.now = c.as_slice-extents.ensures.value ∙ c.in_ok-extents.ensures.exact in
    let long : length c.as_slice-extents.result.now ≡ length c.as_slice-atoms.result.now = ap length are ∙ length-map c.as_slice-atoms.result.now (extent_of c.args.layout.now) in
    subst (λ (n : ℕ). All (λ (end : ℕ). (0 < end) × (end ≤ n)) c.as_slice-ends.result.now) long
    (subst (λ (ends : List ℕ). All (λ (end : ℕ). (0 < end) × (end ≤ length c.as_slice-extents.result.now)) ends) (sym c.as_slice-ends.ensures.value) (ends_within _ c.as_slice-extents.result.now c.in_ok-ends.ends.items c.in_ok-ends.ensures))

pub returns : goal.returns
returns c =
    IfOk-weaker c.lasts.result _ _
    (λ lasts those. is_cut c.args.kept.now c.args.layout.now c.args.reach c.from.result c.as_slice-atoms.result.now c.as_slice-extents.result.now c.in_ok-ends.ends.items lasts.items c.requires
    (text_same c.args.kept.now c.args.layout.now c.as_slice.result.now c.in_ok-atoms.atoms.items c.as_slice-atoms.result.now c.as_slice-atoms.ensures.value c.in_ok-atoms.ensures c.as_slice.ensures)
    (c.as_slice-extents.ensures.value ∙ c.in_ok-extents.ensures.exact) c.from.ensures c.in_ok-ends.ensures
    (those ∙ ap (lasts_of c.as_slice-atoms.result.now) c.as_slice-ends.ensures.value)) c.lasts.ensures
