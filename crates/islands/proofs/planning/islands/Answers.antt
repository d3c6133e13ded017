use Rattle.std.proofs.Common.{◌<◌, All, List, length, map, ap, refl, sym, subst, ◌∙◌}
use Rattle.std.proofs.lemmas.List.{length-map}
use Rattle.mo_types.specs.declared.atom.Atom.{Atom}
use Rattle.mo_types.specs.declared.key.AtomKey.{AtomKey}
use Rattle.sect_place.specs.declared.layout.PlacedSection.{PlacedSection}
use Rattle.island_core.specs.Far.{IsFar}
use Rattle.island_core.specs.declared.row.Pair.{Pair}
use Rattle.islands.specs.Plan.{IsInAtoms}
use Rattle.islands.specs.Rows.{rows_of}
use Rattle.islands.specs.Targets.{AreTargets}
use Rattle.islands.specs.declared.branch.Branch.{Branch}
use Rattle.islands.specs.declared.target.Aim.{Aim}
use Rattle.islands.specs.inner.Cut.{IsCut}
use Rattle.islands.specs.inner.Held.{target_of}
use Rattle.islands.specs.inner.Scaled.{IsScaleOf}
use Rattle.islands.proofs.Told.{told}
use Rattle.islands.proofs.Whole.{far_within, is_plan, rows_turn}
use Rattle.islands.proofs.planning.islands.Goals as goal

pub spots-requires-clause-layout : goal.spots-requires-clause-layout
spots-requires-clause-layout c = told c.args.kept.now c.args.layout.now c.requires.layout

pub rows-requires-clause-layout : goal.rows-requires-clause-layout
rows-requires-clause-layout c = told c.args.kept.now c.args.layout.now c.requires.layout

pub far_pairs-requires-clause-in_turn : goal.far_pairs-requires-clause-in_turn
far_pairs-requires-clause-in_turn c =
    rows_turn c.args.kept.now c.args.layout.now c.as_slice-lasts.result.now (map target_of c.as_slice-aims.result.now) c.as_slice-branches.result.now c.as_slice-rows.result.now c.requires.layout
    (subst (λ (branches : List Branch). All (IsInAtoms c.args.kept.now) branches) (sym c.as_slice-branches.ensures) c.requires.branches) (c.as_slice-rows.ensures.value ∙ c.in_ok-rows.ensures.exact)

pub areas-requires-clause-within : goal.areas-requires-clause-within
areas-requires-clause-within c =
    let exact = c.in_ok-scale.ensures.exact in
    subst (λ (far : List Pair). All (λ (pair : Pair). pair.target < length c.as_slice-aims.result.now) far) (sym c.as_slice-far.ensures.value)
    (far_within c.args.layout.now c.as_slice-lasts.result.now (map target_of c.as_slice-aims.result.now) c.as_slice-branches.result.now c.in_ok-scale.scale c.as_slice-rows.result.now exact.pairs c.in_ok-far.far.items (length c.as_slice-aims.result.now) (sym (length-map c.as_slice-aims.result.now target_of))
    (subst (λ (aims : List Aim). AreTargets (map (λ (branch : Branch). branch.target) c.as_slice-branches.result.now) (map target_of aims)) (sym c.as_slice-aims.ensures.value) c.in_ok-aims.ensures)
    (c.as_slice-rows.ensures.value ∙ c.in_ok-rows.ensures.exact) exact.taken c.in_ok-far.ensures)

pub returns : goal.returns
returns c =
    is_plan c.args.kept.now c.args.layout.now c.args.branches.now c.args.reach (length c.as_slice-lasts.result.now) _ c.as_slice-lasts.result.now (map target_of c.as_slice-aims.result.now) c.as_slice-rows.result.now c.in_ok-scale.scale c.as_slice-far.result.now
    (subst (λ (kept : List Atom). IsCut kept c.args.layout.now c.args.reach c.as_slice-lasts.result.now) c.as_slice.ensures (subst (λ (lasts : List AtomKey). IsCut c.as_slice.result.now c.args.layout.now c.args.reach lasts) (sym c.as_slice-lasts.ensures.value) c.in_ok-lasts.ensures))
    (subst (λ (branches : List Branch). AreTargets (map (λ (branch : Branch). branch.target) branches) (map target_of c.as_slice-aims.result.now)) c.as_slice-branches.ensures (subst (λ (aims : List Aim). AreTargets (map (λ (branch : Branch). branch.target) c.as_slice-branches.result.now) (map target_of aims)) (sym c.as_slice-aims.ensures.value) c.in_ok-aims.ensures))
    (c.as_slice-rows.ensures.value ∙ (c.in_ok-rows.ensures.exact ∙ ap (λ (branches : List Branch). rows_of c.args.layout.now c.as_slice-lasts.result.now (map target_of c.as_slice-aims.result.now) branches) c.as_slice-branches.ensures)) refl
    (subst (λ (placed : List PlacedSection). IsScaleOf placed (length c.as_slice-lasts.result.now) c.args.reach c.as_slice-rows.result.now c.in_ok-scale.scale) c.as_slice-4.ensures c.in_ok-scale.ensures.exact)
    (subst (λ (far : List Pair). IsFar c.in_ok-scale.scale c.as_slice-rows.result.now far) (sym c.as_slice-far.ensures.value) c.in_ok-far.ensures) c.in_ok-areas.ensures c.in_ok-ways.ensures
