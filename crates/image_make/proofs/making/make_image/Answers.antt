use Rattle.std.proofs.Common.{ℕ, List, refl, sym, ◌∙◌, ap, subst}
use Rattle.fixup_chain.specs.declared.chains.Fixup.{Fixup}
use Rattle.mo_types.specs.declared.loaded.LoadedFile.{LoadedFile}
use Rattle.patch.specs.declared.range.PlacedWork.{PlacedWork}
use Rattle.ref_meet.specs.Pointers.{AreFixups, AreSpread, EndLow}
use Rattle.ref_meet.specs.Ready.{IsSound}
use Rattle.ref_meet.specs.inner.Orders.{AreOrders}
use Rattle.image_make.specs.Inputs.{inputs_of, inputs_with}
use Rattle.image_make.specs.Made.{rows_of, scene_of}
use Rattle.image_make.specs.Rows.{rows}
use Rattle.image_make.specs.declared.kept.KeptAtom.{KeptAtom}
use Rattle.image_make.proofs.LayLemmas.{good_with, made_by, passed_on}
use Rattle.image_make.proofs.SetLemmas.{sound}
use Rattle.image_make.proofs.SpreadLemmas.{are_spread, end_low}
use Rattle.image_make.proofs.making.make_image.Goals as goal

pub fixups_of-requires-clause-sound : goal.fixups_of-requires-clause-sound
fixups_of-requires-clause-sound g c =
    let laying = c.in_ok-laying.laying in
    let m = inputs_with c.args.inputs.now laying.info in
    let good = good_with (inputs_of c.args.inputs.now) laying.info c.requires.whole c.requires.rising c.requires.low c.requires.near c.requires.frames c.requires.flags c.requires.few in
    subst (λ (base : ℕ). IsSound (record (scene_of m laying.layout) { base = base })) (sym c.base_of.ensures) (sound m laying.layout good c.in_ok-laying.ensures.laid)

pub fixups_of-requires-clause-low : goal.fixups_of-requires-clause-low
fixups_of-requires-clause-low g c =
    let laying = c.in_ok-laying.laying in
    let m = inputs_with c.args.inputs.now laying.info in
    let all = c.in_ok-work.ensures ∙ ap (λ (kept : List KeptAtom). rows laying.layout.placed kept laying.layout.sections) c.in_ok-kept.ensures in
    subst (λ (work : List PlacedWork). EndLow (record (scene_of m laying.layout) { base = c.base_of.result }) work) (sym (c.as_slice-2.ensures.value ∙ all))
    (subst (λ (base : ℕ). EndLow (record (scene_of m laying.layout) { base = base }) (rows_of m laying.layout)) (sym c.base_of.ensures) (end_low m laying.layout c.requires.whole.files c.requires.rising c.in_ok-laying.ensures.laid))

pub fixups_of-requires-clause-spread : goal.fixups_of-requires-clause-spread
fixups_of-requires-clause-spread g c =
    let laying = c.in_ok-laying.laying in
    let m = inputs_with c.args.inputs.now laying.info in
    let all = c.in_ok-work.ensures ∙ ap (λ (kept : List KeptAtom). rows laying.layout.placed kept laying.layout.sections) c.in_ok-kept.ensures in
    subst (λ (work : List PlacedWork). AreSpread (record (scene_of m laying.layout) { base = c.base_of.result }) work) (sym (c.as_slice-2.ensures.value ∙ all))
    (subst (λ (base : ℕ). AreSpread (record (scene_of m laying.layout) { base = base }) (rows_of m laying.layout)) (sym c.base_of.ensures) (are_spread m laying.layout c.requires.whole.files c.requires.rising c.in_ok-laying.ensures.laid))

pub image_of-requires-clause-laid : goal.image_of-requires-clause-laid
image_of-requires-clause-laid g c κs within =
    let laying = c.in_ok-laying.laying in
    let m = inputs_with c.args.inputs.now laying.info in
    let layout = laying.layout in
    let all = c.in_ok-work.ensures ∙ ap (λ (kept : List KeptAtom). rows layout.placed kept layout.sections) c.in_ok-kept.ensures in
    record {
      good = good_with (inputs_of c.args.inputs.now) laying.info c.requires.whole c.requires.rising c.requires.low c.requires.near c.requires.frames c.requires.flags c.requires.few;
      info = refl;
      is_laid = c.in_ok-laying.ensures.laid;
      scene = ap (λ (base : ℕ). record (scene_of m layout) { base = base }) c.base_of.ensures;
      orders = subst (λ (files : List LoadedFile). AreOrders files c.in_ok-orders.orders) c.as_slice.ensures c.in_ok-orders.ensures;
      work = c.as_slice-3.ensures.value ∙ all;
      pointers = subst (λ (fixups : List Fixup). AreFixups (scene_of m layout) (rows_of m layout) fixups) (sym c.as_slice-4.ensures)
          (subst (λ (base : ℕ). AreFixups (record (scene_of m layout) { base = base }) (rows_of m layout) c.in_ok-fixups.fixups) c.base_of.ensures
          (subst (λ (work : List PlacedWork). AreFixups (record (scene_of m layout) { base = c.base_of.result }) work c.in_ok-fixups.fixups) (c.as_slice-2.ensures.value ∙ all) c.in_ok-fixups.ensures));
    }

pub returns-in_err-laying : goal.returns-in_err-laying
returns-in_err-laying g c =
    passed_on (inputs_of c.args.inputs.now) c.from_residual-in_err-laying.result c.in_err-laying.field-0.0 c.in_err-laying.ensures.fault c.from_residual-in_err-laying.ensures.0 c.from_residual-in_err-laying.ensures.1

pub returns : goal.returns
returns g c = made_by (inputs_of c.args.inputs.now) c.in_ok-laying.laying.info c.image_of.result c.image_of.ensures
