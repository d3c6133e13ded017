use Rattle.std.proofs.Common.{◌≡◌, ◌+◌, ℕ, List, ap, arith, ◌∙◌, sym, subst}
use Rattle.fixup_chain.specs.declared.chains.ChainWord.{ChainWord}
use Rattle.ref_meet.specs.Mets.{mets_of}
use Rattle.ref_meet.specs.Ready.{AreInOrder, scene_of}
use Rattle.image_make.specs.Flags.{bound_flags}
use Rattle.image_make.specs.Inputs.{inputs_with}
use Rattle.image_make.specs.Parts.{blank_of}
use Rattle.image_make.specs.inner.Filled.{IsFilled}
use Rattle.image_make.specs.inner.PartsReady.{AreReadyParts}
use Rattle.image_make.proofs.RoomLemmas.{whole_layout}
use Rattle.image_make.proofs.SetLemmas.{blank_behind, flags_low, front_is, laid_made, laid_parts, laid_sound, laid_work, words_rise}
use Rattle.image_make.proofs.making.image_with.Goals as goal

pub overflow_add-flags : goal.overflow_add-flags
overflow_add-flags g c =
    let low = flags_low c.args.laid.now.fixups.now c.as_slice.result.now in
    let small = c.requires.laid.good.flags in
    let is = c.bound_flags.ensures in
    omega (arith, low, small, is)

pub front_of-requires-clause-whole : goal.front_of-requires-clause-whole
front_of-requires-clause-whole g c = whole_layout (inputs_with c.args.inputs.now c.args.laid.now.info.now) c.args.laid.now.scene.now.layout.now c.requires.laid.is_laid

pub front_of-requires-clause-sound : goal.front_of-requires-clause-sound
front_of-requires-clause-sound g c = laid_sound (inputs_with c.args.inputs.now c.args.laid.now.info.now) c.args.laid.now c.requires.laid

pub blank_image-requires : goal.blank_image-requires
blank_image-requires g c =
    let m = inputs_with c.args.inputs.now c.args.laid.now.info.now in
    let laid = c.args.laid.now in
    let layout = laid.scene.now.layout.now in
    let flag : c.args.inputs.now.flags + c.bound_flags.result ≡ m.flags + bound_flags laid.fixups.now layout.sections = ap (λ (n : ℕ). m.flags + n) (c.bound_flags.ensures ∙ ap (bound_flags laid.fixups.now) c.as_slice.ensures) in
    let front = front_is m laid c.args.chains (c.args.inputs.now.flags + c.bound_flags.result) c.in_ok-front.front c.requires.laid flag c.in_ok-front.ensures in
    subst (λ (info : List ℕ). AreReadyParts layout m.slots info (record { words = c.as_slice-words.result.now; blob = c.args.chains.blob }) c.in_ok-front.front) (sym c.in_ok-info.ensures.cases)
    (subst (λ (words : List ChainWord). AreReadyParts layout m.slots m.info (record { words = words; blob = c.args.chains.blob }) c.in_ok-front.front) (sym c.as_slice-words.ensures)
    (laid_parts m laid c.args.chains c.in_ok-front.front c.requires.laid c.requires.chains c.requires.few front))

pub fill_laid-requires-clause-sound : goal.fill_laid-requires-clause-sound
fill_laid-requires-clause-sound g c κs within = laid_sound (inputs_with c.args.inputs.now c.args.laid.now.info.now) c.args.laid.now c.requires.laid

pub fill_laid-requires-clause-words : goal.fill_laid-requires-clause-words
fill_laid-requires-clause-words g c κs within =
    let laid = c.args.laid.now in
    subst AreInOrder (sym c.as_slice-words.ensures) (words_rise laid.scene.now.layout.now laid.fixups.now c.args.chains c.requires.laid.pointers.apart c.requires.chains)

pub fill_laid-requires-clause-work : goal.fill_laid-requires-clause-work
fill_laid-requires-clause-work g c κs within =
    laid_work (inputs_with c.args.inputs.now c.args.laid.now.info.now) c.args.laid.now c.as_slice-words.result.now _ c.requires.laid
    (blank_behind c.args.laid.now.scene.now.layout.now c.args.inputs.now.slots.now c.in_ok-info.info (record { words = c.as_slice-words.result.now; blob = c.args.chains.blob }) c.in_ok-front.front c.in_ok-blank.blank.items c.in_ok-blank.ensures)

pub returns : goal.returns
returns g c =
    let m = inputs_with c.args.inputs.now c.args.laid.now.info.now in
    let laid = c.args.laid.now in
    let layout = laid.scene.now.layout.now in
    let flag : c.args.inputs.now.flags + c.bound_flags.result ≡ m.flags + bound_flags laid.fixups.now layout.sections = ap (λ (n : ℕ). m.flags + n) (c.bound_flags.ensures ∙ ap (bound_flags laid.fixups.now) c.as_slice.ensures) in
    let front = front_is m laid c.args.chains (c.args.inputs.now.flags + c.bound_flags.result) c.in_ok-front.front c.requires.laid flag c.in_ok-front.ensures in
    laid_made m laid c.args.chains c.in_ok-front.front c.in_ok-blank.blank.items c.fill_laid.result c.requires.laid c.requires.chains c.requires.few front
    (c.in_ok-blank.ensures
    ∙ ap (λ (info : List ℕ). blank_of layout m.slots info (record { words = c.as_slice-words.result.now; blob = c.args.chains.blob }) c.in_ok-front.front) c.in_ok-info.ensures.cases
    ∙ ap (λ (words : List ChainWord). blank_of layout m.slots m.info (record { words = words; blob = c.args.chains.blob }) c.in_ok-front.front) c.as_slice-words.ensures)
    (subst (λ (words : List ChainWord). IsFilled laid.scene.now.loaded.now.files (mets_of (scene_of laid.scene.now) words) laid.work.now c.in_ok-blank.blank.items c.fill_laid.result) c.as_slice-words.ensures c.fill_laid.ensures)
