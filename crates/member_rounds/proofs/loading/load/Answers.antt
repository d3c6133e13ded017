use Rattle.std.proofs.Common.{◌≡◌, ◌∙◌, List, ap, sym}
use Rattle.input_files.specs.Inputs.{InputFiles}
use Rattle.input_files.specs.Sources.{inputs_of}
use Rattle.input_files.specs.declared.input.Input.{Input}
use Rattle.member_rounds.specs.Rounds.{loaded_of}
use Rattle.member_rounds.proofs.LinkLemmas.{done_exact, done_low, done_names, done_numbers, done_whole}
use Rattle.member_rounds.proofs.loading.load.Goals as goal

pub first_round-requires-clause-link : goal.first_round-requires-clause-link
first_round-requires-clause-link g c κs within = c.in_ok-link.ensures.link c.args.libs.now c.args.wanted.now

pub returns-clause-files : goal.returns-clause-files
returns-clause-files g c =
    let base : c.in_ok-offers.offers ≡ c.args.inputs.inputs = c.in_ok-offers.ensures ∙ ap inputs_of c.as_slice-sources.ensures ∙ ap (λ (i : InputFiles). i.inputs) c.inputs.view_is in
    ap (λ (inputs : List Input). loaded_of inputs c.args.libs.now c.args.wanted.now) (sym base) ∙ done_exact _ c.in_ok-link-3.link c.in_ok-ended.field-0 c.in_ok-link-3.ensures.done c.in_ok-ended.ensures

pub returns-clause-whole : goal.returns-clause-whole
returns-clause-whole g c = done_whole _ c.in_ok-link-3.link c.in_ok-ended.field-0 c.in_ok-link-3.ensures.done c.in_ok-ended.ensures

pub returns-clause-low : goal.returns-clause-low
returns-clause-low g c = done_low _ c.in_ok-link-3.link c.in_ok-ended.field-0 c.in_ok-link-3.ensures.done c.in_ok-ended.ensures

pub returns-clause-names : goal.returns-clause-names
returns-clause-names g c = done_names _ c.in_ok-link-3.link c.in_ok-ended.field-0 c.in_ok-link-3.ensures.done c.in_ok-ended.ensures

pub returns-clause-numbers : goal.returns-clause-numbers
returns-clause-numbers g c = done_numbers _ c.in_ok-link-3.link c.in_ok-ended.field-0 c.in_ok-link-3.ensures.done c.in_ok-ended.ensures
