use Rattle.lib_bind.proofs.AnsweredLemmas.{held_there, step_asks, step_held, step_links, step_reexports}
use Rattle.lib_bind.proofs.StepLemmas.{request_is, step_ended, step_linked, step_memory}
use Rattle.lib_bind.proofs.closing.step.Goals as goal

pub target_of-requires-clause-there : goal.target_of-requires-clause-there
target_of-requires-clause-there g c = held_there _ c.args.heads.now c.args.closing c.requires.held

pub target_of-requires-clause-here : goal.target_of-requires-clause-here
target_of-requires-clause-here g c =
    (step_asks c.args.heads.now _ c.args.at c.args.closing c.as_slice.result.now c.index-as_slice-at.result c.as_slice.ensures c.requires.within c.index-as_slice-at.is c.requires.held).here

pub linked-requires-clause-from : goal.linked-requires-clause-from
linked-requires-clause-from g c =
    step_links c.args.heads.now _ c.args.at c.args.closing c.as_slice.result.now c.index-as_slice-at.result c.as_slice.ensures c.requires.within c.index-as_slice-at.is c.requires.held
    c.in_ok-there.there c.in_ok-there.ensures.found

pub linked-requires-clause-document : goal.linked-requires-clause-document
linked-requires-clause-document g c =
    step_reexports c.args.heads.now _ c.args.at c.args.closing c.as_slice.result.now c.index-as_slice-at.result c.as_slice.ensures c.requires.within c.index-as_slice-at.is c.requires.held
    c.in_ok-there.there c.in_ok-there.ensures.found

pub returns-in_err-there-clause-runs : goal.returns-in_err-there-clause-runs
returns-in_err-there-clause-runs g c =
    step_ended g.F.Files.answers c.args.command.now.syslibroot c.args.heads.now c.args.at c.args.closing c.index-as_slice-at.result _ _
    (request_is c.args.closing.work c.as_slice.result.now c.args.at c.index-as_slice-at.result c.as_slice.ensures c.requires.within c.index-as_slice-at.is)
    c.in_err-there.field-0.0 _ c.in_err-there.ensures.runs c.from_residual.ensures.1

pub returns-in_err-linked-clause-runs : goal.returns-in_err-linked-clause-runs
returns-in_err-linked-clause-runs g c =
    step_memory g.F.Files.answers c.args.command.now.syslibroot c.args.heads.now c.args.at c.args.closing c.index-as_slice-at.result _ _
    (request_is c.args.closing.work c.as_slice.result.now c.args.at c.index-as_slice-at.result c.as_slice.ensures c.requires.within c.index-as_slice-at.is)
    c.in_ok-there.there _ c.in_ok-there.ensures.runs c.from_residual-in_err-linked.ensures.1

pub returns-clause-held : goal.returns-clause-held
returns-clause-held g c =
    step_held c.args.heads.now _ c.args.at c.args.closing c.as_slice.result.now c.index-as_slice-at.result c.as_slice.ensures c.requires.within c.index-as_slice-at.is c.requires.held
    c.in_ok-there.there c.in_ok-there.ensures.found c.in_ok-linked.field-0 c.in_ok-linked.ensures

pub returns-clause-runs : goal.returns-clause-runs
returns-clause-runs g c =
    step_linked g.F.Files.answers c.args.command.now.syslibroot c.args.heads.now c.args.at c.args.closing c.index-as_slice-at.result _ _
    (request_is c.args.closing.work c.as_slice.result.now c.args.at c.index-as_slice-at.result c.as_slice.ensures c.requires.within c.index-as_slice-at.is)
    c.in_ok-there.there c.in_ok-linked.field-0 c.in_ok-there.ensures.runs c.in_ok-linked.ensures
