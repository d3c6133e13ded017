use Rattle.std.proofs.Common.{sym}
use Rattle.image_make.specs.Inputs.{inputs_of}
use Rattle.image_make.proofs.LayLemmas.{entries_ready, laid_with, later_fault, memory_fault, residual_fault, resized}
use Rattle.image_make.proofs.laying.laid_with_info.Goals as goal

pub info_of-requires-clause-ready : goal.info_of-requires-clause-ready
info_of-requires-clause-ready c =
    let ready = c.requires.ready in
    entries_ready (inputs_of c.args.inputs.now) c.in_ok-size.size c.in_ok-layout.layout ready.whole ready.rising ready.low ready.frames c.in_ok-layout.ensures.placed

pub returns-in_err-layout-clause-fault : goal.returns-in_err-layout-clause-fault
returns-in_err-layout-clause-fault c =
    let m = inputs_of c.args.inputs.now in
    let first = c.in_ok-size.ensures.size in
    residual_fault m c.from_residual-in_err-layout.result c.in_err-layout.field-0.0 (later_fault m first.0 c.in_ok-size.size c.in_err-layout.field-0.0 first.1 first.2 c.in_err-layout.ensures.fault) c.from_residual-in_err-layout.ensures.1

pub returns-in_err-info-clause-fault : goal.returns-in_err-info-clause-fault
returns-in_err-info-clause-fault c =
    let m = inputs_of c.args.inputs.now in
    residual_fault m c.from_residual-in_err-info.result c.in_err-info.field-0.0 (memory_fault m c.in_err-info.field-0.0 c.in_err-info.ensures.fault) c.from_residual-in_err-info.ensures.1

pub returns-clause-laid : goal.returns-clause-laid
returns-clause-laid c =
    let m = inputs_of c.args.inputs.now in
    let ready = c.requires.ready in
    let layout = c.in_ok-layout.layout in
    let first = c.in_ok-size.ensures.size in
    laid_with m first.0 c.in_ok-info.info layout ready.whole ready.rising ready.frames c.requires.some first.1 (resized m c.in_ok-size.size _ layout (sym first.2) c.in_ok-layout.ensures.placed) c.in_ok-info.ensures.info
