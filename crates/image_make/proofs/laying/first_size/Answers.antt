use Rattle.image_make.specs.Inputs.{inputs_of}
use Rattle.image_make.proofs.LayLemmas.{entries_ready, first_fault, first_sized, no_memory, residual_fault}
use Rattle.image_make.proofs.laying.first_size.Goals as goal

pub info_size-requires : goal.info_size-requires
info_size-requires c =
    let ready = c.requires.ready in
    entries_ready (inputs_of c.args.inputs.now) 1 c.in_ok-layout.layout ready.whole ready.rising ready.low ready.frames c.in_ok-layout.ensures.placed

pub returns-in_err-layout-clause-fault : goal.returns-in_err-layout-clause-fault
returns-in_err-layout-clause-fault c =
    residual_fault (inputs_of c.args.inputs.now) c.from_residual.result c.in_err-layout.field-0.0 (first_fault (inputs_of c.args.inputs.now) c.in_err-layout.field-0.0 c.requires.some c.in_err-layout.ensures.fault) c.from_residual.ensures.1

pub returns-clause-size : goal.returns-clause-size
returns-clause-size c = first_sized (inputs_of c.args.inputs.now) c.in_ok-layout.layout c.info_size.result c.requires.some c.in_ok-layout.ensures.placed c.info_size.ensures.size

pub returns-clause-fault : goal.returns-clause-fault
returns-clause-fault c = no_memory (inputs_of c.args.inputs.now) c.info_size.result c.info_size.ensures.fault
