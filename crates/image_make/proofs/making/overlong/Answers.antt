use Rattle.std.proofs.Common.{[], Err, sym, subst, arith}
use Rattle.image_make.specs.Inputs.{inputs_with}
use Rattle.image_make.specs.Made.{IsMadeWith}
use Rattle.image_make.specs.declared.fault.MakeFault.{MakeFault}
use Rattle.image_make.proofs.SetLemmas.{laid_fault, laid_long, laid_sized, laid_sound, laid_work}
use Rattle.image_make.proofs.making.overlong.Goals as goal

pub told_fault-requires-clause-sound : goal.told_fault-requires-clause-sound
told_fault-requires-clause-sound g c κs within = laid_sound (inputs_with c.args.inputs.now c.args.laid.now.info.now) c.args.laid.now c.requires.laid

pub told_fault-requires-clause-work : goal.told_fault-requires-clause-work
told_fault-requires-clause-work g c κs within = laid_work (inputs_with c.args.inputs.now c.args.laid.now.info.now) c.args.laid.now [] _ c.requires.laid (omega arith)

pub whole_size-requires : goal.whole_size-requires
whole_size-requires g c = laid_sized (inputs_with c.args.inputs.now c.args.laid.now.info.now) c.args.laid.now c.requires.laid

pub returns-in-Ok : goal.returns-in-Ok
returns-in-Ok g c =
    subst (λ (fault : MakeFault). IsMadeWith (inputs_with c.args.inputs.now c.args.laid.now.info.now) (Err fault)) (sym c.size_fault.ensures)
    (laid_long (inputs_with c.args.inputs.now c.args.laid.now.info.now) c.args.laid.now c.args.chains.now c.in-Ok.ensures.0 c.whole_size.result c.requires.laid c.requires.chains c.requires.long c.whole_size.ensures c.in-Ok.ensures.1)

pub returns-in-Err : goal.returns-in-Err
returns-in-Err g c = laid_fault (inputs_with c.args.inputs.now c.args.laid.now.info.now) c.args.laid.now c.args.chains.now [] c.in-Err.fault c.requires.laid c.requires.chains c.in-Err.ensures
