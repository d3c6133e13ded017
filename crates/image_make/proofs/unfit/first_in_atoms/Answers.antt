use Rattle.std.proofs.Common.{[], Err, sym, subst, arith}
use Rattle.image_make.specs.Inputs.{inputs_with}
use Rattle.image_make.specs.Made.{IsMadeWith}
use Rattle.image_make.specs.declared.fault.MakeFault.{MakeFault}
use Rattle.image_make.proofs.SetLemmas.{laid_first, laid_sound, laid_work, pointer_made}
use Rattle.image_make.proofs.unfit.first_in_atoms.Goals as goal

pub told_fault-requires-clause-sound : goal.told_fault-requires-clause-sound
told_fault-requires-clause-sound g c κs within = laid_sound (inputs_with c.args.inputs.now c.args.laid.now.info.now) c.args.laid.now c.requires.laid

pub told_fault-requires-clause-work : goal.told_fault-requires-clause-work
told_fault-requires-clause-work g c κs within = laid_work (inputs_with c.args.inputs.now c.args.laid.now.info.now) c.args.laid.now [] _ c.requires.laid (omega arith)

pub returns-in-Ok : goal.returns-in-Ok
returns-in-Ok g c =
    subst (λ (fault : MakeFault). IsMadeWith (inputs_with c.args.inputs.now c.args.laid.now.info.now) (Err fault)) (sym c.of_atom.ensures)
    (pointer_made (inputs_with c.args.inputs.now c.args.laid.now.info.now) c.args.laid.now c.args.pointer c.in-Ok.ensures.0 c.requires.laid c.requires.first c.in-Ok.ensures.1)

pub returns-in-Err : goal.returns-in-Err
returns-in-Err g c =
    subst (λ (fault : MakeFault). IsMadeWith (inputs_with c.args.inputs.now c.args.laid.now.info.now) (Err fault)) (sym c.first_with.ensures)
    (laid_first (inputs_with c.args.inputs.now c.args.laid.now.info.now) c.args.laid.now c.args.pointer c.in-Err.field c.requires.laid c.requires.first c.in-Err.ensures)
