use Rattle.image_make.specs.Inputs.{inputs_with}
use Rattle.image_make.proofs.SetLemmas.{laid_sized}
use Rattle.image_make.proofs.making.image_of.Goals as goal

pub whole_size-requires : goal.whole_size-requires
whole_size-requires g c = laid_sized (inputs_with c.args.inputs.now c.args.laid.now.info.now) c.args.laid.now c.requires.laid
