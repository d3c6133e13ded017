use Rattle.image_make.specs.Inputs.{inputs_of}
use Rattle.image_make.specs.Made.{scene_of}
use Rattle.image_make.proofs.LayLemmas.{info_sized}
use Rattle.image_make.proofs.frames.info_size.Goals as goal

pub returns-in-Ok-clause-size : goal.returns-in-Ok-clause-size
returns-in-Ok-clause-size c =
    info_sized (scene_of (inputs_of c.args.inputs.now) c.args.layout.now) c.args.inputs.now.unwinds.now c.in_ok-rows.rows c.in-Ok.size c.in_ok-rows.ensures.rows c.in_ok-rows.ensures.apart c.in-Ok.ensures.exact
