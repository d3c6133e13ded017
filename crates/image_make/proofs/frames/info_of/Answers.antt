use Rattle.image_make.specs.Inputs.{inputs_of}
use Rattle.image_make.specs.Made.{scene_of}
use Rattle.image_make.proofs.LayLemmas.{some_rows}
use Rattle.image_make.proofs.frames.info_of.Goals as goal

pub write_unwind-requires-clause-some : goal.write_unwind-requires-clause-some
write_unwind-requires-clause-some c =
    some_rows (scene_of (inputs_of c.args.inputs.now) c.args.layout.now) c.args.inputs.now.unwinds.now c.in_ok-rows.rows c.requires.some c.in_ok-rows.ensures.rows
