use Rattle.std.proofs.Common.{◌<◌}
use Rattle.image_read.specs.Commands.{ncmds}
use Rattle.image_read.proofs.WindowLemmas.{window_some}
use Rattle.image_read.proofs.window.window_in.Goals as goal

pub returns-in-Some : goal.returns-in-Some
returns-in-Some c =
    let more : c.loop-number._number < ncmds c.args.image.now = rw c.ncmds-number-end.ensures at c.loop-number-test.true in
    window_some c.args.image.now c.args.first c.args.count c.loop-number._number c.loop-number.at c.in-Some.segment c.part_of.result
    c.requires c.loop-number.invariant.apart more c.in-Some.ensures.some c.part_of.ensures
