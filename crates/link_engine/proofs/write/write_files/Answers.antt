use Rattle.std.proofs.Common.{◌∙◌, ◌<◌, length, arith}
use Rattle.link_engine.proofs.FilesLemmas.{more_handed, more_written}
use Rattle.link_engine.proofs.write.write_files.Goals as goal

pub loop-number-preserved : goal.loop-number-preserved
loop-number-preserved g c =
    let within : c.loop-number.number < length c.args.files.now = omega arith in
    record {
      still = c.in-Ok.ensures.still ∙ c.loop-number.invariant.still;
      told = more_written c.args.files.now c.loop-number.number c.index-files-number.result _ _ _ c.loop-number.invariant.told c.in-Ok.ensures.ok within c.index-files-number.is;
      handed = more_handed c.args.files.now c.loop-number.number c.index-files-number.result _ _ _ c.loop-number.invariant.handed c.in-Ok.ensures.calls within c.index-files-number.is;
    }
