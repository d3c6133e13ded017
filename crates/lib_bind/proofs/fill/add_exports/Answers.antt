use Rattle.std.proofs.Common.{◌&&◌, sym}
use Rattle.std.specs.Prelude.{bytes_eq}
use Rattle.lib_bind.proofs.FillLemmas.{and_left, merged_none, step, whole}
use Rattle.lib_bind.proofs.fill.add_exports.Goals as goal

pub loop-export-init : goal.loop-export-init
loop-export-init c = λ name. sym (merged_none c.args.library _)

pub loop-export-preserved : goal.loop-export-preserved
loop-export-preserved c = λ name.
    step c.args.library _ _ _ (λ export. bytes_eq name export.name) (λ export. bytes_eq name export.name && export.weak) c.args.exports.now c.loop-export.export-index c.export-item.result
    c.loop-export-test.true c.export-item.is (c.loop-export.invariant name) (c.in_ok-index.ensures name) (λ export. and_left (bytes_eq name export.name) export.weak)

pub returns : goal.returns
returns c = λ name.
    whole c.args.library _ _ (λ export. bytes_eq name export.name) (λ export. bytes_eq name export.name && export.weak) c.args.exports.now c.loop-export.export-index c.loop-export-test.false (c.loop-export.invariant name)
