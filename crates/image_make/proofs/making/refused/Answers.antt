use Rattle.std.proofs.Common.{subst}
use Rattle.fixup_chain.specs.Chained.{IsCause}
use Rattle.fixup_chain.specs.declared.chains.ChainFault.{ChainFault}
use Rattle.image_make.specs.Inputs.{inputs_with}
use Rattle.image_make.proofs.BindLemmas.{few_imports}
use Rattle.image_make.proofs.making.refused.Goals as goal

pub unreachable-requires : goal.unreachable-requires
unreachable-requires g c =
    let laid = c.args.laid.now in
    let m = inputs_with c.args.inputs.now c.args.laid.now.info.now in
    few_imports m laid.scene.now.layout.now laid.fixups.now c.requires.laid.good.whole.files c.requires.laid.pointers c.requires.laid.good.few
    (subst (λ (why : ChainFault). IsCause laid.scene.now.layout.now laid.fixups.now why) c.in-Limit.is c.requires.cause).1
