use Rattle.std.proofs.Common.{Option, subst}
use Rattle.fixup_chain.specs.Chained.{IsRefused}
use Rattle.fixup_chain.specs.declared.chains.ChainFault.TheVariants as chain
use Rattle.mo_types.specs.declared.key.AtomKey.{AtomKey}
use Rattle.image_make.specs.Inputs.{inputs_with}
use Rattle.image_make.proofs.SetLemmas.{slot_made}
use Rattle.image_make.proofs.unfit.first_fault.Goals as goal

pub returns-in-None : goal.returns-in-None
returns-in-None g c =
    let fault = c.args.pointer.fault in
    let laid = c.args.laid.now in
    slot_made (inputs_with c.args.inputs.now c.args.laid.now.info.now) laid fault c.requires.laid
    (subst (λ (atom : Option AtomKey). IsRefused laid.scene.now.layout.now laid.fixups.now (chain.Range atom fault.file_place fault.kind fault.value)) c.in-None.is c.requires.first)
