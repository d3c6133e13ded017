use Rattle.std.proofs.Common.{ℕ, List, sym, subst}
use Rattle.image_make.specs.Inputs.{inputs_of, inputs_with}
use Rattle.image_make.specs.Made.{IsLaid}
use Rattle.image_make.proofs.LayLemmas.{bare_fault, laid_bare, residual_fault}
use Rattle.image_make.proofs.laying.laid_without.Goals as goal

pub returns-in_err-layout-clause-fault : goal.returns-in_err-layout-clause-fault
returns-in_err-layout-clause-fault c =
    let m = inputs_of c.args.inputs.now in
    residual_fault m c.from_residual.result c.in_err-layout.field-0.0 (bare_fault m c.in_err-layout.field-0.0 c.requires.none c.in_err-layout.ensures.fault) c.from_residual.ensures.1

pub returns-clause-laid : goal.returns-clause-laid
returns-clause-laid c =
    let layout = c.in_ok-layout.layout in
    subst (λ (info : List ℕ). IsLaid (inputs_with c.args.inputs.now info) layout) (sym c.new-info.ensures) (laid_bare (inputs_of c.args.inputs.now) layout c.requires.none c.in_ok-layout.ensures.placed)
