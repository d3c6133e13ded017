use Rattle.std.proofs.Common.{◌∙◌, sym}
use Rattle.mo_types.proofs.Goals.{same_goals}
use Rattle.mo_types.proofs.goal.Goal.is_same.Goals as goal

pub returns : goal.returns
returns c =
    let same = same_goals c.args.self.now c.args.other.now in
    (λ h. same.0 (sym c.eq.ensures ∙ h), λ e. c.eq.ensures ∙ same.1 e)
