use Rattle.std.proofs.Common.{◌≡◌, Option, None, sym, subst, rules}
use Rattle.std.specs.Prelude.{MatchOption}
use Rattle.mo_format.specs.declared.linkedit.LinkeditDataCommand.{LinkeditDataCommand}
use Rattle.sign_adhoc.specs.Standing.{IsSignature}
use Rattle.sign_adhoc.specs.declared.standing.Standing.{Standing}
use Rattle.sign_adhoc.specs.inner.Told.{told}
use Rattle.sign_adhoc.proofs.StandingLemmas.{not_told}
use Rattle.sign_adhoc.proofs.standing.signature_of.Goals as goal

pub returns-in_err-told-clause-found : goal.returns-in_err-told-clause-found
returns-in_err-told-clause-found c =
    let none : c.from_residual-in_err-told.result ≡ None = search rules in
    subst (λ (found : Option Standing). MatchOption found ((s : Standing) → IsSignature c.args.image.now s → ⊥) (IsSignature c.args.image.now)) (sym none)
    (λ s is. not_told c.args.image.now c.in_ok-at.at s c.in_ok-at.ensures.value (subst (λ (d : LinkeditDataCommand). None ≡ told c.args.image.now d.dataoff d.datasize) c.read-command.ensures c.in_err-told.ensures.value) is)
