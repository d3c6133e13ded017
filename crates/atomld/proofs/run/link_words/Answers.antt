use Rattle.std.proofs.Common.{◌∙◌, ap, refl}
use Rattle.mo_types.specs.Answer.{code_of}
use Rattle.link_engine.proofs.LinkLemmas.{answered_then}
use Rattle.atomld.proofs.LinkLemmas.{links}
use Rattle.atomld.proofs.run.link_words.Goals as goal

pub returns-clause-exits : goal.returns-clause-exits
returns-clause-exits g c =
    answered_then g.F.Files.answers _ _ _ _ _ _ _ c.link.ensures.settles (λ ends same. ends (c.code.ensures ∙ ap code_of same))
    (λ is settles. record { status = c.link.result; exits = c.code.ensures; settles = settles })

pub returns-clause-links : goal.returns-clause-links
returns-clause-links g c zero = links g.F.Files.answers _ _ _ _ _ _ refl (returns-clause-exits g c) zero
