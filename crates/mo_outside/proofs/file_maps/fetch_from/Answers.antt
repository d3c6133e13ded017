use Rattle.std.proofs.Common.{◌∙◌, ◌++◌, ap, sym, Some, take}
use Rattle.std.specs.Option.{option_copied}
use Rattle.mo_outside.proofs.Found.{fetched_absent, fetched_present}
use Rattle.mo_outside.proofs.file_maps.fetch_from.Goals as goal

pub returns-in_default-clause-answer : goal.returns-in_default-clause-answer
returns-in_default-clause-answer c = fetched_absent _ _ (sym (ap option_copied c.in_default.is) ∙ c.find.ensures)

pub returns-in-Ok-clause-answer : goal.returns-in-Ok-clause-answer
returns-in-Ok-clause-answer c =
    fetched_present _ _ c.in-Some.bytes.now c.min.result (sym (ap option_copied c.in-Some.is) ∙ c.find.ensures) c.min.ensures
    ∙ ap Some (sym (c.in-Ok.ensures.items ∙ ap (λ into. into ++ take c.min.result c.in-Some.bytes.now) c.requires))

pub returns-in_default-clause-gives : goal.returns-in_default-clause-gives
returns-in_default-clause-gives c = returns-in_default-clause-answer c

pub returns-in-Ok-clause-gives : goal.returns-in-Ok-clause-gives
returns-in-Ok-clause-gives c = returns-in-Ok-clause-answer c
