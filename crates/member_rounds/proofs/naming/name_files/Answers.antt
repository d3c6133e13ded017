use Rattle.std.proofs.Common.{◌∙◌, ℕ, List, ap, sym}
use Rattle.name_ids.specs.Names.{added, limited}
use Rattle.member_rounds.proofs.NameLemmas.{files_fail, first_fail, joined_are, joined_stay, real_names}
use Rattle.member_rounds.proofs.naming.name_files.Goals as goal

pub returns-in-Err-clause-fault : goal.returns-in-Err-clause-fault
returns-in-Err-clause-fault c = λ real kept so.
    first_fail kept c.args.files.now c.args.wanted.now c.args.rounds c.args.names so c.in-Err.fault c.told.result
    (ap (λ (first : List (List ℕ)). limited (added c.args.names first)) (sym c.first_names_at.ensures) ∙ c.in-Err.ensures (real_names c.in-Err.fault c.told.result real c.told.ensures))
    c.told.ensures

pub returns-in-Ok-with_files-clause-names : goal.returns-in-Ok-with_files-clause-names
returns-in-Ok-with_files-clause-names c = λ kept so.
    joined_are kept c.args.files.now c.args.wanted.now c.args.rounds c.args.names so c.in-Ok.names c.in-Ok-with_files.all.names
    (ap (λ (first : List (List ℕ)). limited (added c.args.names first)) (sym c.first_names_at.ensures) ∙ c.in-Ok.ensures)
    c.in-Ok-with_files.ensures.names

pub returns-in-Ok-with_files-clause-stay : goal.returns-in-Ok-with_files-clause-stay
returns-in-Ok-with_files-clause-stay c = λ kept so.
    joined_stay kept c.args.files.now c.args.wanted.now c.args.rounds c.args.names so c.in-Ok.names c.in-Ok-with_files.all.names
    (ap (λ (first : List (List ℕ)). limited (added c.args.names first)) (sym c.first_names_at.ensures) ∙ c.in-Ok.ensures)
    c.in-Ok-with_files.ensures.names

pub returns-in-Err-with_files-clause-fault : goal.returns-in-Err-with_files-clause-fault
returns-in-Err-with_files-clause-fault c = λ real kept so.
    files_fail kept c.args.files.now c.args.wanted.now c.args.rounds c.args.names so c.in-Ok.names c.in-Err-with_files.fault c.told-in-Err-with_files.result
    (ap (λ (first : List (List ℕ)). limited (added c.args.names first)) (sym c.first_names_at.ensures) ∙ c.in-Ok.ensures)
    (c.in-Err-with_files.ensures.fault (real_names c.in-Err-with_files.fault c.told-in-Err-with_files.result real c.told-in-Err-with_files.ensures))
    c.told-in-Err-with_files.ensures
