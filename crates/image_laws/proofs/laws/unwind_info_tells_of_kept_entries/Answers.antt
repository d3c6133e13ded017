-- The law is that of the lemmas.
use Rattle.image_laws.proofs.Unwound.{each_told, others_quiet, section_tells}
use Rattle.image_laws.proofs.Unwinding.{none_told}
use Rattle.image_laws.proofs.laws.unwind_info_tells_of_kept_entries.Goals as goal

pub returns-clause-told : goal.returns-clause-told
returns-clause-told c = section_tells

pub returns-clause-each : goal.returns-clause-each
returns-clause-each c = each_told

pub returns-clause-others : goal.returns-clause-others
returns-clause-others c = others_quiet

pub returns-clause-none : goal.returns-clause-none
returns-clause-none c = none_told
