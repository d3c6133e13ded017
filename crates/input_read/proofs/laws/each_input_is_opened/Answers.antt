use Rattle.input_read.proofs.LawLemmas.{each_count, each_opening}
use Rattle.input_read.proofs.laws.each_input_is_opened.Goals as goal

pub returns-clause-count : goal.returns-clause-count
returns-clause-count c = each_count

pub returns-clause-each : goal.returns-clause-each
returns-clause-each c = each_opening
