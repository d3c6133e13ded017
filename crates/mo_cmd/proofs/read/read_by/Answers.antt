use Rattle.std.proofs.Common.{◌∙◌, refl}
use Rattle.mo_cmd.proofs.ReadLemmas.{fault_read, command_read, workers_read}
use Rattle.mo_cmd.proofs.read.read_by.Goals as goal

pub returns-in-Some-clause-command : goal.returns-in-Some-clause-command
returns-in-Some-clause-command c = λ _. fault_read c.args.rows c.args.words.now c.in_ok-sorted.sorted c.switches_of-switches.result c.numbers_of-numbers.result c.in-Some.fault
    (c.in_ok-sorted.ensures.parts ∙ c.in_ok-parts.ensures.exact) c.switches_of-switches.ensures c.numbers_of-numbers.ensures c.in-Some.ensures

pub returns-clause-command : goal.returns-clause-command
returns-clause-command c = command_read c.args.rows c.args.words.now c.in_ok-sorted.sorted c.switches_of-switches.result c.numbers_of-numbers.result c.in_ok-command_from-in-None.field-0
    (c.in_ok-sorted.ensures.parts ∙ c.in_ok-parts.ensures.exact) c.switches_of-switches.ensures c.numbers_of-numbers.ensures c.in-None.ensures c.in_ok-command_from-in-None.ensures

pub returns-clause-workers : goal.returns-clause-workers
returns-clause-workers c = workers_read c.args.rows c.args.words.now c.in_ok-sorted.sorted c.numbers_of-numbers.result c.numbers_of-numbers.result.threads
    (c.in_ok-sorted.ensures.parts ∙ c.in_ok-parts.ensures.exact) c.numbers_of-numbers.ensures refl
