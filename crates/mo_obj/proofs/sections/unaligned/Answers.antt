use Rattle.std.proofs.Common.{rules, tests}
use Rattle.mo_obj.proofs.sections.unaligned.Goals as goal

pub returns-clause-roomy : goal.returns-clause-roomy
returns-clause-roomy c = record {
  addresses = search (rules, tests);
  contents = search (rules, tests);
  relocations = search (rules, tests);
  bytes = search (rules, tests);
  numbers = search (rules, tests);
}
