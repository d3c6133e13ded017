use Rattle.std.proofs.Common.{sym, ◌∙◌}
use Rattle.reloc_read.proofs.RowLemmas.{good_place}
use Rattle.reloc_read.proofs.rules.place_fault.Goals as goal

pub returns-in-Some-clause-value : goal.returns-in-Some-clause-value
returns-in-Some-clause-value c = good_place c.args.linked.now c.args.at c.args.row.now c.in-Some.field-0 c.requires.row (sym c.in-Some.is ∙ c.requires.cut)
