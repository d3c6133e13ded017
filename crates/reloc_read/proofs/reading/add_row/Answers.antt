use Rattle.std.proofs.Common.{◌++◌, ◌∙◌, sym, ap}
use Rattle.std.specs.Option.{option_to_list}
use Rattle.reloc_read.proofs.RowLemmas.{no_cut, row_reference}
use Rattle.reloc_read.proofs.reading.add_row.Goals as goal

pub returns-in_default : goal.returns-in_default
returns-in_default c = λ place target. absurd (no_cut c.args.linked.now c.args.at c.args.row.now (sym c.in_default.is ∙ c.requires.cut) c.requires.row place)

pub returns : goal.returns
returns c = λ place target.
    (c.in_ok-add.ensures
    ∙ ap (λ found. c.args.out.now ++ option_to_list found) (row_reference _ _ _ _ c.args.at c.args.row.now c.reference.result c.requires.row c.reference.ensures))
