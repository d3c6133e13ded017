use Rattle.std.proofs.Common.{rules}
use Rattle.reloc_read.proofs.RowLemmas.{whole_row}
use Rattle.reloc_read.proofs.rows.row_at.Goals as goal

pub returns : goal.returns
returns c =
    whole_row c.args.relocs.now c.args.at c.field_of.result c.first_before-first.result c.in_ok-last.last c.in_ok-kind.kind
    (search rules) c.first_before-first.ensures (search rules) (search rules) (search rules) (search rules) c.field_of.ensures.small
