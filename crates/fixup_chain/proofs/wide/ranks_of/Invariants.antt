use Rattle.fixup_chain.specs.declared.import_row.ImportRow.{ImportRow}
use Rattle.fixup_chain.specs.inner.Held.{rank_in}
use Rattle.fixup_chain.specs.inner.Rows.{same_row}
use Rattle.fixup_chain.proofs.UseLemmas.{IsNumbering}
use Rattle.fixup_chain.proofs.wide.ranks_of.Given as goal

abbrev pub invariant-loop-row : goal.invariant-loop-row
invariant-loop-row l = IsNumbering ImportRow (rank_in same_row l.rows.keys) l.some l.row-index l.ranks.items
