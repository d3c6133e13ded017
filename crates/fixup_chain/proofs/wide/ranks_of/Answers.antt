use Rattle.fixup_chain.specs.declared.import_row.ImportRow.{ImportRow}
use Rattle.fixup_chain.specs.inner.Held.{rank_in}
use Rattle.fixup_chain.specs.inner.Rows.{same_row}
use Rattle.fixup_chain.proofs.UseLemmas.{numbering_ends}
use Rattle.fixup_chain.proofs.wide.ranks_of.Goals as goal

pub returns : goal.returns
returns c = numbering_ends ImportRow (rank_in same_row c.args.rows.now.keys) c.args.some.now c.loop-row.row-index c.loop-row.ranks.items c.loop-row.invariant c.loop-row-test.false
