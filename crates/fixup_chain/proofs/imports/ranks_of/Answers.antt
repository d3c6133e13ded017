use Rattle.fixup_chain.specs.ImportOrder.{Import}
use Rattle.fixup_chain.specs.inner.Held.{is_same, rank_in}
use Rattle.fixup_chain.proofs.UseLemmas.{numbering_ends}
use Rattle.fixup_chain.proofs.imports.ranks_of.Goals as goal

pub returns : goal.returns
returns c = numbering_ends Import (rank_in is_same c.args.imports.now.keys) c.args.some.now c.loop-import.import-index c.loop-import.ranks.items c.loop-import.invariant c.loop-import-test.false
