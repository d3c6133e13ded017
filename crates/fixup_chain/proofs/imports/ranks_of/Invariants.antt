use Rattle.fixup_chain.specs.ImportOrder.{Import}
use Rattle.fixup_chain.specs.inner.Held.{is_same, rank_in}
use Rattle.fixup_chain.proofs.UseLemmas.{IsNumbering}
use Rattle.fixup_chain.proofs.imports.ranks_of.Given as goal

abbrev pub invariant-loop-import : goal.invariant-loop-import
invariant-loop-import l = IsNumbering Import (rank_in is_same l.imports.keys) l.some l.import-index l.ranks.items
