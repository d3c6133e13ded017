use Rattle.std.proofs.Common.{sym, ◌∙◌}
use Rattle.dylib_read.proofs.TrieLemmas.{found_adds, found_passes}
use Rattle.dylib_read.proofs.trie.found.Goals as goal
use Rattle.dylib_read.proofs.trie.found.Goals.{then-is_some+in_ok-add_at, else-is_some}

pub loop-at-preserved : goal.loop-at-preserved
loop-at-preserved c = elim c.if-is_some.branch [
  | then-is_some+in_ok-add_at w ↦
      rw w.exports-is (found_adds c.args.trie.now c.loop-at.exports.items w.add_at.new.exports.items c.loop-at.at c.loop-at.invariant w.in_ok-add_at.ensures)
  | else-is_some w ↦
      rw w.exports-is (found_passes c.args.trie.now c.args.links.now c.loop-at.exports.items c.loop-at.at c.requires c.loop-at.invariant (sym c.is_some.ensures ∙ w.if-is_some.false))
]
