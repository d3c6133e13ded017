use Rattle.std.proofs.Common.{sym, ◌∙◌}
use Rattle.dylib_read.proofs.TrieWalkLemmas.{walk_passes}
use Rattle.dylib_read.proofs.trie_walk.walk_on.Goals as goal
use Rattle.dylib_read.proofs.trie_walk.walk_on.Goals.{then-is_some+in_ok-enter, else-is_some}

pub loop-at-preserved : goal.loop-at-preserved
loop-at-preserved c = elim c.if-is_some.branch [
  | then-is_some+in_ok-enter w ↦ rw (w.links-is, w.led-is, w.pool-is) w.in_ok-enter.ensures.ok
  | else-is_some w ↦
      rw (w.links-is, w.led-is, w.pool-is)
      (walk_passes c.args.trie.now c.loop-at.links c.loop-at.led c.loop-at.pool.items c.loop-at.at c.loop-at.invariant (sym c.is_some.ensures ∙ w.if-is_some.false))
]
