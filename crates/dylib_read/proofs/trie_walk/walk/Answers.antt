use Rattle.std.proofs.Common.{refl, ◌∙◌}
use Rattle.dylib_read.proofs.TrieWalkLemmas.{walk_starts}
use Rattle.dylib_read.proofs.trie_walk.walk.Goals as goal

pub walk_on-requires : goal.walk_on-requires
walk_on-requires c =
    walk_starts c.args.trie.now _ _ _ _ c.requires refl refl
    (c.as_mut_slice.ensures.value ∙ c.in_ok-links.ensures) (c.as_mut_slice-2.ensures.value ∙ c.in_ok-led.ensures) c.new-pool.ensures.items
