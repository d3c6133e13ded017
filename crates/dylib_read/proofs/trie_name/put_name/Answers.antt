use Rattle.dylib_read.proofs.TrieNameLemmas.{links_go_back, named}
use Rattle.dylib_read.proofs.trie_name.put_name.Goals as goal

pub way_to-requires-clause-back : goal.way_to-requires-clause-back
way_to-requires-clause-back c = links_go_back c.args.trie.now c.args.links.now c.requires.walked

pub returns : goal.returns
returns c =
    named c.args.trie.now c.args.links.now c.args.at c.way_to.new.way.items c.as_slice.result.now c.clear-2.new.self.items c.spell.new.name.items
    c.in_ok-way_to.ensures c.as_slice.ensures.value c.clear-2.ensures.items c.in_ok-spell.ensures
