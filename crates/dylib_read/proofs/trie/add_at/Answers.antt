use Rattle.dylib_read.proofs.TrieLemmas.{adds_named, adds_none}
use Rattle.dylib_read.proofs.trie.add_at.Goals as goal

pub returns-in_ok-add : goal.returns-in_ok-add
returns-in_ok-add c =
    adds_named c.args.trie.now c.args.links.now c.args.at c.in-Some.flags c.link_at-link.result c.flags_at.result c.put_name.new.name.items c.as_slice.result.now
    c.args.exports.now.items c.add.new.exports.items c.requires.walked c.link_at-link.ensures c.flags_at.ensures c.in-Some.is
    c.in_ok-put_name.ensures c.as_slice.ensures.value c.in_ok-add.ensures

pub returns-in_default : goal.returns-in_default
returns-in_default c =
    adds_none c.args.trie.now c.args.links.now c.args.at c.link_at-link.result c.flags_at.result c.args.exports.now.items
    c.requires.walked c.link_at-link.ensures c.flags_at.ensures c.in_default.is
