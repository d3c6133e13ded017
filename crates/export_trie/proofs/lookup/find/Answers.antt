use Rattle.std.proofs.Common.{◌+◌, ◌-◌, ◌≡◌, ◌∙◌, suc, length, refl, sym, arith}
use Rattle.std.proofs.lemmas.List.{take_rest}
use Rattle.export_trie.specs.Lookup.{lookup}
use Rattle.export_trie.proofs.Walks.{walk_more}
use Rattle.export_trie.proofs.lookup.find.Goals as goal

pub loop-init : goal.loop-init
unfolding lookup
loop-init c = let whole : length c.args.trie.now - 0 ≡ length c.args.trie.now = omega arith in rw whole refl

pub loop-preserved : goal.loop-preserved
loop-preserved c =
    let some : length c.args.trie.now - c.loop.counter ≡ suc (length c.args.trie.now - (c.loop.counter + 1)) = omega arith in
    rw take_rest (c.loop.invariant ∙ walk_more _ _ _ _ _ _ _ some (sym c.in-Goes.ensures.exact))
