use Rattle.std.proofs.Common.{◌≡◌, length, drop, refl, arith}
use Rattle.std.proofs.lemmas.List.{drop_all}
use Rattle.export_trie.specs.Strings.{common}
use Rattle.export_trie.proofs.Entering.{common_nil}
use Rattle.export_trie.proofs.nodes.common_len.Goals as goal

pub returns-else-len-b-clause-len : goal.returns-else-len-b-clause-len
returns-else-len-b-clause-len c =
    let shared = c.loop-len.invariant.shared in
    let ended : length (common (drop c.loop-len.len c.args.a.now) (drop c.loop-len.len c.args.b.now)) ≡ 0 =
    rw (drop_all c.loop-len.len c.args.b.now c.if-len-b.false, common_nil (drop c.loop-len.len c.args.a.now)) refl in
    omega arith
