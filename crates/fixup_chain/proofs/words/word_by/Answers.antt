use Rattle.fixup_chain.proofs.OffsetLemmas.{rebase_is}
use Rattle.fixup_chain.proofs.words.word_by.Goals as goal
use Rattle.std.proofs.Common.{◌≡◌, false, rules}
use Rattle.fixup_chain.specs.Imports.{is_bound}

pub returns-else-is_bound : goal.returns-else-is_bound
returns-else-is_bound c = λ layout imports has offset.
    let other : is_bound c.args.fixup.now.goal ≡ false = search rules in
    rebase_is layout c.args.wide imports c.args.next c.args.held c.room_for.result c.word-else-is_bound.result c.args.fixup.now other offset c.room_for.ensures.value c.word-else-is_bound.ensures.exact
