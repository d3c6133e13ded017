use Rattle.std.proofs.Common.{◌≡◌, false, rules}
use Rattle.fixup_chain.specs.Imports.{is_bound}
use Rattle.fixup_chain.proofs.OffsetLemmas.{far_where}
use Rattle.fixup_chain.proofs.faults.is_far.Goals as goal

pub returns-then-not-is_bound : goal.returns-then-not-is_bound
returns-then-not-is_bound c = λ layout has.
    let other : is_bound c.args.fixup.now.goal ≡ false = search rules in
    far_where layout c.args.fixup.now c.args.held other has
