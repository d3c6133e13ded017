use Rattle.std.proofs.Common.{◌≡◌, ◌+◌, length, arith}
use Rattle.std.proofs.lemmas.Grind.{common_steps}
use Rattle.input_files.specs.Files.{all_ids}
use Rattle.member_rounds.proofs.LinkLemmas.{early_done, late_done}
use Rattle.member_rounds.proofs.loading.all_rounds.Goals as goal

pub returns-then-brings_nothing-clause-done : goal.returns-then-brings_nothing-clause-done
returns-then-brings_nothing-clause-done g c = early_done c.args.rules.now c.loop-round.link c.loop-round.round c.loop-round.invariant.0 c.loop-round.invariant.1 (c.brings_nothing.ensures c.if-brings_nothing.true)

pub returns-clause-done : goal.returns-clause-done
returns-clause-done g c =
    let done : c.loop-round.link.rounds ≡ length (all_ids c.args.rules.now.offers) + 1 = grind (arith, common_steps, c.loop-round.invariant.1, c.requires.most, c.loop-round-test.false) in
    late_done c.args.rules.now c.loop-round.link c.loop-round.invariant.0 done
