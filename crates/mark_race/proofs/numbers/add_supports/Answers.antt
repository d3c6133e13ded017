use Rattle.mark_core.proofs.KeyLemmas.{no_atom}
use Rattle.mark_race.proofs.NumberLemmas.{support_next}
use Rattle.mark_race.proofs.numbers.add_supports.Goals as goal

pub loop-support-preserved : goal.loop-support-preserved
loop-support-preserved c =
    support_next c.args.supports.now c.loop-support.support-index (record { from = no_atom; to = no_atom }) c.args.numbered.now.atoms.keys c.loop-support.numbered.atoms.keys c.add.new.numbered.atoms.keys
    c.args.numbered.now.arrows.items c.loop-support.numbered.arrows.items c.add.new.numbered.arrows.items c.loop-support-test.true c.loop-support.invariant c.in_ok-add.ensures
