use Rattle.std.proofs.Common.{List, [], sym, subst}
use Rattle.mo_types.specs.declared.goal.Goal.{Goal}
use Rattle.resolve.specs.Table.{goals_of}
use Rattle.unwind_link.specs.Personalities.{personality_goals}
use Rattle.unwind_link.specs.inner.Adds.{Adds}
use Rattle.unwind_link.proofs.NeedLemmas.{entries_go_on, entries_start}
use Rattle.unwind_link.proofs.handlers.goals_among.Goals as goal

pub loop-one-init : goal.loop-one-init
loop-one-init c =
    subst (λ (gs : List Goal). Adds [] (personality_goals c.args.symbols.now.literals (goals_of c.args.goals.now) []) gs) (sym c.new-found.ensures.items)
    (entries_start c.args.symbols.now.literals (goals_of c.args.goals.now) c.args.kept.now)

pub loop-one-preserved : goal.loop-one-preserved
loop-one-preserved c =
    entries_go_on c.args.symbols.now.literals (goals_of c.args.goals.now) c.args.kept.now c.loop-one.one-index _ c.loop-one.found.items c.in_ok-found.found.items c.loop-one.invariant c.loop-one-test.true c.in_ok-found.ensures
