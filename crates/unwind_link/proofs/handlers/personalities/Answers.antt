use Rattle.std.proofs.Common.{◌≡◌, List, [], map, ap, ◌∙◌, subst}
use Rattle.resolve.specs.Table.{goals_of}
use Rattle.unwind_link.specs.Personalities.{personality_goals, slot_need}
use Rattle.unwind_link.specs.declared.kept.KeptUnwind.{KeptUnwind}
use Rattle.unwind_link.specs.inner.Adds.{Adds}
use Rattle.unwind_link.proofs.NeedLemmas.{all_slots}
use Rattle.unwind_link.proofs.handlers.personalities.Goals as goal

pub returns : goal.returns
returns c =
    let adds = subst (λ (kept : List KeptUnwind). Adds [] (personality_goals c.args.symbols.now.literals (goals_of c.args.goals.now) kept) c.in_ok-found.found.items) c.as_slice.ensures c.in_ok-found.ensures in
    let is : c.in_ok-needs.needs ≡ map slot_need c.in_ok-found.found.items = c.in_ok-needs.ensures ∙ ap (map slot_need) c.as_slice-2.ensures.value in
    all_slots (personality_goals c.args.symbols.now.literals (goals_of c.args.goals.now) c.args.kept.now) c.in_ok-found.found.items c.in_ok-needs.needs c.in_ok-got.field-0.got adds is c.in_ok-got.ensures.got
