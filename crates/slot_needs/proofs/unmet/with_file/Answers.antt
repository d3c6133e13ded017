use Rattle.std.proofs.Common.{List, fold, sym, ap, ◌∙◌}
use Rattle.std.specs.Option.{option_map}
use Rattle.mo_types.specs.declared.key.AtomKey.{AtomKey}
use Rattle.resolve.specs.Table.{file_goals, goals_of}
use Rattle.slot_needs.specs.Unmet.{lesser, unmet_among}
use Rattle.slot_needs.proofs.UnmetLemmas.{at_goals}
use Rattle.slot_needs.proofs.unmet.with_file.Goals as goal

pub returns-in-Some : goal.returns-in-Some
returns-in-Some c =
    at_goals c.args.referring.now.keys.now (goals_of c.args.referring.now.goals.now) (file_goals c.in-Some.goals) c.args.at c.args.file.now c.args.least c.with_refs.result (sym c.file.ensures.goals ∙ ap (option_map file_goals) c.in-Some.is)
    (c.with_refs.ensures ∙ ap (λ (keys : List AtomKey). fold lesser c.args.least (unmet_among keys (file_goals c.in-Some.goals) c.args.at c.args.file.now.refs)) c.as_slice.ensures)
