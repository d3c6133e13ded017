-- What the references of files are bound to, as they are gone through.
use Rattle.std.specs.Prelude.{List, [], Option}
use Rattle.std.specs.List.{filter, filter_map}
use Rattle.std.specs.Option.{option_map_or}
use Rattle.fixup_chain.specs.declared.chains.Fixup.{Fixup}
use Rattle.mark_core.specs.Kept.{has}
use Rattle.mo_types.specs.declared.goal.Goal.{Goal}
use Rattle.mo_types.specs.declared.reference.Ref.{Ref}
use Rattle.ref_meet.specs.Binds.{bind_of, binds}
use Rattle.ref_meet.specs.declared.binds.Bound.{Bound}
use Rattle.resolve.specs.Table.{Pooled, file_goals, goals_of}
use Rattle.slot_needs.specs.declared.referring.Referring.{Referring}
use Rattle.slot_plan.specs.declared.list.Slots.{Slots}

-- the goals of a file's symbols, if there are such
abbrev pub goals_by : Option Pooled → List Goal
goals_by goals = option_map_or file_goals goals []

-- what those of some references are bound to whose atoms are kept
unfoldable pub binds_among : Bound → List Ref → List Fixup
binds_among bound refs = filter_map (bind_of bound.files.now bound.symbols.now.literals (goals_by bound.goals) bound.file.now) (filter (λ r. has bound.keys.now r.atom) refs)

abbrev pub binds_of : Referring → Slots → List Fixup
binds_of r slots = binds r.loaded.now.files r.symbols.now.literals r.keys.now (goals_of r.goals.now) slots
