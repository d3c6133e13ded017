use Rattle.std.proofs.Common.{drop}
use Rattle.name_ids.proofs.Gathering.{IsAdding}
use Rattle.name_ids.proofs.numbering.add_names.Given as goal

abbrev pub invariant-loop-name : goal.invariant-loop-name
invariant-loop-name l = IsAdding l.fn.before.keys l.names.keys l.more (drop l.name-index l.more)
