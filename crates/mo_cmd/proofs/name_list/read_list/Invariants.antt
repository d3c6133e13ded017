use Rattle.std.proofs.Common.{◌+◌, length}
use Rattle.std.specs.Option.{option_map, option_map_or}
use Rattle.mo_cmd.specs.Lists.{lines_left}
use Rattle.mo_cmd.proofs.LineLemmas.{IsReading}
use Rattle.mo_cmd.proofs.name_list.read_list.Given as goal

abbrev pub invariant-loop-left : goal.invariant-loop-left
invariant-loop-left l = IsReading l.bytes l.names (lines_left (option_map (λ text. text.now) l.left))

abbrev pub decreases-loop-left : goal.decreases-loop-left
decreases-loop-left l = option_map_or (λ text. length text.now + 1) l.left 0
