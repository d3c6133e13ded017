use Rattle.std.proofs.Common.{◌≡◌, ◌++◌}
use Rattle.std.specs.List.{filter_map}
use Rattle.sym_out.specs.Symbols.{own_local}
use Rattle.sym_out.proofs.Filed.{until}
use Rattle.sym_out.proofs.locals.push_own.Given as goal

abbrev pub invariant-loop-index : goal.invariant-loop-index
invariant-loop-index l = l.locals.items ≡ l.fn.locals.items ++ filter_map (own_local l.sites) (until l.file l.index)
