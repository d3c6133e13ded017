use Rattle.std.proofs.Common.{◌≡◌, ◌++◌, take}
use Rattle.link_files.proofs.names.add_names.Given as goal

abbrev pub invariant-loop-name : goal.invariant-loop-name
invariant-loop-name l = l.all.items ≡ l.fn.before.items ++ take l.name-index l.names
