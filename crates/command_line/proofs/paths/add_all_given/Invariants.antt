use Rattle.std.proofs.Common.{◌≡◌, ◌++◌, take}
use Rattle.std.specs.Prelude.{flat_map}
use Rattle.std.specs.Option.{option_map}
use Rattle.command_line.specs.Paths.{for_directory}
use Rattle.command_line.proofs.paths.add_all_given.Given as goal

abbrev pub invariant-loop-directory : goal.invariant-loop-directory
invariant-loop-directory l = l.found ≡ l.initial.found ++ flat_map (for_directory l.form l.stem (option_map (λ root. root.now) l.root)) (take l.directory-index l.directories)
