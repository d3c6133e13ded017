use Rattle.std.proofs.Common.{All}
use Rattle.mo_types.specs.Loaded.{IsWholeFile}
use Rattle.resolve_tests.proofs.goals.strings.Given as goal

abbrev pub invariant-loop-section : goal.invariant-loop-section
invariant-loop-section l = All IsWholeFile l.files.items
