use Rattle.std.proofs.Common.{All}
use Rattle.mo_types.specs.Loaded.{IsWholeFile}
use Rattle.resolve_tests.proofs.given.loaded.Given as goal

abbrev pub invariant-loop-place : goal.invariant-loop-place
invariant-loop-place l = All IsWholeFile l.files.items
