use Rattle.std.proofs.Common.{All}
use Rattle.mo_types.specs.Loaded.{IsWholeFile}
use Rattle.symbol_tests.proofs.given.loaded_of.Given as goal

abbrev pub invariant-loop-row : goal.invariant-loop-row
invariant-loop-row l = All IsWholeFile l.files.items
