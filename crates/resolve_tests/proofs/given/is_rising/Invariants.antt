use Rattle.std.proofs.Common.{ℕ, ◌+◌, ◌<◌, get_or}
use Rattle.mo_types.specs.Loaded.{IsBefore}
use Rattle.mo_types.specs.declared.loaded.LoadedFile.{LoadedFile}
use Rattle.resolve_tests.proofs.given.is_rising.Given as goal

abbrev pub invariant-loop-i : goal.invariant-loop-i
invariant-loop-i l = (k : ℕ) (d : LoadedFile) → k + 1 < l.i → IsBefore (get_or l.files k d).id (get_or l.files (k + 1) d).id
