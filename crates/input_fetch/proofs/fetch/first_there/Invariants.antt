use Rattle.file_cache.specs.Kept.{seen}
use Rattle.input_fetch.proofs.AskLemmas.{AreAbsent}
use Rattle.input_fetch.proofs.fetch.first_there.Given as goal

abbrev pub invariant-loop-path : goal.invariant-loop-path
invariant-loop-path g l =
    AreAbsent g.F.Files.answers l.paths l.path-index (seen g.F.Files.holds g.F.Files.asked g.F.Files.faults l.fn.files l.fn.cache) (seen g.F.Files.holds g.F.Files.asked g.F.Files.faults l.files l.cache)
