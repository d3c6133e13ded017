use Rattle.std.proofs.Common.{◌≡◌, length}
use Rattle.file_cache.specs.Kept.{seen}
use Rattle.input_fetch.specs.Contents.{places_of}
use Rattle.input_fetch.proofs.AskLemmas.{AreThere}
use Rattle.input_fetch.proofs.fetch.fetch_inputs.Given as goal

abbrev pub invariant-loop-at : goal.invariant-loop-at
invariant-loop-at g l = record {
  size : length l.contents ≡ l.at;
  there : AreThere g.F.Files.answers (places_of l.command) l.at l.contents
      (seen g.F.Files.holds g.F.Files.asked g.F.Files.faults l.fn.files l.fn.cache) (seen g.F.Files.holds g.F.Files.asked g.F.Files.faults l.files l.cache);
}
