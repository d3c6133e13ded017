use Rattle.std.proofs.Common.{[]}
use Rattle.input_files.specs.Files.{ids_in}
use Rattle.input_files.proofs.GatherLemmas.{IsGathering}
use Rattle.input_files.proofs.all_files.all_ids.Given as goal

abbrev pub invariant-loop-source : goal.invariant-loop-source
invariant-loop-source l = IsGathering [] l.all.items (λ source. ids_in source.input) l.sources l.source-index
