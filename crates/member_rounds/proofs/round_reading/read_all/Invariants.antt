use Rattle.std.proofs.Common.{◌*◌, ◌^◌}
use Rattle.input_files.specs.Sources.{inputs_of}
use Rattle.member_rounds.proofs.PieceLemmas.{IsReadTo}
use Rattle.member_rounds.proofs.round_reading.read_all.Given as goal

abbrev pub invariant-loop-run : goal.invariant-loop-run
invariant-loop-run g l = IsReadTo (inputs_of l.sources) l.ids (l.run * 2 ^ 30) l.files
