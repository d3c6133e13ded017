use Rattle.std.proofs.Common.{◌≤◌}
use Rattle.mo_cmd.proofs.NumberLemmas.{IsCounting}
use Rattle.mo_cmd.proofs.numbers.number_up_to.Given as goal

abbrev pub invariant-loop-byte : goal.invariant-loop-byte
invariant-loop-byte l = record { within : l.number ≤ l.most; counting : IsCounting l.base l.text l.byte-index l.number }
