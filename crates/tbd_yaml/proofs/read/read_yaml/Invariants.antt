use Rattle.std.proofs.Common.{◌-◌, length}
use Rattle.tbd_yaml.proofs.ReadLemmas.{IsReading}
use Rattle.tbd_yaml.proofs.read.read_yaml.Given as goal

abbrev pub invariant-loop-at : goal.invariant-loop-at
invariant-loop-at l = IsReading l.file l.at l.lines l.reading

abbrev pub decreases-loop-at : goal.decreases-loop-at
decreases-loop-at l = length l.file - l.at
