use Rattle.image_read.specs.Commands.{ncmds}
use Rattle.image_read.proofs.CommandLemmas.{IsWalked}
use Rattle.image_read.proofs.FixupLemmas.{IsCounting}
use Rattle.image_read.proofs.fixups.holding_of.Given as goal

abbrev pub invariant-loop-number : goal.invariant-loop-number
invariant-loop-number l = record {
  walked : IsWalked l.image (ncmds l.image) l._number l.at;
  counting : IsCounting l.image l.address (ncmds l.image) l._number l.at l.index;
}
