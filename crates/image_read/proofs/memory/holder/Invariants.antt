use Rattle.image_read.specs.Commands.{ncmds}
use Rattle.image_read.specs.Mapped.{holder_at}
use Rattle.image_read.proofs.CommandLemmas.{IsSearching, IsWalked}
use Rattle.image_read.proofs.memory.holder.Given as goal

abbrev pub invariant-loop-number : goal.invariant-loop-number
invariant-loop-number l = record {
  walked : IsWalked l.image (ncmds l.image) l._number l.at;
  searching : IsSearching (holder_at l.image l.address) l.image (ncmds l.image) l._number l.at;
}
