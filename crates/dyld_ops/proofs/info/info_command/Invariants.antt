use Rattle.image_read.specs.Commands.{ncmds}
use Rattle.image_read.proofs.CommandLemmas.{IsSearching, IsWalked}
use Rattle.dyld_ops.specs.Image.{info_at}
use Rattle.dyld_ops.proofs.info.info_command.Given as goal

abbrev pub invariant-loop-number : goal.invariant-loop-number
invariant-loop-number l = record {
  walked : IsWalked l.image (ncmds l.image) l._number l.at;
  searching : IsSearching (info_at l.image) l.image (ncmds l.image) l._number l.at;
}
