use Rattle.image_read.specs.Commands.{ncmds}
use Rattle.image_read.proofs.CommandLemmas.{IsSearching, IsWalked}
use Rattle.image_read.specs.Meaning.{text_at}
use Rattle.dyld_ops.proofs.info.text_of.Given as goal

abbrev pub invariant-loop-number : goal.invariant-loop-number
invariant-loop-number l = record {
  walked : IsWalked l.image (ncmds l.image) l._number l.at;
  searching : IsSearching (text_at l.image) l.image (ncmds l.image) l._number l.at;
}
