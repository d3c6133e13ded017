use Rattle.image_read.specs.Commands.{ncmds}
use Rattle.image_read.proofs.CommandLemmas.{IsSearching, IsWalked}
use Rattle.sign_adhoc.specs.Standing.{signature_command_at}
use Rattle.sign_adhoc.proofs.standing.first_command.Given as goal

abbrev pub invariant-loop-number : goal.invariant-loop-number
invariant-loop-number l = record {
  walked : IsWalked l.image (ncmds l.image) l._number l.at;
  searching : IsSearching (signature_command_at l.image) l.image (ncmds l.image) l._number l.at;
}
