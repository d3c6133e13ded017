use Rattle.image_read.specs.Commands.{ncmds}
use Rattle.image_read.proofs.CommandLemmas.{IsWalked}
use Rattle.dyld_ops.proofs.AddressLemmas.{IsGathering}
use Rattle.dyld_ops.proofs.info.addresses_of.Given as goal

abbrev pub invariant-loop-number : goal.invariant-loop-number
invariant-loop-number l = record {
  walked : IsWalked l.image (ncmds l.image) l._number l.at;
  gathering : IsGathering l.image (ncmds l.image) l._number l.at l.addresses.items;
}
