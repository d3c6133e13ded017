use Rattle.image_read.specs.Commands.{ncmds}
use Rattle.image_read.proofs.CommandLemmas.{IsFittingSo}
use Rattle.image_read.proofs.commands.fits.Given as goal

abbrev pub invariant-loop-number : goal.invariant-loop-number
invariant-loop-number l = IsFittingSo l.image (ncmds l.image) l._number l.at
