use Rattle.std.proofs.Common.{◌≡◌, take}
use Rattle.islands.specs.Text.{lasts_of}
use Rattle.islands.proofs.text.lasts.Given as goal

abbrev pub invariant-loop-end : goal.invariant-loop-end
invariant-loop-end l = l.lasts.items ≡ lasts_of l.atoms (take l.end-index l.ends)
