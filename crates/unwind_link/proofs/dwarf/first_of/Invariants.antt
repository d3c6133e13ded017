use Rattle.std.proofs.Common.{◌≡◌, None, fold, take}
use Rattle.unwind_link.specs.Dwarf.{dwarfs}
use Rattle.unwind_link.specs.inner.Least.{lesser}
use Rattle.unwind_link.proofs.dwarf.first_of.Given as goal

abbrev pub invariant-loop-one : goal.invariant-loop-one
invariant-loop-one l = l.first ≡ fold lesser None (dwarfs (take l.one-index l.kept))
