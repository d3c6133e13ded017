use Rattle.std.proofs.Common.{take}
use Rattle.sym_out.specs.Sites.{section_number}
use Rattle.sym_out.specs.inner.Numbers.{AreNumbers}
use Rattle.sym_out.proofs.sites.numbers_of.Given as goal

abbrev pub invariant-loop-i : goal.invariant-loop-i
invariant-loop-i l = AreNumbers (section_number (take l.i l.sections)) l.placed l.numbers.items
