use Rattle.std.proofs.Common.{take}
use Rattle.atom_cut.specs.Offsets.{AreOffsets}
use Rattle.atom_cut.proofs.offsets.symbol_offsets.Given as goal

abbrev pub invariant-loop-symbol : goal.invariant-loop-symbol
invariant-loop-symbol l = AreOffsets l.sections (take l.symbol-index l.symbols) l.offsets.items
