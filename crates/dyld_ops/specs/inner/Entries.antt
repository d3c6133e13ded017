-- Fixups as a map has them.
use Rattle.std.specs.Prelude.{ℕ}
use Rattle.dyld_ops.specs.declared.fixup.OpAct.{OpAct}
use Rattle.dyld_ops.specs.declared.fixup.OpFixup.{OpFixup}

abbrev pub fixup_of : ℕ × OpAct → OpFixup
fixup_of entry = record { address = entry.0; act = entry.1 }
