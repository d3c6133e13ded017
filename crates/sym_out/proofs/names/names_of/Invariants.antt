use Rattle.std.proofs.Common.{take}
use Rattle.sym_out.specs.Files.{symbols_of}
use Rattle.sym_out.specs.Map.{first_name}
use Rattle.sym_out.specs.inner.Tables.{AreNames}
use Rattle.sym_out.proofs.names.names_of.Given as goal

abbrev pub invariant-loop-file : goal.invariant-loop-file
invariant-loop-file l = AreNames (first_name (symbols_of (take l.file-index l.files))) l.placed l.names.items
