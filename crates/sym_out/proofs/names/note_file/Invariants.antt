use Rattle.std.proofs.Common.{◌≡◌, ℕ, List, Option, length}
use Rattle.mo_types.specs.declared.key.AtomKey.{AtomKey}
use Rattle.sym_out.specs.inner.Tables.{AreNames, filled}
use Rattle.sym_out.proofs.Filed.{until}
use Rattle.sym_out.proofs.names.note_file.Given as goal

abbrev pub invariant-loop-index : goal.invariant-loop-index
invariant-loop-index l = record {
  size : length l.names.items ≡ length l.fn.names.items;
  noted : (f : AtomKey → Option (List ℕ)) → AreNames f l.placed l.fn.names.items → AreNames (filled f (until l.file l.index)) l.placed l.names.items;
}
