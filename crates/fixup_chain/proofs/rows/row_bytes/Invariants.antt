use Rattle.std.proofs.Common.{◌≡◌, take}
use Rattle.std.specs.List.{flat_map}
use Rattle.fixup_chain.specs.inner.Rows.{bytes_of}
use Rattle.fixup_chain.proofs.rows.row_bytes.Given as goal

abbrev pub invariant-loop-row : goal.invariant-loop-row
invariant-loop-row l = l.made.items ≡ flat_map (bytes_of l.wide) (take l.row-index l.rows)
