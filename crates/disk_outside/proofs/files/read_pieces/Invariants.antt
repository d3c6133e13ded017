use Rattle.std.proofs.Common.{◌-◌, ◌≤◌, take, vec_len}
use Rattle.std.specs.Io.KnownBytes.{Consumes}
use Rattle.mo_outside.specs.Files.{fetch_limit}
use Rattle.disk_outside.proofs.files.read_pieces.Given as goal

abbrev pub invariant-loop-filled : goal.invariant-loop-filled
invariant-loop-filled g l = record {
  within : l.filled ≤ vec_len l.into;
  size : vec_len l.into ≤ fetch_limit;
  read : Consumes (g.R.Read.remaining l.fn.from) (g.R.Read.remaining l.from) (take l.filled l.into.items);
}

abbrev pub decreases-loop-filled : goal.decreases-loop-filled
decreases-loop-filled g l = fetch_limit - l.filled
