use Rattle.std.proofs.Common.{arith}
use Rattle.mo_outside.specs.Files.{fetch_limit}
use Rattle.disk_outside.proofs.PieceLemmas.{ended, reached, read_more}
use Rattle.disk_outside.proofs.files.read_pieces.Goals as goal

pub loop-filled-preserved : goal.loop-filled-preserved
loop-filled-preserved g c = record {
  within = c.in_ok-count.ensures.fits;
  size = c.in_ok-count.ensures.size;
  read = read_more _ _ _ c.loop-filled.into.items c.read_after.new.into.items c.loop-filled.filled c.in_ok-count.count c.in_ok-count.ensures.kept c.loop-filled.invariant.read c.in_ok-count.ensures.ok;
}

pub returns-after-loop-filled-clause-bytes : goal.returns-after-loop-filled-clause-bytes
returns-after-loop-filled-clause-bytes g c =
    reached _ _ c.loop-filled.into.items c.loop-filled.filled fetch_limit c.loop-filled.invariant.read (omega arith) (omega arith)

pub returns-then-count-eq0-clause-bytes : goal.returns-then-count-eq0-clause-bytes
returns-then-count-eq0-clause-bytes g c =
    ended _ _ c.read_after.new.into.items c.loop-filled.filled c.in_ok-count.count fetch_limit
    (read_more _ _ _ c.loop-filled.into.items c.read_after.new.into.items c.loop-filled.filled c.in_ok-count.count c.in_ok-count.ensures.kept c.loop-filled.invariant.read c.in_ok-count.ensures.ok)
    c.if-count-eq0.true (c.in_ok-count.ensures.end c.if-count-eq0.true) (omega (arith, c.in_ok-count.ensures.fits)) (omega arith)
