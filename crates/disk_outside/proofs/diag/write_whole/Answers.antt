use Rattle.std.proofs.Common.{arith, length-drop}
use Rattle.std.proofs.lemmas.List.{take_rest}
use Rattle.disk_outside.proofs.PieceLemmas.{written_more}
use Rattle.disk_outside.proofs.diag.write_whole.Goals as goal

pub loop-at-preserved : goal.loop-at-preserved
loop-at-preserved g c = record {
  within =
      let rest = length-drop c.loop-at.at c.args.bytes.now in
      omega (arith, rw (take_rest c.args.bytes.now c.loop-at.at) at c.in_ok-at.ensures.within);
  written = written_more _ _ _ c.args.bytes.now _ c.loop-at.at c.in_ok-at.field-0 (take_rest c.args.bytes.now c.loop-at.at) c.loop-at.invariant.written c.in_ok-at.ensures.ok;
}
