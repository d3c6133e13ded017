use Rattle.std.proofs.Common.{◌∙◌, length-drop, arith}
use Rattle.std.proofs.lemmas.List.{take_rest}
use Rattle.link_engine.proofs.WritingLemmas.{goes_on, hands_cut, hands_on, on_err, some_left, stops}
use Rattle.link_engine.proofs.write.write_all.Goals as goal

pub write-requires : goal.write-requires
write-requires g c = some_left c.args.bytes.now _ c.loop-at.at (take_rest c.args.bytes.now c.loop-at.at) (omega arith)

pub returns-in_err-at-clause-err : goal.returns-in_err-at-clause-err
returns-in_err-at-clause-err g c =
    on_err c.from_residual.result _
    (stops c.args.bytes.now _ c.loop-at.at _ _ _ c.loop-at.invariant.told c.in_err-at.ensures.err (take_rest c.args.bytes.now c.loop-at.at) (omega arith))

pub returns-in_err-at-clause-cut : goal.returns-in_err-at-clause-cut
returns-in_err-at-clause-cut g c =
    on_err c.from_residual.result _
    (hands_cut c.args.bytes.now _ c.loop-at.at _ _ _ c.loop-at.invariant.handed c.in_err-at.ensures.cut (take_rest c.args.bytes.now c.loop-at.at)
    (some_left c.args.bytes.now _ c.loop-at.at (take_rest c.args.bytes.now c.loop-at.at) (omega arith)))

pub loop-at-preserved : goal.loop-at-preserved
loop-at-preserved g c = record {
  within =
      let rest = length-drop c.loop-at.at c.args.bytes.now in
      omega (arith, rw (take_rest c.args.bytes.now c.loop-at.at) at c.in_ok-at.ensures.within);
  still = c.in_ok-at.ensures.still ∙ c.loop-at.invariant.still;
  told = goes_on c.args.bytes.now _ c.loop-at.at c.in_ok-at.field-0 _ _ _ c.loop-at.invariant.told c.in_ok-at.ensures.ok (take_rest c.args.bytes.now c.loop-at.at);
  handed =
      hands_on c.args.bytes.now _ c.loop-at.at c.in_ok-at.field-0 _ _ _ c.loop-at.invariant.handed c.in_ok-at.ensures.calls (take_rest c.args.bytes.now c.loop-at.at)
      (some_left c.args.bytes.now _ c.loop-at.at (take_rest c.args.bytes.now c.loop-at.at) (omega arith));
}
