use Rattle.std.proofs.Common.{arith}
use Rattle.lib_bind.proofs.AnsweredLemmas.{held_itself, held_then}
use Rattle.lib_bind.proofs.StepLemmas.{after_ended, after_next, closing_starts}
use Rattle.lib_bind.proofs.closing.closed.Goals as goal

pub loop-at-init : goal.loop-at-init
loop-at-init g c = record { runs = closing_starts g.F.Files.answers c.args.command.now.syslibroot c.args.heads.now c.args.start _; held = c.requires }

pub step-requires-clause-held : goal.step-requires-clause-held
step-requires-clause-held g c = held_itself _ _ _ c.loop-at.invariant.held

pub loop-at-preserved : goal.loop-at-preserved
loop-at-preserved g c = record {
  runs = after_next g.F.Files.answers _ _ _ _ _ c.loop-at.at _ _ _ c.loop-at.invariant.runs c.in_ok-closing.ensures.runs;
  held = held_then _ _ _ _ c.loop-at.invariant.held c.in_ok-closing.ensures.held;
}

pub returns-in_err-closing-clause-closing : goal.returns-in_err-closing-clause-closing
returns-in_err-closing-clause-closing g c = after_ended g.F.Files.answers _ _ _ _ c.in_err-closing.field-0.0 _ c.loop-at.at _ _ _ c.loop-at.invariant.runs c.in_err-closing.ensures.runs c.from_residual.ensures.1

pub returns-clause-closing : goal.returns-clause-closing
returns-clause-closing g c = record { count = c.loop-at.at; runs = c.loop-at.invariant.runs; done = let e = c.len.ensures in let t = c.loop-at-test.false in omega arith }
