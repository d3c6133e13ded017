use Rattle.link_steps.proofs.AskLemmas.{told_stops}
use Rattle.link_engine.proofs.RanLemmas.{quiet_ran, told_ran}
use Rattle.link_engine.specs.Command.{commanded}
use Rattle.link_engine.specs.Lines.{after_command}
use Rattle.link_engine.proofs.plan.make_plan.Goals as goal

pub returns-in_err-line : goal.returns-in_err-line
returns-in_err-line g c =
    quiet_ran g.F.Files.answers _ _ _ (λ look start. told_stops _ _ _ start _ c.in_err-line.ensures.command c.from_residual.ensures.1)

pub returns : goal.returns
returns g c =
    told_ran g.F.Files.answers (commanded c.args.words.now) (λ command look. after_command look command) c.in_ok-line.line.command _ _ _ c.in_ok-line.ensures.command c.plan_for.ensures
