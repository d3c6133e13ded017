use Rattle.link_steps.proofs.AskLemmas.{unless_stops}
use Rattle.link_engine.proofs.LineLemmas.{after_extends}
use Rattle.link_engine.proofs.RanLemmas.{fetch_ran, fetch_stopped, quiet_ran, unless_ran}
use Rattle.link_engine.specs.Command.{crowd_stop}
use Rattle.link_engine.specs.Lines.{after_few, after_inputs}
use Rattle.link_engine.proofs.plan.plan_for.Goals as goal

pub returns-in_err-few_inputs : goal.returns-in_err-few_inputs
returns-in_err-few_inputs g c =
    quiet_ran g.F.Files.answers _ _ _ (λ look start. unless_stops _ _ _ start _ c.in_err-few_inputs.ensures.exact c.from_residual.ensures.1)

pub returns-in_err-found : goal.returns-in_err-found
returns-in_err-found g c =
    unless_ran g.F.Files.answers (crowd_stop c.args.line.now.command) (λ look. after_few look c.args.line.now.command) _ _ _ c.in_ok-few_inputs.ensures.exact
    (fetch_stopped g.F.Files.answers c.args.line.now.command (λ found look. after_inputs look c.args.line.now.command found) _ _ _ _ c.in_err-found.ensures.exact (λ look found. after_extends look c.args.line.now.command found) c.from_residual-in_err-found.ensures.1)

pub returns : goal.returns
returns g c =
    unless_ran g.F.Files.answers (crowd_stop c.args.line.now.command) (λ look. after_few look c.args.line.now.command) _ _ _ c.in_ok-few_inputs.ensures.exact
    (fetch_ran g.F.Files.answers c.args.line.now.command (λ found look. after_inputs look c.args.line.now.command found) c.in_ok-found.found _ _ _ _ c.in_ok-found.ensures.exact (λ look found. after_extends look c.args.line.now.command found)
    c.plan_from.ensures)
