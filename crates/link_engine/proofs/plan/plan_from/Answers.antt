use Rattle.link_steps.proofs.AskLemmas.{told_stops}
use Rattle.link_engine.proofs.LineLemmas.{after_still}
use Rattle.link_engine.proofs.RanLemmas.{bind_ran, bind_stopped, quiet_ran, told_ran}
use Rattle.link_engine.specs.Lines.{after_libraries, from_libraries}
use Rattle.link_engine.specs.Verdict.{contents_with}
use Rattle.link_engine.proofs.plan.plan_from.Goals as goal

pub returns-in_err-inputs : goal.returns-in_err-inputs
returns-in_err-inputs g c =
    quiet_ran g.F.Files.answers _ _ _ (λ look start. told_stops _ _ _ start _ c.in_err-inputs.ensures.exact c.from_residual.ensures.1)

pub returns-in_err-libs : goal.returns-in_err-libs
returns-in_err-libs g c =
    told_ran g.F.Files.answers (contents_with c.args.line.now.command c.args.found) (λ contents look. from_libraries look c.args.line.now.command contents) _ _ _ _ c.in_ok-inputs.ensures.exact
    (bind_stopped g.F.Files.answers c.args.line.now.command _ (λ libs look. after_libraries c.args.line.now.command _ libs) _ _ _ _ c.in_err-libs.ensures (λ look libs. after_still c.args.line.now.command _ libs) c.from_residual-in_err-libs.ensures.1)

pub returns : goal.returns
returns g c =
    told_ran g.F.Files.answers (contents_with c.args.line.now.command c.args.found) (λ contents look. from_libraries look c.args.line.now.command contents) _ _ _ _ c.in_ok-inputs.ensures.exact
    (bind_ran g.F.Files.answers c.args.line.now.command _ (λ libs look. after_libraries c.args.line.now.command _ libs) c.in_ok-libs.libs _ _ _ c.in_ok-libs.ensures (λ look libs. after_still c.args.line.now.command _ libs)
    (λ look start. c.plan_with.ensures start))
