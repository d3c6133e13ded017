use Rattle.link_steps.proofs.AskLemmas.{last_goes, told_goes, told_stops, tries_goes, tries_stops}
use Rattle.link_engine.proofs.plan.plan_with.Goals as goal

pub returns-in_err-named : goal.returns-in_err-named
returns-in_err-named g c start = told_stops _ _ _ start _ c.in_err-named.ensures.exact c.from_residual.ensures.1

pub returns-in_err-image : goal.returns-in_err-image
returns-in_err-image g c start =
    told_goes _ _ _ start _ _ c.in_ok-named.ensures.exact
    (tries_stops _ _ _ start _ c.in_err-image.ensures c.from_residual-in_err-image.ensures.1)

pub returns : goal.returns
returns g c start =
    told_goes _ _ _ start _ _ c.in_ok-named.ensures.exact
    (tries_goes _ _ _ start _ _ c.in_ok-image.ensures
    (last_goes _ start _ c.plan_of.ensures))
