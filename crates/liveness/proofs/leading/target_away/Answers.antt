use Rattle.std.proofs.Common.{ap, ◌∙◌}
use Rattle.liveness.specs.inner.Away.{away}
use Rattle.liveness.proofs.leading.target_away.Goals as goal

pub returns-in-Local : goal.returns-in-Local
returns-in-Local c = rw c.in-Local.is (c.away.ensures ∙ ap (away c.args.roots.now) c.representative.ensures)
