use Rattle.std.proofs.Common.{sym, ◌∙◌}
use Rattle.islands.specs.inner.Held.{aim_of}
use Rattle.islands.proofs.target.is_at.Goals as goal

pub returns-in-Some : goal.returns-in-Some
returns-in-Some c = λ yes. (c.in-Some.ensures.lookup.3.0, sym (c.in-Some.ensures.lookup.3.1 (aim_of c.args.target.now)) ∙ c.is.ensures yes)
