use Rattle.std.proofs.Common.{sym}
use Rattle.liveness.proofs.AwayLemmas.{none_in}
use Rattle.liveness.proofs.ends.Ends.are_none.Goals as goal

pub returns : goal.returns
returns c = λ told. none_in c.self.inside.pool.now c.args.self.now c.self.inside.places.now c.is_empty.result c.is_empty.ensures told (sym c.self.view_is)
