use Rattle.std.proofs.Common.{refl}
use Rattle.std.specs.Option.{option_map}
use Rattle.resolve.specs.Table.{goals_in}
use Rattle.liveness.specs.inner.Lost.{held}
use Rattle.liveness.proofs.GrowLemmas.{no_unwind}
use Rattle.liveness.proofs.LostLemmas.{handled_end, handled_more}
use Rattle.liveness.proofs.lost.note_unwinds.Goals as goal

pub loop-unwind-preserved : goal.loop-unwind-preserved
loop-unwind-preserved c =
    handled_more c.args.keys.now c.args.file.now (goals_in c.args.goals.now.pool c.args.goals.now.places) (option_map held c.args.least) (option_map held c.loop-unwind.found) (option_map held c.note_unwind-found.result) c.loop-unwind.unwind-index c.as_slice-unwind-items.result.now _ no_unwind
    c.loop-unwind.invariant c.as_slice-unwind-items.ensures c.loop-unwind-test.true refl c.note_unwind-found.ensures

pub returns : goal.returns
returns c =
    handled_end c.args.keys.now c.args.file.now (goals_in c.args.goals.now.pool c.args.goals.now.places) (option_map held c.args.least) (option_map held c.loop-unwind.found) c.loop-unwind.unwind-index c.as_slice-unwind-items.result.now
    c.loop-unwind.invariant c.as_slice-unwind-items.ensures c.loop-unwind-test.false
