use Rattle.std.specs.List.{enumerate_from}
use Rattle.liveness.proofs.GrowLemmas.{IsGrowing}
use Rattle.resolve.specs.Table.{goals_of}
use Rattle.ref_meet.specs.Binds.{binds_at}
use Rattle.ref_meet.proofs.binds.add_files.Given as goal

abbrev pub invariant-loop-at : goal.invariant-loop-at
invariant-loop-at l =
    IsGrowing (binds_at l.referring.loaded.now.files l.referring.symbols.now.literals l.referring.keys.now (goals_of l.referring.goals.now))
    l.fn.out.items l.out.items (enumerate_from 0 l.referring.loaded.now.files) l.at
