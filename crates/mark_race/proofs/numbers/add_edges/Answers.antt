use Rattle.mark_core.proofs.KeyLemmas.{no_atom}
use Rattle.mark_race.proofs.NumberLemmas.{edge_next}
use Rattle.mark_race.proofs.numbers.add_edges.Goals as goal

pub loop-edge-preserved : goal.loop-edge-preserved
loop-edge-preserved c =
    edge_next c.args.edges.now c.loop-edge.edge-index (record { from = no_atom; to = no_atom }) c.args.numbered.now.atoms.keys c.loop-edge.numbered.atoms.keys c.add.new.numbered.atoms.keys
    c.args.numbered.now.arrows.items c.loop-edge.numbered.arrows.items c.add.new.numbered.arrows.items c.loop-edge-test.true c.loop-edge.invariant c.in_ok-add.ensures
