use Rattle.std.proofs.Common.{refl, get_or}
use Rattle.mo_types.specs.declared.edge.Edge.{Edge}
use Rattle.mark_core.proofs.ArrowLemmas.{all_ends, end_more}
use Rattle.mark_core.proofs.KeyLemmas.{no_atom}
use Rattle.mark_core.proofs.arrows.ends_from.Goals as goal

pub loop-arrow-preserved : goal.loop-arrow-preserved
loop-arrow-preserved c =
    let none : Edge = record { from = no_atom; to = no_atom } in
    record {
      list = end_more c.args.roots.now c.args.arrows.now c.loop-arrow.ends.items c.in_ok-ends.ends.items c.loop-arrow.arrow-index none (get_or c.args.arrows.now c.loop-arrow.arrow-index none) c.ask-is_root.result
          c.loop-arrow-test.true refl c.loop-arrow.invariant.list c.ask-is_root.ensures c.in_ok-ends.ensures;
      known = c.ask-is_root.ensures;
    }

pub returns : goal.returns
returns c = all_ends c.args.roots.now c.args.arrows.now c.loop-arrow.ends.items c.loop-arrow.arrow-index c.loop-arrow.invariant.list c.loop-arrow-test.false
