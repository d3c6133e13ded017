use Rattle.std.proofs.Common.{arith, sym, ◌∙◌}
use Rattle.liveness.proofs.GrowLemmas.{grow_at}
use Rattle.ref_meet.proofs.BindLemmas.{each_bind, none_more, one_more, refs_end}
use Rattle.ref_meet.proofs.binds.add_refs.Goals as goal
use Rattle.ref_meet.proofs.binds.add_refs.Goals.{in-Some+in_ok-add_ref-in-Some, in-None}

pub loop-at-preserved : goal.loop-at-preserved
loop-at-preserved c = grow_at (each_bind c.args.bound.now) c.args.out.now.items c.loop-at.out.items c.match-get.out.items c.args.refs.now c.loop-at.at c.loop-at.invariant (
    elim c.match-get.branch [
      | in-Some+in_ok-add_ref-in-Some w ↦ rw w.out-is (one_more c.args.bound.now c.args.refs.now c.loop-at.at w.in-Some.reference c.loop-at.out.items _ (sym c.get.ensures.value ∙ w.in-Some.is) w.in_ok-add_ref-in-Some.ensures)
      | in-None w ↦ rw w.out-is (none_more c.args.bound.now c.args.refs.now c.loop-at.at c.loop-at.out.items (sym c.get.ensures.value ∙ w.in-None.is))
    ]
    )

pub returns : goal.returns
returns c = refs_end c.args.bound.now c.args.refs.now c.loop-at.at c.args.out.now.items c.loop-at.out.items c.loop-at.invariant (omega arith)
