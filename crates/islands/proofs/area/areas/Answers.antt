use Rattle.std.proofs.Common.{List, length, map, refl, sym, ap, ◌∙◌, arith}
use Rattle.sect_place.specs.declared.island.BranchTarget.{BranchTarget}
use Rattle.islands.specs.inner.Held.{target_of}
use Rattle.islands.proofs.Ways.{areas_end, areas_more, areas_pass, areas_sorted}
use Rattle.islands.proofs.area.areas.Goals as goal
use Rattle.islands.proofs.area.areas.Goals.{then-len-gt0+in_ok-push, else-len-gt0}

pub loop-group-preserved : goal.loop-group-preserved
loop-group-preserved c =
    elim c.if-len-gt0.branch [
      | then-len-gt0+in_ok-push w ↦ rw w.areas-is (areas_more (map target_of c.args.aims.now) c.args.far.now c.loop-group.group c.args.lasts.now _ _ c.loop-group.areas.items _ _ c.loop-group.invariant c.loop-group-test.true refl c.in_ok-targets.ensures (λ none. absurd (omega (arith, none, c.len.ensures, w.if-len-gt0.true))) w.in_ok-push.ensures.items)
      | else-len-gt0 w ↦ rw w.areas-is (areas_pass (map target_of c.args.aims.now) c.args.far.now c.loop-group.group c.args.lasts.now (record { file = record { position = 0; member = 0 }; section = 0; offset = 0 }) c.loop-group.areas.items _ c.loop-group.invariant c.loop-group-test.true
          (ap (λ (ts : List BranchTarget). length ts) (sym c.in_ok-targets.ensures) ∙ omega (arith, c.len.ensures, w.if-len-gt0.false)))
    ]

pub from_sorted-requires : goal.from_sorted-requires
from_sorted-requires c =
    areas_sorted (map target_of c.args.aims.now) c.args.far.now c.args.lasts.now c.loop-group.areas.items c.requires.lasts
    (areas_end (map target_of c.args.aims.now) c.args.far.now c.loop-group.group c.args.lasts.now c.loop-group.areas.items _ c.loop-group.invariant c.loop-group-test.false)

pub returns : goal.returns
returns c = c.from_sorted.ensures ∙ areas_end (map target_of c.args.aims.now) c.args.far.now c.loop-group.group c.args.lasts.now c.loop-group.areas.items _ c.loop-group.invariant c.loop-group-test.false
