use Rattle.ref_meet.specs.Pointers.{row_fixups}
use Rattle.ref_meet.specs.Ready.{scene_of}
use Rattle.ref_meet.proofs.MoveLemmas.{IsMoving}
use Rattle.ref_meet.proofs.pointers.add_items.Given as goal

abbrev pub invariant-loop-item : goal.invariant-loop-item
invariant-loop-item l = IsMoving (row_fixups (scene_of l.scene)) l.fn.out.items l.out.items l.work l.item-index
