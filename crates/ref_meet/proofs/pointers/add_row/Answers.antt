use Rattle.std.proofs.Common.{◌++◌}
use Rattle.std.specs.List.{flat_map}
use Rattle.ref_meet.specs.Pointers.{fixup_of, row_fixups}
use Rattle.ref_meet.specs.Ready.{scene_of}
use Rattle.ref_meet.specs.inner.Listed.{found_at}
use Rattle.ref_meet.proofs.MoveLemmas.{moved_if}
use Rattle.ref_meet.proofs.RowLemmas.{row_found}
use Rattle.ref_meet.proofs.pointers.add_row.Goals as goal

pub returns-then-is_listed_backward : goal.returns-then-is_listed_backward
unfolding row_fixups
returns-then-is_listed_backward c =
    rw (row_found (fixup_of (scene_of c.args.scene.now) c.args.row.now.item.now) (scene_of c.args.scene.now) c.args.scene.now.goals.now.pool c.args.row.now c.requires.row) c.add_backward.ensures

pub returns-else-is_listed_backward : goal.returns-else-is_listed_backward
unfolding row_fixups
returns-else-is_listed_backward c =
    rw (row_found (fixup_of (scene_of c.args.scene.now) c.args.row.now.item.now) (scene_of c.args.scene.now) c.args.scene.now.goals.now.pool c.args.row.now c.requires.row)
    (moved_if c.add_forward.result (c.args.out.now.items ++ flat_map (found_at (fixup_of (scene_of c.args.scene.now) c.args.row.now.item.now) c.args.row.now.refs.now) c.args.row.now.indices.now) c.add_forward.new.out.items c.add_forward.ensures)
