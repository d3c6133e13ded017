use Rattle.std.proofs.Common.{◌+◌, ◌<◌, ◌^◌, All, sym, subst}
use Rattle.mo_types.specs.declared.reference.Ref.{Ref}
use Rattle.patch.specs.declared.range.PlacedWork.{PlacedWork}
use Rattle.ref_meet.specs.Pointers.{fixup_of, row_fixups}
use Rattle.ref_meet.specs.Ready.{scene_of}
use Rattle.ref_meet.specs.Scene.{refs_of}
use Rattle.ref_meet.proofs.MoveLemmas.{none_moved}
use Rattle.ref_meet.proofs.RowLemmas.{none_found, row_low}
use Rattle.ref_meet.proofs.pointers.add_item.Goals as goal

pub add_row-requires-clause-low : goal.add_row-requires-clause-low
add_row-requires-clause-low c =
    row_low (scene_of c.args.scene.now) c.args.scene.now.goals.now.pool c.in-Some.row c.in-Some.ensures.row
    (subst (λ (item : PlacedWork). All (λ (r : Ref). item.address + r.place < 2 ^ 64) (refs_of c.args.scene.now.loaded.now.files item)) (sym c.in-Some.ensures.item) c.requires.low)

pub returns-in-None : goal.returns-in-None
unfolding row_fixups
returns-in-None c =
    none_moved c.args.out.now.items (row_fixups (scene_of c.args.scene.now) c.args.item.now)
    (none_found (fixup_of (scene_of c.args.scene.now) c.args.item.now) c.args.scene.now.loaded.now.files c.args.item.now c.in-None.ensures.row)
