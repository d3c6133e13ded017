use Rattle.std.proofs.Common.{List, ◌++◌, ap, ◌∙◌, IsPermutation}
use Rattle.std.proofs.lemmas.List.Sorted.{IsPermutation-trans}
use Rattle.patch.specs.declared.range.PlacedWork.{PlacedWork}
use Rattle.slot_place.specs.declared.places.SlotStarts.{SlotStarts}
use Rattle.ref_meet.specs.Pointers.{all_fixups, slot_fixups}
use Rattle.ref_meet.specs.Ready.{scene_of}
use Rattle.ref_meet.proofs.FixupLemmas.{all_moved, spread_moved}
use Rattle.ref_meet.proofs.fixups.fixups_of.Goals as goal
use Rattle.ref_meet.proofs.fixups.fixups_of.Goals.{In_ok-add_items-3}

all : (c : In_ok-add_items-3) → IsPermutation (all_fixups (scene_of c.args.scene.now) c.args.work.now) c.add_items-3.new.out.items
all c =
    all_moved (scene_of c.args.scene.now) c.args.work.now c.split_at.result.0.now c.split_at-2.result.0.now c.split_at-2.result.1.now
    c.new-all.result.items c.add_items.new.out.items c.add_slots.new.out.items c.add_items-2.new.out.items c.add_slots-2.new.out.items c.add_items-3.new.out.items
    (c.split_at.ensures.by_index.0 ∙ ap (λ (ys : List PlacedWork). c.split_at.result.0.now ++ ys) c.split_at-2.ensures.by_index.0)
    c.new-all.ensures.items
    c.in_ok-add_items.ensures
    (c.in_ok-add_slots.ensures ∙ ap (λ (s : SlotStarts). c.add_items.new.out.items ++ slot_fixups s.got c.args.scene.now.slots.now.got) c.slot_starts-starts.ensures)
    c.in_ok-add_items-2.ensures
    (c.in_ok-add_slots-2.ensures ∙ ap (λ (s : SlotStarts). c.add_items-2.new.out.items ++ slot_fixups s.tlv c.args.scene.now.slots.now.tlv) c.slot_starts-starts.ensures)
    c.in_ok-add_items-3.ensures

pub in_order-requires : goal.in_order-requires
in_order-requires c = spread_moved (scene_of c.args.scene.now) c.args.work.now c.add_items-3.new.out.items c.requires.spread (all c)

pub returns : goal.returns
returns c =
    rw c.from_vec.ensures record {
      apart = c.in_order.ensures.apart;
      all = IsPermutation-trans (all_fixups (scene_of c.args.scene.now) c.args.work.now) c.add_items-3.new.out.items c.in_order.result.items (all (goal.at.returns c).In_ok-add_items-3) c.in_order.ensures.all;
    }
