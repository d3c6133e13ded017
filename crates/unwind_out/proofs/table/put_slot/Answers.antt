use Rattle.std.proofs.Common.{ℕ, List, ◌==◌, ◌&&◌, ltb, leb, get_or, length, sym, ap, ◌∙◌, arith}
use Rattle.std.specs.List.{position_or_len}
use Rattle.unwind_out.proofs.Slots.{slot_there, slot_put}
use Rattle.unwind_out.proofs.table.put_slot.Goals as goal

pub insert-requires : goal.insert-requires
insert-requires c = omega (arith, c.place_from-place.ensures.within, c.as_slice.ensures.len)

pub returns-in_ok-insert : goal.returns-in_ok-insert
returns-in_ok-insert c =
    c.in_ok-insert.ensures.items
    ∙ sym (slot_put c.args.slot c.args.slots.now.items c.place_from-place.result
    (c.place_from-place.ensures.exact ∙ ap (λ (xs : List ℕ). position_or_len (λ other. leb c.args.slot other) xs) c.as_slice.ensures.value)
    (ap (λ (xs : List ℕ). ltb c.place_from-place.result (length xs) && (get_or xs c.place_from-place.result 0 == c.args.slot)) (sym c.as_slice-2.ensures.value) ∙ sym c.is_at.ensures ∙ c.if-not-is_at.true))

pub returns-else-not-is_at : goal.returns-else-not-is_at
returns-else-not-is_at c =
    sym (slot_there c.args.slot c.args.slots.now.items c.place_from-place.result
    (c.place_from-place.ensures.exact ∙ ap (λ (xs : List ℕ). position_or_len (λ other. leb c.args.slot other) xs) c.as_slice.ensures.value)
    (ap (λ (xs : List ℕ). ltb c.place_from-place.result (length xs) && (get_or xs c.place_from-place.result 0 == c.args.slot)) (sym c.as_slice-2.ensures.value) ∙ sym c.is_at.ensures ∙ c.if-not-is_at.false))
