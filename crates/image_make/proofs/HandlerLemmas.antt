-- Few personalities of an image have slots.
use Rattle.std.proofs.Common.{◌≡◌, ◌≢◌, ℕ, ◌≤◌, true, List, length, map, Option, Some, None, refl, sym, ap, ◌∙◌, arith, subst}
use Rattle.std.specs.Option.{option_map, option_map_or}
use Rattle.std.specs.List.Sorted.{IsStrictlySortedBy}
use Rattle.std.specs.Ordering.{eq_by_cmp, nat_cmp}
use Rattle.std.proofs.lemmas.Cmp.{eq_by_cmp_equiv, nat_cmp_total}
use Rattle.std.proofs.lemmas.List.{length-map}
use Rattle.std.proofs.lemmas.List.Sorted.{Contains-permutation, IsPermutation-sym}
use Rattle.std.proofs.lemmas.Map.Keys.{IsDistinct-from_sorted}
use Rattle.std.proofs.lemmas.Map.Made.{length-le_from_is_member}
use Rattle.list_lemmas.proofs.Members.{Contains_from_in, In, any_from_in, any_true, from_map, in_filter_map, in_from_Contains, in_map}
use Rattle.mo_types.specs.declared.goal.Goal.{Goal}
use Rattle.mo_types.specs.declared.reference.Target.{Target}
use Rattle.ref_meet.specs.Scene.{Scene}
use Rattle.sect_place.specs.declared.layout.Layout.{Layout}
use Rattle.slot_place.specs.Places.{slot_address, starts_of}
use Rattle.slot_plan.specs.Slots.{AreSlots}
use Rattle.slot_plan.specs.declared.need.Way.TheVariants.{Got}
use Rattle.unwind_link.specs.Goals.{goal_at}
use Rattle.unwind_link.specs.Personalities.{personality_goals, personality_of}
use Rattle.unwind_link.specs.Rows.{AreRows, offset_of, row_of, slot_offset}
use Rattle.unwind_link.specs.declared.kept.KeptUnwind.{KeptUnwind}
use Rattle.unwind_out.specs.Table.{personalities}
use Rattle.unwind_out.specs.declared.row.UnwindRow.{UnwindRow}
use Rattle.unwind_out.proofs.Slots.{personalities_are}
use Rattle.image_make.specs.Frames.{HaveFrames}
use Rattle.image_make.specs.Made.{ImageInputs, scene_of}

-- numbers that rise are no more than those of a list that has them all
no_more : (xs ys : List ℕ) → IsStrictlySortedBy nat_cmp xs → ((x : ℕ) → In x xs → In x ys) → length xs ≤ length ys
no_more xs ys rise within =
    length-le_from_is_member {eq = eq_by_cmp nat_cmp} (eq_by_cmp_equiv nat_cmp_total) xs ys (IsDistinct-from_sorted nat_cmp xs rise) (λ x has.
    let there : (y : ℕ) × In y xs × (eq_by_cmp nat_cmp x y ≡ true) = any_true (eq_by_cmp nat_cmp x) xs has in
    any_from_in (eq_by_cmp nat_cmp x) ys there.0 (within there.0 there.1) there.2)

-- how far the slot of a goal is from the image's first address
abbrev slot_of : Scene → Goal → ℕ
slot_of s goal = offset_of s.base (slot_address (starts_of s.layout.sections) s.slots Got goal)

named : (s : Scene) (one : KeptUnwind) (target : Target) → one.unwind.personality ≡ Some target → (row_of s one).personality ≡ slot_of s (goal_at s.literals s.goals one.file target)
unfolding row_of slot_offset
named s one target e = ap (λ (o : Option Target). option_map_or (slot_offset s one.file) o 0) e

unnamed : (s : Scene) (one : KeptUnwind) → one.unwind.personality ≡ None → (row_of s one).personality ≡ 0
unfolding row_of
unnamed s one e = ap (λ (o : Option Target). option_map_or (slot_offset s one.file) o 0) e

goal_in : (s : Scene) (kept : List KeptUnwind) (one : KeptUnwind) (target : Target) → In one kept → one.unwind.personality ≡ Some target → In (goal_at s.literals s.goals one.file target) (personality_goals s.literals s.goals kept)
unfolding personality_goals
goal_in s kept one target h e =
    in_filter_map (personality_of s.literals s.goals) kept one (goal_at s.literals s.goals one.file target) h (ap (option_map (goal_at s.literals s.goals one.file)) e)

-- each slot is that of a personality's goal
slot_in : (s : Scene) (kept : List KeptUnwind) (rows : List UnwindRow) (handlers : List Goal) (slot : ℕ) → AreRows s kept rows → AreSlots (personality_goals s.literals s.goals kept) handlers → In slot (personalities rows) → In slot (map (slot_of s) handlers)
slot_in s kept rows handlers slot are slots h =
    let named_by = (personalities_are rows).only slot (Contains_from_in (personalities rows) slot h) in
    let row : UnwindRow = named_by.1 in
    let there = Contains-permutation rows (map (row_of s) kept) row (IsPermutation-sym (map (row_of s) kept) rows are.each) named_by.2 in
    let of_entry = from_map (row_of s) kept row (in_from_Contains (map (row_of s) kept) row there) in
    let own : (row_of s of_entry.0).personality ≡ slot = ap (λ (r : UnwindRow). r.personality) of_entry.2 ∙ named_by.3 in
    by of_entry.0 of_entry.1 named_by.0 own of_entry.0.unwind.personality refl
  where
    by : (one : KeptUnwind) → In one kept → slot ≢ 0 → (row_of s one).personality ≡ slot → (o : Option Target) → one.unwind.personality ≡ o → In slot (map (slot_of s) handlers)
    by one among some own None e = absurd (some (sym own ∙ unnamed s one e))
    by one among some own (Some target) e =
        let goal = goal_at s.literals s.goals one.file target in
        let listed = in_from_Contains handlers goal (slots.all goal (Contains_from_in (personality_goals s.literals s.goals kept) goal (goal_in s kept one target among e))) in
        subst (λ (n : ℕ). In n (map (slot_of s) handlers)) (sym (named s one target e) ∙ own) (in_map (slot_of s) handlers goal listed)

pub few : (m : ImageInputs) (layout : Layout) (rows : List UnwindRow) → HaveFrames m → AreRows (scene_of m layout) m.unwinds rows → length (personalities rows) ≤ 3
few m layout rows frames are =
    let s = scene_of m layout in
    let less = no_more (personalities rows) (map (slot_of s) frames.handlers) (personalities_are rows).rise (λ slot h. slot_in s m.unwinds rows frames.handlers slot are frames.are_handlers h) in
    let size = length-map frames.handlers (slot_of s) in
    let most = frames.few in
    omega (arith, less, size, most)
