-- With more bytes of `__unwind_info` no image is smaller.
use Rattle.std.proofs.Common.{◌≡◌, ℕ, ◌+◌, ◌<◌, ◌≤◌, ◌++◌, List, [], ◌∷◌, refl, ap, ◌∙◌, arith}
use Rattle.command_line.specs.declared.command.Command.{Command}
use Rattle.mo_types.specs.declared.atom.Atom.{Atom}
use Rattle.mo_types.specs.declared.key.AtomKey.{AtomKey}
use Rattle.mo_types.specs.declared.out_section.OutSection.{OutSection}
use Rattle.sect_place.proofs.Sound.{later_groups}
use Rattle.sect_place.proofs.Spread.{aligned_order}
use Rattle.sect_place.specs.Arrangement.{MadeBytes, constant_parts, groups_of, text_parts, writable_parts}
use Rattle.sect_place.specs.Layout.{base_of, image_size, lead_of, plan_of}
use Rattle.sect_place.specs.Places.{area_unit, group_end, groups_end, page_up, part_end, part_from, parts_end, spaced}
use Rattle.sect_place.specs.declared.island.IslandPlan.{IslandPlan}
use Rattle.sect_place.specs.declared.part.Group.{Group}
use Rattle.sect_place.specs.declared.part.Part.{Part}
use Rattle.slot_plan.specs.declared.list.Slots.{Slots}
use Rattle.tlv_plan.specs.Template.{aligned, end_of}
use Rattle.unwind_link.specs.Twice.{with_unwind}
use Rattle.unwind_link.proofs.TwiceLemmas.{before_info, info as room, same_lead, sized, text_is}

ends_up : (a b : ℕ) (atoms : List Atom) → a ≤ b → end_of a atoms ≤ end_of b atoms
unfolding end_of
ends_up a b [] up = up
ends_up a b (atom ∷ atoms) up = let here = aligned_order atom.align a b up in ends_up (aligned atom.align a + atom.size) (aligned atom.align b + atom.size) atoms (omega (arith, here))

part_up : (atoms : List AtomKey → List Atom) (a b : ℕ) (part : Part) → a ≤ b → part_end atoms a part ≤ part_end atoms b part
unfolding part_end
part_up atoms a b part up = let here = ends_up (part_from a part) (part_from b part) (atoms part.section.atoms) (aligned_order part.section.align a b up) in omega (arith, here)

parts_up : (atoms : List AtomKey → List Atom) (a b : ℕ) (parts : List Part) → a ≤ b → parts_end atoms a parts ≤ parts_end atoms b parts
unfolding parts_end
parts_up atoms a b [] up = up
parts_up atoms a b (part ∷ parts) up = parts_up atoms (part_end atoms a part) (part_end atoms b part) parts (part_up atoms a b part up)

groups_up : (atoms : List AtomKey → List Atom) (a b lead : ℕ) (groups : List Group) → a ≤ b → groups_end atoms a lead groups ≤ groups_end atoms b lead groups
unfolding groups_end
groups_up atoms a b lead [] up = up
groups_up atoms a b lead (group ∷ groups) up =
    let here = parts_up atoms (a + lead) (b + lead) group.parts (omega (arith, up)) in
    groups_up atoms (page_up (group_end atoms a lead group)) (page_up (group_end atoms b lead group)) 0 groups (aligned_order 14 (group_end atoms a lead group) (group_end atoms b lead group) here)

parts_join : (atoms : List AtomKey → List Atom) (at : ℕ) (xs ys : List Part) → parts_end atoms at (xs ++ ys) ≡ parts_end atoms (parts_end atoms at xs) ys
unfolding parts_end
parts_join atoms at [] ys = refl
parts_join atoms at (part ∷ xs) ys = parts_join atoms (part_end atoms at part) xs ys

info_up : (atoms : List AtomKey → List Atom) (at few many : ℕ) → few ≤ many → parts_end atoms at (room few ∷ []) ≤ parts_end atoms at (room many ∷ [])
unfolding parts_end part_end
info_up atoms at few many up = omega (arith, up)

text_up : (atoms : List AtomKey → List Atom) (at : ℕ) (sections : List OutSection) (one other : MadeBytes) → one.stubs ≡ other.stubs → 0 < one.unwind → one.unwind ≤ other.unwind → parts_end atoms at (text_parts sections one) ≤ parts_end atoms at (text_parts sections other)
text_up atoms at sections one other same some up =
    let front = before_info sections other.stubs in
    let first : parts_end atoms at (text_parts sections one) ≡ parts_end atoms (parts_end atoms at front) (room one.unwind ∷ []) =
    ap (parts_end atoms at) (text_is sections one some ∙ ap (λ (n : ℕ). before_info sections n ++ room one.unwind ∷ []) same) ∙ parts_join atoms at front (room one.unwind ∷ []) in
    let second : parts_end atoms at (text_parts sections other) ≡ parts_end atoms (parts_end atoms at front) (room other.unwind ∷ []) =
    ap (parts_end atoms at) (text_is sections other (omega (arith, some, up))) ∙ parts_join atoms at front (room other.unwind ∷ []) in
    let grows = info_up atoms (parts_end atoms at front) one.unwind other.unwind up in
    omega (arith, first, second, grows)

image_up : (atoms : List AtomKey → List Atom) (base lead commands few many : ℕ) (sections : List OutSection) (slots : Slots) → 0 < few → few ≤ many
    → groups_end atoms base lead (groups_of sections (sized slots commands few)) ≤ groups_end atoms base lead (groups_of sections (sized slots commands many))
unfolding groups_end groups_of constant_parts writable_parts
image_up atoms base lead commands few many sections slots some up =
    let one = sized slots commands few in
    let two = sized slots commands many in
    let here = text_up atoms (base + lead) sections one two refl some up in
    groups_up atoms (page_up (parts_end atoms (base + lead) (text_parts sections one))) (page_up (parts_end atoms (base + lead) (text_parts sections two))) 0 (later_groups sections two)
    (aligned_order 14 (parts_end atoms (base + lead) (text_parts sections one)) (parts_end atoms (base + lead) (text_parts sections two)) here)

-- the whole image
pub plans_up : (kept : List Atom) (sections : List OutSection) (slots : Slots) (islands : IslandPlan) (command : Command) (commands few many : ℕ) → 0 < few → few ≤ many
    → image_size (plan_of kept sections slots islands (with_unwind commands few) command) ≤ image_size (plan_of kept sections slots islands (with_unwind commands many) command)
unfolding plan_of
plans_up kept sections slots islands command commands few many some up =
    let atoms = spaced kept islands.areas (area_unit sections) in
    let lead = same_lead sections slots command commands few many some (omega (arith, some, up)) in
    let grows = image_up atoms (base_of command) (lead_of (groups_of sections (sized slots commands many)) (with_unwind commands many) command) commands few many sections slots some up in
    let same = ap (λ (n : ℕ). groups_end atoms (base_of command) n (groups_of sections (sized slots commands few))) lead in
    omega (arith, grows, same)
