-- An image has room for its header and load commands before its first section, and ends below 2^32 in the file.
use Rattle.std.proofs.Common.{◌≡◌, ℕ, ◌+◌, ◌-◌, ◌*◌, ◌<◌, ◌≤◌, ◌^◌, Bool, true, false, codes, List, [], ◌∷◌, ◌++◌, length, map, Option, Some, Ok, refl, sym, ap, ◌∙◌, subst, arith, if◌then◌else◌, append_assoc, length-append}
use Rattle.std.specs.Prelude.{slice_get}
use Rattle.std.specs.Option.{option_map_or}
use Rattle.command_line.specs.declared.command.Command.{Command}
use Rattle.mo_types.specs.declared.atom.Atom.{Atom}
use Rattle.mo_types.specs.declared.key.AtomKey.{AtomKey}
use Rattle.load_cmds.specs.Sizes.{other_size}
use Rattle.load_cmds.proofs.Lengths.{commands_length}
use Rattle.sect_list.specs.OutSections.{out_sections}
use Rattle.sect_place.specs.Arrangement.{parts_count, text_parts}
use Rattle.sect_place.specs.Layout.{Plan, end_of_image, first_segments, image_sections, image_segments, lead_of, linkedit, made_bytes, others_of, pagezero, plan_of}
use Rattle.sect_place.specs.Places.{file_bytes, group_end, groups_end, groups_file, groups_sections, groups_segments, page_up, part_end, parts_sections}
use Rattle.sect_place.specs.Whole.{IsWholeLayout}
use Rattle.sect_place.specs.declared.layout.Layout.{Layout}
use Rattle.sect_place.specs.declared.layout.Segment.{Segment}
use Rattle.sect_place.specs.declared.part.Group.{Group}
use Rattle.sect_place.specs.declared.part.Part.{Part}
use Rattle.sect_place.proofs.Sound.{groups_split, later_groups, whole_finished}
use Rattle.sect_place.proofs.Spread.{group_bounds, groups_after}
use Rattle.image_join.proofs.JoinedLemmas.{length-joined}
use Rattle.image_make.specs.Atoms.{atom_of}
use Rattle.image_make.specs.Made.{IsLaid, ImageInputs, blank, entry_offset, front_of, kept_of, plan_for, plan_with, sizes_of}
use Rattle.image_make.specs.Flags.{bound_flags}
use Rattle.image_make.specs.Parts.{blank_of, linkedit_address, linkedit_offset, parts_of, parts_there}
use Rattle.fixup_chain.specs.declared.chains.Chains.{Chains}
use Rattle.fixup_chain.specs.declared.chains.Fixup.{Fixup}

-- ---- how many segments and sections there are

groups_many : (atoms : List AtomKey → List Atom) (at file lead : ℕ) (groups : List Group) → length (groups_segments atoms at file lead groups) ≡ length groups
unfolding groups_segments
groups_many atoms at file lead [] = refl
groups_many atoms at file lead (group ∷ groups) =
    let rest = groups_many atoms (page_up (group_end atoms at lead group)) (file + file_bytes atoms at lead group) 0 groups in omega arith

many_by : (dylib : Bool) (segments : List Segment) (n : ℕ) → length segments ≡ n + 1 → length ((if dylib then [] else pagezero ∷ []) ++ segments) ≡ n + (if dylib then 1 else 2)
many_by true segments n e = e
many_by false segments n e = omega arith

pub segments_count : (command : Command) (plan : Plan) → length (image_segments command plan) ≡ length plan.groups + others_of command
unfolding image_segments
segments_count command plan =
    let some = groups_segments plan.atoms plan.base 0 plan.lead plan.groups in
    let last : List Segment = linkedit (end_of_image plan) (groups_file plan.atoms plan.base 0 plan.lead plan.groups) ∷ [] in
    let all : length (some ++ last) ≡ length plan.groups + 1 = length-append some last ∙ ap (λ (n : ℕ). n + 1) (groups_many plan.atoms plan.base 0 plan.lead plan.groups) in
    ap length (append_assoc (first_segments command) some last) ∙ many_by command.dylib (some ++ last) (length plan.groups) all

parts_many : (atoms : List AtomKey → List Atom) (start file at : ℕ) (parts : List Part) → length (parts_sections atoms start file at parts) ≡ length parts
unfolding parts_sections
parts_many atoms start file at [] = refl
parts_many atoms start file at (part ∷ parts) = let rest = parts_many atoms start file (part_end atoms at part) parts in omega arith

sections_many : (atoms : List AtomKey → List Atom) (at file lead : ℕ) (groups : List Group) → length (groups_sections atoms at file lead groups) ≡ parts_count groups
unfolding groups_sections parts_count
sections_many atoms at file lead [] = refl
sections_many atoms at file lead (group ∷ groups) =
    let here = parts_many atoms at file (at + lead) group.parts in
    let rest = sections_many atoms (page_up (group_end atoms at lead group)) (file + file_bytes atoms at lead group) 0 groups in
    length-append (parts_sections atoms at file (at + lead) group.parts) (groups_sections atoms (page_up (group_end atoms at lead group)) (file + file_bytes atoms at lead group) 0 groups) ∙ omega arith

pub sections_count : (plan : Plan) → length (image_sections plan) ≡ parts_count plan.groups
unfolding image_sections
sections_count plan = sections_many plan.atoms plan.base 0 plan.lead plan.groups

-- ---- where segments end

file_after : (atoms : List AtomKey → List Atom) (at file lead : ℕ) (groups : List Group) → file ≤ groups_file atoms at file lead groups
unfolding groups_file
file_after atoms at file lead [] = omega arith
file_after atoms at file lead (group ∷ groups) =
    let rest = file_after atoms (page_up (group_end atoms at lead group)) (file + file_bytes atoms at lead group) 0 groups in omega arith

-- the first segment has the lead, in memory and in the file
pub first_end : (atoms : List AtomKey → List Atom) (at file lead : ℕ) (group : Group) (groups : List Group) → (at + lead ≤ groups_end atoms at lead (group ∷ groups)) × (file + lead ≤ groups_file atoms at file lead (group ∷ groups))
unfolding groups_end groups_file file_bytes
first_end atoms at file lead group groups =
    let bounds = group_bounds atoms at lead group.parts in
    let next = page_up (group_end atoms at lead group) in
    let after = groups_after atoms next 0 groups in
    let stops = file_after atoms next (file + file_bytes atoms at lead group) 0 groups in
    (omega (arith, bounds.0, bounds.3), omega (arith, bounds.1, bounds.4))

-- segments have no more bytes in the file than in memory
file_beside : (atoms : List AtomKey → List Atom) (at file lead : ℕ) (groups : List Group) → at + groups_file atoms at file lead groups ≤ file + groups_end atoms at lead groups
unfolding groups_end groups_file file_bytes
file_beside atoms at file lead [] = omega arith
file_beside atoms at file lead (group ∷ groups) =
    let bounds = group_bounds atoms at lead group.parts in
    let rest = file_beside atoms (page_up (group_end atoms at lead group)) (file + file_bytes atoms at lead group) 0 groups in
    omega (arith, bounds.0, bounds.1, bounds.3, bounds.4, bounds.5, rest)

-- ---- a layout

pub base_small : (dylib : Bool) → (if dylib then 0 else 2 ^ 32) ≤ 2 ^ 32
base_small true = omega arith
base_small false = omega arith

pub whole_layout : (m : ImageInputs) (layout : Layout) → IsLaid m layout → IsWholeLayout layout
unfolding plan_with plan_of
whole_layout m layout laid =
    whole_finished m.command (plan_for m) (out_sections m.files (map atom_of (kept_of m))) (made_bytes m.slots (sizes_of m.command m.libs (length m.info))) (Ok layout) refl (base_small m.command.dylib) refl laid.layout_of.segments laid.layout_of.sections laid.small

lead_is : (m : ImageInputs) → 32 + (other_size parts_there m.command m.libs + 72 * (length (plan_for m).groups + others_of m.command) + 80 * parts_count (plan_for m).groups) ≤ (plan_for m).lead
unfolding plan_with plan_of lead_of
lead_is m = omega arith

-- the lead stands before all sections, in memory and in the file
pub lead_room : (m : ImageInputs) → ((plan_for m).base + (plan_for m).lead ≤ end_of_image (plan_for m)) × ((plan_for m).lead ≤ groups_file (plan_for m).atoms (plan_for m).base 0 (plan_for m).lead (plan_for m).groups)
unfolding plan_with plan_of
lead_room m =
    let plan = plan_for m in
    let sections = out_sections m.files (map atom_of (kept_of m)) in
    let bytes = made_bytes m.slots (sizes_of m.command m.libs (length m.info)) in
    let ends = first_end plan.atoms plan.base 0 plan.lead (record { name = codes "__TEXT"; parts = text_parts sections bytes }) (later_groups sections bytes) in
    subst (λ (gs : List Group). (plan.base + plan.lead ≤ groups_end plan.atoms plan.base plan.lead gs) × (plan.lead ≤ groups_file plan.atoms plan.base 0 plan.lead gs)) (sym (groups_split sections bytes)) (ends.0, omega (arith, ends.1))

-- how many segments and sections there are, and how many bytes stand before the first section
pub record HasCounts (m : ImageInputs) (layout : Layout) (fixups : List Fixup) (chains : Chains) : Type 0 where
  pub segments : length layout.segments ≡ length (plan_for m).groups + others_of m.command
  pub sections : length layout.sections ≡ parts_count (plan_for m).groups
  pub front : length (front_of m layout fixups chains) ≡ 32 + (72 * length layout.segments + 80 * length layout.sections + other_size parts_there m.command m.libs)
  pub room : length (front_of m layout fixups chains) ≤ (plan_for m).lead
  pub small : (plan_for m).lead < 2 ^ 32

pub counts : (m : ImageInputs) (layout : Layout) (fixups : List Fixup) (chains : Chains) → IsLaid m layout → HasCounts m layout fixups chains
counts m layout fixups chains laid =
    let segments : length layout.segments ≡ length (plan_for m).groups + others_of m.command = ap length laid.layout_of.segments ∙ segments_count m.command (plan_for m) in
    let sections : length layout.sections ≡ parts_count (plan_for m).groups = ap length laid.layout_of.sections ∙ sections_count (plan_for m) in
    let front = commands_length layout (parts_of (m.flags + bound_flags fixups layout.sections) (entry_offset m layout) layout chains) m.command m.libs (whole_layout m layout laid) in
    let lead = lead_is m in
    let rooms = lead_room m in
    let small = laid.small in
    record { segments = segments; sections = sections; front = front; room = omega (arith, front, segments, sections, lead); small = omega (arith, rooms.0, small) }

-- ---- where it ends

last_there : (xs : List Segment) (last : Segment) → slice_get (xs ++ last ∷ []) (length xs) ≡ Some last
last_there [] last = refl
last_there (x ∷ xs) last = last_there xs last

end_is : (f : Segment → ℕ) (xs : List Segment) (last : Segment) → option_map_or f (slice_get (xs ++ last ∷ []) (length (xs ++ last ∷ []) - 1)) 0 ≡ f last
end_is f xs last =
    let long : length (xs ++ last ∷ []) - 1 ≡ length xs = omega (arith, length-append xs (last ∷ [])) in
    ap (λ (n : ℕ). option_map_or f (slice_get (xs ++ last ∷ []) n) 0) long
    ∙ ap (λ (o : Option Segment). option_map_or f o 0) (last_there xs last)

-- in the file
pub layout_end : (m : ImageInputs) (layout : Layout) → IsLaid m layout → linkedit_offset layout.segments ≡ groups_file (plan_for m).atoms (plan_for m).base 0 (plan_for m).lead (plan_for m).groups
unfolding image_segments linkedit_offset
layout_end m layout laid =
    let plan = plan_for m in
    let last = linkedit (end_of_image plan) (groups_file plan.atoms plan.base 0 plan.lead plan.groups) in
    ap (λ (ss : List Segment). option_map_or (λ (s : Segment). s.file_offset) (slice_get ss (length ss - 1)) 0) laid.layout_of.segments
    ∙ end_is (λ (s : Segment). s.file_offset) (first_segments m.command ++ groups_segments plan.atoms plan.base 0 plan.lead plan.groups) last

-- and in memory
pub memory_end : (m : ImageInputs) (layout : Layout) → IsLaid m layout → linkedit_address layout.segments ≡ end_of_image (plan_for m)
unfolding image_segments linkedit_address
memory_end m layout laid =
    let plan = plan_for m in
    let last = linkedit (end_of_image plan) (groups_file plan.atoms plan.base 0 plan.lead plan.groups) in
    ap (λ (ss : List Segment). option_map_or (λ (s : Segment). s.address) (slice_get ss (length ss - 1)) 0) laid.layout_of.segments
    ∙ end_is (λ (s : Segment). s.address) (first_segments m.command ++ groups_segments plan.atoms plan.base 0 plan.lead plan.groups) last

pub blank_long : (m : ImageInputs) (layout : Layout) (fixups : List Fixup) (chains : Chains) → length (blank m layout fixups chains) ≡ linkedit_offset layout.segments + length chains.blob
unfolding blank_of
blank_long m layout fixups chains = length-joined _

-- the header has room before `__LINKEDIT`, which begins below 2^32 in the file, and no farther there than in memory
pub record HasRoomBefore (m : ImageInputs) (layout : Layout) : Type 0 where
  pub lead : (plan_for m).lead ≤ linkedit_offset layout.segments
  pub small : linkedit_offset layout.segments < 2 ^ 32
  pub beside : (plan_for m).base + linkedit_offset layout.segments ≤ linkedit_address layout.segments
  pub low : linkedit_address layout.segments < (plan_for m).base + 2 ^ 32

pub front_room : (m : ImageInputs) (layout : Layout) → IsLaid m layout → HasRoomBefore m layout
front_room m layout laid =
    let plan = plan_for m in
    let ends = layout_end m layout laid in
    let memory = memory_end m layout laid in
    let rooms = lead_room m in
    let beside = file_beside plan.atoms plan.base 0 plan.lead plan.groups in
    let small = laid.small in
    record {
      lead = omega (arith, ends, rooms.1);
      small = omega (arith, ends, beside, small, rooms.0);
      beside = omega (arith, ends, memory, beside);
      low = omega (arith, memory, small);
    }
