-- Where the sections and atoms of an image stand in its file.
use Rattle.std.proofs.Common.{◌≡◌, ℕ, ◌+◌, ◌-◌, ◌*◌, ◌<◌, ◌≤◌, inl, inr, false, codes, List, [], ◌++◌, length, map, Some, None, Contains, refl, sym, ap, ◌∙◌, arith, subst}
use Rattle.std.specs.Prelude.{All}
use Rattle.std.specs.List.{AllPairs}
use Rattle.std.proofs.lemmas.Bool.{cases_lt}
use Rattle.list_lemmas.proofs.Members.{Contains_from_in, In, all_at, all_from_in, all_in, find_some}
use Rattle.mo_types.specs.Whole.{is_zerofill}
use Rattle.mo_types.specs.declared.key.AtomKey.{AtomKey}
use Rattle.mo_types.specs.declared.out_section.OutSection.{OutSection}
use Rattle.patch.specs.Range.{IsBeside, bytes_of}
use Rattle.patch.specs.declared.range.PlacedWork.{PlacedWork}
use Rattle.sect_list.specs.OutSections.{out_sections}
use Rattle.sect_place.specs.Arrangement.{section_of, text_parts}
use Rattle.sect_place.specs.Layout.{end_of_image, first_segments, image_segments, image_sections, lead_of, linkedit, made_bytes, plan_of}
use Rattle.sect_place.specs.Places.{groups_file, groups_segments, spaced}
use Rattle.sect_place.specs.declared.layout.Layout.{Layout}
use Rattle.sect_place.specs.declared.layout.PlacedSection.{PlacedSection}
use Rattle.sect_place.specs.declared.layout.Segment.{Segment}
use Rattle.sect_place.proofs.Meaning.{sections_apart}
use Rattle.sect_place.proofs.Sound.{groups_split, later_groups}
use Rattle.slot_place.specs.Places.{goals_for, made_for, own_section, unit_of}
use Rattle.slot_place.proofs.SectionLemmas.{IsOwnOf, own_found, own_missing}
use Rattle.slot_plan.specs.declared.need.Way.{Way}
use Rattle.slot_plan.specs.declared.need.Way.TheVariants.{Got, Stub, Tlv}
use Rattle.tlv_plan.specs.Template.{atoms_of}
use Rattle.image_make.specs.Atoms.{atom_of}
use Rattle.image_make.specs.Made.{IsLaid, ImageInputs, kept_of, plan_for, plan_with, rows_of, sizes_of}
use Rattle.image_make.specs.Parts.{linkedit_offset}
use Rattle.image_make.proofs.RoomLemmas.{layout_end}
use Rattle.image_make.proofs.WorkLemmas.{few_bytes}
use Rattle.image_laws.specs.Means.{AreRising}
use Rattle.image_laws.proofs.Alone.{alone}
use Rattle.image_laws.proofs.Listing.{have_atoms}
use Rattle.image_laws.proofs.Named.{all_named}
use Rattle.image_laws.proofs.Planned.{IsPlan, all_held, in_turn}
use Rattle.image_laws.proofs.Rowed.{row_in}
use Rattle.image_laws.proofs.Turned.{InTurn, IsAt, IsHeldBy, ends_before, one_address}

-- ---- the plan and the layout

pub is_plan : (m : ImageInputs) (layout : Layout) → IsLaid m layout → IsPlan m.command (plan_for m)
unfolding plan_with plan_of lead_of
is_plan m layout laid =
    let sections = out_sections m.files (map atom_of (kept_of m)) in
    let bytes = made_bytes m.slots (sizes_of m.command m.libs (length m.info)) in
    record {
      first = record { name = codes "__TEXT"; parts = text_parts sections bytes };
      later = later_groups sections bytes;
      groups = groups_split sections bytes;
      named = refl;
      segments = all_named sections bytes;
      base = refl;
      small = laid.small;
      room = omega arith;
    }

-- ---- where rows stand in the file

-- a row in its segment: at the same distance from its start in memory and in the file, behind the header and the commands
pub record IsRowAt (m : ImageInputs) (layout : Layout) (row : PlacedWork) : Type 0 where
  pub segment : Segment
  pub among : In segment layout.segments
  pub open_to : 0 < segment.protection
  pub low : segment.address ≤ row.address
  pub high : row.address + row.atom.size ≤ segment.address + segment.vmsize
  pub bytes : 0 < row.atom.size → row.address + row.atom.size ≤ segment.address + segment.file_size
  pub place : row.at ≡ segment.file_offset + (row.address - segment.address)
  pub behind : (plan_for m).lead ≤ row.at

pub held_in_layout : (m : ImageInputs) (layout : Layout) (section : PlacedSection) → IsLaid m layout → In section layout.sections → IsHeldBy layout.segments ((plan_for m).base + (plan_for m).lead) (plan_for m).lead section
held_in_layout m layout section laid among =
    let plan = plan_for m in
    let held : IsHeldBy (image_segments m.command plan) (plan.base + plan.lead) plan.lead section =
    all_in (IsHeldBy (image_segments m.command plan) (plan.base + plan.lead) plan.lead) (image_sections plan) section (all_held m.command plan (is_plan m layout laid).segments) (subst (λ (ss : List PlacedSection). In section ss) laid.layout_of.sections among) in
    subst (λ (ss : List Segment). IsHeldBy ss (plan.base + plan.lead) plan.lead section) (sym laid.layout_of.segments) held

pub row_at_place : (m : ImageInputs) (layout : Layout) (row : PlacedWork) → AreRising m → IsLaid m layout → In row (rows_of m layout) → IsRowAt m layout row
row_at_place m layout row rising laid h =
    let one = row_in m layout row rising laid h in
    let section : PlacedSection = one.section in
    let by = held_in_layout m layout section laid one.among in
    let held = by.held in
    let within = one.within in
    let far = by.far row.address within.low in
    let at : section.file_offset + (row.address - section.address) ≡ row.at = ap (λ (r : PlacedWork). r.at) one.is in
    let file : section.file_offset ≡ by.segment.file_offset + (section.address - by.segment.address) = held.file one.solid in
    let low = held.low in
    let high = held.high in
    let begins = within.low in
    let ends = within.high in
    record {
      segment = by.segment;
      among = by.among;
      open_to = held.open_to;
      low = omega arith;
      high = omega arith;
      bytes = λ some. (let filled = held.filled one.solid (omega arith) in omega arith);
      place = omega arith;
      behind = omega arith;
    }

pub all_places : {X : Type 0} (P : X → Type 0) (xs : List X) → ((x : X) → In x xs → P x) → All P xs
all_places P xs each = λ k d within. all_at P xs k d (all_from_in P xs each) within

-- an address in two sections: they are one
pub one_section : (sections : List PlacedSection) (p q : PlacedSection) (address : ℕ) → AllPairs (λ (a : PlacedSection) (b : PlacedSection). a.address + a.size ≤ b.address) sections → Contains sections p → Contains sections q → p.address ≤ address → address < p.address + p.size → q.address ≤ address → address < q.address + q.size → p ≡ q
one_section sections p q address apart h k a b c d =
    alone (λ (x : PlacedSection) (y : PlacedSection). x.address + x.size ≤ y.address) sections p q apart h k (λ before. omega arith) (λ behind. omega arith)

-- ---- what a place of the file is one of

-- a place of the file that stands for an address of a section
pub record HasPlace (m : ImageInputs) (layout : Layout) (section : PlacedSection) (place : ℕ) : Type 0 where
  pub address : ℕ
  pub segment : Segment
  pub among : In segment layout.segments
  pub at : IsAt segment address place
  pub of_section : In section layout.sections
  pub low : section.address ≤ address
  pub high : address < section.address + section.size
  pub behind : (plan_for m).lead ≤ place

pub layout_apart : (m : ImageInputs) (layout : Layout) → IsLaid m layout → AllPairs (λ (s : PlacedSection) (t : PlacedSection). s.address + s.size ≤ t.address) layout.sections
layout_apart m layout laid = subst (λ (ss : List PlacedSection). AllPairs (λ (s : PlacedSection) (t : PlacedSection). s.address + s.size ≤ t.address) ss) (sym laid.layout_of.sections) (sections_apart (plan_for m))

-- it is that of one section alone
pub same_section : (m : ImageInputs) (layout : Layout) (p q : PlacedSection) (place : ℕ) → IsLaid m layout → HasPlace m layout p place → HasPlace m layout q place → p ≡ q
same_section m layout p q place laid a b =
    let turn = subst (λ (ss : List Segment). InTurn 0 0 ss) (sym laid.layout_of.segments) (in_turn m.command (plan_for m) (is_plan m layout laid)) in
    let one : a.address ≡ b.address = one_address 0 0 layout.segments a.segment b.segment a.address b.address place turn a.among b.among a.at b.at in
    let low = b.low in
    let high = b.high in
    one_section layout.sections p q a.address (layout_apart m layout laid) (Contains_from_in layout.sections p a.of_section) (Contains_from_in layout.sections q b.of_section) a.low a.high (omega arith) (omega arith)

-- it stands before `__LINKEDIT`
pub ends_in : (m : ImageInputs) (layout : Layout) (segment : Segment) → IsLaid m layout → In segment layout.segments → segment.file_offset + segment.file_size ≤ linkedit_offset layout.segments
unfolding image_segments
ends_in m layout segment laid among =
    let plan = plan_for m in
    let last = linkedit (end_of_image plan) (groups_file plan.atoms plan.base 0 plan.lead plan.groups) in
    let others = first_segments m.command ++ groups_segments plan.atoms plan.base 0 plan.lead plan.groups in
    let ends = layout_end m layout laid in
    let before = ends_before 0 0 others last segment (in_turn m.command plan (is_plan m layout laid)) (subst (λ (ss : List Segment). In segment ss) laid.layout_of.segments among) in
    omega (arith, ends, before)

pub place_before : (m : ImageInputs) (layout : Layout) (section : PlacedSection) (place : ℕ) → IsLaid m layout → HasPlace m layout section place → place < linkedit_offset layout.segments
place_before m layout section place laid has =
    let ends = ends_in m layout has.segment laid has.among in
    omega (arith, ends, has.at.0, has.at.1, has.at.2)

-- the bytes of a section in the file
pub stored_place : (m : ImageInputs) (layout : Layout) (section : PlacedSection) (place : ℕ) → IsLaid m layout → In section layout.sections → is_zerofill section.section.kind ≡ false → section.file_offset ≤ place → place < section.file_offset + section.size → HasPlace m layout section place
stored_place m layout section place laid among solid low high =
    let by = held_in_layout m layout section laid among in
    let held = by.held in
    let file : section.file_offset ≡ by.segment.file_offset + (section.address - by.segment.address) = held.file solid in
    let filled = held.filled solid (omega arith) in
    let begins = held.low in
    let far = by.far section.address (omega arith) in
    record {
      address = section.address + (place - section.file_offset);
      segment = by.segment;
      among = by.among;
      at = (omega arith, omega arith, omega arith);
      of_section = among;
      low = omega arith;
      high = omega arith;
      behind = omega arith;
    }

-- the bytes of an atom
pub row_place : (m : ImageInputs) (layout : Layout) (row : PlacedWork) (place : ℕ) → (rising : AreRising m) (laid : IsLaid m layout) (h : In row (rows_of m layout)) → row.at ≤ place → place < row.at + length (bytes_of m.files row) → HasPlace m layout (row_in m layout row rising laid h).section place
row_place m layout row place rising laid h begun short =
    let of_section = row_in m layout row rising laid h in
    let within = of_section.within in
    let stands = row_at_place m layout row rising laid h in
    let few = few_bytes m.files row in
    let stored = stands.bytes (omega arith) in
    let where_at = stands.place in
    let above = stands.low in
    let from = within.low in
    let to = within.high in
    let behind = stands.behind in
    record {
      address = row.address + (place - row.at);
      segment = stands.segment;
      among = stands.among;
      at = (omega arith, omega arith, omega arith);
      of_section = of_section.among;
      low = omega arith;
      high = omega arith;
      behind = omega arith;
    }

-- no atom has a place that is none of a section with atoms and bytes
pub beside_rows : (m : ImageInputs) (layout : Layout) (place : ℕ) → AreRising m → IsLaid m layout → ((section : PlacedSection) (key : AtomKey) → HasPlace m layout section place → In key section.section.atoms → is_zerofill section.section.kind ≡ false → ⊥) → All (IsBeside m.files 0 place) (rows_of m layout)
beside_rows m layout place rising laid none = all_places (IsBeside m.files 0 place) (rows_of m layout) each
  where
    each : (row : PlacedWork) → In row (rows_of m layout) → IsBeside m.files 0 place row
    each row h = elim (cases_lt place row.at) [
      | inl before ↦ inl (omega arith)
      | inr begun ↦ elim (cases_lt place (row.at + length (bytes_of m.files row))) [
        | inl short ↦
            let of_section = row_in m layout row rising laid h in
            absurd (none of_section.section of_section.key (row_place m layout row place rising laid h begun short) of_section.listed of_section.solid)
        | inr past ↦ inr (omega arith)
      ]
    ]

-- ---- the linker's own sections

pub own_in : (m : ImageInputs) (layout : Layout) (way : Way) (placed : PlacedSection) → own_section layout.sections way ≡ Some placed → In placed layout.sections
unfolding own_section
own_in m layout way placed e = (find_some _ layout.sections placed e).0

pub own_is : (m : ImageInputs) (layout : Layout) (way : Way) (placed : PlacedSection) → IsLaid m layout → own_section layout.sections way ≡ Some placed → IsOwnOf (plan_for m).base (end_of_image (plan_for m)) (unit_of way * length (goals_for m.slots way)) way placed
unfolding image_sections plan_with plan_of spaced atoms_of
own_is m layout way placed laid e =
    let plan = plan_for m in
    let sections = out_sections m.files (map atom_of (kept_of m)) in
    own_found plan.atoms plan.base 0 plan.lead sections m.slots (sizes_of m.command m.libs (length m.info)) way placed (record { none = refl; have_atoms = have_atoms m.files (map atom_of (kept_of m)) })
    (subst (λ (ss : List PlacedSection). own_section ss way ≡ Some placed) laid.layout_of.sections e)

-- where there is none, nothing is needed in that way
pub own_none : (m : ImageInputs) (layout : Layout) (way : Way) → IsLaid m layout → own_section layout.sections way ≡ None → goals_for m.slots way ≡ []
unfolding image_sections plan_with plan_of spaced atoms_of
own_none m layout way laid e =
    let plan = plan_for m in
    own_missing plan.atoms plan.base 0 plan.lead (out_sections m.files (map atom_of (kept_of m))) m.slots (sizes_of m.command m.libs (length m.info)) way
    (subst (λ (ss : List PlacedSection). own_section ss way ≡ None) laid.layout_of.sections e)

-- it has bytes, and no atoms
made_solid : (way : Way) → is_zerofill (section_of (made_for way)).kind ≡ false
made_solid Got = refl
made_solid Stub = refl
made_solid Tlv = refl

made_bare : (way : Way) → (section_of (made_for way)).atoms ≡ []
made_bare Got = refl
made_bare Stub = refl
made_bare Tlv = refl

pub own_solid : (m : ImageInputs) (layout : Layout) (way : Way) (placed : PlacedSection) → IsLaid m layout → own_section layout.sections way ≡ Some placed → is_zerofill placed.section.kind ≡ false
own_solid m layout way placed laid e = ap (λ (s : OutSection). is_zerofill s.kind) (own_is m layout way placed laid e).is ∙ made_solid way

pub own_bare : (m : ImageInputs) (layout : Layout) (way : Way) (placed : PlacedSection) → IsLaid m layout → own_section layout.sections way ≡ Some placed → placed.section.atoms ≡ []
own_bare m layout way placed laid e = ap (λ (s : OutSection). s.atoms) (own_is m layout way placed laid e).is ∙ made_bare way
