-- What stands in memory, section by section and row by row.
use Rattle.std.proofs.Common.{◌≡◌, ℕ, ◌+◌, ◌-◌, ◌<◌, ◌≤◌, ◌==◌, inl, inr, Bool, true, false, List, get_or, Option, Some, None, refl, sym, ap, ◌∙◌, arith, tests, subst, if◌then◌else◌}
use Rattle.std.specs.Prelude.{slice_get}
use Rattle.std.specs.List.{AllPairs}
use Rattle.std.specs.Option.{option_and_then, option_map_or}
use Rattle.std.proofs.lemmas.Bool.{cases_lt, le-ltb, lt-ltb}
use Rattle.std.proofs.lemmas.Option.{slice_get-get_or}
use Rattle.list_lemmas.proofs.Members.{In}
use Rattle.mo_format.specs.declared.segment.SegmentCommand.{SegmentCommand}
use Rattle.mo_types.specs.Scan.{first_some}
use Rattle.mo_types.specs.Whole.{is_zerofill}
use Rattle.sect_place.specs.declared.layout.PlacedSection.{PlacedSection}
use Rattle.sect_place.specs.declared.layout.Segment.{Segment}
use Rattle.load_cmds.specs.Segments.{slot_count, stub_count}
use Rattle.image_make.specs.Made.{IsLaid, ImageInputs, front_of, plan_for}
use Rattle.image_read.specs.Commands.{commands_of, fits}
use Rattle.image_read.specs.Mapped.{byte_in, holder, holder_at, holds, mapped}
use Rattle.image_laws.specs.Means.{AreRising, Imaged}
use Rattle.image_make.proofs.RoomLemmas.{counts}
use Rattle.image_laws.proofs.Begun.{beside_atoms, commands_list, image_long, is_fronted, parts_for}
use Rattle.image_laws.proofs.Blank.{zero_byte}
use Rattle.image_laws.proofs.First.{IsFirst, first_there, found_at, own}
use Rattle.image_laws.proofs.Fronted.{are_there, places_there}
use Rattle.image_laws.proofs.InfoPlace.{info_solid}
use Rattle.image_laws.proofs.Layouts.{HasPlace, beside_rows, held_in_layout, is_plan, own_solid, place_before, same_section}
use Rattle.image_laws.proofs.Listed.{other_list}
use Rattle.image_laws.proofs.Planned.{all_fit, in_turn, last_empty}
use Rattle.image_laws.proofs.Seek.{first_holder}
use Rattle.image_laws.proofs.Walk.{places_from}

-- ---- the segment that holds an address

-- the first segment that passes a test, among the load commands
pub first_found : (test : SegmentCommand → Bool) (m : ImageInputs) (image : List ℕ) (of : Imaged m image) (command : SegmentCommand) → AreRising m → IsFirst test of.layout.segments command → first_some (found_at test image) (commands_of image) ≡ Some command
first_found test m image of command rising first =
    let front = is_fronted m image of rising in
    let fit = subst (λ (ss : List Segment). Rattle.std.specs.List.AllByRecursion Rattle.image_laws.proofs.First.IsFitSegment ss) (sym of.is_image.laid.layout_of.segments) (all_fit m.command (plan_for m) (is_plan m of.layout of.is_image.laid)) in
    let found = first_there test image front.header front.rest (parts_for of) (stub_count of.layout.sections) (slot_count of.layout.sections) of.layout.segments of.layout.sections (other_list (parts_for of) m.command m.libs) command front.is fit first in
    ap (first_some (found_at test image)) (places_there image (commands_list of) front)
    ∙ ap (λ (n : ℕ). first_some (found_at test image) (places_from n (commands_list of))) (sym front.long)
    ∙ found

if_fits : (b : Bool) (image : List ℕ) (address : ℕ) (held : Option SegmentCommand) (command : SegmentCommand) → b ≡ true → held ≡ Some command → (if b then option_and_then (byte_in image address) held else None) ≡ byte_in image address command
if_fits b image address held command p q = rw (p, q) refl

holder_found : (image : List ℕ) (address : ℕ) (command : SegmentCommand) → first_some (found_at (holds address) image) (commands_of image) ≡ Some command → holder image address ≡ Some command
unfolding holder holder_at
holder_found image address command found = found

pub holder_in : (m : ImageInputs) (image : List ℕ) (of : Imaged m image) (segment : Segment) (address : ℕ) → AreRising m → In segment of.layout.segments → segment.address ≤ address → address < segment.address + segment.vmsize → holder image address ≡ Some (own segment)
holder_in m image of segment address rising among low high =
    let plan = plan_for m in
    let planned = of.is_image.laid.layout_of.segments in
    let first : IsFirst (holds address) of.layout.segments (own segment) =
    subst (λ (ss : List Segment). IsFirst (holds address) ss (own segment)) (sym planned)
    (first_holder 0 0 address _ segment (in_turn m.command plan (is_plan m of.layout of.is_image.laid)) (last_empty m.command plan) (subst (λ (ss : List Segment). In segment ss) planned among) low high) in
    holder_found image address (own segment) (first_found (holds address) m image of (own segment) rising first)

pub mapped_in : (m : ImageInputs) (image : List ℕ) (of : Imaged m image) (segment : Segment) (address : ℕ) → AreRising m → In segment of.layout.segments → segment.address ≤ address → address < segment.address + segment.vmsize → mapped image address ≡ byte_in image address (own segment)
unfolding mapped
mapped_in m image of segment address rising among low high =
    if_fits (fits image) image address (holder image address) (own segment) (are_there image (commands_list of) (is_fronted m image of rising)) (holder_in m image of segment address rising among low high)

-- the byte of a segment that may be looked at
byte_stored : (image : List ℕ) (address : ℕ) (segment : Segment) → 0 < segment.protection → address < segment.address + segment.file_size → byte_in image address (own segment) ≡ slice_get image (segment.file_offset + (address - segment.address))
byte_stored image address segment open_to within = rw (apart segment.protection open_to, lt-ltb address (segment.address + segment.file_size) within) refl
  where
    apart : (n : ℕ) → 0 < n → (n == 0) ≡ false
    apart n some = grind (arith, tests)

byte_past : (image : List ℕ) (address : ℕ) (segment : Segment) → 0 < segment.protection → segment.address + segment.file_size ≤ address → byte_in image address (own segment) ≡ Some 0
byte_past image address segment open_to past = rw (apart segment.protection open_to, le-ltb address (segment.address + segment.file_size) past) refl
  where
    apart : (n : ℕ) → 0 < n → (n == 0) ≡ false
    apart n some = grind (arith, tests)

-- ---- sections

pub section_stored : (m : ImageInputs) (image : List ℕ) (of : Imaged m image) (section : PlacedSection) (k : ℕ) → AreRising m → In section of.layout.sections → is_zerofill section.section.kind ≡ false → k < section.size → mapped image (section.address + k) ≡ slice_get image (section.file_offset + k)
section_stored m image of section k rising among solid low =
    let by = held_in_layout m of.layout section of.is_image.laid among in
    let held = by.held in
    let begins = held.low in
    let ends = held.high in
    let stored = held.filled solid (omega arith) in
    let file = held.file solid in
    mapped_in m image of by.segment (section.address + k) rising by.among (omega arith) (omega arith)
    ∙ byte_stored image (section.address + k) by.segment held.open_to (omega arith)
    ∙ ap (slice_get image) (let e : by.segment.file_offset + (section.address + k - by.segment.address) ≡ section.file_offset + k = omega arith in e)

pub section_zeros : (m : ImageInputs) (image : List ℕ) (of : Imaged m image) (section : PlacedSection) (k : ℕ) → AreRising m → In section of.layout.sections → is_zerofill section.section.kind ≡ true → k < section.size → mapped image (section.address + k) ≡ Some 0
section_zeros m image of section k rising among zeros low =
    let by = held_in_layout m of.layout section of.is_image.laid among in
    let held = by.held in
    let begins = held.low in
    let ends = held.high in
    let address = section.address + k in
    let place = by.segment.file_offset + (address - by.segment.address) in
    mapped_in m image of by.segment address rising by.among (omega arith) (omega arith)
    ∙ elim (cases_lt address (by.segment.address + by.segment.file_size)) [
      | inl within ↦
          let far = by.far address (omega arith) in
          let here : HasPlace m of.layout section place = record {
            address = address;
            segment = by.segment;
            among = by.among;
            at = (omega arith, within, refl);
            of_section = among;
            low = omega arith;
            high = omega arith;
            behind = omega arith;
          } in
          let count = counts m of.layout of.fixups of.chains laid in
          let room = count.room in
          let before = place_before m of.layout section place laid here in
          let long = image_long m image of in
          let one = λ (other : PlacedSection) (there : HasPlace m of.layout other place). same_section m of.layout section other place laid here there in
          let zero : get_or image place 0 ≡ 0 =
          beside_atoms m image of place (beside_rows m of.layout place rising laid (λ other key there listed solid. clash (one other there) solid))
          ∙ zero_byte m of.layout of.chains (front_of m of.layout of.fixups of.chains) place laid (omega arith) before (λ way other e there. clash (one other there) (own_solid m of.layout way other laid e))
          (λ other e there. clash (one other there) (info_solid m of.layout other laid e)) in
          byte_stored image address by.segment held.open_to within ∙ slice_get-get_or image place 0 (omega arith) ∙ ap Some zero
      | inr past ↦ byte_past image address by.segment held.open_to past
    ]
  where
    laid : IsLaid m of.layout
    laid = of.is_image.laid

    -- another section with bytes isn't this one
    clash : {other : PlacedSection} → section ≡ other → is_zerofill other.section.kind ≡ false → ⊥
    clash {other = other} same solid = let e : true ≡ false = sym zeros ∙ ap (λ (s : PlacedSection). is_zerofill s.section.kind) same ∙ solid in absurd cc
