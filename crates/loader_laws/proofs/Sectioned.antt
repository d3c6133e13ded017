-- The section `__unwind_info` of an image, by its header behind the command of its segment.
use Rattle.std.proofs.Common.{◌≡◌, ℕ, ◌+◌, ◌*◌, ◌<◌, ◌^◌, inl, inr, Bool, true, false, List, [], ◌∷◌, ◌++◌, length, take, drop, codes, Some, refl, sym, ap, ◌∙◌, arith, subst, if◌then◌else◌, append_assoc, length-append}
use Rattle.std.specs.List.{AllByRecursion, flat_map}
use Rattle.std.proofs.lemmas.List.{length-take-le, take-append-drop}
use Rattle.list_lemmas.proofs.Members.{Contains_from_in, In, in_either}
use Rattle.mo_bytes.specs.Rounding.{least_multiple}
use Rattle.mo_format.specs.Segment.{section_header_at, section_header_bytes, section_header_fields, segment_command_at, segment_command_bytes, segment_command_fields}
use Rattle.mo_format.specs.declared.segment.SectionHeader.{SectionHeader}
use Rattle.mo_format.specs.declared.segment.SegmentCommand.{SegmentCommand}
use Rattle.mo_format.proofs.StructureLemmas.{section_header_read}
use Rattle.mo_types.specs.declared.out_section.OutSection.{OutSection}
use Rattle.load_cmds.specs.Names.{name_field, u64_of}
use Rattle.load_cmds.specs.Segments.{entry_size, is_empty, is_own, linkedit_size, section_bytes, section_header, segment_command, sized_command, slot_count, stub_count}
use Rattle.load_cmds.specs.declared.parts.PartSizes.{PartSizes}
use Rattle.load_cmds.proofs.Lengths.{length-name_field, length-spelled}
use Rattle.sect_place.specs.Whole.{AreInSegments}
use Rattle.sect_place.specs.declared.layout.PlacedSection.{PlacedSection}
use Rattle.sect_place.specs.declared.layout.Segment.{Segment}
use Rattle.image_make.specs.Made.{IsLaid, ImageInputs, plan_for}
use Rattle.image_make.specs.Parts.{info_section}
use Rattle.image_make.proofs.RoomLemmas.{base_small, whole_layout}
use Rattle.image_read.specs.Commands.{commands_of}
use Rattle.image_read.specs.Mapped.{is_segment}
use Rattle.image_laws.specs.Means.{AreRising, Imaged}
use Rattle.image_laws.proofs.Begun.{commands_list, is_fronted, parts_for}
use Rattle.image_laws.proofs.First.{IsFitSegment, is_one, segment_read}
use Rattle.image_laws.proofs.Fronted.{are_there, places_there}
use Rattle.image_laws.proofs.InfoPlace.{info_in, info_is}
use Rattle.image_laws.proofs.Layouts.{is_plan}
use Rattle.image_laws.proofs.Listed.{other_list, segment_list}
use Rattle.image_laws.proofs.Planned.{all_fit}
use Rattle.image_laws.proofs.Walk.{all_bytes, places_from}
use Rattle.loader_laws.specs.Unwinding.{IsSectionOf}

-- ---- one header

-- a section whose numbers fit the fields of its header
pub record IsFitSection (placed : PlacedSection) : Type 0 where
  pub address : placed.address < 2 ^ 64
  pub size : placed.size < 2 ^ 64
  pub align : placed.section.align < 2 ^ 32
  pub flags : placed.section.flags < 2 ^ 32

entry_small : (placed : PlacedSection) → entry_size placed < 2 ^ 32
entry_small placed = by (is_own 8 placed)
  where
    by : (b : Bool) → (if b then 12 else 0) < 2 ^ 32
    by true = omega arith
    by false = omega arith

header_read : (image front rest : List ℕ) (stubs slots : ℕ) (placed : PlacedSection) → IsFitSection placed → image ≡ front ++ (section_bytes stubs slots placed ++ rest) → section_header_at image (length front) ≡ section_header stubs slots placed
header_read image front rest stubs slots placed fit is =
    let header : SectionHeader = section_header stubs slots placed in
    let whole : image ≡ (front ++ section_header_bytes header) ++ rest = is ∙ sym (append_assoc front (section_header_bytes header) rest) in
    let small = entry_small placed in
    ap (λ (z : List ℕ). section_header_at z (length front)) whole
    ∙ section_header_read header front rest
    (length-name_field placed.section.name, (length-name_field placed.section.segment, (fit.address, (fit.size, (omega arith, (fit.align, (omega arith, (omega arith, (fit.flags, (omega arith, (small, (omega arith, tt))))))))))))

bytes_long : (stubs slots : ℕ) (placed : PlacedSection) → length (section_bytes stubs slots placed) ≡ 80
bytes_long stubs slots placed = length-spelled (section_header_fields (section_header stubs slots placed)) (length-name_field placed.section.name, (length-name_field placed.section.segment, tt))

-- ---- those of a segment

-- a header stands at a place among some
pub record IsAmong (image : List ℕ) (at : ℕ) (sections : List PlacedSection) (header : SectionHeader) : Type 0 where
  pub number : ℕ
  pub among : number < length sections
  pub here : section_header_at image (at + 80 * number) ≡ header

headers_stand : (image front rest : List ℕ) (stubs slots : ℕ) (sections : List PlacedSection) (placed : PlacedSection) → image ≡ front ++ (flat_map (section_bytes stubs slots) sections ++ rest) → IsFitSection placed → In placed sections → IsAmong image (length front) sections (section_header stubs slots placed)
headers_stand image front rest stubs slots [] placed is fit none = absurd none
headers_stand image front rest stubs slots (section ∷ sections) placed is fit (inl same) =
    let more = flat_map (section_bytes stubs slots) sections in
    let here : image ≡ front ++ (section_bytes stubs slots section ++ (more ++ rest)) = is ∙ ap (λ (z : List ℕ). front ++ z) (append_assoc (section_bytes stubs slots section) more rest) in
    let own : IsFitSection section = subst IsFitSection (sym same) fit in
    let at : length front + 80 * 0 ≡ length front = omega arith in
    record {
      number = 0;
      among = omega arith;
      here = ap (section_header_at image) at ∙ header_read image front (more ++ rest) stubs slots section own here ∙ ap (section_header stubs slots) same;
    }
headers_stand image front rest stubs slots (section ∷ sections) placed is fit (inr later) =
    let this : List ℕ = section_bytes stubs slots section in
    let more = flat_map (section_bytes stubs slots) sections in
    let moved : image ≡ (front ++ this) ++ (more ++ rest) = is ∙ ap (λ (z : List ℕ). front ++ z) (append_assoc this more rest) ∙ sym (append_assoc front this (more ++ rest)) in
    let found = headers_stand image (front ++ this) rest stubs slots sections placed moved fit later in
    let among = found.among in
    let at : length front + 80 * (found.number + 1) ≡ length (front ++ this) + 80 * found.number = omega (arith, length-append front this, bytes_long stubs slots section) in
    record { number = found.number + 1; among = omega (arith, among); here = ap (section_header_at image) at ∙ found.here }

-- ---- those of all segments

-- the command of a segment, with its bytes in memory and in the file
record IsSized (parts : PartSizes) (last : Bool) (segment : Segment) : Type 0 where
  pub memory : ℕ
  pub file : ℕ
  pub low : memory < 2 ^ 64
  pub short : file < 2 ^ 64
  pub is : segment_command parts last segment ≡ sized_command segment memory file

sized : (parts : PartSizes) (last : Bool) (segment : Segment) → IsFitSegment segment → IsSized parts last segment
sized parts true segment fit = record { memory = u64_of (least_multiple 0x4000 (linkedit_size parts segment)); file = u64_of (linkedit_size parts segment); low = omega arith; short = omega arith; is = refl }
sized parts false segment fit = record { memory = segment.vmsize; file = segment.file_size; low = fit.memory; short = fit.bytes; is = refl }

-- a header stands behind the command of a segment, one of those at some places
record IsListed (image : List ℕ) (places : List ℕ) (header : SectionHeader) : Type 0 where
  pub at : ℕ
  pub command : In at places
  pub segment : is_segment image at ≡ true
  pub number : ℕ
  pub among : number < (segment_command_at image at).nsects
  pub here : section_header_at image (at + 72 + 80 * number) ≡ header

further : (image : List ℕ) (at : ℕ) (places : List ℕ) (header : SectionHeader) → IsListed image places header → IsListed image (at ∷ places) header
further image at places header is = record { at = is.at; command = inr is.command; segment = is.segment; number = is.number; among = is.among; here = is.here }

command_long : (segment : Segment) (memory file : ℕ) → length (segment_command_bytes (sized_command segment memory file)) ≡ 72
command_long segment memory file = length-spelled (segment_command_fields (sized_command segment memory file)) (length-name_field segment.name, tt)

-- behind the first command
listed_first : (image front rest : List ℕ) (parts : PartSizes) (last : Bool) (stubs slots : ℕ) (segment : Segment) (sections : List PlacedSection) (places : List ℕ) (placed : PlacedSection) → image ≡ front ++ (segment_command_bytes (segment_command parts last segment) ++ (flat_map (section_bytes stubs slots) sections ++ rest)) → IsFitSegment segment → length sections ≡ segment.sections → IsFitSection placed → In placed sections → IsListed image (length front ∷ places) (section_header stubs slots placed)
listed_first image front rest parts last stubs slots segment sections places placed is fit many own h =
    let size = sized parts last segment fit in
    let command : List ℕ = segment_command_bytes (sized_command segment size.memory size.file) in
    let headers : List ℕ = flat_map (section_bytes stubs slots) sections in
    let here : image ≡ front ++ (command ++ (headers ++ rest)) = is ∙ ap (λ (c : SegmentCommand). front ++ (segment_command_bytes c ++ (headers ++ rest))) size.is in
    let moved : image ≡ (front ++ command) ++ (headers ++ rest) = here ∙ sym (append_assoc front command (headers ++ rest)) in
    let read = segment_read image front (headers ++ rest) segment size.memory size.file fit size.low size.short here in
    let found = headers_stand image (front ++ command) rest stubs slots sections placed moved own h in
    let few = found.among in
    let count : (segment_command_at image (length front)).nsects ≡ segment.sections = ap (λ (c : SegmentCommand). c.nsects) read in
    let at : length front + 72 + 80 * found.number ≡ length (front ++ command) + 80 * found.number = omega (arith, length-append front command, command_long segment size.memory size.file) in
    record {
      at = length front;
      command = inl refl;
      segment = is_one image (length front) segment size.memory size.file fit read;
      number = found.number;
      among = omega (arith, few, many, count);
      here = ap (section_header_at image) at ∙ found.here;
    }

all_listed : (image front rest : List ℕ) (parts : PartSizes) (stubs slots : ℕ) (segments : List Segment) (sections : List PlacedSection) (others : List (List ℕ)) (placed : PlacedSection) → image ≡ front ++ (all_bytes (segment_list parts stubs slots segments sections ++ others) ++ rest) → AllByRecursion IsFitSegment segments → AreInSegments segments sections → IsFitSection placed → In placed sections
    → IsListed image (places_from (length front) (segment_list parts stubs slots segments sections ++ others)) (section_header stubs slots placed)
all_listed image front rest parts stubs slots [] sections others placed is fit are own h = absurd (subst (λ (ss : List PlacedSection). In placed ss) are h)
all_listed image front rest parts stubs slots (segment ∷ segments) sections others placed is fit are own h =
    elim (in_either these later placed (subst (λ (ss : List PlacedSection). In placed ss) (sym (take-append-drop segment.sections sections)) h)) [
      | inl first ↦ listed_first image front (all_bytes more ++ rest) parts (is_empty segments) stubs slots segment these (places_from (length front + length this) more) placed here fit.0 (length-take-le segment.sections sections are.0) own first
      | inr behind ↦
          further image (length front) (places_from (length front + length this) more) (section_header stubs slots placed)
          (subst (λ (n : ℕ). IsListed image (places_from n more) (section_header stubs slots placed)) (length-append front this)
          (all_listed image (front ++ this) rest parts stubs slots segments later others placed moved fit.1 are.2 own behind))
    ]
  where
    these : List PlacedSection
    these = take segment.sections sections

    later : List PlacedSection
    later = drop segment.sections sections

    headers : List ℕ
    headers = flat_map (section_bytes stubs slots) these

    command : List ℕ
    command = segment_command_bytes (segment_command parts (is_empty segments) segment)

    this : List ℕ
    this = command ++ headers

    more : List (List ℕ)
    more = segment_list parts stubs slots segments later ++ others

    here : image ≡ front ++ (command ++ (headers ++ (all_bytes more ++ rest)))
    here = is ∙ ap (λ (z : List ℕ). front ++ z) (append_assoc this (all_bytes more) rest ∙ append_assoc command headers (all_bytes more ++ rest))

    moved : image ≡ (front ++ this) ++ (all_bytes more ++ rest)
    moved = is ∙ ap (λ (z : List ℕ). front ++ z) (append_assoc this (all_bytes more) rest) ∙ sym (append_assoc front this (all_bytes more ++ rest))

-- ---- those of an image

-- each section of an image that fits its header is listed
section_listed : (m : ImageInputs) (image : List ℕ) (of : Imaged m image) (placed : PlacedSection) → AreRising m → IsFitSection placed → In placed of.layout.sections → IsSectionOf image (section_header (stub_count of.layout.sections) (slot_count of.layout.sections) placed)
section_listed m image of placed rising fits h =
    let front = is_fronted m image of rising in
    let laid : IsLaid m of.layout = of.is_image.laid in
    let fit = subst (λ (ss : List Segment). AllByRecursion IsFitSegment ss) (sym laid.layout_of.segments) (all_fit m.command (plan_for m) (is_plan m of.layout laid)) in
    let stubs = stub_count of.layout.sections in
    let slots = slot_count of.layout.sections in
    let listed = all_listed image front.header front.rest (parts_for of) stubs slots of.layout.segments of.layout.sections (other_list (parts_for of) m.command m.libs) placed front.is fit (whole_layout m of.layout laid).sections fits h in
    let places : places_from (length front.header) (commands_list of) ≡ commands_of image = ap (λ (n : ℕ). places_from n (commands_list of)) front.long ∙ sym (places_there image (commands_list of) front) in
    record {
      fitting = are_there image (commands_list of) front;
      at = listed.at;
      command = Contains_from_in (commands_of image) listed.at (subst (λ (ns : List ℕ). In listed.at ns) places listed.command);
      segment = listed.segment;
      number = listed.number;
      among = listed.among;
      here = listed.here;
    }

-- `__unwind_info` has its header
pub record HasInfoHeader (image : List ℕ) (placed : PlacedSection) : Type 0 where
  pub header : SectionHeader
  pub section : IsSectionOf image header
  pub segment : header.segname ≡ name_field (codes "__TEXT")
  pub name : header.sectname ≡ name_field (codes "__unwind_info")
  pub address : header.addr ≡ placed.address
  pub size : header.size ≡ placed.size

pub info_listed : (m : ImageInputs) (image : List ℕ) (of : Imaged m image) (placed : PlacedSection) → AreRising m → info_section of.layout.sections ≡ Some placed → HasInfoHeader image placed
info_listed m image of placed rising e =
    let laid : IsLaid m of.layout = of.is_image.laid in
    let is = info_is m of.layout placed laid e in
    let begins = is.begins in
    let ends = is.ends in
    let small = laid.small in
    let base = (is_plan m of.layout laid).base in
    let low = base_small m.command.dylib in
    let align : placed.section.align ≡ 2 = ap (λ (s : OutSection). s.align) is.is in
    let flags : placed.section.flags ≡ 0 = ap (λ (s : OutSection). s.flags) is.is in
    let fits : IsFitSection placed = record {
      address = omega (arith, begins, ends, small, base, low);
      size = omega (arith, begins, ends, small, base, low);
      align = omega (arith, align);
      flags = omega (arith, flags);
    } in
    record {
      header = section_header (stub_count of.layout.sections) (slot_count of.layout.sections) placed;
      section = section_listed m image of placed rising fits (info_in of.layout placed e);
      segment = ap (λ (s : OutSection). name_field s.segment) is.is;
      name = ap (λ (s : OutSection). name_field s.name) is.is;
      address = refl;
      size = refl;
    }
