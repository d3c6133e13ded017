-- The first segment of an image that passes a test, as the loader finds it.
use Rattle.std.proofs.Common.{◌≡◌, ℕ, ◌+◌, ◌*◌, ◌<◌, ◌≤◌, ◌^◌, ◌&&◌, ◌⊎◌, inl, inr, Bool, true, false, List, [], ◌∷◌, ◌++◌, length, take, drop, Option, Some, refl, sym, ap, ◌∙◌, arith, append_assoc, length-append}
use Rattle.std.specs.List.{AllByRecursion, flat_map}
use Rattle.std.proofs.lemmas.Bool.{le-leb}
use Rattle.mo_types.specs.Rows.{when}
use Rattle.mo_types.specs.Scan.{first_some, option_or_else}
use Rattle.mo_bytes.specs.Number.{number}
use Rattle.mo_format.specs.Segment.{segment_command_at, segment_command_bytes}
use Rattle.mo_format.specs.declared.segment.SegmentCommand.{SegmentCommand}
use Rattle.mo_format.proofs.StructureLemmas.{segment_command_read}
use Rattle.sect_place.specs.declared.layout.PlacedSection.{PlacedSection}
use Rattle.sect_place.specs.declared.layout.Segment.{Segment}
use Rattle.load_cmds.specs.Names.{u32_of}
use Rattle.load_cmds.specs.Segments.{section_bytes, sized_command}
use Rattle.load_cmds.specs.declared.parts.PartSizes.{PartSizes}
use Rattle.load_cmds.proofs.Lengths.{length-name_field}
use Rattle.image_read.specs.Commands.{cmd, cmdsize}
use Rattle.image_read.specs.Mapped.{is_segment}
use Rattle.image_laws.proofs.Listed.{segment_list}
use Rattle.image_laws.proofs.Walk.{all_bytes, places_from}

-- the segment at a place, where one stands there that passes a test
abbrev pub found_at : (SegmentCommand → Bool) → List ℕ → ℕ → Option SegmentCommand
found_at test image at = when (is_segment image at && test (segment_command_at image at)) (segment_command_at image at)

-- the command of a segment that isn't the last one
abbrev pub own : Segment → SegmentCommand
own segment = sized_command segment segment.vmsize segment.file_size

-- the first of some segments that passes a test, which isn't the last of all
abbrev pub IsFirst : (SegmentCommand → Bool) → List Segment → SegmentCommand → Type 0
IsFirst test [] command = ⊥
IsFirst test (segment ∷ []) command = ⊥
IsFirst test (segment ∷ next ∷ segments) command =
    ((test (own segment) ≡ true) × (own segment ≡ command)) ⊎ ((test (own segment) ≡ false) × IsFirst test (next ∷ segments) command)

-- a segment whose numbers fit the fields of its command
pub record IsFitSegment (segment : Segment) : Type 0 where
  pub address : segment.address < 2 ^ 64
  pub memory : segment.vmsize < 2 ^ 64
  pub place : segment.file_offset < 2 ^ 64
  pub bytes : segment.file_size < 2 ^ 64
  pub protection : segment.protection < 2 ^ 32
  pub flags : segment.flags < 2 ^ 32
  pub few : 72 + 80 * segment.sections < 2 ^ 32

-- the command of a segment, by its bytes in memory and in the file
pub segment_read : (image front rest : List ℕ) (segment : Segment) (memory file : ℕ) → IsFitSegment segment → memory < 2 ^ 64 → file < 2 ^ 64 → image ≡ front ++ (segment_command_bytes (sized_command segment memory file) ++ rest) → segment_command_at image (length front) ≡ sized_command segment memory file
segment_read image front rest segment memory file fit low short is =
    let command : SegmentCommand = sized_command segment memory file in
    let whole : image ≡ (front ++ segment_command_bytes command) ++ rest = is ∙ sym (append_assoc front (segment_command_bytes command) rest) in
    let small : u32_of (72 + 80 * segment.sections) < 2 ^ 32 = omega arith in
    let few = fit.few in
    ap (λ (z : List ℕ). segment_command_at z (length front)) whole
    ∙ segment_command_read command front rest
    (omega arith, (small, (length-name_field segment.name, (fit.address, (low, (fit.place, (short, (fit.protection, (fit.protection, (omega arith, (fit.flags, tt)))))))))))

pub is_one : (image : List ℕ) (at : ℕ) (segment : Segment) (memory file : ℕ) → IsFitSegment segment → segment_command_at image at ≡ sized_command segment memory file → is_segment image at ≡ true
unfolding cmd cmdsize
is_one image at segment memory file fit read =
    let kind : number 4 image at ≡ 0x19 = ap (λ (c : SegmentCommand). c.cmd) read in
    let size : number 4 image (at + 4) ≡ u32_of (72 + 80 * segment.sections) = ap (λ (c : SegmentCommand). c.cmdsize) read in
    let few = fit.few in
    let enough : 72 ≤ number 4 image (at + 4) = omega arith in
    rw (kind, le-leb 72 (number 4 image (at + 4)) enough) refl

found_here : (test : SegmentCommand → Bool) (image : List ℕ) (at : ℕ) (segment : Segment) → IsFitSegment segment → segment_command_at image at ≡ own segment → found_at test image at ≡ when (test (own segment)) (own segment)
found_here test image at segment fit read = rw (is_one image at segment segment.vmsize segment.file_size fit read, read) refl

pub first_there : (test : SegmentCommand → Bool) (image front rest : List ℕ) (parts : PartSizes) (stubs slots : ℕ) (segments : List Segment) (sections : List PlacedSection) (others : List (List ℕ)) (command : SegmentCommand) → image ≡ front ++ (all_bytes (segment_list parts stubs slots segments sections ++ others) ++ rest) → AllByRecursion IsFitSegment segments → IsFirst test segments command
    → first_some (found_at test image) (places_from (length front) (segment_list parts stubs slots segments sections ++ others)) ≡ Some command
first_there test image front rest parts stubs slots [] sections others command is fit first = absurd first
first_there test image front rest parts stubs slots (segment ∷ []) sections others command is fit first = absurd first
first_there test image front rest parts stubs slots (segment ∷ next ∷ segments) sections others command is fit first =
    by (test (own segment)) refl first (λ later. first_there test image (front ++ this) rest parts stubs slots (next ∷ segments) (drop segment.sections sections) others command moved fit.1 later)
  where
    headers : List ℕ
    headers = flat_map (section_bytes stubs slots) (take segment.sections sections)

    this : List ℕ
    this = segment_command_bytes (own segment) ++ headers

    more : List (List ℕ)
    more = segment_list parts stubs slots (next ∷ segments) (drop segment.sections sections) ++ others

    here : image ≡ front ++ (segment_command_bytes (own segment) ++ (headers ++ (all_bytes more ++ rest)))
    here = is ∙ ap (λ (z : List ℕ). front ++ z) (append_assoc this (all_bytes more) rest ∙ append_assoc (segment_command_bytes (own segment)) headers (all_bytes more ++ rest))

    moved : image ≡ (front ++ this) ++ (all_bytes more ++ rest)
    moved = is ∙ ap (λ (z : List ℕ). front ++ z) (append_assoc this (all_bytes more) rest) ∙ sym (append_assoc front this (all_bytes more ++ rest))

    found : found_at test image (length front) ≡ when (test (own segment)) (own segment)
    found = found_here test image (length front) segment fit.0 (segment_read image front (headers ++ (all_bytes more ++ rest)) segment segment.vmsize segment.file_size fit.0 fit.0.memory fit.0.bytes here)

    places : List ℕ
    places = places_from (length front + length this) more

    by : (b : Bool) → test (own segment) ≡ b → ((test (own segment) ≡ true) × (own segment ≡ command)) ⊎ ((test (own segment) ≡ false) × IsFirst test (next ∷ segments) command) → (IsFirst test (next ∷ segments) command → first_some (found_at test image) (places_from (length (front ++ this)) more) ≡ Some command) → option_or_else (found_at test image (length front)) (first_some (found_at test image) places) ≡ Some command
    by true e (inl (passes, same)) rest_of = ap (λ (o : Option SegmentCommand). option_or_else o (first_some (found_at test image) places)) (found ∙ ap (λ (b : Bool). when b (own segment)) e) ∙ ap Some same
    by true e (inr (fails, later)) rest_of = let clash : true ≡ false = sym e ∙ fails in cc
    by false e (inl (passes, same)) rest_of = let clash : true ≡ false = sym passes ∙ e in cc
    by false e (inr (fails, later)) rest_of =
        ap (λ (o : Option SegmentCommand). option_or_else o (first_some (found_at test image) places)) (found ∙ ap (λ (b : Bool). when b (own segment)) e)
        ∙ ap (λ (n : ℕ). first_some (found_at test image) (places_from n more)) (sym (length-append front this))
        ∙ rest_of later
