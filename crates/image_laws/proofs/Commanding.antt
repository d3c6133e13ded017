-- The segments of an image as the loader lists them, and the command that tells where its chains are.
use Rattle.std.proofs.Common.{◌≡◌, ◌≢◌, ℕ, ◌+◌, ◌<◌, ◌^◌, ◌==◌, ◌&&◌, nat_le, Bool, true, false, not, List, [], ◌∷◌, ◌++◌, map, length, take, drop, Option, Some, None, refl, sym, ap, ◌∙◌, subst, arith, tests, append_assoc, length-append}
use Rattle.std.specs.List.{AllByRecursion, filter, flat_map}
use Rattle.mo_bytes.specs.Number.{number_at, number_bytes}
use Rattle.mo_bytes.specs.Rounding.{least_multiple}
use Rattle.mo_bytes.proofs.Numbers.{length-number_bytes}
use Rattle.mo_format.specs.Segment.{segment_command_at, segment_command_bytes}
use Rattle.mo_format.specs.declared.loader.TheConstants.{LC_DYLD_CHAINED_FIXUPS, LC_ID_DYLIB, LC_SEGMENT_64}
use Rattle.mo_format.specs.declared.segment.SegmentCommand.{SegmentCommand}
use Rattle.mo_types.specs.Rows.{when}
use Rattle.mo_types.specs.Scan.{first_some, option_or_else}
use Rattle.command_line.specs.declared.command.Command.{Command}
use Rattle.sect_place.specs.declared.layout.PlacedSection.{PlacedSection}
use Rattle.sect_place.specs.declared.layout.Segment.{Segment}
use Rattle.load_cmds.specs.Names.{u32_of, u64_of}
use Rattle.load_cmds.specs.Others.{dylinker_bytes, entry_bytes, id_bytes, library_bytes, part_bytes, rpath_bytes, version_bytes}
use Rattle.load_cmds.specs.Segments.{linkedit_size, section_bytes, sized_command, slot_count, stub_count}
use Rattle.load_cmds.specs.declared.parts.PartPlace.{PartPlace}
use Rattle.load_cmds.specs.declared.parts.PartSizes.{PartSizes}
use Rattle.chain_laws.specs.Carried.{StandAs, segments_of}
use Rattle.chain_laws.proofs.Standing.{Stands, known_stands, stands_at, stands_left, stands_right, stands_taken}
use Rattle.image_make.specs.Made.{ImageInputs, plan_for}
use Rattle.image_make.specs.Parts.{linkedit_offset}
use Rattle.image_make.proofs.RoomLemmas.{front_room}
use Rattle.image_read.specs.Commands.{cmd, cmdsize, commands_of}
use Rattle.image_read.specs.Imports.{fixups_at, fixups_command}
use Rattle.image_read.specs.Mapped.{is_segment}
use Rattle.image_laws.specs.Means.{AreRising, Imaged}
use Rattle.image_laws.proofs.Begun.{commands_list, is_fronted, parts_for}
use Rattle.image_laws.proofs.First.{IsFitSegment, is_one, segment_read}
use Rattle.image_laws.proofs.Fronted.{places_there}
use Rattle.image_laws.proofs.Sought.{IsOther, dylib_other, kind_away, others_other, segments_other, skipped}
use Rattle.image_laws.proofs.Layouts.{is_plan}
use Rattle.image_laws.proofs.Listed.{all_join, given_list, other_list, segment_list}
use Rattle.image_laws.proofs.Planned.{all_fit, last_empty}
use Rattle.image_laws.proofs.Seek.{EndsEmpty}
use Rattle.image_laws.proofs.Turned.{appended}
use Rattle.image_laws.proofs.Walk.{all_bytes, places_from}

-- ---- the segments

filter_kept : (test : ℕ → Bool) (n : ℕ) (ns : List ℕ) → test n ≡ true → filter test (n ∷ ns) ≡ n ∷ filter test ns
filter_kept test n ns is = rw is refl

filter_left : (test : ℕ → Bool) (n : ℕ) (ns : List ℕ) → test n ≡ false → filter test (n ∷ ns) ≡ filter test ns
filter_left test n ns is = rw is refl

not_one : (image : List ℕ) (at : ℕ) → cmd image at ≢ LC_SEGMENT_64 → is_segment image at ≡ false
not_one image at other = by (cmd image at) other
  where
    by : (n : ℕ) → n ≢ LC_SEGMENT_64 → (n == LC_SEGMENT_64 && nat_le 72 (cmdsize image at)) ≡ false
    by n away = let differs : (n == LC_SEGMENT_64) ≡ false = grind (arith, tests) in rw differs refl

none_left : (image front rest : List ℕ) (others : List (List ℕ)) → image ≡ front ++ (all_bytes others ++ rest) → AllByRecursion (IsOther LC_SEGMENT_64) others → filter (is_segment image) (places_from (length front) others) ≡ []
none_left image front rest [] is each = refl
none_left image front rest (bytes ∷ others) is each =
    let here : image ≡ front ++ (bytes ++ (all_bytes others ++ rest)) = is ∙ ap (λ (z : List ℕ). front ++ z) (append_assoc bytes (all_bytes others) rest) in
    let moved : image ≡ (front ++ bytes) ++ (all_bytes others ++ rest) = here ∙ sym (append_assoc front bytes (all_bytes others ++ rest)) in
    filter_left (is_segment image) (length front) (places_from (length front + length bytes) others) (not_one image (length front) (kind_away LC_SEGMENT_64 image front bytes (all_bytes others ++ rest) each.0 here))
    ∙ ap (λ (n : ℕ). filter (is_segment image) (places_from n others)) (sym (length-append front bytes))
    ∙ none_left image (front ++ bytes) rest others moved each.1

abbrev listed : List ℕ → List ℕ → List SegmentCommand
listed image places = map (segment_command_at image) (filter (is_segment image) places)

-- one segment's command, and those of the commands behind it
one_more : (image : List ℕ) (front headers rest : List ℕ) (segment : Segment) (memory file : ℕ) (places : List ℕ) → IsFitSegment segment → memory < 2 ^ 64 → file < 2 ^ 64 → image ≡ front ++ (segment_command_bytes (sized_command segment memory file) ++ (headers ++ rest)) → listed image (length front ∷ places) ≡ sized_command segment memory file ∷ listed image places
one_more image front headers rest segment memory file places fit low short is =
    let read = segment_read image front (headers ++ rest) segment memory file fit low short is in
    ap (map (segment_command_at image)) (filter_kept (is_segment image) (length front) places (is_one image (length front) segment memory file fit read))
    ∙ ap (λ (c : SegmentCommand). c ∷ listed image places) read

segments_stand : (image front rest : List ℕ) (parts : PartSizes) (stubs slots : ℕ) (segments : List Segment) (sections : List PlacedSection) (others : List (List ℕ)) → image ≡ front ++ (all_bytes (segment_list parts stubs slots segments sections ++ others) ++ rest) → AllByRecursion IsFitSegment segments → EndsEmpty segments → AllByRecursion (IsOther LC_SEGMENT_64) others → StandAs (listed image (places_from (length front) (segment_list parts stubs slots segments sections ++ others))) segments
segments_stand image front rest parts stubs slots [] sections others is fit empty each =
    subst (λ (cs : List ℕ). StandAs (map (segment_command_at image) cs) []) (sym (none_left image front rest others is each)) tt
segments_stand image front rest parts stubs slots (segment ∷ []) sections others is fit empty each =
    let memory = u64_of (least_multiple 0x4000 (linkedit_size parts segment)) in
    let file = u64_of (linkedit_size parts segment) in
    let headers = flat_map (section_bytes stubs slots) (take segment.sections sections) in
    let command : List ℕ = segment_command_bytes (sized_command segment memory file) in
    let this : List ℕ = command ++ headers in
    let here : image ≡ front ++ (command ++ (headers ++ (all_bytes others ++ rest))) = is ∙ ap (λ (z : List ℕ). front ++ z) (append_assoc this (all_bytes others) rest ∙ append_assoc command headers (all_bytes others ++ rest)) in
    let moved : image ≡ (front ++ this) ++ (all_bytes others ++ rest) = is ∙ ap (λ (z : List ℕ). front ++ z) (append_assoc this (all_bytes others) rest) ∙ sym (append_assoc front this (all_bytes others ++ rest)) in
    let none : listed image (places_from (length front + length this) others) ≡ [] = ap (λ (n : ℕ). listed image (places_from n others)) (sym (length-append front this)) ∙ ap (map (segment_command_at image)) (none_left image (front ++ this) rest others moved each) in
    subst (λ (cs : List SegmentCommand). StandAs cs (segment ∷ [])) (sym (one_more image front headers (all_bytes others ++ rest) segment memory file (places_from (length front + length this) others) fit.0 (omega arith) (omega arith) here)) (refl, empty, none)
segments_stand image front rest parts stubs slots (segment ∷ next ∷ segments) sections others is fit empty each =
    let memory = segment.vmsize in
    let file = segment.file_size in
    let headers = flat_map (section_bytes stubs slots) (take segment.sections sections) in
    let command : List ℕ = segment_command_bytes (sized_command segment memory file) in
    let this : List ℕ = command ++ headers in
    let more : List (List ℕ) = segment_list parts stubs slots (next ∷ segments) (drop segment.sections sections) ++ others in
    let here : image ≡ front ++ (command ++ (headers ++ (all_bytes more ++ rest))) = is ∙ ap (λ (z : List ℕ). front ++ z) (append_assoc this (all_bytes more) rest ∙ append_assoc command headers (all_bytes more ++ rest)) in
    let moved : image ≡ (front ++ this) ++ (all_bytes more ++ rest) = is ∙ ap (λ (z : List ℕ). front ++ z) (append_assoc this (all_bytes more) rest) ∙ sym (append_assoc front this (all_bytes more ++ rest)) in
    let later = segments_stand image (front ++ this) rest parts stubs slots (next ∷ segments) (drop segment.sections sections) others moved fit.1 empty each in
    subst (λ (cs : List SegmentCommand). StandAs cs (segment ∷ next ∷ segments)) (sym (one_more image front headers (all_bytes more ++ rest) segment memory file (places_from (length front + length this) more) fit.0 fit.0.memory fit.0.bytes here))
    (refl, refl, subst (λ (n : ℕ). StandAs (listed image (places_from n more)) (next ∷ segments)) (length-append front this) later)

pub segments_there : (m : ImageInputs) (image : List ℕ) (of : Imaged m image) → AreRising m → StandAs (segments_of image) of.layout.segments
unfolding segments_of
segments_there m image of rising =
    let front = is_fronted m image of rising in
    let layout = of.layout in
    let planned = of.is_image.laid.layout_of.segments in
    let plan = is_plan m of.layout of.is_image.laid in
    let fit = subst (λ (ss : List Segment). AllByRecursion IsFitSegment ss) (sym planned) (all_fit m.command (plan_for m) plan) in
    let empty = subst EndsEmpty (sym planned) (last_empty m.command (plan_for m)) in
    let stand = segments_stand image front.header front.rest (parts_for of) (stub_count layout.sections) (slot_count layout.sections) layout.segments layout.sections (other_list (parts_for of) m.command m.libs) front.is fit empty (others_other (parts_for of) m.command m.libs) in
    let places : places_from (length front.header) (commands_list of) ≡ commands_of image = ap (λ (n : ℕ). places_from n (commands_list of)) front.long ∙ sym (places_there image (commands_list of) front) in
    subst (λ (ns : List ℕ). StandAs (listed image ns) layout.segments) places stand

-- ---- the command of the chains

no_fixups : (image : List ℕ) (at : ℕ) → cmd image at ≢ LC_DYLD_CHAINED_FIXUPS → fixups_at image at ≡ None
unfolding fixups_at
no_fixups image at other = by (cmd image at) other
  where
    by : (n : ℕ) → n ≢ LC_DYLD_CHAINED_FIXUPS → when (n == LC_DYLD_CHAINED_FIXUPS) at ≡ None
    by n away = let differs : (n == LC_DYLD_CHAINED_FIXUPS) ≡ false = grind (arith, tests) in rw differs refl

-- where it is, and the place that it tells
pub record HasChains (image : List ℕ) (at : ℕ) : Type 0 where
  pub command : ℕ
  pub named : fixups_command image ≡ Some command
  pub place : number_at 4 image (command + 8) ≡ Some at

stands_behind : (image front bytes rest : List ℕ) → image ≡ front ++ (bytes ++ rest) → Stands image (length front) bytes
stands_behind image front bytes rest is = record { rest = rest; is = ap (drop (length front)) is ∙ Rattle.std.proofs.Math.Seq.drop-append_seam front (bytes ++ rest) }

fixups_here : (image front rest : List ℕ) (part : PartPlace) → part.offset < 2 ^ 32 → image ≡ front ++ (part_bytes LC_DYLD_CHAINED_FIXUPS part ++ rest) → (fixups_at image (length front) ≡ Some (length front)) × (number_at 4 image (length front + 8) ≡ Some part.offset)
unfolding fixups_at cmd part_bytes
fixups_here image front rest part low is =
    let kind : List ℕ = number_bytes 4 LC_DYLD_CHAINED_FIXUPS in
    let size : List ℕ = number_bytes 4 16 in
    let place : List ℕ = number_bytes 4 (u32_of part.offset) in
    let tail : List ℕ = number_bytes 4 (u32_of part.size) ++ [] in
    let stand : Stands image (length front) (kind ++ (size ++ (place ++ tail))) = stands_behind image front (kind ++ (size ++ (place ++ tail))) rest is in
    let four : length kind ≡ 4 = length-number_bytes 4 LC_DYLD_CHAINED_FIXUPS in
    let four' : length size ≡ 4 = length-number_bytes 4 16 in
    let here = Rattle.chain_laws.proofs.Standing.number_stands image (length front) 4 LC_DYLD_CHAINED_FIXUPS (omega arith) (stands_left image (length front) kind (size ++ (place ++ tail)) stand) in
    let second = stands_right image (length front) (length front + 4) kind (size ++ (place ++ tail)) (omega arith) stand in
    let third = stands_right image (length front + 4) (length front + 8) size (place ++ tail) (omega arith) second in
    let there = known_stands image (length front + 8) 4 (u32_of part.offset) (omega arith) (omega arith) (stands_left image (length front + 8) place tail third) in
    (rw here refl, there ∙ ap Some (let same : u32_of part.offset ≡ part.offset = omega arith in same))

id_other : (command : Command) → AllByRecursion (IsOther LC_DYLD_CHAINED_FIXUPS) (given_list command.dylib (id_bytes command))
id_other command = by command.dylib
  where
    by : (dylib : Bool) → AllByRecursion (IsOther LC_DYLD_CHAINED_FIXUPS) (given_list dylib (id_bytes command))
    by true = (dylib_other LC_DYLD_CHAINED_FIXUPS LC_ID_DYLIB command.install 1 command.current command.compatible (omega arith) (λ e. omega (arith, e)), tt)
    by false = tt

pub chains_named : (m : ImageInputs) (image : List ℕ) (of : Imaged m image) → AreRising m → HasChains image (linkedit_offset of.layout.segments)
unfolding fixups_command
chains_named m image of rising =
    let parts = parts_for of in
    let layout = of.layout in
    let segments = segment_list parts (stub_count layout.sections) (slot_count layout.sections) layout.segments layout.sections in
    let id : List (List ℕ) = given_list m.command.dylib (id_bytes m.command) in
    let before : List (List ℕ) = segments ++ id in
    let part : List ℕ = part_bytes LC_DYLD_CHAINED_FIXUPS parts.fixups in
    let behind : List (List ℕ) = given_list (not m.command.dylib) dylinker_bytes ++ (version_bytes m.command ∷ (given_list (not m.command.dylib) (entry_bytes parts) ++ (map (library_bytes m.libs) m.libs.libraries ++ map rpath_bytes m.command.rpaths))) in
    let front = is_fronted m image of rising in
    let all : commands_list of ≡ before ++ (part ∷ behind) = sym (append_assoc segments id (part ∷ behind)) in
    let split : image ≡ front.header ++ (all_bytes (before ++ (part ∷ behind)) ++ front.rest) = front.is ∙ ap (λ (z : List (List ℕ)). front.header ++ (all_bytes z ++ front.rest)) all in
    let others : AllByRecursion (IsOther LC_DYLD_CHAINED_FIXUPS) before =
    appended (IsOther LC_DYLD_CHAINED_FIXUPS) segments id (segments_other LC_DYLD_CHAINED_FIXUPS parts (stub_count layout.sections) (slot_count layout.sections) layout.segments layout.sections (λ e. omega (arith, e))) (id_other m.command) in
    let past = skipped LC_DYLD_CHAINED_FIXUPS (fixups_at image) image front.header front.rest before (part ∷ behind) (no_fixups image) split others in
    let joined : all_bytes (before ++ (part ∷ behind)) ≡ all_bytes before ++ (part ++ all_bytes behind) = all_join before (part ∷ behind) in
    let lead : List ℕ = front.header ++ all_bytes before in
    let here : image ≡ lead ++ (part ++ (all_bytes behind ++ front.rest)) =
    split ∙ ap (λ (z : List ℕ). front.header ++ z) (ap (λ (z : List ℕ). z ++ front.rest) joined ∙ append_assoc (all_bytes before) (part ++ all_bytes behind) front.rest ∙ ap (λ (z : List ℕ). all_bytes before ++ z) (append_assoc part (all_bytes behind) front.rest))
    ∙ sym (append_assoc front.header (all_bytes before) (part ++ (all_bytes behind ++ front.rest))) in
    let at : length lead ≡ length front.header + length (all_bytes before) = length-append front.header (all_bytes before) in
    let found = fixups_here image lead (all_bytes behind ++ front.rest) parts.fixups (front_room m layout of.is_image.laid).small here in
    let first : first_some (fixups_at image) (places_from (length front.header + length (all_bytes before)) (part ∷ behind)) ≡ Some (length lead) =
    ap (λ (o : Option ℕ). option_or_else o (first_some (fixups_at image) (places_from (length front.header + length (all_bytes before) + length part) behind))) (ap (fixups_at image) (sym at) ∙ found.0) in
    record {
      command = length lead;
      named = ap (first_some (fixups_at image)) (places_there image (commands_list of) front ∙ ap (places_from 32) all)
          ∙ ap (λ (n : ℕ). first_some (fixups_at image) (places_from n (before ++ (part ∷ behind)))) (sym front.long)
          ∙ past ∙ first;
      place = found.1;
    }
