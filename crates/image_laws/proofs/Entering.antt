-- The command that tells where a program begins.
use Rattle.std.proofs.Common.{◌≡◌, ◌≢◌, ℕ, ◌+◌, ◌<◌, ◌^◌, ◌==◌, ◌&&◌, nat_le, Bool, true, false, List, [], ◌∷◌, ◌++◌, map, length, Option, Some, None, refl, sym, ap, ◌∙◌, subst, arith, tests, if◌then◌else◌, append_assoc, length-append}
use Rattle.std.specs.Prelude.{unwrap_or}
use Rattle.std.specs.List.{AllByRecursion}
use Rattle.mo_bytes.specs.Number.{number}
use Rattle.command_line.specs.declared.command.Command.{Command}
use Rattle.mo_format.specs.Command.{entry_point_command_at, entry_point_command_bytes}
use Rattle.mo_format.specs.declared.command.EntryPointCommand.{EntryPointCommand}
use Rattle.mo_format.specs.declared.loader.TheConstants.{LC_DYLD_CHAINED_FIXUPS, LC_MAIN}
use Rattle.mo_format.proofs.StructureLemmas.{entry_point_command_read}
use Rattle.mo_types.specs.Rows.{when}
use Rattle.mo_types.specs.Scan.{first_some, option_or_else}
use Rattle.lib_bind.specs.declared.library.LibraryGraph.{LibraryGraph}
use Rattle.load_cmds.specs.Others.{dylinker_bytes, entry_bytes, library_bytes, part_bytes, rpath_bytes, version_bytes}
use Rattle.load_cmds.specs.Segments.{slot_count, stub_count}
use Rattle.load_cmds.specs.declared.parts.PartSizes.{PartSizes}
use Rattle.image_make.specs.Made.{ImageInputs, entry_offset}
use Rattle.image_read.specs.Commands.{cmd, cmdsize, commands_of, fits}
use Rattle.image_laws.specs.Entry.{entry_at, entry_of}
use Rattle.image_laws.specs.Means.{AreRising, Imaged}
use Rattle.image_laws.proofs.Begun.{commands_list, is_fronted, parts_for}
use Rattle.image_laws.proofs.Fronted.{are_there, places_there}
use Rattle.image_laws.proofs.Sought.{IsOther, dylinker_other, part_other, segments_other, skipped, version_other}
use Rattle.image_laws.proofs.Listed.{other_list, segment_list}
use Rattle.image_laws.proofs.Turned.{appended}
use Rattle.image_laws.proofs.Walk.{all_bytes, places_from}

-- ---- the search

none_here : (image : List ℕ) (at : ℕ) → cmd image at ≢ LC_MAIN → entry_at image at ≡ None
unfolding entry_at
none_here image at other = by (cmd image at) other
  where
    by : (n : ℕ) → n ≢ LC_MAIN → when (n == LC_MAIN && nat_le 24 (cmdsize image at)) (entry_point_command_at image at) ≡ None
    by n away = let differs : (n == LC_MAIN) ≡ false = grind (arith, tests) in rw differs refl

abbrev pub entry_command : ℕ → EntryPointCommand
entry_command entryoff = record { cmd = LC_MAIN; cmdsize = 24; entryoff = entryoff; stacksize = 0 }

found_here : (image front rest : List ℕ) (parts : PartSizes) → parts.entryoff < 2 ^ 64 → image ≡ front ++ (entry_bytes parts ++ rest) → entry_at image (length front) ≡ Some (entry_command parts.entryoff)
unfolding entry_at cmd cmdsize entry_bytes
found_here image front rest parts low is =
    let s : EntryPointCommand = entry_command parts.entryoff in
    let whole : image ≡ (front ++ entry_point_command_bytes s) ++ rest = is ∙ sym (append_assoc front (entry_point_command_bytes s) rest) in
    let read : entry_point_command_at image (length front) ≡ s =
    ap (λ (z : List ℕ). entry_point_command_at z (length front)) whole ∙ entry_point_command_read s front rest (omega arith, (omega arith, (low, (omega arith, tt)))) in
    let kind : number 4 image (length front) ≡ LC_MAIN = ap (λ (c : EntryPointCommand). c.cmd) read in
    let size : number 4 image (length front + 4) ≡ 24 = ap (λ (c : EntryPointCommand). c.cmdsize) read in
    by (number 4 image (length front)) (number 4 image (length front + 4)) (entry_point_command_at image (length front)) kind size read
  where
    by : (k n : ℕ) (c : EntryPointCommand) → k ≡ LC_MAIN → n ≡ 24 → c ≡ entry_command parts.entryoff → when (k == LC_MAIN && nat_le 24 n) c ≡ Some (entry_command parts.entryoff)
    by k n c p q r = rw (p, q) (ap Some r)

-- the commands of a program before that of its entry, and those behind it
program_list : (parts : PartSizes) (command : Command) (libs : LibraryGraph) → command.dylib ≡ false → other_list parts command libs ≡ part_bytes LC_DYLD_CHAINED_FIXUPS parts.fixups ∷ dylinker_bytes ∷ version_bytes command ∷ entry_bytes parts ∷ (map (library_bytes libs) libs.libraries ++ map rpath_bytes command.rpaths)
program_list parts command libs program = rw program refl

if_there : (b : Bool) (image : List ℕ) (places : List ℕ) (command : EntryPointCommand) → b ≡ true → first_some (entry_at image) places ≡ Some command → (if b then first_some (entry_at image) places else None) ≡ Some command
if_there b image places command p q = rw (p, q) refl

pub entry_found : (m : ImageInputs) (image : List ℕ) (of : Imaged m image) (offset : ℕ) → AreRising m → m.command.dylib ≡ false → entry_offset m of.layout ≡ Some offset → offset < 2 ^ 64 → entry_of image ≡ Some (entry_command offset)
unfolding entry_of
entry_found m image of offset rising program offset_is few =
    let parts = parts_for of in
    let entryoff : ℕ = parts.entryoff in
    let same : entryoff ≡ offset = ap (λ (o : Option ℕ). unwrap_or o 0) offset_is in
    let low : parts.entryoff < 2 ^ 64 = subst (λ (n : ℕ). n < 2 ^ 64) (sym same) few in
    let segments = segment_list parts (stub_count of.layout.sections) (slot_count of.layout.sections) of.layout.segments of.layout.sections in
    let before : List (List ℕ) = part_bytes LC_DYLD_CHAINED_FIXUPS parts.fixups ∷ dylinker_bytes ∷ version_bytes m.command ∷ [] in
    let behind : List (List ℕ) = map (library_bytes m.libs) m.libs.libraries ++ map rpath_bytes m.command.rpaths in
    let front = is_fronted m image of rising in
    let all : commands_list of ≡ (segments ++ before) ++ (entry_bytes parts ∷ behind) =
    ap (λ (z : List (List ℕ)). segments ++ z) (program_list parts m.command m.libs program) ∙ sym (append_assoc segments before (entry_bytes parts ∷ behind)) in
    let split : image ≡ front.header ++ (all_bytes ((segments ++ before) ++ (entry_bytes parts ∷ behind)) ++ front.rest) = front.is ∙ ap (λ (z : List (List ℕ)). front.header ++ (all_bytes z ++ front.rest)) all in
    let others : AllByRecursion (IsOther LC_MAIN) (segments ++ before) =
    appended (IsOther LC_MAIN) segments before (segments_other LC_MAIN parts (stub_count of.layout.sections) (slot_count of.layout.sections) of.layout.segments of.layout.sections (λ e. omega (arith, e)))
    (part_other LC_MAIN LC_DYLD_CHAINED_FIXUPS parts.fixups (omega arith) (λ e. omega (arith, e)), (dylinker_other LC_MAIN (λ e. omega (arith, e)), (version_other LC_MAIN m.command (λ e. omega (arith, e)), tt))) in
    let past = skipped LC_MAIN (entry_at image) image front.header front.rest (segments ++ before) (entry_bytes parts ∷ behind) (none_here image) split others in
    let joined : all_bytes ((segments ++ before) ++ (entry_bytes parts ∷ behind)) ≡ all_bytes (segments ++ before) ++ (entry_bytes parts ++ all_bytes behind) = Rattle.image_laws.proofs.Listed.all_join (segments ++ before) (entry_bytes parts ∷ behind) in
    let here : image ≡ (front.header ++ all_bytes (segments ++ before)) ++ (entry_bytes parts ++ (all_bytes behind ++ front.rest)) =
    split ∙ ap (λ (z : List ℕ). front.header ++ z) (ap (λ (z : List ℕ). z ++ front.rest) joined ∙ append_assoc (all_bytes (segments ++ before)) (entry_bytes parts ++ all_bytes behind) front.rest ∙ ap (λ (z : List ℕ). all_bytes (segments ++ before) ++ z) (append_assoc (entry_bytes parts) (all_bytes behind) front.rest))
    ∙ sym (append_assoc front.header (all_bytes (segments ++ before)) (entry_bytes parts ++ (all_bytes behind ++ front.rest))) in
    let at : length (front.header ++ all_bytes (segments ++ before)) ≡ length front.header + length (all_bytes (segments ++ before)) = length-append front.header (all_bytes (segments ++ before)) in
    let found = found_here image (front.header ++ all_bytes (segments ++ before)) (all_bytes behind ++ front.rest) parts low here in
    let first : first_some (entry_at image) (places_from (length front.header + length (all_bytes (segments ++ before))) (entry_bytes parts ∷ behind)) ≡ Some (entry_command entryoff) =
    ap (λ (o : Option EntryPointCommand). option_or_else o (first_some (entry_at image) (places_from (length front.header + length (all_bytes (segments ++ before)) + length (entry_bytes parts)) behind))) (ap (entry_at image) (sym at) ∙ found) in
    if_there (fits image) image (commands_of image) (entry_command entryoff) (are_there image (commands_list of) front)
    (ap (first_some (entry_at image)) (places_there image (commands_list of) front ∙ ap (places_from 32) all)
    ∙ ap (λ (n : ℕ). first_some (entry_at image) (places_from n ((segments ++ before) ++ (entry_bytes parts ∷ behind)))) (sym front.long)
    ∙ past ∙ first)
    ∙ ap (λ (n : ℕ). Some (entry_command n)) same
