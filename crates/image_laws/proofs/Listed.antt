-- The load commands of an image, one by one.
use Rattle.std.proofs.Common.{◌≡◌, ℕ, ◌+◌, ◌*◌, ◌<◌, ◌≤◌, ◌^◌, Bool, true, false, not, List, [], ◌∷◌, ◌++◌, length, map, take, drop, codes, refl, sym, ap, ◌∙◌, arith, append_assoc, append-nil, length-append, if◌then◌else◌}
use Rattle.std.specs.List.{AllByRecursion, flat_map}
use Rattle.std.proofs.lemmas.List.{length-take-le}
use Rattle.mo_bytes.specs.Number.{number_bytes}
use Rattle.mo_bytes.specs.Rounding.{least_multiple}
use Rattle.command_line.specs.declared.command.Command.{Command}
use Rattle.mo_format.specs.Command.{build_version_command_fields, dylinker_command_fields, entry_point_command_fields}
use Rattle.mo_format.specs.Dylib.{dylib_command_fields, rpath_command_fields}
use Rattle.mo_format.specs.Linkedit.{linkedit_data_command_fields}
use Rattle.mo_format.specs.Fields.{Field, Number, Name, spelled}
use Rattle.mo_format.specs.Segment.{section_header_fields, segment_command_bytes, segment_command_fields}
use Rattle.mo_format.specs.declared.dylib.DylibCommand.{DylibCommand}
use Rattle.mo_format.specs.declared.dylib.RpathCommand.{RpathCommand}
use Rattle.mo_format.specs.declared.loader.TheConstants.{LC_BUILD_VERSION, LC_DYLD_CHAINED_FIXUPS, LC_ID_DYLIB, LC_LOAD_DYLINKER, LC_MAIN, LC_RPATH, PLATFORM_MACOS}
use Rattle.lib_bind.specs.declared.library.LibraryGraph.{LibraryGraph}
use Rattle.sect_place.specs.Whole.{AreInSegments}
use Rattle.sect_place.specs.declared.layout.PlacedSection.{PlacedSection}
use Rattle.sect_place.specs.declared.layout.Segment.{Segment}
use Rattle.load_cmds.specs.Documents.{document_of}
use Rattle.load_cmds.specs.Names.{string_command_size, string_field, u32_of, u64_of}
use Rattle.load_cmds.specs.Others.{dylib_bytes, dylinker_bytes, entry_bytes, front_bytes, given, id_bytes, library_bytes, library_cmd, middle_bytes, others_bytes, part_bytes, rpath_bytes, version_bytes}
use Rattle.load_cmds.specs.Segments.{is_empty, linkedit_size, section_bytes, section_header, segment_command, segment_with, segments_with, sized_command}
use Rattle.load_cmds.specs.Sizes.{library_size, other_count, other_size, rpath_size, total_by}
use Rattle.load_cmds.specs.declared.parts.PartPlace.{PartPlace}
use Rattle.load_cmds.specs.declared.parts.PartSizes.{PartSizes}
use Rattle.load_cmds.proofs.Lengths.{length-flat_map, length-name_field, length-spelled, length-string_field, string_has_room}
use Rattle.image_make.specs.Parts.{parts_there}
use Rattle.image_laws.proofs.Turned.{appended}
use Rattle.image_laws.proofs.Walk.{IsCommand, all_bytes, command_by}

-- ---- lists of commands

pub all_join : (xs ys : List (List ℕ)) → all_bytes (xs ++ ys) ≡ all_bytes xs ++ all_bytes ys
all_join [] ys = refl
all_join (x ∷ xs) ys = ap (λ (z : List ℕ). x ++ z) (all_join xs ys) ∙ sym (append_assoc x (all_bytes xs) (all_bytes ys))

all_mapped : {X : Type 0} (f : X → List ℕ) (xs : List X) (ys : List (List ℕ)) → all_bytes (map f xs ++ ys) ≡ flat_map f xs ++ all_bytes ys
all_mapped f [] ys = refl
all_mapped f (x ∷ xs) ys = ap (λ (z : List ℕ). f x ++ z) (all_mapped f xs ys) ∙ sym (append_assoc (f x) (flat_map f xs) (all_bytes ys))

pub length_join : {X : Type 0} (xs ys : List X) → length (xs ++ ys) ≡ length xs + length ys
length_join xs ys = length-append xs ys

length_mapped : {X Y : Type 0} (f : X → Y) (xs : List X) → length (map f xs) ≡ length xs
length_mapped f [] = refl
length_mapped f (x ∷ xs) = let rest = length_mapped f xs in omega arith

-- each command has 8 bytes or more
pub few : (commands : List (List ℕ)) → AllByRecursion IsCommand commands → length commands * 8 ≤ length (all_bytes commands)
few [] each = omega arith
few (bytes ∷ commands) each =
    let rest = few commands each.1 in
    let enough = each.0.enough in
    let long : length (bytes ++ all_bytes commands) ≡ length bytes + length (all_bytes commands) = length-append bytes (all_bytes commands) in
    omega arith

-- ---- one command

-- a structure that begins with its kind and its size, and what stands behind it
spelled_with : (kind size : ℕ) (more : List Field) (tail : List ℕ) → size < 2 ^ 32 → length (spelled (Number 4 kind ∷ Number 4 size ∷ more) ++ tail) ≡ size → 8 ≤ size → IsCommand (spelled (Number 4 kind ∷ Number 4 size ∷ more) ++ tail)
spelled_with kind size more tail low long enough =
    command_by kind size (spelled (Number 4 kind ∷ Number 4 size ∷ more) ++ tail) (spelled more ++ tail)
    (append_assoc (number_bytes 4 kind) (number_bytes 4 size ++ spelled more) tail ∙ ap (λ (z : List ℕ). number_bytes 4 kind ++ z) (append_assoc (number_bytes 4 size) (spelled more) tail))
    low long enough

spelled_alone : (kind size : ℕ) (more : List Field) → size < 2 ^ 32 → length (spelled (Number 4 kind ∷ Number 4 size ∷ more)) ≡ size → 8 ≤ size → IsCommand (spelled (Number 4 kind ∷ Number 4 size ∷ more))
spelled_alone kind size more low long enough =
    command_by kind size (spelled (Number 4 kind ∷ Number 4 size ∷ more)) (spelled more) refl low long enough

with_string : (fs : List Field) (fixed : ℕ) (string : List ℕ) → length (spelled fs) ≡ fixed → length (spelled fs ++ string_field fixed string) ≡ string_command_size fixed string
with_string fs fixed string long =
    length-append (spelled fs) (string_field fixed string) ∙ ap (λ (n : ℕ). n + length (string_field fixed string)) long ∙ length-string_field fixed string

as_given : (n : ℕ) → n < 2 ^ 32 → u32_of n ≡ n
as_given n low = omega arith

-- ---- segments

-- the command of each segment with the headers of its sections, which are the next ones
abbrev pub segment_list : PartSizes → ℕ → ℕ → List Segment → List PlacedSection → List (List ℕ)
segment_list parts stubs slots [] sections = []
segment_list parts stubs slots (segment ∷ segments) sections =
    segment_with (segment_command parts (is_empty segments) segment) stubs slots (take segment.sections sections)
    ∷ segment_list parts stubs slots segments (drop segment.sections sections)

pub segments_are : (parts : PartSizes) (stubs slots : ℕ) (segments : List Segment) (sections : List PlacedSection) → all_bytes (segment_list parts stubs slots segments sections) ≡ segments_with parts stubs slots segments sections
segments_are parts stubs slots [] sections = refl
segments_are parts stubs slots (segment ∷ segments) sections =
    ap (λ (z : List ℕ). segment_with (segment_command parts (is_empty segments) segment) stubs slots (take segment.sections sections) ++ z) (segments_are parts stubs slots segments (drop segment.sections sections))

pub segments_many : (parts : PartSizes) (stubs slots : ℕ) (segments : List Segment) (sections : List PlacedSection) → length (segment_list parts stubs slots segments sections) ≡ length segments
segments_many parts stubs slots [] sections = refl
segments_many parts stubs slots (segment ∷ segments) sections = let rest = segments_many parts stubs slots segments (drop segment.sections sections) in omega arith

section_length : (stubs slots : ℕ) (placed : PlacedSection) → length (section_bytes stubs slots placed) ≡ 80
section_length stubs slots placed =
    length-spelled (section_header_fields (section_header stubs slots placed)) (length-name_field placed.section.name, (length-name_field placed.section.segment, tt))

eighty_each : {X : Type 0} (xs : List X) → total_by (λ x. 80) xs ≡ 80 * length xs
eighty_each [] = refl
eighty_each (x ∷ xs) = let rest = eighty_each xs in omega arith

segment_length : (segment : Segment) (memory file stubs slots : ℕ) (sections : List PlacedSection) → length (segment_with (sized_command segment memory file) stubs slots sections) ≡ 72 + 80 * length sections
segment_length segment memory file stubs slots sections =
    length-append (segment_command_bytes (sized_command segment memory file)) (flat_map (section_bytes stubs slots) sections)
    ∙ ap (λ (n : ℕ). n + length (flat_map (section_bytes stubs slots) sections)) (length-spelled (segment_command_fields (sized_command segment memory file)) (length-name_field segment.name, tt))
    ∙ ap (λ (n : ℕ). 72 + n) (length-flat_map (section_bytes stubs slots) (λ x. 80) (section_length stubs slots) sections ∙ eighty_each sections)

sized_one : (segment : Segment) (memory file stubs slots : ℕ) (sections : List PlacedSection) → length sections ≡ segment.sections → 72 + 80 * segment.sections < 2 ^ 32 → IsCommand (segment_with (sized_command segment memory file) stubs slots sections)
sized_one segment memory file stubs slots sections long low =
    let whole : u32_of (72 + 80 * segment.sections) ≡ 72 + 80 * segment.sections = as_given (72 + 80 * segment.sections) low in
    let size = segment_length segment memory file stubs slots sections in
    let command = sized_command segment memory file in
    spelled_with command.cmd command.cmdsize (Name command.segname ∷ Number 8 command.vmaddr ∷ Number 8 command.vmsize ∷ Number 8 command.fileoff ∷ Number 8 command.filesize ∷ Number 4 command.maxprot ∷ Number 4 command.initprot ∷ Number 4 command.nsects ∷ Number 4 command.flags ∷ []) (flat_map (section_bytes stubs slots) sections)
    (omega arith) (omega arith) (omega arith)

segment_one : (parts : PartSizes) (last : Bool) (segment : Segment) (stubs slots : ℕ) (sections : List PlacedSection) → length sections ≡ segment.sections → 72 + 80 * segment.sections < 2 ^ 32 → IsCommand (segment_with (segment_command parts last segment) stubs slots sections)
segment_one parts true segment stubs slots sections long low = sized_one segment (u64_of (least_multiple 0x4000 (linkedit_size parts segment))) (u64_of (linkedit_size parts segment)) stubs slots sections long low
segment_one parts false segment stubs slots sections long low = sized_one segment segment.vmsize segment.file_size stubs slots sections long low

pub segments_each : (parts : PartSizes) (stubs slots : ℕ) (segments : List Segment) (sections : List PlacedSection) → AreInSegments segments sections → 72 + 80 * length sections < 2 ^ 32 → AllByRecursion IsCommand (segment_list parts stubs slots segments sections)
segments_each parts stubs slots [] sections are low = tt
segments_each parts stubs slots (segment ∷ segments) sections are low =
    let these : length (take segment.sections sections) ≡ segment.sections = length-take-le segment.sections sections are.0 in
    let others : length (drop segment.sections sections) ≤ length sections = shorter segment.sections sections in
    let few : segment.sections ≤ length sections = are.0 in
    (segment_one parts (is_empty segments) segment stubs slots (take segment.sections sections) these (omega arith), segments_each parts stubs slots segments (drop segment.sections sections) are.2 (omega arith))
  where
    shorter : (n : ℕ) (xs : List PlacedSection) → length (drop n xs) ≤ length xs
    shorter n xs = omega (arith, Rattle.std.proofs.lemmas.List.length-drop n xs)

-- ---- the others

abbrev pub given_list : Bool → List ℕ → List (List ℕ)
given_list there bytes = if there then bytes ∷ [] else []

-- the other commands of an image that has its chains alone in `__LINKEDIT`
abbrev pub other_list : PartSizes → Command → LibraryGraph → List (List ℕ)
other_list parts command libs =
    given_list command.dylib (id_bytes command)
    ++ (part_bytes LC_DYLD_CHAINED_FIXUPS parts.fixups
    ∷ (given_list (not command.dylib) dylinker_bytes
    ++ (version_bytes command
    ∷ (given_list (not command.dylib) (entry_bytes parts)
    ++ (map (library_bytes libs) libs.libraries ++ map rpath_bytes command.rpaths)))))

given_more : (there : Bool) (bytes : List ℕ) (ys : List (List ℕ)) → all_bytes (given_list there bytes ++ ys) ≡ given there bytes ++ all_bytes ys
given_more true bytes ys = refl
given_more false bytes ys = refl

pub others_are : (parts : PartSizes) (command : Command) (libs : LibraryGraph) → parts.there ≡ parts_there → all_bytes (other_list parts command libs) ≡ others_bytes parts command libs
unfolding others_bytes front_bytes middle_bytes
others_are parts command libs none =
    let id = given command.dylib (id_bytes command) in
    let chains : List ℕ = part_bytes LC_DYLD_CHAINED_FIXUPS parts.fixups in
    let loader = given (not command.dylib) dylinker_bytes in
    let entry = given (not command.dylib) (entry_bytes parts) in
    let all : all_bytes (other_list parts command libs) ≡ id ++ (chains ++ (loader ++ (version_bytes command ++ (entry ++ (flat_map (library_bytes libs) libs.libraries ++ (flat_map rpath_bytes command.rpaths ++ [])))))) =
    given_more command.dylib (id_bytes command) _
    ∙ ap (λ (z : List ℕ). id ++ (chains ++ z)) (given_more (not command.dylib) dylinker_bytes _
    ∙ ap (λ (z : List ℕ). loader ++ (version_bytes command ++ z)) (given_more (not command.dylib) (entry_bytes parts) _
    ∙ ap (λ (z : List ℕ). entry ++ z) (all_mapped (library_bytes libs) libs.libraries (map rpath_bytes command.rpaths)
    ∙ ap (λ (z : List ℕ). flat_map (library_bytes libs) libs.libraries ++ z) (ap all_bytes (sym (append-nil (map rpath_bytes command.rpaths))) ∙ all_mapped rpath_bytes command.rpaths [])))) in
    all ∙ rw none (simp (append_assoc, append-nil))

given_many : (there : Bool) (bytes : List ℕ) → length (given_list there bytes) ≡ (if there then 1 else 0)
given_many true bytes = refl
given_many false bytes = refl

pub others_many : (parts : PartSizes) (command : Command) (libs : LibraryGraph) → length (other_list parts command libs) ≡ other_count parts_there command libs
unfolding other_count
others_many parts command libs = by command.dylib
  where
    rest : List (List ℕ)
    rest = map (library_bytes libs) libs.libraries ++ map rpath_bytes command.rpaths

    many : length rest ≡ length libs.libraries + length command.rpaths
    many = length-append (map (library_bytes libs) libs.libraries) (map rpath_bytes command.rpaths) ∙ omega (arith, length_mapped (library_bytes libs) libs.libraries, length_mapped rpath_bytes command.rpaths)

    by : (dylib : Bool) → length (given_list dylib (id_bytes command) ++ (part_bytes LC_DYLD_CHAINED_FIXUPS parts.fixups ∷ (given_list (not dylib) dylinker_bytes ++ (version_bytes command ∷ (given_list (not dylib) (entry_bytes parts) ++ rest))))) ≡ (if dylib then 1 else 2) + 2 + length libs.libraries + length command.rpaths
    by true = omega (arith, many)
    by false = omega (arith, many)

-- each is a command, where all are small

dylib_one : (cmd : ℕ) (name : List ℕ) (timestamp current compatible : ℕ) → string_command_size 24 name < 2 ^ 32 → IsCommand (dylib_bytes cmd name timestamp current compatible)
unfolding dylib_bytes
dylib_one cmd name timestamp current compatible low =
    let s : DylibCommand = record { cmd = cmd; cmdsize = u32_of (string_command_size 24 name); name = 24; timestamp = timestamp; current_version = current; compatibility_version = compatible } in
    let whole : u32_of (string_command_size 24 name) ≡ string_command_size 24 name = as_given (string_command_size 24 name) low in
    let room : 24 + length name ≤ string_command_size 24 name = string_has_room 24 name in
    spelled_with cmd (u32_of (string_command_size 24 name)) (Number 4 24 ∷ Number 4 timestamp ∷ Number 4 current ∷ Number 4 compatible ∷ []) (string_field 24 name)
    (omega arith) (with_string (dylib_command_fields s) 24 name (length-spelled (dylib_command_fields s) tt) ∙ sym whole) (omega arith)

rpath_one : (path : List ℕ) → rpath_size path < 2 ^ 32 → IsCommand (rpath_bytes path)
unfolding rpath_bytes
rpath_one path low =
    let s : RpathCommand = record { cmd = LC_RPATH; cmdsize = u32_of (string_command_size 12 path); path = 12 } in
    let whole : u32_of (string_command_size 12 path) ≡ string_command_size 12 path = as_given (string_command_size 12 path) low in
    let room : 12 + length path ≤ string_command_size 12 path = string_has_room 12 path in
    spelled_with LC_RPATH (u32_of (string_command_size 12 path)) (Number 4 12 ∷ []) (string_field 12 path)
    (omega arith) (with_string (rpath_command_fields s) 12 path (length-spelled (rpath_command_fields s) tt) ∙ sym whole) (omega arith)

version_one : (command : Command) → IsCommand (version_bytes command)
unfolding version_bytes
version_one command =
    spelled_alone LC_BUILD_VERSION 24 (Number 4 PLATFORM_MACOS ∷ Number 4 command.min ∷ Number 4 command.sdk ∷ Number 4 0 ∷ []) (omega arith)
    (length-spelled (build_version_command_fields (record { cmd = LC_BUILD_VERSION; cmdsize = 24; platform = PLATFORM_MACOS; minos = command.min; sdk = command.sdk; ntools = 0 })) tt) (omega arith)

-- the one that tells where the chains of pointers are
pub fixups_one : (part : PartPlace) → IsCommand (part_bytes LC_DYLD_CHAINED_FIXUPS part)
unfolding part_bytes
fixups_one part =
    spelled_alone LC_DYLD_CHAINED_FIXUPS 16 (Number 4 (u32_of part.offset) ∷ Number 4 (u32_of part.size) ∷ []) (omega arith)
    (length-spelled (linkedit_data_command_fields (record { cmd = LC_DYLD_CHAINED_FIXUPS; cmdsize = 16; dataoff = u32_of part.offset; datasize = u32_of part.size })) tt) (omega arith)

entry_one : (parts : PartSizes) → IsCommand (entry_bytes parts)
unfolding entry_bytes
entry_one parts =
    spelled_alone LC_MAIN 24 (Number 8 parts.entryoff ∷ Number 8 0 ∷ []) (omega arith)
    (length-spelled (entry_point_command_fields (record { cmd = LC_MAIN; cmdsize = 24; entryoff = parts.entryoff; stacksize = 0 })) tt) (omega arith)

dylinker_one : IsCommand dylinker_bytes
unfolding dylinker_bytes string_command_size least_multiple
dylinker_one =
    spelled_with LC_LOAD_DYLINKER 32 (Number 4 12 ∷ []) (string_field 12 (codes "/usr/lib/dyld")) (omega arith)
    (with_string (dylinker_command_fields (record { cmd = LC_LOAD_DYLINKER; cmdsize = 32; name = 12 })) 12 (codes "/usr/lib/dyld") (length-spelled (dylinker_command_fields (record { cmd = LC_LOAD_DYLINKER; cmdsize = 32; name = 12 })) tt)) (omega arith)

given_each : (there : Bool) (bytes : List ℕ) → (there ≡ true → IsCommand bytes) → AllByRecursion IsCommand (given_list there bytes)
given_each true bytes one = (one refl, tt)
given_each false bytes one = tt

mapped_each : {X : Type 0} (f : X → List ℕ) (size : X → ℕ) → ((x : X) → size x < 2 ^ 32 → IsCommand (f x)) → (xs : List X) → total_by size xs < 2 ^ 32 → AllByRecursion IsCommand (map f xs)
mapped_each f size one [] low = tt
mapped_each f size one (x ∷ xs) low = (one x (omega arith), mapped_each f size one xs (omega arith))

pub others_each : (parts : PartSizes) (command : Command) (libs : LibraryGraph) → other_size parts_there command libs < 2 ^ 32 → AllByRecursion IsCommand (other_list parts command libs)
unfolding other_size
others_each parts command libs low =
    appended IsCommand (given_list command.dylib (id_bytes command)) _ (given_each command.dylib (id_bytes command) (λ is. dylib_one LC_ID_DYLIB command.install 1 command.current command.compatible (named is))) (
      fixups_one parts.fixups,
      appended IsCommand (given_list (not command.dylib) dylinker_bytes) _ (given_each (not command.dylib) dylinker_bytes (λ is. dylinker_one)) (
        version_one command,
        appended IsCommand (given_list (not command.dylib) (entry_bytes parts)) _ (given_each (not command.dylib) (entry_bytes parts) (λ is. entry_one parts))
            (appended IsCommand (map (library_bytes libs) libs.libraries) (map rpath_bytes command.rpaths)
            (mapped_each (library_bytes libs) (library_size libs) (λ library small. dylib_one (library_cmd library) (document_of libs library).install 2 (document_of libs library).current (document_of libs library).compatible small) libs.libraries (omega arith))
            (mapped_each rpath_bytes rpath_size rpath_one command.rpaths (omega arith))),
      ),
    )
  where
    named : command.dylib ≡ true → string_command_size 24 command.install < 2 ^ 32
    named is = let here : (if command.dylib then string_command_size 24 command.install else 32 + 24) < 2 ^ 32 = omega arith in rw is at here
