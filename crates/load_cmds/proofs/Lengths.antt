-- How many bytes commands have.
use Rattle.std.proofs.Common.{◌≡◌, ℕ, ◌+◌, ◌-◌, ◌*◌, ◌<◌, ◌≤◌, List, [], ◌∷◌, ◌++◌, length, take, drop, codes, replicate, if◌then◌else◌, Bool, true, false, not, refl, sym, ap, ◌∙◌, subst, arith, length-append, length-drop}
use Rattle.std.specs.List.{flat_map}
use Rattle.std.proofs.lemmas.List.{length-replicate, length-take, length-take-le}
use Rattle.mo_bytes.specs.Rounding.{least_multiple}
use Rattle.mo_bytes.proofs.Numbers.{length-number_bytes}
use Rattle.mo_format.specs.Fields.{Field, Number, Name, field_bytes, spelled}
use Rattle.mo_format.specs.Command.{build_version_command_fields, dylinker_command_fields, entry_point_command_fields, uuid_command_fields}
use Rattle.mo_format.specs.Dylib.{dylib_command_fields, rpath_command_fields}
use Rattle.mo_format.specs.Header.{mach_header_fields}
use Rattle.mo_format.specs.Linkedit.{dysymtab_command_fields, linkedit_data_command_fields}
use Rattle.mo_format.specs.Segment.{section_header_fields, segment_command_fields}
use Rattle.mo_format.specs.Symbol.{symtab_command_fields}
use Rattle.mo_format.specs.Segment.{segment_command_bytes}
use Rattle.mo_format.specs.declared.dylib.DylibCommand.{DylibCommand}
use Rattle.mo_format.specs.declared.dylib.RpathCommand.{RpathCommand}
use Rattle.mo_format.specs.declared.loader.TheConstants.{LC_BUILD_VERSION, LC_CODE_SIGNATURE, LC_DYLD_CHAINED_FIXUPS, LC_DYLD_EXPORTS_TRIE, LC_ID_DYLIB, LC_LOAD_DYLINKER, LC_MAIN, LC_RPATH, LC_SYMTAB, LC_UUID, PLATFORM_MACOS}
use Rattle.mo_format.specs.declared.symbol.SymtabCommand.{SymtabCommand}
use Rattle.command_line.specs.declared.command.Command.{Command}
use Rattle.lib_bind.specs.declared.library.LibraryGraph.{LibraryGraph}
use Rattle.sect_place.specs.Whole.{AreInSegments, IsWholeLayout}
use Rattle.sect_place.specs.declared.layout.Layout.{Layout}
use Rattle.sect_place.specs.declared.layout.PlacedSection.{PlacedSection}
use Rattle.sect_place.specs.declared.layout.Segment.{Segment}
use Rattle.load_cmds.specs.Commands.{commands_of, commands_size, header}
use Rattle.load_cmds.specs.Documents.{document_of}
use Rattle.load_cmds.specs.Names.{name_field, string_command_size, string_field, u32_of, u64_of}
use Rattle.load_cmds.specs.Others.{dylib_bytes, dylinker_bytes, dysymtab_bytes, dysymtab_command, entry_bytes, front_bytes, given, id_bytes, library_bytes, library_cmd, middle_bytes, others_bytes, part_bytes, rpath_bytes, symtab_bytes, uuid_bytes, version_bytes}
use Rattle.load_cmds.specs.Segments.{is_empty, linkedit_size, section_bytes, section_header, segment_command, segment_with, segments_bytes, segments_with, sized_command, slot_count, stub_count}
use Rattle.load_cmds.specs.inner.Counted.{AreCounted}
use Rattle.load_cmds.specs.Sizes.{counted, library_size, other_size, rpath_size, total_by}
use Rattle.load_cmds.specs.declared.parts.PartPlace.{PartPlace}
use Rattle.load_cmds.specs.declared.parts.PartSizes.{PartSizes}

-- each name has 16 bytes
abbrev pub AreNames : List Field → Type 0
AreNames [] = Unit {0}
AreNames (Number width value ∷ fs) = AreNames fs
AreNames (Name bytes ∷ fs) = (length bytes ≡ 16) × AreNames fs

abbrev pub widths : List Field → ℕ
widths [] = 0
widths (Number width value ∷ fs) = width + widths fs
widths (Name bytes ∷ fs) = 16 + widths fs

pub length-spelled : (fs : List Field) → AreNames fs → length (spelled fs) ≡ widths fs
length-spelled [] names = refl
length-spelled (Number width value ∷ fs) names =
    length-append (field_bytes (Number width value)) (spelled fs)
    ∙ ap (λ (n : ℕ). n + length (spelled fs)) (length-number_bytes width value)
    ∙ ap (λ (n : ℕ). width + n) (length-spelled fs names)
length-spelled (Name bytes ∷ fs) names =
    length-append bytes (spelled fs)
    ∙ ap (λ (n : ℕ). n + length (spelled fs)) names.0
    ∙ ap (λ (n : ℕ). 16 + n) (length-spelled fs names.1)

pub length-name_field : (name : List ℕ) → length (name_field name) ≡ 16
unfolding name_field
length-name_field name = rw (length-append, length-take, length-replicate) (omega arith)

pub string_has_room : (fixed : ℕ) (string : List ℕ) → fixed + length string ≤ string_command_size fixed string
unfolding string_command_size least_multiple
string_has_room fixed string = omega arith

pub length-string_field : (fixed : ℕ) (string : List ℕ) → fixed + length (string_field fixed string) ≡ string_command_size fixed string
unfolding string_field
length-string_field fixed string =
    let room : fixed + length string ≤ string_command_size fixed string = string_has_room fixed string in
    rw (length-append, length-replicate) (omega arith)

pub length-flat_map : {X : Type 0} (f : X → List ℕ) (g : X → ℕ) → ((x : X) → length (f x) ≡ g x) → (xs : List X) → length (flat_map f xs) ≡ total_by g xs
length-flat_map f g each [] = refl
length-flat_map f g each (x ∷ xs) =
    length-append (f x) (flat_map f xs)
    ∙ ap (λ (n : ℕ). n + length (flat_map f xs)) (each x)
    ∙ ap (λ (n : ℕ). g x + n) (length-flat_map f g each xs)

-- ---- segments

section_length : (stubs slots : ℕ) (placed : PlacedSection) → length (section_bytes stubs slots placed) ≡ 80
section_length stubs slots placed =
    length-spelled (section_header_fields (section_header stubs slots placed)) (length-name_field placed.section.name, (length-name_field placed.section.segment, tt))

eighty_each : {X : Type 0} (xs : List X) → total_by (λ x. 80) xs ≡ 80 * length xs
eighty_each [] = refl
eighty_each (x ∷ xs) = let rest = eighty_each xs in omega arith

sized_length : (segment : Segment) (memory file : ℕ) → length (segment_command_bytes (sized_command segment memory file)) ≡ 72
sized_length segment memory file = length-spelled (segment_command_fields (sized_command segment memory file)) (length-name_field segment.name, tt)

command_length : (parts : PartSizes) (last : Bool) (segment : Segment) → length (segment_command_bytes (segment_command parts last segment)) ≡ 72
command_length parts true segment = sized_length segment (u64_of (least_multiple 0x4000 (linkedit_size parts segment))) (u64_of (linkedit_size parts segment))
command_length parts false segment = sized_length segment segment.vmsize segment.file_size

segment_length : (parts : PartSizes) (last : Bool) (segment : Segment) (stubs slots : ℕ) (sections : List PlacedSection) → length (segment_with (segment_command parts last segment) stubs slots sections) ≡ 72 + 80 * length sections
segment_length parts last segment stubs slots sections =
    length-append (segment_command_bytes (segment_command parts last segment)) (flat_map (section_bytes stubs slots) sections)
    ∙ ap (λ (n : ℕ). n + length (flat_map (section_bytes stubs slots) sections)) (command_length parts last segment)
    ∙ ap (λ (n : ℕ). 72 + n) (length-flat_map (section_bytes stubs slots) (λ x. 80) (section_length stubs slots) sections ∙ eighty_each sections)

segments_length : (parts : PartSizes) (stubs slots : ℕ) (segments : List Segment) (sections : List PlacedSection) → AreInSegments segments sections → length (segments_with parts stubs slots segments sections) ≡ 72 * length segments + 80 * length sections
segments_length parts stubs slots [] sections are_in = rw are_in refl
segments_length parts stubs slots (segment ∷ segments) sections are_in =
    let few : segment.sections ≤ length sections = are_in.0 in
    let these : length (take segment.sections sections) ≡ segment.sections = length-take-le segment.sections sections few in
    let others : length (drop segment.sections sections) ≡ length sections - segment.sections = length-drop segment.sections sections in
    let one = segment_length parts (is_empty segments) segment stubs slots (take segment.sections sections) in
    let rest = segments_length parts stubs slots segments (drop segment.sections sections) are_in.2 in
    length-append (segment_with (segment_command parts (is_empty segments) segment) stubs slots (take segment.sections sections)) (segments_with parts stubs slots segments (drop segment.sections sections))
    ∙ omega arith

-- ---- the others

length-given : (there : Bool) (bytes : List ℕ) (n : ℕ) → length bytes ≡ n → length (given there bytes) ≡ counted there n
length-given true bytes n e = e
length-given false bytes n e = refl

dylib_length : (cmd : ℕ) (name : List ℕ) (timestamp current compatible : ℕ) → length (dylib_bytes cmd name timestamp current compatible) ≡ string_command_size 24 name
unfolding dylib_bytes
dylib_length cmd name timestamp current compatible =
    let s : DylibCommand = record { cmd = cmd; cmdsize = u32_of (string_command_size 24 name); name = 24; timestamp = timestamp; current_version = current; compatibility_version = compatible } in
    length-append (spelled (dylib_command_fields s)) (string_field 24 name)
    ∙ ap (λ (n : ℕ). n + length (string_field 24 name)) (length-spelled (dylib_command_fields s) tt)
    ∙ length-string_field 24 name

rpath_length : (path : List ℕ) → length (rpath_bytes path) ≡ rpath_size path
unfolding rpath_bytes
rpath_length path =
    let s : RpathCommand = record { cmd = LC_RPATH; cmdsize = u32_of (string_command_size 12 path); path = 12 } in
    length-append (spelled (rpath_command_fields s)) (string_field 12 path)
    ∙ ap (λ (n : ℕ). n + length (string_field 12 path)) (length-spelled (rpath_command_fields s) tt)
    ∙ length-string_field 12 path

part_length : (cmd : ℕ) (part : PartPlace) → length (part_bytes cmd part) ≡ 16
unfolding part_bytes
part_length cmd part = length-spelled (linkedit_data_command_fields (record { cmd = cmd; cmdsize = 16; dataoff = u32_of part.offset; datasize = u32_of part.size })) tt

symbols_length : (parts : PartSizes) → length (symtab_bytes parts ++ dysymtab_bytes parts) ≡ 24 + 80
unfolding symtab_bytes dysymtab_bytes
symbols_length parts =
    let s : SymtabCommand = record { cmd = LC_SYMTAB; cmdsize = 24; symoff = u32_of parts.symbols.offset; nsyms = u32_of (parts.locals + parts.exported + parts.undefined); stroff = u32_of parts.strings.offset; strsize = u32_of parts.strings.size } in
    length-append (spelled (symtab_command_fields s)) (spelled (dysymtab_command_fields (dysymtab_command parts)))
    ∙ ap (λ (n : ℕ). n + length (spelled (dysymtab_command_fields (dysymtab_command parts)))) (length-spelled (symtab_command_fields s) tt)
    ∙ ap (λ (n : ℕ). 24 + n) (length-spelled (dysymtab_command_fields (dysymtab_command parts)) tt)

dylinker_length : length dylinker_bytes ≡ 32
unfolding dylinker_bytes string_command_size least_multiple
dylinker_length =
    length-append (spelled (dylinker_command_fields (record { cmd = LC_LOAD_DYLINKER; cmdsize = 32; name = 12 }))) (string_field 12 (codes "/usr/lib/dyld"))
    ∙ ap (λ (n : ℕ). n + length (string_field 12 (codes "/usr/lib/dyld"))) (length-spelled (dylinker_command_fields (record { cmd = LC_LOAD_DYLINKER; cmdsize = 32; name = 12 })) tt)
    ∙ length-string_field 12 (codes "/usr/lib/dyld")

uuid_length : length uuid_bytes ≡ 24
unfolding uuid_bytes
uuid_length = length-spelled (uuid_command_fields (record { cmd = LC_UUID; cmdsize = 24; uuid = replicate 16 0 })) (refl, tt)

version_length : (command : Command) → length (version_bytes command) ≡ 24
unfolding version_bytes
version_length command = length-spelled (build_version_command_fields (record { cmd = LC_BUILD_VERSION; cmdsize = 24; platform = PLATFORM_MACOS; minos = command.min; sdk = command.sdk; ntools = 0 })) tt

entry_length : (parts : PartSizes) → length (entry_bytes parts) ≡ 24
unfolding entry_bytes
entry_length parts = length-spelled (entry_point_command_fields (record { cmd = LC_MAIN; cmdsize = 24; entryoff = parts.entryoff; stacksize = 0 })) tt

appended_length : (a b : List ℕ) (m n : ℕ) → length a ≡ m → length b ≡ n → length (a ++ b) ≡ m + n
appended_length a b m n e f = rw (length-append, e, f) refl

front_length : (parts : PartSizes) (command : Command) → length (front_bytes parts command) ≡ counted command.dylib (string_command_size 24 command.install) + (counted parts.there.fixups 16 + (counted parts.there.trie 16 + (counted parts.there.symbols (24 + 80) + counted (not command.dylib) 32)))
unfolding front_bytes
front_length parts command =
    appended_length _ _ _ _ (length-given command.dylib (id_bytes command) _ (dylib_length LC_ID_DYLIB command.install 1 command.current command.compatible))
    (appended_length _ _ _ _ (length-given parts.there.fixups _ _ (part_length LC_DYLD_CHAINED_FIXUPS parts.fixups))
    (appended_length _ _ _ _ (length-given parts.there.trie _ _ (part_length LC_DYLD_EXPORTS_TRIE parts.trie))
    (appended_length _ _ _ _ (length-given parts.there.symbols _ _ (symbols_length parts))
    (length-given (not command.dylib) _ _ dylinker_length))))

middle_length : (parts : PartSizes) (command : Command) → length (middle_bytes parts command) ≡ counted parts.there.uuid 24 + (24 + counted (not command.dylib) 24)
unfolding middle_bytes
middle_length parts command =
    appended_length _ _ _ _ (length-given parts.there.uuid _ _ uuid_length)
    (appended_length _ _ _ _ (version_length command) (length-given (not command.dylib) _ _ (entry_length parts)))

-- a program has a loader and an entry, a library has its name
forms : (dylib : Bool) (name : ℕ) → counted dylib name + (counted (not dylib) 32 + counted (not dylib) 24) ≡ (if dylib then name else 32 + 24)
forms true name = omega arith
forms false name = refl

pub others_length : (parts : PartSizes) (command : Command) (libs : LibraryGraph) → length (others_bytes parts command libs) ≡ other_size parts.there command libs
unfolding others_bytes other_size
others_length parts command libs =
    let form = forms command.dylib (string_command_size 24 command.install) in
    appended_length _ _ _ _ (front_length parts command)
    (appended_length _ _ _ _ (middle_length parts command)
    (appended_length _ _ _ _ (length-flat_map (library_bytes libs) (library_size libs) (λ library. dylib_length (library_cmd library) (document_of libs library).install 2 (document_of libs library).current (document_of libs library).compatible) libs.libraries)
    (appended_length _ _ _ _ (length-flat_map rpath_bytes rpath_size rpath_length command.rpaths)
    (length-given parts.there.signature _ _ (part_length LC_CODE_SIGNATURE parts.signature)))))
    ∙ omega arith

-- ---- the header with all commands

pub commands_length : (layout : Layout) (parts : PartSizes) (command : Command) (libs : LibraryGraph) → IsWholeLayout layout → length (commands_of layout parts command libs) ≡ 32 + commands_size layout parts.there command libs
unfolding segments_bytes
commands_length layout parts command libs whole =
    appended_length _ _ _ _ (length-spelled (mach_header_fields (header layout parts command libs)) tt)
    (appended_length _ _ _ _ (segments_length parts (stub_count layout.sections) (slot_count layout.sections) layout.segments layout.sections whole.sections) (others_length parts command libs))

pub counted_in : (segments : List Segment) (sections : List PlacedSection) → AreInSegments segments sections → AreCounted segments sections
counted_in [] sections are_in = tt
counted_in (segment ∷ segments) sections are_in = (are_in.0, counted_in segments (drop segment.sections sections) are_in.2)

pub whole_is_counted : (layout : Layout) → IsWholeLayout layout → AreCounted layout.segments layout.sections
whole_is_counted layout whole = counted_in layout.segments layout.sections whole.sections
