-- Which sections an image has, segment by segment and in the order in which they stand (`loader.h`:
-- segment_command_64, section_64).
use Rattle.std.specs.Prelude.{ℕ, ◌+◌, ◌==◌, ◌&&◌, Bool, bit_or, not, List, [], ◌∷◌, ◌++◌, map, length, codes, if◌then◌else◌}
use Rattle.std.specs.List.{filter}
use Rattle.std.specs.Str.{bytes_eq}
use Rattle.mo_format.specs.declared.loader.TheConstants.{S_NON_LAZY_SYMBOL_POINTERS, S_REGULAR, S_SYMBOL_STUBS, S_THREAD_LOCAL_VARIABLE_POINTERS}
use Rattle.mo_types.specs.declared.out_section.OutSection.{OutSection}
use Rattle.sect_list.specs.OutSections.{instructions, is_in}
use Rattle.sect_place.specs.declared.part.Choice.{Choice}
use Rattle.sect_place.specs.declared.part.Choice.TheVariants.{Code, BesideCode, Constant, Writable, Elsewhere}
use Rattle.sect_place.specs.declared.part.Group.{Group}
use Rattle.sect_place.specs.declared.part.Made.{Made}
use Rattle.sect_place.specs.declared.part.Made.TheVariants.{Stubs, UnwindInfo, Got, ThreadPtrs}
use Rattle.sect_place.specs.declared.part.Part.{Part}

-- ---- the sections with atoms

-- the section `__text` of instructions
abbrev pub is_code : OutSection → Bool
is_code section = is_in (codes "__TEXT") section && bytes_eq section.name (codes "__text") && section.kind == S_REGULAR

unfoldable pub is_chosen : Choice → OutSection → Bool
is_chosen Code section = is_code section
is_chosen BesideCode section = is_in (codes "__TEXT") section && not (is_code section)
is_chosen Constant section = is_in (codes "__DATA_CONST") section
is_chosen Writable section = is_in (codes "__DATA") section
is_chosen Elsewhere section =
    not (is_in (codes "__TEXT") section) && not (is_in (codes "__DATA_CONST") section) && not (is_in (codes "__DATA") section)

abbrev pub with_atoms : OutSection → Part
with_atoms section = record { section = section; fixed = 0 }

unfoldable pub chosen : Choice → List OutSection → List Part
chosen choice sections = map with_atoms (filter (is_chosen choice) sections)

-- ---- the linker's own sections

-- a section of the linker's own without bytes: its flags are its attributes and its type
abbrev pub own_section : List ℕ → List ℕ → ℕ → ℕ → ℕ → OutSection
own_section segment name kind attributes align = record {
  segment = segment;
  name = name;
  kind = kind;
  flags = bit_or attributes kind;
  align = align;
  atoms = [];
}

abbrev pub section_of : Made → OutSection
section_of Stubs = own_section (codes "__TEXT") (codes "__stubs") S_SYMBOL_STUBS instructions 2
section_of UnwindInfo = own_section (codes "__TEXT") (codes "__unwind_info") S_REGULAR 0 2
section_of Got = own_section (codes "__DATA_CONST") (codes "__got") S_NON_LAZY_SYMBOL_POINTERS 0 3
section_of ThreadPtrs = own_section (codes "__DATA") (codes "__thread_ptrs") S_THREAD_LOCAL_VARIABLE_POINTERS 0 3

-- one of them, where it has bytes
abbrev pub own : Made → ℕ → List Part
own which bytes = if bytes == 0 then [] else record { section = section_of which; fixed = bytes } ∷ []

-- ---- segments

-- a segment, where it has a section
abbrev pub group_named : List ℕ → List Part → List Group
group_named name [] = []
group_named name (part ∷ parts) = record { name = name; parts = part ∷ parts } ∷ []

-- sections of one segment that stand together, behind those of the segment `name` that are there already
abbrev pub runs_from : List ℕ → List Part → List Part → List Group
runs_from name run [] = group_named name run
runs_from name run (part ∷ parts) =
    if bytes_eq part.section.segment name then runs_from name (run ++ part ∷ []) parts
    else group_named name run ++ runs_from part.section.segment (part ∷ []) parts

-- segments of the inputs' own
unfoldable pub runs : List Part → List Group
runs parts = runs_from [] [] parts

-- The bytes of the linker's own sections.
pub record MadeBytes : Type 0 where
  pub stubs : ℕ
  pub unwind : ℕ
  pub got : ℕ
  pub tlv : ℕ

-- `__text` first, then the stubs, and the unwind information last
unfoldable pub text_parts : List OutSection → MadeBytes → List Part
text_parts sections bytes =
    chosen Code sections ++ own Stubs bytes.stubs ++ chosen BesideCode sections ++ own UnwindInfo bytes.unwind

unfoldable pub constant_parts : List OutSection → MadeBytes → List Part
constant_parts sections bytes = own Got bytes.got ++ chosen Constant sections

unfoldable pub writable_parts : List OutSection → MadeBytes → List Part
writable_parts sections bytes = own ThreadPtrs bytes.tlv ++ chosen Writable sections

-- all segments with their sections: `__TEXT` always, `__DATA_CONST`, `__DATA` and others where they have one
unfoldable pub groups_of : List OutSection → MadeBytes → List Group
groups_of sections bytes =
    record { name = codes "__TEXT"; parts = text_parts sections bytes } ∷ []
    ++ group_named (codes "__DATA_CONST") (constant_parts sections bytes)
    ++ group_named (codes "__DATA") (writable_parts sections bytes)
    ++ runs (chosen Elsewhere sections)

-- how many sections they have
unfoldable pub parts_count : List Group → ℕ
parts_count [] = 0
parts_count (group ∷ groups) = length group.parts + parts_count groups
