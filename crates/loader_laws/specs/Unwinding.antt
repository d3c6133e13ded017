-- What an image tells of how the frames of its functions are unwound: its section `__unwind_info`, looked up as an unwinder does
-- (`loader.h`: section_64; `compact_unwind_encoding.h`).
use Rattle.std.specs.Prelude.{ℕ, ◌+◌, ◌-◌, ◌*◌, ◌≡◌, ◌<◌, ◌≤◌, true, pos, bit_and, codes, List, length, Contains, Option, Some, None}
use Rattle.std.specs.Option.{option_map, option_map_or}
use Rattle.field_laws.specs.Memory.{AreInMemory}
use Rattle.image_format.specs.declared.compact_unwind.TheConstants.{UNWIND_HAS_LSDA, UNWIND_PERSONALITY_MASK}
use Rattle.image_read.specs.Commands.{commands_of, fits}
use Rattle.image_read.specs.Fixups.{fixup_at}
use Rattle.image_read.specs.Held.{AtomMap, Held, in_atom}
use Rattle.image_read.specs.Mapped.{is_segment}
use Rattle.image_read.specs.Meaning.{base_of}
use Rattle.command_line.specs.declared.command.Command.{Command}
use Rattle.lib_bind.specs.declared.library.LibraryGraph.{LibraryGraph}
use Rattle.image_laws.specs.Unwinding.{data_flag}
use Rattle.load_cmds.specs.Names.{name_field}
use Rattle.mo_format.specs.Segment.{section_header_at, segment_command_at}
use Rattle.mo_format.specs.declared.segment.SectionHeader.{SectionHeader}
use Rattle.mo_types.specs.declared.goal.Goal.{Goal}
use Rattle.mo_types.specs.declared.key.AtomKey.{AtomKey}
use Rattle.mo_types.specs.declared.loaded.LoadedFile.{LoadedFile}
use Rattle.mo_types.specs.declared.unwind.Unwind.{Unwind}
use Rattle.resolve.specs.Goals.{goal_of}
use Rattle.unwind_out.specs.Law.{IsQuiet}
use Rattle.unwind_out.specs.Lookup.{personality_at, unwind}

-- ---- the section

-- a section of an image, by its header: one of those behind the command of a segment
pub record IsSectionOf (image : List ℕ) (header : SectionHeader) : Type 0 where
  pub fitting : fits image ≡ true
  pub at : ℕ
  pub command : Contains (commands_of image) at
  pub segment : is_segment image at ≡ true
  pub number : ℕ
  pub among : number < (segment_command_at image at).nsects
  pub here : section_header_at image (at + 72 + 80 * number) ≡ header

-- The section `__unwind_info` of an image, with its bytes as they stand in memory, and the address that its offsets count
-- from, where the header of the image stands.
pub record UnwindInfo (image : List ℕ) : Type 0 where
  pub base : ℕ
  pub begins : base_of image ≡ Some base
  pub header : SectionHeader
  pub section : IsSectionOf image header
  pub segment : header.segname ≡ name_field (codes "__TEXT")
  pub name : header.sectname ≡ name_field (codes "__unwind_info")
  pub bytes : List ℕ
  pub size : header.size ≡ length bytes
  pub there : AreInMemory image header.addr bytes

-- ---- one entry

-- an unwind entry of an atom of one of the files that is kept
pub record IsKeptUnwind (files : List LoadedFile) (keys : List AtomKey) (file : LoadedFile) (entry : Unwind) : Type 0 where
  pub loaded : Contains files file
  pub of_file : Contains file.unwinds entry
  pub kept : Contains keys entry.atom

-- how a function is unwound: all bits of an encoding but those that tell of its language-specific data and its personality
abbrev pub way_of : ℕ → ℕ
way_of encoding = bit_and encoding (0xffffffff - (UNWIND_HAS_LSDA + UNWIND_PERSONALITY_MASK))

-- language-specific data stand so far from an address, or there are none
abbrev pub IsDataAt : AtomMap → ℕ → Option (AtomKey × ℕ) → ℕ → Type 0
IsDataAt addresses base None offset = offset ≡ 0
IsDataAt addresses base (Some place) offset = in_atom addresses place.0 place.1 ≡ Some (base + offset)

-- a slot so far from an address is filled in by the loader and leads to a personality's goal, or there is neither
abbrev pub IsHandlerAt : List ℕ → AtomMap → ℕ → Option Goal → Option ℕ → Type 0
IsHandlerAt image addresses base None found = found ≡ None
IsHandlerAt image addresses base (Some goal) found =
    (slot : ℕ) × (found ≡ Some slot) × Held image addresses (fixup_at image (base + slot)) goal (pos 0)

-- What is found at each place of an entry's function: where the function begins, how it is unwound as the entry has it, whether
-- it has language-specific data, which, and its personality, which leads to a goal.
pub record TellsEntry (image : List ℕ) (addresses : AtomMap) (info : UnwindInfo image) (personality : Option Goal)
    (entry : Unwind) : Type 0 where
  pub start : ℕ
  pub stands : in_atom addresses entry.atom entry.offset ≡ Some (info.base + start)
  pub encoding : ℕ
  pub lsda : ℕ
  pub found : (k : ℕ) → k < entry.length → unwind info.bytes (start + k) ≡ Some (record { function = start; encoding = encoding; lsda = lsda })
  pub way : way_of encoding ≡ way_of entry.encoding
  pub flag : data_flag encoding ≡ option_map_or (λ place. 1) entry.lsda 0
  pub lsda_at : IsDataAt addresses info.base entry.lsda lsda
  pub handler : IsHandlerAt image addresses info.base personality (personality_at info.bytes encoding)

-- ---- all entries

-- an address is in the function of no entry that is kept
abbrev pub IsInNoFunction : List LoadedFile → List AtomKey → AtomMap → ℕ → Type 0
IsInNoFunction files keys addresses address =
    (file : LoadedFile) (entry : Unwind) (start : ℕ) → IsKeptUnwind files keys file entry
    → in_atom addresses entry.atom entry.offset ≡ Some start → start ≤ address → address < start + entry.length → ⊥

-- The section tells of the function of each entry that is kept, and of no other address. A personality leads where the names
-- of all files lead it.
pub record TellsUnwinding (command : Command) (libs : LibraryGraph) (files : List LoadedFile) (keys : List AtomKey) (image : List ℕ)
    (addresses : AtomMap) : Type 0 where
  pub info : UnwindInfo image
  pub each : (file : LoadedFile) (entry : Unwind) → IsKeptUnwind files keys file entry
      → TellsEntry image addresses info (option_map (goal_of files libs command file) entry.personality) entry
  pub others : (offset : ℕ) → IsInNoFunction files keys addresses (info.base + offset) → IsQuiet (unwind info.bytes offset)

-- some entry is kept
abbrev pub HasUnwind : List LoadedFile → List AtomKey → Type 0
HasUnwind files keys = (file : LoadedFile) × (entry : Unwind) × IsKeptUnwind files keys file entry
