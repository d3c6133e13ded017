-- What it is that an image links files: which of their atoms it keeps, what of these stands in memory once it is loaded,
-- where their references lead, and where a program begins (`loader.h`, `nlist.h`, `mach-o/arm64/reloc.h`).
use Rattle.std.specs.Prelude.{ℕ, ◌+◌, ◌-◌, ◌*◌, ◌^◌, ◌≡◌, ◌≢◌, ◌<◌, ◌≤◌, ◌⊎◌, ◌||◌, ◌==◌, Bool, true, false, pos, List, [], map, slice_get, unwrap_or, All, Contains, Option, Some, None, if◌then◌else◌}
use Rattle.std.specs.FinMap.{from_entries, get}
use Rattle.std.specs.List.{filter_map, flat_map}
use Rattle.std.specs.Option.{option_map, option_map_or}
use Rattle.mo_types.specs.AtomBytes.{atom_bytes}
use Rattle.mo_types.specs.RelocationRules.{least, section_numbered}
use Rattle.mo_types.specs.Rows.{field_size}
use Rattle.mo_types.specs.declared.atom.Atom.{Atom}
use Rattle.mo_types.specs.declared.key.AtomKey.{AtomKey}
use Rattle.mo_types.specs.declared.key.TheConstants.{COMMON_SECTION}
use Rattle.mo_types.specs.declared.loaded.LoadedFile.{LoadedFile}
use Rattle.mo_types.specs.declared.object.Section.{Section}
use Rattle.mo_types.specs.declared.goal.Goal.{Goal}
use Rattle.mo_types.specs.declared.reference.Ref.{Ref}
use Rattle.mo_types.specs.declared.reference.RefKind.TheVariants.{GotPointer, Pointer}
use Rattle.mo_format.specs.declared.loader.TheConstants.{S_THREAD_LOCAL_REGULAR, S_THREAD_LOCAL_ZEROFILL}
use Rattle.command_line.specs.declared.command.Command.{Command}
use Rattle.lib_bind.specs.declared.library.LibraryGraph.{LibraryGraph}
use Rattle.link_files.specs.Bound.{all_needs, start_of}
use Rattle.link_files.specs.Lost.{is_lost}
use Rattle.link_files.specs.Names.{wanted}
use Rattle.link_files.specs.Refusals.{AreOnce}
use Rattle.link_files.specs.Resolved.{AreKept}
use Rattle.resolve.specs.Goals.{goal_of, goal_of_name, goal_table}
use Rattle.literal_merge.specs.Representatives.{representatives_of}
use Rattle.slot_needs.specs.Needs.{is_outer}
use Rattle.slot_plan.specs.declared.need.Need.{Need}
use Rattle.symbol_winners.specs.SymbolTable.{IsSymbolTable, SymbolTable}
use Rattle.symbol_winners.specs.Winners.{winner_of}
use Rattle.symbol_winners.specs.declared.winner.Winner.{Winner}
use Rattle.image_read.specs.Denotes.{Denotes, Places}
use Rattle.image_read.specs.Fixups.{fixup_at}
use Rattle.image_read.specs.Held.{AtomMap, Held, goal_address}
use Rattle.image_read.specs.Mapped.{holder, mapped}
use Rattle.load_cmds.specs.Names.{name_field}
use Rattle.mo_format.specs.declared.segment.SegmentCommand.{SegmentCommand}
use Rattle.sect_list.specs.OutSections.{Home, home_of}
use Rattle.sect_place.specs.Places.{protection_of}
use Rattle.image_read.specs.Reaches.{IsStub}
use Rattle.image_read.specs.declared.fixups.FixupRead.TheVariants.{Broken, Plain}
use Rattle.image_laws.specs.Entry.{BeginsAt}
use Rattle.loader_laws.specs.Unwinding.{HasUnwind, TellsUnwinding}

-- ---- which atoms are kept

-- The kept atoms are the least set that holds the roots and all to which its members lead (ld(1): -dead_strip). Names lead
-- to their winners: no name has two strong definitions, and none that the command line wants leads nowhere.
pub record AreKeptOf (command : Command) (libs : LibraryGraph) (files : List LoadedFile) (keys : List AtomKey) : Type 0 where
  pub once : AreOnce files
  pub symbols : SymbolTable
  pub winners : IsSymbolTable command files symbols
  pub least : AreKept command files symbols (goal_table files libs command) keys
  pub found : All (λ name. is_lost command libs files name ≡ false) (wanted command)

-- an atom is that of a common symbol of a file that wins its name: of the greatest size and alignment of the name's
-- (`nlist.h`: N_UNDF with n_value)
pub record IsCommon (command : Command) (files : List LoadedFile) (file : LoadedFile) (atom : Atom) : Type 0 where
  pub name : List ℕ
  pub winner : Winner
  pub wins : winner_of command files name ≡ Some winner
  pub common : winner.atom.section ≡ COMMON_SECTION
  pub of_file : winner.atom.file ≡ file.id
  pub is : atom ≡ record { key = winner.atom; size = winner.size; align = winner.align }

-- an atom of one of the files that is kept: a piece of its object, or that of a common symbol
pub record IsKeptAtom (command : Command) (files : List LoadedFile) (keys : List AtomKey) (file : LoadedFile) (atom : Atom) : Type 0 where
  pub loaded : Contains files file
  pub of_file : Contains file.atoms atom ⊎ IsCommon command files file atom
  pub kept : Contains keys atom.key

-- a reference of such an atom
pub record IsKeptReference (files : List LoadedFile) (keys : List AtomKey) (file : LoadedFile) (reference : Ref) : Type 0 where
  pub loaded : Contains files file
  pub of_file : Contains file.refs reference
  pub kept : Contains keys reference.atom

-- ---- atoms in memory

-- an atom's byte at an offset that no reference of the atom fills in
abbrev pub IsFree : LoadedFile → Atom → ℕ → Type 0
IsFree file atom k =
    (reference : Ref) → Contains file.refs reference → reference.atom ≡ atom.key → (k < reference.place) ⊎ (reference.place + field_size reference.kind ≤ k)

-- an atom's byte as its object has it: 0 where its section has no bytes in the file (S_ZEROFILL), and of a common symbol
abbrev pub byte_of : LoadedFile → Atom → ℕ → ℕ
byte_of file atom k = unwrap_or (slice_get (atom_bytes file.object atom) k) 0

-- an atom stands at its address, a multiple of its alignment, each byte as its object has it but for the fields of its references
pub record IsAtomInMemory (image : List ℕ) (addresses : AtomMap) (file : LoadedFile) (atom : Atom) : Type 0 where
  pub address : ℕ
  pub stands : get addresses atom.key ≡ Some address
  pub aligned : (count : ℕ) × (address ≡ count * 2 ^ atom.align)
  pub bytes : (k : ℕ) → k < atom.size → IsFree file atom k → mapped image (address + k) ≡ Some (byte_of file atom k)

-- The segment of an image that holds an address has this name, and allows what goes with it: code is read and run, data are
-- read and written (`loader.h`: initprot of segment_command_64).
pub record IsInSegment (image : List ℕ) (name : List ℕ) (address : ℕ) : Type 0 where
  pub segment : SegmentCommand
  pub holds : holder image address ≡ Some segment
  pub named : segment.segname ≡ name_field name
  pub allows : segment.initprot ≡ protection_of name

-- an atom stands in the segment to which its section goes
pub record IsInItsSegment (image : List ℕ) (files : List LoadedFile) (addresses : AtomMap) (atom : Atom) : Type 0 where
  pub address : ℕ
  pub stands : get addresses atom.key ≡ Some address
  pub home : Home
  pub goes : home_of files atom.key.file atom.key.section ≡ Some home
  pub bytes : (k : ℕ) → k < atom.size → IsInSegment image home.to.segment (address + k)

-- one of two atoms ends where the other begins or before
abbrev pub AreApart : AtomMap → Atom → Atom → Type 0
AreApart addresses a b =
    (x y : ℕ) → get addresses a.key ≡ Some x → get addresses b.key ≡ Some y → (x + a.size ≤ y) ⊎ (y + b.size ≤ x)

-- ---- where references lead

-- the types of the sections that make up the template of thread-local variables (`loader.h`)
abbrev pub is_template : ℕ → Bool
is_template kind = kind == S_THREAD_LOCAL_REGULAR || kind == S_THREAD_LOCAL_ZEROFILL

-- an atom of such a section, with its address
unfoldable pub template_atom : AtomMap → LoadedFile → Atom → Option (AtomKey × ℕ)
template_atom addresses file atom =
    if option_map_or (λ section. is_template section.kind) (section_numbered file.object.sections atom.key.section) false
    then option_map (λ address. (atom.key, address)) (get addresses atom.key) else None

unfoldable pub template_atoms : AtomMap → List LoadedFile → List (AtomKey × ℕ)
template_atoms addresses files = flat_map (λ file. filter_map (template_atom addresses file) file.atoms) files

-- the template begins where the first of its atoms stands, and offsets in it count from there
unfoldable pub template_offsets : List (AtomKey × ℕ) → AtomMap
template_offsets atoms =
    from_entries (option_map_or (λ start. map (λ p. (p.0, p.1 - start)) atoms) (least (map (λ p. p.1) atoms)) [])

abbrev pub places_of : List LoadedFile → AtomMap → Places
places_of files addresses = record { addresses = addresses; offsets = template_offsets (template_atoms addresses files) }

-- The field of a reference, in an atom that stands at its address, tells the goal to which the reference leads by its file's
-- symbols, and of a difference also what is subtracted.
pub record TellsItsGoal (command : Command) (libs : LibraryGraph) (files : List LoadedFile) (image : List ℕ) (addresses : AtomMap) (file : LoadedFile)
    (reference : Ref) : Type 0 where
  pub address : ℕ
  pub stands : get addresses reference.atom ≡ Some address
  pub section : Section
  pub of_section : section_numbered file.object.sections reference.atom.section ≡ Some section
  pub tells : Denotes image (places_of files addresses) (address + reference.place) section.kind reference
      (goal_of files libs command file reference.target) (option_map (goal_of files libs command file) reference.minus)

-- ---- what the loader fills in

-- a pointer, or one to a slot, stands at an address in a kept atom
pub record IsPointerOf (files : List LoadedFile) (keys : List AtomKey) (addresses : AtomMap) (address : ℕ) : Type 0 where
  pub file : LoadedFile
  pub reference : Ref
  pub kept : IsKeptReference files keys file reference
  pub kind : (reference.kind ≡ Pointer) ⊎ (reference.kind ≡ GotPointer)
  pub atom : ℕ
  pub stands : get addresses reference.atom ≡ Some atom
  pub at : address ≡ atom + reference.place

-- a slot of a goal, to which a kept atom refers, which handles exceptions of one, or where an executable begins, stands at an
-- address and leads to the goal
pub record IsSlotOf (command : Command) (libs : LibraryGraph) (files : List LoadedFile) (keys : List AtomKey) (image : List ℕ) (addresses : AtomMap)
    (address : ℕ) : Type 0 where
  pub need : Need
  pub needed : Contains (all_needs (representatives_of files) keys (goal_table files libs command) files
      (start_of command (goal_of_name files libs command command.entry))) need
  pub held : Held image addresses (fixup_at image address) need.goal (pos 0)

-- at an address the loader finds nothing, or a pointer of a kept atom, or a slot
abbrev pub IsFilledIn : Command → LibraryGraph → List LoadedFile → List AtomKey → List ℕ → AtomMap → ℕ → Type 0
IsFilledIn command libs files keys image addresses address =
    (fixup_at image address ≡ Plain)
    ⊎ ((fixup_at image address ≢ Broken) × (IsPointerOf files keys addresses address ⊎ IsSlotOf command libs files keys image addresses address))

-- ---- where a program begins

-- a program that begins at an address begins at a goal: at its own address, or at a stub where another image has it
abbrev pub EntersBy : Bool → List ℕ → AtomMap → Goal → ℕ → Type 0
EntersBy true image addresses goal address = IsStub image addresses address goal
EntersBy false image addresses goal address = goal_address image addresses goal ≡ Some address

abbrev pub Enters : List ℕ → AtomMap → Goal → ℕ → Type 0
Enters image addresses goal address = EntersBy (is_outer goal) image addresses goal address

-- a program begins where the name of its entry leads
pub record BeginsAtItsEntry (command : Command) (libs : LibraryGraph) (files : List LoadedFile) (image : List ℕ) (addresses : AtomMap) : Type 0 where
  pub address : ℕ
  pub enters : Enters image addresses (goal_of_name files libs command command.entry) address
  pub begins : BeginsAt image address

-- ---- all of it

-- An image links files. Each atom that it keeps has an address, where it stands in memory apart from all others and in the
-- segment to which its section goes. Each reference of these tells its goal, a branch reaches it, and a program begins at
-- its entry. The loader fills in the pointers of these atoms and the slots that they need, and nothing else. Where atoms have
-- unwind entries the image tells how their functions are unwound, and tells of no others.
pub record IsLinkOf (command : Command) (libs : LibraryGraph) (files : List LoadedFile) (image : List ℕ) : Type 0 where
  pub keys : List AtomKey
  pub addresses : AtomMap
  pub kept : AreKeptOf command libs files keys
  pub atoms : (file : LoadedFile) (atom : Atom) → IsKeptAtom command files keys file atom → IsAtomInMemory image addresses file atom
  pub segments : (file : LoadedFile) (atom : Atom) → IsKeptAtom command files keys file atom → IsInItsSegment image files addresses atom
  pub apart : (file other : LoadedFile) (a b : Atom)
      → IsKeptAtom command files keys file a → IsKeptAtom command files keys other b → a.key ≢ b.key → AreApart addresses a b
  pub references : (file : LoadedFile) (reference : Ref)
      → IsKeptReference files keys file reference → TellsItsGoal command libs files image addresses file reference
  pub entry : command.dylib ≡ false → BeginsAtItsEntry command libs files image addresses
  pub filled : (address : ℕ) → IsFilledIn command libs files keys image addresses address
  pub unwound : HasUnwind files keys → TellsUnwinding command libs files keys image addresses
