-- Why loaded files are refused: the causes in the order of the steps.
use Rattle.std.specs.Prelude.{ℕ, ◌≡◌, ◌<◌, ◌≤◌, ◌^◌, ◌⊎◌, ℤ, pos, false, List, [], length, slice_get, Some, None, Ok}
use Rattle.std.specs.Cmp.Lexicographic.{slice_cmp}
use Rattle.std.specs.Ordering.{is_lt, nat_cmp}
use Rattle.fixup_chain.specs.Chained.{AreMany}
use Rattle.image_make.specs.Made.{IsFirstInfo, IsMadeWith, IsOverlong, IsUnfit, ImageInputs, plan_for, with_info, with_least}
use Rattle.liveness.specs.Undefined.{undefined}
use Rattle.lib_bind.specs.declared.library.LibraryGraph.{LibraryGraph}
use Rattle.link_steps.specs.Steps.{Cause, ◌>>=◌, ◌>>◌, always, passes, refuses, taken}
use Rattle.command_line.specs.declared.command.Command.{Command}
use Rattle.mo_types.specs.declared.answer.Refusal.{Refusal}
use Rattle.mo_types.specs.declared.answer.Refusal.TheVariants.{Limit, Range, Undefined}
use Rattle.mo_types.specs.declared.cause.RangeKind.TheVariants as size
use Rattle.mo_types.specs.declared.cause.Which.TheVariants.{Atoms, Names}
use Rattle.mo_types.specs.declared.key.AtomKey.{AtomKey}
use Rattle.mo_types.specs.declared.loaded.LoadedFile.{LoadedFile}
use Rattle.patch.specs.declared.met.RangeFault.{RangeFault}
use Rattle.ref_meet.specs.Binds.{binds}
use Rattle.resolve.specs.Goals.{goal_of_name, goal_table}
use Rattle.symbol_winners.specs.SymbolTable.{IsSymbolTable, SymbolTable}
use Rattle.sect_place.specs.Layout.{image_size}
use Rattle.sect_place.specs.declared.layout.Layout.{Layout}
use Rattle.sect_place.specs.declared.size.PlaceFault.TheVariants.{ImageSize}
use Rattle.slot_needs.specs.Unmet.{unmet}
use Rattle.slot_plan.specs.declared.list.Slots.{Slots}
use Rattle.unwind_link.specs.Dwarf.{dwarfs}
use Rattle.unwind_link.specs.Kept.{kept_unwinds}
use Rattle.link_files.specs.Bound.{AreSlotsFor, HaveManyImports, NeedsAnImage, all_needs, start_of}
use Rattle.link_files.specs.Linked.{making}
use Rattle.link_files.specs.Lost.{lost_wanted}
use Rattle.link_files.specs.Missing.{HoldsOfNone, IsFirstFile, IsWantedInVain, Misses}
use Rattle.link_files.specs.Names.{all_names, atoms_in, label_of, wanted}
use Rattle.link_files.specs.Refusals.{AreOnce, IsTwice}
use Rattle.link_files.specs.Resolved.{AreKept}
use Rattle.link_files.specs.Unwinding.{AreFewPersonalities, AreManyPersonalities, LeavesToEhFrame, handlers}

-- there are 2^24 names or more
abbrev pub HaveManyNames : List LoadedFile → List (List ℕ) → Cause Refusal
HaveManyNames files wanted why = (2 ^ 24 ≤ length (all_names files wanted)) × (why ≡ Limit Names)

-- there are 2^24 atoms or more
abbrev pub HaveManyAtoms : List LoadedFile → Cause Refusal
HaveManyAtoms files why = (2 ^ 24 ≤ atoms_in files) × (why ≡ Limit Atoms)

-- a name that some kept atom refers to, or that the command line wants, and that stands for nothing
abbrev pub IsMissed : Command → LibraryGraph → List LoadedFile → List AtomKey → List ℕ → Type 0
IsMissed command libs files keys name =
    ((k : ℕ) × (file : LoadedFile) × (slice_get files k ≡ Some file) × Misses command libs files keys name file) ⊎ IsWantedInVain command libs files name

-- what messages call the first file of which a kept atom refers to it; what the command line alone wants is of none
abbrev pub IsMissedIn : Command → LibraryGraph → List LoadedFile → List AtomKey → List ℕ → List ℕ → Type 0
IsMissedIn command libs files keys name label =
    ((file : LoadedFile) × IsFirstFile (Misses command libs files keys name) files file × (label ≡ file.label))
    ⊎ (HoldsOfNone (Misses command libs files keys name) files × IsWantedInVain command libs files name × (label ≡ []))

-- a name stands for nothing, and no lesser one does, of those to which kept atoms refer and of the wanted ones
pub record IsLost (command : Command) (libs : LibraryGraph) (files : List LoadedFile) (keys : List AtomKey) (why : Refusal) : Type 0 where
  pub name : List ℕ
  pub file : List ℕ
  pub missed : IsMissedIn command libs files keys name file
  pub least : (other : List ℕ) → IsMissed command libs files keys other → is_lt (slice_cmp nat_cmp other name) ≡ false
  pub told : why ≡ Undefined name file

-- the layout has 2^32 bytes or more before `__LINKEDIT`, with these bytes of `__unwind_info`
pub record IsTooLong (m : ImageInputs) (why : Refusal) : Type 0 where
  pub long : 2 ^ 32 ≤ image_size (plan_for m)
  pub told : why ≡ Range m.command.output 0 size.ImageSize (pos (image_size (plan_for m)))

-- The layout has fewer. A pointer of a slot stands or leads too far, and those of slots at lesser addresses don't.
pub record IsSlotOutOfRange (m : ImageInputs) (why : Refusal) : Type 0 where
  pub layout : Layout
  pub fault : RangeFault
  pub unfit : IsUnfit m layout None fault
  pub told : why ≡ Range m.command.output 0 fault.kind fault.value

-- Those of slots don't. A value of a reference of a kept atom is out of range, and none is of the atoms with lesser keys, and
-- of those at lesser places in the atom: a field can't hold it, or a pointer stands or leads too far.
pub record IsOutOfRange (m : ImageInputs) (why : Refusal) : Type 0 where
  pub layout : Layout
  pub key : AtomKey
  pub fault : RangeFault
  pub unfit : IsUnfit m layout (Some key) fault
  pub told : why ≡ Range (label_of m.files key.file) fault.file_place fault.kind fault.value

-- all values are in range, and the whole image has 2^32 bytes or more
pub record IsOverlongImage (m : ImageInputs) (why : Refusal) : Type 0 where
  pub value : ℤ
  pub overlong : IsOverlong m (ImageSize value)
  pub told : why ≡ Range m.command.output 0 size.ImageSize value

-- the layout is too long with a byte of `__unwind_info` alone, where it has some, or else with all
abbrev pub IsNotPlaced : ImageInputs → Cause Refusal
IsNotPlaced m why = IsTooLong (with_least m) why ⊎ ((info : List ℕ) × IsFirstInfo m info × IsTooLong (with_info m info) why)

-- with these bytes of `__unwind_info` a value is out of range, or the image is too long
abbrev pub IsNotWritten : ImageInputs → Cause Refusal
IsNotWritten m why = IsSlotOutOfRange m why ⊎ (IsOutOfRange m why ⊎ IsOverlongImage m why)

-- the image is too long, or a value is out of range
abbrev pub HasNoImage : ImageInputs → Cause Refusal
HasNoImage m why = IsNotPlaced m why ⊎ ((info : List ℕ) × IsNotWritten (with_info m info) why)

-- the cause of each refusal, where none before it stands
abbrev pub LinkCause : Command → LibraryGraph → List LoadedFile → Cause Refusal
LinkCause command libs files = do
  refuses (HaveManyNames files (wanted command))
  refuses (HaveManyAtoms files)
  passes (IsTwice files) (AreOnce files)
  symbols ← taken (IsSymbolTable command files)
  goals ← always (goal_table files libs command)
  entry ← always (goal_of_name files libs command command.entry)
  keys ← taken (AreKept command files symbols goals)
  refuses (IsLost command libs files keys)
  passes (LeavesToEhFrame files (kept_unwinds keys files)) (dwarfs (kept_unwinds keys files) ≡ [])
  passes (AreManyPersonalities (handlers symbols.literals keys goals files)) (AreFewPersonalities (handlers symbols.literals keys goals files))
  slots ← taken (AreSlotsFor (all_needs symbols.literals keys goals files (start_of command entry)))
  passes (HaveManyImports (binds files symbols.literals keys goals slots)) (¬ AreMany (binds files symbols.literals keys goals slots))
  passes (NeedsAnImage files (unmet keys goals files)) (unmet keys goals files ≡ [])
  HasNoImage (making command libs files symbols keys slots)

-- ---- where nothing is refused

-- The files have fewer than 2^24 names and atoms, and no name has two strong definitions. These are the winners of the names,
-- the atoms that are kept, and the slots that they need. Every name leads somewhere, no entry leaves unwinding to `__eh_frame`,
-- an encoding can tell the personalities apart, there are fewer than 2^24 imports, and each reference can be met.
pub record AreInside (command : Command) (libs : LibraryGraph) (files : List LoadedFile) (symbols : SymbolTable) (keys : List AtomKey)
    (slots : Slots) : Type 0 where
  pub few_names : length (all_names files (wanted command)) < 2 ^ 24
  pub few_atoms : atoms_in files < 2 ^ 24
  pub once : AreOnce files
  pub symbols_are : IsSymbolTable command files symbols
  pub kept : AreKept command files symbols (goal_table files libs command) keys
  pub found : undefined keys files (goal_table files libs command) (lost_wanted command libs files) ≡ None
  pub no_dwarf : dwarfs (kept_unwinds keys files) ≡ []
  pub few_handlers : AreFewPersonalities (handlers symbols.literals keys (goal_table files libs command) files)
  pub slots_are : AreSlotsFor (all_needs symbols.literals keys (goal_table files libs command) files
      (start_of command (goal_of_name files libs command command.entry))) slots
  pub few_imports : ¬ AreMany (binds files symbols.literals keys (goal_table files libs command) slots)
  pub met : unmet keys (goal_table files libs command) files ≡ []

-- an image is made of these, with these bytes of `__unwind_info`
pub record WentThrough (command : Command) (libs : LibraryGraph) (files : List LoadedFile) (image : List ℕ) : Type 0 where
  pub symbols : SymbolTable
  pub keys : List AtomKey
  pub slots : Slots
  pub inside : AreInside command libs files symbols keys slots
  pub info : List ℕ
  pub made : IsMadeWith (with_info (making command libs files symbols keys slots) info) (Ok image)
