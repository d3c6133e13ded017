-- What loaded files link to: an image, or the first refusal in the order of the steps.
use Rattle.std.specs.Prelude.{ℕ, ◌≡◌, List, [], All, Ok, Err}
use Rattle.std.specs.List.{AllPairs}
use Rattle.image_make.specs.Made.{IsMade, ImageInputs}
use Rattle.image_make.specs.Whole.{AreBytesIn}
use Rattle.image_make.specs.declared.fault.MakeFault.{MakeFault}
use Rattle.input_files.specs.Files.{HasUnwinds, IsLow, or_none}
use Rattle.lib_bind.specs.declared.library.LibraryGraph.{LibraryGraph}
use Rattle.link_steps.specs.Steps.{Answer, ◌>>=◌, ◌>>◌, always, checks, some, unless}
use Rattle.command_line.specs.declared.command.Command.{Command}
use Rattle.mo_types.specs.Atoms.{atoms_of}
use Rattle.mo_types.specs.Loaded.{IsBefore, IsWholeFile}
use Rattle.mo_types.specs.Refs.{refs_of}
use Rattle.mo_types.specs.declared.answer.Refusal.{Refusal}
use Rattle.mo_types.specs.declared.key.AtomKey.{AtomKey}
use Rattle.mo_types.specs.declared.loaded.LoadedFile.{LoadedFile}
use Rattle.resolve.specs.Goals.{goal_of_name, goal_table}
use Rattle.symbol_winners.specs.SymbolTable.{IsSymbolTable, SymbolTable}
use Rattle.ref_meet.specs.Binds.{binds}
use Rattle.sect_place.specs.declared.island.IslandPlan.{IslandPlan}
use Rattle.slot_needs.specs.Unmet.{unmet}
use Rattle.slot_plan.specs.declared.list.Slots.{Slots}
use Rattle.unwind_link.specs.Kept.{kept_unwinds}
use Rattle.link_files.specs.Bound.{AreSlotsFor, IsImportsTold, IsUnmetTold, all_needs, start_of}
use Rattle.link_files.specs.Flags.{header_flags}
use Rattle.link_files.specs.Lost.{undefined_refusal}
use Rattle.link_files.specs.Names.{atoms_refusal, names_refusal, wanted}
use Rattle.link_files.specs.Refusals.{IsDuplicateTold, IsToldAs}
use Rattle.link_files.specs.Resolved.{AreKept}
use Rattle.link_files.specs.Unwinding.{ArePersonalitiesTold, IsEhFrameTold, handlers}

-- the ids of files rise
abbrev pub AreOrdered : List LoadedFile → Type 0
AreOrdered files = AllPairs (λ a b. IsBefore a.id b.id) files

-- each file is cut into the pieces of its object
abbrev pub AreCut : List LoadedFile → Type 0
AreCut files = All (λ file. file.atoms ≡ atoms_of file.object file.id) files

-- each file has the references of its object, or none where these can't be read
abbrev pub AreReferred : List LoadedFile → Type 0
AreReferred files = All (λ file. file.refs ≡ or_none (refs_of file.object file.id)) files

-- islands come with a later version
abbrev pub no_islands : IslandPlan
no_islands = record { areas = []; ways = [] }

-- what the image is made of
unfoldable pub making : Command → LibraryGraph → List LoadedFile → SymbolTable → List AtomKey → Slots → ImageInputs
making command libs files symbols keys slots = record {
  command = command;
  libs = libs;
  files = files;
  goals = goal_table files libs command;
  literals = symbols.literals;
  winners = symbols.winners;
  keys = keys;
  flags = header_flags command libs symbols keys;
  entry = goal_of_name files libs command command.entry;
  slots = slots;
  islands = no_islands;
  unwinds = kept_unwinds keys files;
  info = [];
}

-- the image, or the fault for which there is none, as it is told
abbrev pub AsImage : ImageInputs → Answer Refusal (List ℕ)
AsImage m (Ok image) = IsMade m (Ok image)
AsImage m (Err why) = (fault : MakeFault) × IsMade m (Err fault) × IsToldAs m.command m.files fault why

-- with the winners of the names
abbrev pub AsWon : Command → LibraryGraph → List LoadedFile → SymbolTable → Answer Refusal (List ℕ)
AsWon command libs files symbols = do
  goals ← always (goal_table files libs command)
  entry ← always (goal_of_name files libs command command.entry)
  keys ← some (AreKept command files symbols goals)
  unless (undefined_refusal command libs files goals keys)
  checks (IsEhFrameTold files (kept_unwinds keys files))
  checks (ArePersonalitiesTold (handlers symbols.literals keys goals files))
  slots ← some (AreSlotsFor (all_needs symbols.literals keys goals files (start_of command entry)))
  checks (IsImportsTold (binds files symbols.literals keys goals slots))
  checks (IsUnmetTold files (unmet keys goals files))
  AsImage (making command libs files symbols keys slots)

-- What files link to. They have fewer than 2^24 names and atoms, and no name has two strong definitions. With the winners
-- and the goals of all names come the atoms that are kept. None of the names to which these refer or that are wanted leads
-- nowhere. None of their unwind entries leaves unwinding to `__eh_frame`, and an encoding can tell the personalities apart.
-- The atoms, their personalities and the entry need slots and stubs; there are fewer than 2^24 imports, and no reference
-- tells an address that another image has. Then follows the image, by its layout and its fields.
abbrev pub IsLinked : Command → LibraryGraph → List LoadedFile → Answer Refusal (List ℕ)
IsLinked command libs files = do
  unless (names_refusal files (wanted command))
  unless (atoms_refusal files)
  checks (IsDuplicateTold files)
  symbols ← some (IsSymbolTable command files)
  AsWon command libs files symbols

-- Files as a link has them: whole ones in order, none of whose atoms is aligned to more than a page, with the unwind entries
-- of their objects, and of bytes.
pub record AreLinkable (files : List LoadedFile) : Type 0 where
  pub ordered : AreOrdered files
  pub whole : All IsWholeFile files
  pub low : All IsLow files
  pub unwinds : All HasUnwinds files
  pub bytes : AreBytesIn files
