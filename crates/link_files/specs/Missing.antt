-- What kept atoms refer to and an image can't have: names that lead nowhere (ld(1): -undefined, -flat_namespace).
use Rattle.std.specs.Prelude.{ℕ, ◌≡◌, ◌<◌, ◌⊎◌, true, false, List, Contains, Some, None, slice_get}
use Rattle.command_line.specs.declared.command.Command.{Command}
use Rattle.lib_bind.specs.Provides.{provider_of}
use Rattle.lib_bind.specs.declared.library.LibraryGraph.{LibraryGraph}
use Rattle.liveness.specs.Undefined.{targets_of}
use Rattle.mark_core.specs.Kept.{has}
use Rattle.mo_types.specs.declared.key.AtomKey.{AtomKey}
use Rattle.mo_types.specs.declared.loaded.LoadedFile.{LoadedFile}
use Rattle.mo_types.specs.declared.object.Symbol.{Symbol}
use Rattle.mo_types.specs.declared.reference.Ref.{Ref}
use Rattle.mo_types.specs.declared.reference.Target.{Target}
use Rattle.mo_types.specs.declared.reference.Target.TheVariants.{Name}
use Rattle.mo_types.specs.declared.unwind.Unwind.{Unwind}
use Rattle.resolve.specs.Goals.{is_flat, is_header_symbol}
use Rattle.symbol_winners.specs.Places.{place_of}
use Rattle.symbol_winners.specs.Winners.{winner_of}
use Rattle.link_files.specs.Names.{wanted}

-- a kept atom of a file has a reference to a target, or one from which it is subtracted
pub record HasReference (keys : List AtomKey) (file : LoadedFile) (target : Target) : Type 0 where
  pub reference : Ref
  pub among : Contains file.refs reference
  pub kept : has keys reference.atom ≡ true
  pub refers : Contains (targets_of reference.target reference.minus) target

-- a kept atom of a file has an unwind entry whose personality is a target (`mach-o/compact_unwind_encoding.h`)
pub record HasPersonality (keys : List AtomKey) (file : LoadedFile) (target : Target) : Type 0 where
  pub entry : Unwind
  pub among : Contains file.unwinds entry
  pub kept : has keys entry.atom ≡ true
  pub handles : entry.personality ≡ Some target

-- a kept atom of a file refers to the symbol of an index: by a reference, or by an unwind entry
pub record RefersTo (keys : List AtomKey) (file : LoadedFile) (index : ℕ) (symbol : Symbol) : Type 0 where
  pub refers : HasReference keys file (Name index) ⊎ HasPersonality keys file (Name index)
  pub of_file : slice_get file.object.symbols index ≡ Some symbol

-- ---- names that lead nowhere

-- no file defines the name, it isn't the header's, no library provides it, and it isn't looked up in all images
pub record LeadsNowhere (command : Command) (libs : LibraryGraph) (files : List LoadedFile) (name : List ℕ) : Type 0 where
  pub undefined : winner_of command files name ≡ None
  pub foreign : is_header_symbol command.dylib name ≡ false
  pub unprovided : provider_of libs name ≡ None
  pub bound : is_flat command name ≡ false

-- a symbol of a file stands for nothing: the name of an external one leads nowhere, and another one has no place
abbrev pub StandsForNothing : Command → LibraryGraph → List LoadedFile → LoadedFile → ℕ → Symbol → Type 0
StandsForNothing command libs files file index symbol =
    ((symbol.external ≡ true) × LeadsNowhere command libs files symbol.name)
    ⊎ ((symbol.external ≡ false) × (place_of file index symbol.kind ≡ None))

-- a kept atom of a file refers to a name that stands for nothing
pub record Misses (command : Command) (libs : LibraryGraph) (files : List LoadedFile) (keys : List AtomKey) (name : List ℕ) (file : LoadedFile) : Type 0 where
  pub index : ℕ
  pub symbol : Symbol
  pub refers : RefersTo keys file index symbol
  pub named : symbol.name ≡ name
  pub nothing : StandsForNothing command libs files file index symbol

-- the command line wants a name that leads nowhere
pub record IsWantedInVain (command : Command) (libs : LibraryGraph) (files : List LoadedFile) (name : List ℕ) : Type 0 where
  pub among : Contains (wanted command) name
  pub nowhere : LeadsNowhere command libs files name

-- ---- the first file

-- a file is the first of which something holds
pub record IsFirstFile (P : LoadedFile → Type 0) (files : List LoadedFile) (file : LoadedFile) : Type 0 where
  pub at : ℕ
  pub there : slice_get files at ≡ Some file
  pub holds : P file
  pub first : (k : ℕ) (other : LoadedFile) → k < at → slice_get files k ≡ Some other → P other → ⊥

-- it holds of no file
abbrev pub HoldsOfNone : (LoadedFile → Type 0) → List LoadedFile → Type 0
HoldsOfNone P files = (k : ℕ) (file : LoadedFile) → slice_get files k ≡ Some file → P file → ⊥
