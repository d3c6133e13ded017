-- The image to which files link (`loader.h`).
use Rattle.std.specs.Prelude.{ℕ, List}
use Rattle.command_line.specs.declared.command.Command.{Command}
use Rattle.image_make.specs.Made.{with_info}
use Rattle.image_laws.specs.Means.{AreRising, Imaged}
use Rattle.lib_bind.specs.declared.library.LibraryGraph.{LibraryGraph}
use Rattle.link_files.specs.Causes.{AreInside}
use Rattle.link_files.specs.Linked.{making}
use Rattle.mo_types.specs.declared.key.AtomKey.{AtomKey}
use Rattle.mo_types.specs.declared.loaded.LoadedFile.{LoadedFile}
use Rattle.slot_plan.specs.declared.list.Slots.{Slots}
use Rattle.symbol_winners.specs.SymbolTable.{SymbolTable}

-- An image of the atoms of files that are kept, with the slots and stubs that they need, and with the bytes of
-- `__unwind_info`: nothing of them is refused.
pub record IsImageOf (command : Command) (libs : LibraryGraph) (files : List LoadedFile) (image : List ℕ) : Type 0 where
  pub symbols : SymbolTable
  pub keys : List AtomKey
  pub slots : Slots
  pub info : List ℕ
  pub inside : AreInside command libs files symbols keys slots
  pub rising : AreRising (with_info (making command libs files symbols keys slots) info)
  pub imaged : Imaged (with_info (making command libs files symbols keys slots) info) image
