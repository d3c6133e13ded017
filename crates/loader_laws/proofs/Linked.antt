-- What files link to is an image: none of the steps refused.
use Rattle.std.proofs.Common.{ℕ, ◌≤◌, List, All, Ok, length}
use Rattle.std.proofs.lemmas.List.Elements.{All-weaker}
use Rattle.lib_bind.specs.declared.library.LibraryGraph.{LibraryGraph}
use Rattle.command_line.specs.declared.command.Command.{Command}
use Rattle.input_files.specs.Files.{IsLow}
use Rattle.mo_types.specs.declared.key.AtomKey.{AtomKey}
use Rattle.mo_types.specs.declared.loaded.LoadedFile.{LoadedFile}
use Rattle.slot_plan.specs.declared.list.Slots.{Slots}
use Rattle.symbol_winners.specs.SymbolTable.{SymbolTable}
use Rattle.image_make.specs.Made.{with_info}
use Rattle.image_laws.specs.Means.{AreRising}
use Rattle.image_laws.proofs.Stated.{with_layout}
use Rattle.link_files.specs.Causes.{AreInside}
use Rattle.link_files.specs.Linked.{AreCut, AreOrdered, IsLinked, making}
use Rattle.link_files.proofs.InsideLemmas.{went_through}
use Rattle.link_files.proofs.KeptLemmas.{kept_rise}
use Rattle.loader_laws.specs.Images.{IsImageOf}

-- no file has more sections than the numbers below that of common symbols
abbrev pub AreFew : List LoadedFile → Type 0
AreFew files = All (λ file. length file.object.sections ≤ 255) files

pub low_few : (files : List LoadedFile) → All IsLow files → AreFew files
low_few files low = All-weaker IsLow (λ (file : LoadedFile). length file.object.sections ≤ 255) (λ file is. is.sections) files low

rising : (command : Command) (libs : LibraryGraph) (files : List LoadedFile) (symbols : SymbolTable) (keys : List AtomKey) (slots : Slots) → AreOrdered files → AreCut files → AreFew files → AreInside command libs files symbols keys slots → AreRising (making command libs files symbols keys slots)
unfolding making
rising command libs files symbols keys slots ordered cut few inside = kept_rise symbols.literals symbols.winners keys files ordered cut few inside.kept.rises

pub image_linked : (command : Command) (libs : LibraryGraph) (files : List LoadedFile) (image : List ℕ) → AreOrdered files → AreCut files → AreFew files → IsLinked command libs files (Ok image) → IsImageOf command libs files image
image_linked command libs files image ordered cut few linked =
    let went = went_through command libs files image linked in
    record {
      symbols = went.symbols;
      keys = went.keys;
      slots = went.slots;
      info = went.info;
      inside = went.inside;
      rising = rising command libs files went.symbols went.keys went.slots ordered cut few went.inside;
      imaged = with_layout (with_info (making command libs files went.symbols went.keys went.slots) went.info) image went.made;
    }

pub low_linked : (command : Command) (libs : LibraryGraph) (files : List LoadedFile) (image : List ℕ) → AreOrdered files → AreCut files → All IsLow files → IsLinked command libs files (Ok image) → IsImageOf command libs files image
low_linked command libs files image ordered cut low linked = image_linked command libs files image ordered cut (low_few files low) linked
