-- What files and libraries are read as, and what an image of them is made of.
use Rattle.std.specs.Prelude.{ℕ, ◌≡◌, true, false, List, All}
use Rattle.command_line.specs.declared.command.Command.{Command}
use Rattle.image_make.specs.Made.{ImageInputs, with_info}
use Rattle.input_files.specs.Files.{HasUnwinds, IsLow}
use Rattle.lib_bind.specs.Graph.{IsWhole}
use Rattle.lib_bind.specs.declared.library.LibraryGraph.{LibraryGraph}
use Rattle.link_files.specs.Linked.{making}
use Rattle.mo_format.specs.declared.loader.TheConstants.{S_REGULAR}
use Rattle.mo_types.specs.Candidates.{is_common}
use Rattle.mo_types.specs.Destination.{is_instructions}
use Rattle.mo_types.specs.Loaded.{IsWholeFile}
use Rattle.mo_types.specs.Whole.{is_dropped}
use Rattle.mo_types.specs.declared.loaded.LoadedFile.{LoadedFile}
use Rattle.mo_types.specs.declared.object.Section.{Section}
use Rattle.mo_types.specs.declared.object.Symbol.{Symbol}
use Rattle.reader_laws.specs.Facts.{HasNoNul}
use Rattle.loader_laws.specs.Images.{IsImageOf}

-- the pieces and references of each file are those of its whole object
abbrev pub AreWhole : List LoadedFile → Type 0
AreWhole files = All IsWholeFile files

-- a common symbol is one that other objects see (`nlist.h`: N_EXT)
abbrev pub IsCommonToAll : Symbol → Type 0
IsCommonToAll symbol = is_common symbol.kind ≡ true → symbol.external ≡ true

-- a section of instructions, if it is linked, is of the regular type (`loader.h`: S_ATTR_PURE_INSTRUCTIONS)
abbrev pub IsRegularCode : Section → Type 0
IsRegularCode section = is_dropped section ≡ false → is_instructions section ≡ true → section.kind ≡ S_REGULAR

-- Names hold no NUL, neither those of symbols nor that of the entry. Common symbols are external, and instructions stand in
-- regular sections. Nothing is aligned to more than a page. The unwind entries of files are those of their objects. Libraries
-- have ordinals of an image.
pub record AreNamed (command : Command) (libs : LibraryGraph) (files : List LoadedFile) : Type 0 where
  pub symbols : All (λ file. All (λ symbol. HasNoNul symbol.name) file.object.symbols) files
  pub commons : All (λ file. All IsCommonToAll file.object.symbols) files
  pub code : All (λ file. All IsRegularCode file.object.sections) files
  pub low : All IsLow files
  pub unwinds : All HasUnwinds files
  pub entry : HasNoNul command.entry
  pub libraries : IsWhole libs

-- what an image of files is made of
abbrev pub made_of : {command : Command} {libs : LibraryGraph} {files : List LoadedFile} {image : List ℕ} → IsImageOf command libs files image → ImageInputs
made_of {command = command} {libs = libs} {files = files} is = with_info (making command libs files is.symbols is.keys is.slots) is.info
