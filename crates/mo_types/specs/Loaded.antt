-- What holds of the objects that take part in a link.
use Rattle.std.specs.Prelude.{◌^◌, ◌≡◌, ◌<◌, List, length, All, Ok}
use Rattle.std.specs.List.{AllPairs}
use Rattle.std.specs.declared.cmp.Ordering.TheVariants.{Less}
use Rattle.mo_types.specs.declared.key.FileId.{FileId}
use Rattle.mo_types.specs.declared.loaded.Loaded.{Loaded}
use Rattle.mo_types.specs.declared.loaded.LoadedFile.{LoadedFile}
use Rattle.mo_types.specs.declared.object.Object.{Object}
use Rattle.mo_types.specs.declared.unwind.Unwind.{Unwind}
use Rattle.mo_types.specs.Atoms.{atoms_of}
use Rattle.mo_types.specs.Keys.{compare_files}
use Rattle.mo_types.specs.Refs.{refs_of}
use Rattle.mo_types.specs.Whole.{IsWhole}

-- the unwind entries are the object's: anything, as long as the linker reads none
abbrev pub AreUnwinds : Object → FileId → List Unwind → Type 0
AreUnwinds object file unwinds = Unit {0}

-- a file whose pieces, references and unwind entries are those of its whole object
pub record IsWholeFile (file : LoadedFile) : Type 0 where
  pub member : file.id.member < 2 ^ 20
  pub object : IsWhole file.object
  pub few_symbols : length file.object.symbols < 2 ^ 24
  pub atoms : file.atoms ≡ atoms_of file.object file.id
  pub refs : refs_of file.object file.id ≡ Ok file.refs
  pub unwinds : AreUnwinds file.object file.id file.unwinds

-- an id before another one
abbrev pub IsBefore : FileId → FileId → Type 0
IsBefore a b = compare_files a b ≡ Less

-- whole files, whose ids rise
pub record IsWholeLoaded (loaded : Loaded) : Type 0 where
  pub rises : AllPairs (λ a b. IsBefore a.id b.id) loaded.files
  pub files : All IsWholeFile loaded.files
