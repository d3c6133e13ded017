-- The files of a command's inputs, by what stands under each path.
use Rattle.std.specs.Prelude.{ℕ, List, [], ◌∷◌, map, Option, None, Some, Ok, Err}
use Rattle.command_line.specs.Paths.{paths_of}
use Rattle.command_line.specs.declared.command.Command.{Command}
use Rattle.file_cache.specs.Program.{Program, ◌>>=◌, ends, file_at}
use Rattle.input_fetch.specs.declared.content.Content.{Content}
use Rattle.input_fetch.specs.declared.stop.FetchStop.{FetchStop}
use Rattle.input_fetch.specs.declared.stop.FetchStop.TheVariants.{ReadFault, Missing, OutOfMemory}

-- a stop other than want of memory
abbrev pub IsFetchStop : FetchStop → Type 0
IsFetchStop OutOfMemory = ⊥
IsFetchStop (ReadFault path) = Unit {0}
IsFetchStop (Missing path) = Unit {0}

-- the paths to try for each input of a command
abbrev pub places_of : Command → List (List (List ℕ))
places_of command = map (paths_of command) command.inputs

-- the first of an input's paths; an input has one
abbrev pub first_of : List (List ℕ) → List ℕ
first_of [] = []
first_of (path ∷ paths) = path

-- the file that stands under a path, or else what later paths lead to
abbrev pub there_or : List ℕ → Program Content FetchStop → Option (List ℕ) → Program Content FetchStop
there_or path later (Some bytes) = ends (Ok (record { label = path; bytes = bytes }))
there_or path later None = later

-- the file of an input: its paths are tried in their order up to one that is there; where none is, `first` tells it
abbrev pub content_of : List ℕ → List (List ℕ) → Program Content FetchStop
content_of first [] = ends (Err (Missing first))
content_of first (path ∷ paths) = file_at (ReadFault path) path >>= there_or path (content_of first paths)

-- the files of all inputs, in their order, or why the first one has none
abbrev pub contents_of : List (List (List ℕ)) → Program (List Content) FetchStop
contents_of [] = ends (Ok [])
contents_of (paths ∷ places) =
    content_of (first_of paths) paths >>= λ content. contents_of places >>= λ more. ends (Ok (content ∷ more))
