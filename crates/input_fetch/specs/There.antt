-- The files of inputs, of files that can all be read.
use Rattle.std.specs.Prelude.{ℕ, ◌≡◌, ◌<◌, List, [], ◌∷◌, length, All, Option, None, Some, Result, Ok, Err, slice_get}
use Rattle.mo_outside.specs.Files.{FileMap, fetched}
use Rattle.mo_types.specs.Gives.{◌>>=◌}
use Rattle.input_fetch.specs.Contents.{first_of}
use Rattle.input_fetch.specs.declared.content.Content.{Content}
use Rattle.input_fetch.specs.declared.stop.FetchStop.{FetchStop}
use Rattle.input_fetch.specs.declared.stop.FetchStop.TheVariants.{Missing}

-- the file under a path, where it is there, or the one that is found later
abbrev pub there_or : List ℕ → Option (List ℕ) → Option Content → Option Content
there_or path (Some bytes) later = Some (record { label = path; bytes = bytes })
there_or path None later = later

-- the file of the first of the paths that is there
abbrev pub found_in : FileMap → List (List ℕ) → Option Content
found_in files [] = None
found_in files (path ∷ paths) = there_or path (fetched files path) (found_in files paths)

abbrev pub or_missing : List ℕ → Option Content → Result Content FetchStop
or_missing first (Some content) = Ok content
or_missing first None = Err (Missing first)

-- the files of inputs that have these paths, in their order, or the first input that is missing
abbrev pub contents_in : FileMap → List (List (List ℕ)) → Result (List Content) FetchStop
contents_in files [] = Ok []
contents_in files (paths ∷ places) =
    or_missing (first_of paths) (found_in files paths) >>= λ content. contents_in files places >>= λ more. Ok (content ∷ more)

-- the content is that of the first of the paths that is there
pub record IsFirstThere (files : FileMap) (paths : List (List ℕ)) (content : Content) : Type 0 where
  pub at : ℕ
  pub label : slice_get paths at ≡ Some content.label
  pub there : fetched files content.label ≡ Some content.bytes
  pub before : (k : ℕ) (path : List ℕ) → k < at → slice_get paths k ≡ Some path → fetched files path ≡ None

-- each content is that of the input at its place
pub record AreFirstThere (files : FileMap) (places : List (List (List ℕ))) (contents : List Content) : Type 0 where
  pub size : length contents ≡ length places
  pub each : (at : ℕ) (paths : List (List ℕ)) (content : Content) → slice_get places at ≡ Some paths → slice_get contents at ≡ Some content → IsFirstThere files paths content

-- none of an input's paths is there
abbrev pub IsMissing : FileMap → List (List ℕ) → Type 0
IsMissing files paths = All (λ path. fetched files path ≡ None) paths

-- the path is the first one of the first input that is missing
pub record IsFirstMissing (files : FileMap) (places : List (List (List ℕ))) (path : List ℕ) : Type 0 where
  pub at : ℕ
  pub paths : List (List ℕ)
  pub input : slice_get places at ≡ Some paths
  pub first : path ≡ first_of paths
  pub missing : IsMissing files paths
  pub before : (k : ℕ) (others : List (List ℕ)) → k < at → slice_get places k ≡ Some others → ¬ IsMissing files others
