-- A link between two of its rounds.
use Rattle.std.specs.Prelude.{◌≡◌, ℕ, zero, suc, ◌<◌, ◌&&◌, ◌||◌, ◌⊎◌, Bool, true, false, not, List, [], ◌∷◌, map, filter, All, Some, None, Result, Ok, IfOk, length, slice_index_or, if◌then◌else◌}
use Rattle.std.specs.List.{filter_map, list_any}
use Rattle.std.specs.List.Sorted.{IsPermutation}
use Rattle.std.specs.Str.{bytes_eq}
use Rattle.mo_types.specs.Candidates.{is_undefined}
use Rattle.mo_types.specs.Gives.{Gives}
use Rattle.mo_types.specs.Loaded.{IsWholeFile}
use Rattle.mo_types.specs.declared.key.FileId.{FileId}
use Rattle.mo_types.specs.declared.loaded.LoadedFile.{LoadedFile}
use Rattle.mo_types.specs.declared.object.Symbol.{Symbol}
use Rattle.lib_bind.specs.declared.library.LibraryGraph.{LibraryGraph}
use Rattle.input_files.specs.Collected.{all_of}
use Rattle.member_rounds.specs.Growth.{is_in}
use Rattle.input_files.specs.Files.{IsLoadFault, all_ids, file_of}
use Rattle.member_rounds.specs.Rounds.{asked_by, has_candidate, new_ids, round, round_fault}
use Rattle.input_files.specs.declared.fault.LoadFault.{LoadFault}
use Rattle.input_files.specs.declared.input.Input.{Input}

-- whether a name is among some
abbrev pub lists : List (List ℕ) → List ℕ → Bool
lists names name = list_any (bytes_eq name) names

-- the files before a round
abbrev pub before : List Input → LibraryGraph → List (List ℕ) → ℕ → List FileId
before inputs libs wanted zero = []
before inputs libs wanted (suc k) = round inputs libs wanted k

-- the names of the command line ask in the first round
abbrev pub first_names : List (List ℕ) → ℕ → List (List ℕ)
first_names wanted zero = wanted
first_names wanted (suc k) = []

-- what names without a candidate ask for
unfoldable pub asked_of : (List ℕ → Bool) → List Input → LibraryGraph → List (List ℕ) → List FileId
asked_of has inputs libs names = filter_map (asked_by inputs libs) (filter (λ name. not (has name)) names)

-- the names of undefined symbols among some
abbrev pub undefined_of : List Symbol → List (List ℕ)
undefined_of symbols = map (λ symbol. symbol.name) (filter (λ symbol. is_undefined symbol.kind) symbols)

-- that of a symbol, where it is undefined
abbrev pub undefined_name : Symbol → List (List ℕ)
undefined_name symbol = if is_undefined symbol.kind then symbol.name ∷ [] else []

-- the files of ids, or the fault of the first that has one
abbrev pub read_each : List Input → List FileId → Result (List LoadedFile) LoadFault
read_each inputs ids = all_of (map (file_of inputs) ids)

-- an id, where there is none
abbrev pub no_id : FileId
no_id = record { position = 0; member = 0 }

-- what reading a file gave
pub record IsReadOf (inputs : List Input) (id : FileId) (piece : Result LoadedFile LoadFault) : Type 0 where
  pub exact : Gives IsLoadFault piece (file_of inputs id)
  pub whole : IfOk piece IsWholeFile

-- what reading each of some files gave
pub record ArePieces (inputs : List Input) (ids : List FileId) (pieces : List (Result LoadedFile LoadFault)) : Type 0 where
  pub count : length pieces ≡ length ids
  pub each : (job : ℕ) (other : Result LoadedFile LoadFault) → job < length ids → IsReadOf inputs (slice_index_or ids job no_id) (slice_index_or pieces job other)

-- the files that the loaded ones are, in some order
pub record AreKept (inputs : List Input) (among : List FileId) (kept : List LoadedFile) : Type 0 where
  pub ids : IsPermutation among (map (λ file. file.id) kept)
  pub read : All (λ file. file_of inputs file.id ≡ Ok file) kept

-- What names asked for: each that wasn't settled for the member that it asks for, and then it is settled, or it asks again.
-- Settled are names that needn't ask.
pub record HaveAsked (inputs : List Input) (libs : LibraryGraph) (before : List FileId) (settled : List ℕ → Bool) (asked : List FileId) (after : List ℕ → Bool) (names : List (List ℕ)) : Type 0 where
  pub stay : (name : List ℕ) → settled name ≡ true → after name ≡ true
  pub only : (name : List ℕ) → after name ≡ true → (settled name || lists names name) ≡ true
  pub kept : (id : FileId) → is_in before id ≡ true → is_in asked id ≡ true
  pub came : (id : FileId) → is_in asked id ≡ true → (is_in before id ≡ true) ⊎ ((name : List ℕ) × (lists names name ≡ true) × (settled name ≡ false) × (asked_by inputs libs name ≡ Some id))
  pub asks : (name : List ℕ) (id : FileId) → lists names name ≡ true → settled name ≡ false → asked_by inputs libs name ≡ Some id → is_in asked id ≡ true

-- names that needn't ask: those that have a candidate, and others that ask for nothing that is left; of those that ask for
-- nothing at all nothing is said
pub record AreSettled (inputs : List Input) (libs : LibraryGraph) (kept : List LoadedFile) (settled : List ℕ → Bool) (left : List FileId) : Type 0 where
  pub all : (name : List ℕ) (id : FileId) → asked_by inputs libs name ≡ Some id → has_candidate kept name ≡ true → settled name ≡ true
  pub only : (name : List ℕ) (id : FileId) → settled name ≡ true → asked_by inputs libs name ≡ Some id → is_in left id ≡ true → has_candidate kept name ≡ true

-- a link before a round: the files so far, the names that needn't ask, the files that are left, those of the round, and no
-- fault before
pub record IsBetween (inputs : List Input) (libs : LibraryGraph) (wanted : List (List ℕ)) (k : ℕ) (kept : List LoadedFile) (settled : List ℕ → Bool) (left new : List FileId) : Type 0 where
  pub files : AreKept inputs (before inputs libs wanted k) kept
  pub settled_are : AreSettled inputs libs kept settled left
  pub left_are : (id : FileId) → is_in left id ≡ (is_in (all_ids inputs) id && not (is_in (round inputs libs wanted k) id))
  pub new_are : new ≡ new_ids inputs libs wanted k
  pub no_fault : (j : ℕ) → j < k → round_fault inputs libs wanted j ≡ None
