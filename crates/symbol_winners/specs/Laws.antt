-- What holds of whole files, and of their candidates.
use Rattle.std.specs.Prelude.{◌≡◌, ◌<◌, ◌≤◌, ◌^◌, ◌↔◌, ◌⊎◌, Contains, List}
use Rattle.mo_types.specs.Candidates.{Candidate, candidate_word}
use Rattle.mo_types.specs.declared.loaded.Loaded.{Loaded}
use Rattle.mo_types.specs.declared.loaded.LoadedFile.{LoadedFile}

-- its numbers fit the parts of its word
pub record HasRoom (candidate : Candidate) : Type 0 where
  pub position : candidate.file.position < 2 ^ 16
  pub member : candidate.file.member < 2 ^ 20
  pub index : candidate.index < 2 ^ 24

-- two of some candidates have the two least of their words
pub record AreTwoLeast (candidates : List Candidate) (first second : Candidate) : Type 0 where
  pub first_of : Contains candidates first
  pub second_of : Contains candidates second
  pub apart : candidate_word first < candidate_word second
  pub least : (other : Candidate) → Contains candidates other → (other ≡ first) ⊎ (candidate_word second ≤ candidate_word other)

-- they are the same ones, in whatever order
abbrev pub AreSameFiles : Loaded → Loaded → Type 0
AreSameFiles a b = (file : LoadedFile) → Contains a.files file ↔ Contains b.files file
