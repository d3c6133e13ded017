-- What files were asked for, and what they answered.
use Rattle.std.specs.Prelude.{ℕ, ◌≡◌, List, [], ◌∷◌, Bool, true, false, Option, None, Some, Result, Ok, Err}
use Rattle.mo_outside.specs.declared.traits.FetchFault.{FetchFault}
use Rattle.mo_outside.specs.declared.traits.FetchFault.TheVariants.{Failed, Memory}
use Rattle.mo_outside.specs.Files.{FileMap, fetched}

-- what a fetch of a path answered: the file's bytes, that no file has the path, that it couldn't be read, or that
-- memory was refused
pub data Answer : Type 0 where
  There : (bytes : List ℕ) → Answer
  Absent : Answer
  Unread : Answer
  Refused : Answer

-- the answer that is told by what a fetch returned and by the bytes that it left
abbrev pub answer_of : Result Bool FetchFault → List ℕ → Answer
answer_of (Ok true) bytes = There bytes
answer_of (Ok false) bytes = Absent
answer_of (Err Failed) bytes = Unread
answer_of (Err Memory) bytes = Refused

-- a path that was asked for, and what was answered
abbrev pub Exchange : Type 0
Exchange = List ℕ × Answer

-- Each path was asked for at the object that the fetch before it left, and was answered so; `answers` says of a fetch
-- what it answered, and what it left.
abbrev pub Chain : {S : Type 0} → (S → List ℕ → Answer → S → Type 0) → S → List Exchange → S → Type 0
Chain answers old [] new = new ≡ old
Chain {S} answers old (asked ∷ more) new = (next : S) × answers old asked.0 asked.1 next × Chain answers next more new

-- an answer on a file's bytes is the one that the files give
abbrev pub IsAnswer : FileMap → List ℕ → Answer → Type 0
IsAnswer files path (There bytes) = fetched files path ≡ Some bytes
IsAnswer files path Absent = fetched files path ≡ None
IsAnswer files path Unread = Unit {0}
IsAnswer files path Refused = Unit {0}

-- it is that of the files, where these are told
abbrev pub Agrees : Option FileMap → List ℕ → Answer → Type 0
Agrees None path answer = Unit {0}
Agrees (Some files) path answer = IsAnswer files path answer
