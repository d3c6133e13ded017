-- Definitions that read files.
use Rattle.std.specs.Prelude.{ℕ, List, [], ◌∷◌, ◌++◌, Option, Some, None, Result, Ok, Err}

-- what stands under a path: a file with these bytes, none, or one that couldn't be read
pub data File : Type 0 where
  There : (bytes : List ℕ) → File
  Absent : File
  Unread : File

-- the paths that were tried, in their order, and the end
pub record Outcome (A E : Type 0) : Type 0 where
  pub tried : List (List ℕ)
  pub end : Result A E

-- a definition that reads files: what comes of it, by what stands under each path
abbrev pub Program : Type 0 → Type 0 → Type 0
Program A E = (List ℕ → File) → Outcome A E

-- no path is tried
abbrev pub ends : {A E : Type 0} → Result A E → Program A E
ends end look = record { tried = []; end = end }

-- after a value more is tried
abbrev pub and_then : {A B E : Type 0} → List (List ℕ) → Result A E → (A → Outcome B E) → Outcome B E
and_then tried (Ok x) next = record { tried = tried ++ (next x).tried; end = (next x).end }
and_then tried (Err why) next = record { tried = tried; end = Err why }

infixl 10 ◌>>=◌
-- the second program over the value of the first, or the first one's fault
abbrev pub ◌>>=◌ : {A B E : Type 0} → Program A E → (A → Program B E) → Program B E
(first >>= next) look = and_then (first look).tried (first look).end (λ x. next x look)

-- the file of a path, where there is one, or the fault of one that couldn't be read
abbrev pub read_as : {E : Type 0} → E → File → Result (Option (List ℕ)) E
read_as unread (There bytes) = Ok (Some bytes)
read_as unread Absent = Ok None
read_as unread Unread = Err unread

abbrev pub file_at : {E : Type 0} → E → List ℕ → Program (Option (List ℕ)) E
file_at unread path look = record { tried = path ∷ []; end = read_as unread (look path) }
