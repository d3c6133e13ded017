-- Paths that can't be read.
use Rattle.std.specs.Prelude.{ℕ, ◌≡◌, ◌≢◌, ◌++◌, List, [], ◌∷◌}
use Rattle.file_cache.specs.Program.{File, Unread}

-- under none of the paths a file stands that can't be read
abbrev pub AreReadable : (List ℕ → File) → List (List ℕ) → Type 0
AreReadable look [] = Unit {0}
AreReadable look (path ∷ paths) = (look path ≢ Unread) × AreReadable look paths

-- the last of the paths is this one, the first under which a file stands that can't be read
pub record EndsUnread (look : List ℕ → File) (paths : List (List ℕ)) (path : List ℕ) : Type 0 where
  pub front : List (List ℕ)
  pub is : paths ≡ front ++ path ∷ []
  pub read : AreReadable look front
  pub unread : look path ≡ Unread
