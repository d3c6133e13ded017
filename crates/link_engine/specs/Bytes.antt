-- What stands under paths are bytes.
use Rattle.std.specs.Prelude.{ℕ, List}
use Rattle.file_cache.specs.Program.{File, There}
use Rattle.mo_obj.specs.Read.{AreBytes}

-- what a file has are bytes
abbrev pub HasBytes : File → Type 0
HasBytes (There bytes) = AreBytes bytes
HasBytes _ = Unit {0}

-- so it is under each path
abbrev pub HaveBytes : (List ℕ → File) → Type 0
HaveBytes look = (path : List ℕ) → HasBytes (look path)
