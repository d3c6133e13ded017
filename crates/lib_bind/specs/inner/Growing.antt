-- How the code finds what the documents of a file re-export.
use Rattle.std.specs.Prelude.{ℕ, List, map}
use Rattle.lib_bind.specs.Closing.{reexport_by}
use Rattle.lib_bind.specs.Found.{found}
use Rattle.lib_bind.specs.declared.growing.Reexport.{Reexport}

-- the libraries with these install names, each at its place in the file, or else at that among the named libraries
abbrev pub reexports_among : List (List ℕ × ℕ) → List (List ℕ × ℕ) → List (List ℕ) → List Reexport
reexports_among places heads installs = map (λ install. reexport_by (found install places) (found install heads) install) installs
