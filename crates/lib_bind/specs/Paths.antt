-- Where a re-exported library is looked for.
use Rattle.std.specs.Prelude.{ℕ, ◌-◌, ◌++◌, List, [], ◌∷◌, codes, length, nat_eq, take, Option, if◌then◌else◌}
use Rattle.std.specs.List.{ends_with}
use Rattle.command_line.specs.Paths.{root_or_empty}

-- an install name without a final `.dylib`
abbrev pub stem_of : List ℕ → List ℕ
stem_of install = if ends_with nat_eq install (codes ".dylib") then take (length install - 6) install else install

-- under the root, which is empty where there is none, the stub library that takes the place of the library
abbrev pub stub_path : Option (List ℕ) → List ℕ → List ℕ
stub_path root install = root_or_empty root ++ stem_of install ++ codes ".tbd"

-- under the root, the install name as it stands
abbrev pub plain_path : Option (List ℕ) → List ℕ → List ℕ
plain_path root install = root_or_empty root ++ install

abbrev pub reexport_paths : Option (List ℕ) → List ℕ → List (List ℕ)
reexport_paths root install = stub_path root install ∷ plain_path root install ∷ []
