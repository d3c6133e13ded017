-- How the code holds a name that leads nowhere.
use Rattle.std.specs.Prelude.{ℕ, List, [], ◌∷◌, map, Option, Some, None}
use Rattle.mo_types.specs.declared.loaded.LoadedFile.{LoadedFile}
use Rattle.liveness.specs.declared.lost.Lost.{Lost}

-- the name, with what stands beside it
abbrev pub held : Lost → List ℕ × List ℕ
held lost = (lost.name.now, lost.label.now)

-- a name, where there is one, with a label
abbrev pub pairs_of : List ℕ → Option (List ℕ) → List (List ℕ × List ℕ)
pairs_of label None = []
pairs_of label (Some name) = (name, label) ∷ []

-- names, each with what messages call a file
abbrev pub labelled : LoadedFile → List (List ℕ) → List (List ℕ × List ℕ)
labelled file names = map (λ name. (name, file.label)) names
