-- Where an input is looked for (ld(1)).
use Rattle.std.specs.Prelude.{ℕ, List, [], ◌∷◌, ◌++◌, codes, map, flat_map, nat_eq, Option, None, Some, if◌then◌else◌}
use Rattle.std.specs.List.{starts_with}
use Rattle.command_line.specs.declared.command.Command.{Command}
use Rattle.command_line.specs.declared.command.CommandInput.{CommandInput}
use Rattle.command_line.specs.declared.command.InputForm.{InputForm}
use Rattle.command_line.specs.declared.command.InputForm.TheVariants.{Path, Library, Framework}

-- the file's name without its ending: libx, or x.framework/x
abbrev pub stem_of : InputForm → List ℕ → List ℕ
stem_of Library name = codes "lib" ++ name
stem_of _ name = name ++ codes ".framework/" ++ name

abbrev pub endings_of : InputForm → List (List ℕ)
endings_of Library = codes ".tbd" ∷ codes ".dylib" ∷ codes ".a" ∷ []
endings_of _ = codes ".tbd" ∷ [] ∷ []

abbrev pub defaults_of : InputForm → List (List ℕ)
defaults_of Library = codes "/usr/lib" ∷ codes "/usr/local/lib" ∷ []
defaults_of _ = codes "/Library/Frameworks" ∷ codes "/System/Library/Frameworks" ∷ []

-- a file in a directory
abbrev pub path_in : List ℕ → List ℕ → List ℕ → List ℕ
path_in stem directory ending = directory ++ codes "/" ++ stem ++ ending

-- in a directory, each ending in turn
abbrev pub in_directory : InputForm → List ℕ → List ℕ → List (List ℕ)
in_directory form stem directory = map (path_in stem directory) (endings_of form)

-- a directory that begins with `/` is tried under the root first, where there is one
abbrev pub directories_of : Option (List ℕ) → List ℕ → List (List ℕ)
directories_of None directory = directory ∷ []
directories_of (Some root) directory =
    if starts_with nat_eq directory (codes "/") then (root ++ directory) ∷ directory ∷ [] else directory ∷ []

abbrev pub for_directory : InputForm → List ℕ → Option (List ℕ) → List ℕ → List (List ℕ)
for_directory form stem root directory = flat_map (in_directory form stem) (directories_of root directory)

-- the default directories are tried under the root alone, which is empty where there is none
abbrev pub root_or_empty : Option (List ℕ) → List ℕ
root_or_empty None = []
root_or_empty (Some root) = root

abbrev pub in_defaults : InputForm → List ℕ → Option (List ℕ) → List (List ℕ)
in_defaults form stem root = flat_map (λ directory. in_directory form stem (root_or_empty root ++ directory)) (defaults_of form)

-- the paths of a library or a framework: those in the directories of the options, and then in the default ones
abbrev pub searched : InputForm → Option (List ℕ) → List (List ℕ) → List ℕ → List (List ℕ)
searched form root directories name =
    flat_map (for_directory form (stem_of form name) root) directories ++ in_defaults form (stem_of form name) root

abbrev pub paths_by : InputForm → Command → List ℕ → List (List ℕ)
paths_by Path command value = value ∷ []
paths_by Library command value = searched Library command.syslibroot command.library_dirs value
paths_by Framework command value = searched Framework command.syslibroot command.framework_dirs value

-- the paths to try for an input, in order
abbrev pub paths_of : Command → CommandInput → List (List ℕ)
paths_of command input = paths_by input.form command input.value
