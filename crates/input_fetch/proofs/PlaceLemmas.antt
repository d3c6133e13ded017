-- The paths to try for inputs.
use Rattle.std.proofs.Common.{◌≡◌, ℕ, ◌<◌, ◌++◌, ◌∷◌, [], List, length, map, get_or, sym, ◌∙◌, subst, arith, length-append}
use Rattle.std.proofs.lemmas.List.{get_or-map, length-map}
use Rattle.command_line.specs.Paths.{in_defaults, paths_by, paths_of, stem_of}
use Rattle.command_line.specs.declared.command.Command.{Command}
use Rattle.command_line.specs.declared.command.CommandInput.{CommandInput}
use Rattle.command_line.specs.declared.command.InputForm.{InputForm}
use Rattle.command_line.specs.declared.command.InputForm.TheVariants.{Path, Library, Framework}
use Rattle.input_fetch.specs.Contents.{first_of, places_of}

some_more : {A : Type 0} (xs ys : List A) → 0 < length ys → 0 < length (xs ++ ys)
some_more xs ys some = simp length-append (omega arith)

pub some_path : (form : InputForm) (command : Command) (value : List ℕ) → 0 < length (paths_by form command value)
some_path Path command value = omega arith
some_path Library command value = some_more _ (in_defaults Library (stem_of Library value) command.syslibroot) (omega arith)
some_path Framework command value = some_more _ (in_defaults Framework (stem_of Framework value) command.syslibroot) (omega arith)

pub has_path : (command : Command) (input : CommandInput) → 0 < length (paths_of command input)
has_path command input = some_path input.form command input.value

-- the paths that were made for an input at a place

at_place : {A B : Type 0} (f : A → B) (xs : List A) (at : ℕ) (found d : B) → at < length xs → ((x : A) → found ≡ f (get_or xs at x)) → found ≡ get_or (map f xs) at d
at_place f [] at found d within is = absurd (omega arith)
at_place f (x ∷ xs) at found d within is = is x ∙ sym (get_or-map f (x ∷ xs) at x d within)

pub paths_at : (command : Command) (at : ℕ) (found : List (List ℕ)) → at < length command.inputs → ((d : CommandInput) → found ≡ paths_of command (get_or command.inputs at d)) → found ≡ get_or (places_of command) at []
paths_at command at found within is = at_place (paths_of command) command.inputs at found [] within is

some_at : {A B : Type 0} (f : A → List B) (xs : List A) (at : ℕ) (found : List B) → at < length xs → ((x : A) → 0 < length (f x)) → ((x : A) → found ≡ f (get_or xs at x)) → 0 < length found
some_at f [] at found within some is = absurd (omega arith)
some_at {B = B} f (x ∷ xs) at found within some is = subst (λ (list : List B). 0 < length list) (sym (is x)) (some (get_or (x ∷ xs) at x))

pub some_path_at : (command : Command) (at : ℕ) (found : List (List ℕ)) → at < length command.inputs → ((d : CommandInput) → found ≡ paths_of command (get_or command.inputs at d)) → 0 < length found
some_path_at command at found within is = some_at (paths_of command) command.inputs at found within (has_path command) is

pub places_size : (command : Command) → length (places_of command) ≡ length command.inputs
places_size command = length-map command.inputs (paths_of command)

pub first_at : (paths : List (List ℕ)) (path : List ℕ) → 0 < length paths → path ≡ get_or paths 0 path → path ≡ first_of paths
first_at [] path some is = absurd (omega arith)
first_at (first ∷ paths) path some is = is

pub ruleset places = (has_path, places_size)
