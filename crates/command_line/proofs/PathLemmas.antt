-- The default directories, one after the other.
use Rattle.std.proofs.Common.{◌≡◌, ℕ, ◌++◌, ◌∷◌, [], List, sym, ap, ◌∙◌, append_assoc, append-nil}
use Rattle.std.specs.Prelude.{flat_map}
use Rattle.command_line.specs.declared.command.InputForm.{InputForm}
use Rattle.command_line.specs.Paths.{in_directory, defaults_of}

pub both_added : (form : InputForm) (stem root first second : List ℕ) (found more most : List (List ℕ)) → first ∷ second ∷ [] ≡ defaults_of form
    → more ≡ found ++ in_directory form stem (root ++ first) → most ≡ more ++ in_directory form stem (root ++ second)
    → most ≡ found ++ flat_map (λ directory. in_directory form stem (root ++ directory)) (defaults_of form)
both_added form stem root first second found more most are one two =
    let both : flat_map (λ directory. in_directory form stem (root ++ directory)) (first ∷ second ∷ []) ≡ in_directory form stem (root ++ first) ++ in_directory form stem (root ++ second) =
    ap (λ xs. in_directory form stem (root ++ first) ++ xs) (append-nil (in_directory form stem (root ++ second))) in
    two ∙ ap (λ xs. xs ++ in_directory form stem (root ++ second)) one ∙ append_assoc found (in_directory form stem (root ++ first)) (in_directory form stem (root ++ second))
    ∙ ap (λ xs. found ++ xs) (sym both ∙ ap (flat_map (λ directory. in_directory form stem (root ++ directory))) are)

pub ruleset defaults = (both_added)
