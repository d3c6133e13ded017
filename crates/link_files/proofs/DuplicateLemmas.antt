-- Names that two strong definitions have.
use Rattle.std.proofs.Common.{◌≡◌, ℕ, List, Some, sym, ap, ◌∙◌}
use Rattle.std.specs.Prelude.{slice_get}
use Rattle.mo_types.specs.declared.answer.Refusal.TheVariants.{Duplicate}
use Rattle.mo_types.specs.declared.key.FileId.{FileId}
use Rattle.mo_types.specs.declared.loaded.LoadedFile.{LoadedFile}
use Rattle.symbol_winners.specs.Duplicates.{IsLeastDuplicate}
use Rattle.link_files.specs.Names.{label_of}
use Rattle.link_files.specs.Refusals.{IsTwice}
use Rattle.link_files.proofs.NameLemmas.{same_some}

pub twice_told : (files : List LoadedFile) (names : List (List ℕ)) (id : ℕ) (pair : FileId × FileId) (name first second : List ℕ) → IsLeastDuplicate files names id pair → slice_get names id ≡ Some name → first ≡ label_of files pair.0 → second ≡ label_of files pair.1
    → IsTwice files (Duplicate name first second)
twice_told files names id pair name first second least is of_first of_second = record {
  name = least.name;
  pair = pair;
  twice = least.twice;
  least = least.least;
  told =
      ap (λ (n : List ℕ). Duplicate n first second) (same_some (sym is ∙ least.numbered))
      ∙ ap (λ (l : List ℕ). Duplicate least.name l second) of_first
      ∙ ap (λ (l : List ℕ). Duplicate least.name (label_of files pair.0) l) of_second;
}
