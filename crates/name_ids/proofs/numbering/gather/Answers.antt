-- The names of files are added to none, and then the further ones.
use Rattle.std.proofs.Common.{◌≡◌, ◌∙◌, ap, ap₂, sym, ℕ, List, Ok}
use Rattle.mo_types.specs.declared.loaded.LoadedFile.{LoadedFile}
use Rattle.name_ids.specs.Names.{added, external_names, limited, numbers_of}
use Rattle.name_ids.proofs.Gathering.{gathered_ok}
use Rattle.name_ids.proofs.Staying.{all_stay_numbered}
use Rattle.name_ids.proofs.numbering.gather.Goals as goal

first : (empty none : List (List ℕ)) (read files : List LoadedFile) (names : List (List ℕ)) → empty ≡ none → read ≡ files → limited (added empty (external_names read)) ≡ Ok names → limited (added none (external_names files)) ≡ Ok names
first empty none read files names e f is = ap₂ (λ (ks : List (List ℕ)) (fs : List LoadedFile). limited (added ks (external_names fs))) (sym e) (sym f) ∙ is

then : (names more extra all : List (List ℕ)) → more ≡ extra → limited (added names more) ≡ Ok all → limited (added names extra) ≡ Ok all
then names more extra all e is = ap (λ (ks : List (List ℕ)). limited (added names ks)) (sym e) ∙ is

pub returns-clause-names : goal.returns-clause-names
returns-clause-names c =
    gathered_ok c.args.loaded.now.files c.args.extra.now c.in_ok-names.field-0.names c.in_ok-names-2.names
    (first _ _ _ _ _ c.new.ensures c.as_slice.ensures c.in_ok-names.ensures.names)
    (then _ _ _ _ c.as_slice-2.ensures c.in_ok-names-2.ensures)

pub returns-clause-numbers : goal.returns-clause-numbers
returns-clause-numbers c =
    all_stay_numbered c.args.loaded.now.files c.args.extra.now c.in_ok-names.field-0.names c.in_ok-names-2.names c.in_ok-names.field-0.numbers
    (c.in_ok-names.ensures.numbers ∙ ap (numbers_of c.in_ok-names.field-0.names) c.as_slice.ensures)
    (first _ _ _ _ _ c.new.ensures c.as_slice.ensures c.in_ok-names.ensures.names)
    (then _ _ _ _ c.as_slice-2.ensures c.in_ok-names-2.ensures)
