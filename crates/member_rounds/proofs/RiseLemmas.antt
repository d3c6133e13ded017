-- The ids of what is loaded rise.
use Rattle.std.proofs.Common.{◌≡◌, ℕ, List, [], ◌∷◌, Result, Ok, Err, refl, sym, ap₂, ◌∙◌, subst}
use Rattle.std.specs.List.{AllPairs, filter_map}
use Rattle.std.specs.List.Sorted.{IsStrictlySortedBy}
use Rattle.std.specs.Ordering.{on}
use Rattle.std.specs.Result.{result_ok}
use Rattle.std.specs.declared.cmp.Ordering.TheVariants.{Less}
use Rattle.list_lemmas.proofs.Members.{all_from_in, all_in, from_filter_map}
use Rattle.list_lemmas.proofs.Rising.{rising_at}
use Rattle.mo_types.specs.Keys.{compare_files}
use Rattle.mo_types.specs.Loaded.{IsBefore}
use Rattle.mo_types.specs.declared.key.FileId.{FileId}
use Rattle.mo_types.specs.declared.loaded.Loaded.{Loaded}
use Rattle.mo_types.specs.declared.loaded.LoadedFile.{LoadedFile}
use Rattle.lib_bind.specs.declared.library.LibraryGraph.{LibraryGraph}
use Rattle.input_files.specs.Files.{file_of}
use Rattle.member_rounds.specs.Rounds.{files_of, loaded_ids, loaded_of}
use Rattle.input_files.specs.Sources.{AreInOrder}
use Rattle.input_files.specs.declared.fault.LoadFault.{LoadFault}
use Rattle.input_files.specs.declared.input.Input.{Input}
use Rattle.member_rounds.proofs.AnswerLemmas.{faultless, ok_back}
use Rattle.input_files.proofs.FileLemmas.{id_kept, ids_rise}
use Rattle.member_rounds.proofs.StateLemmas.{union_rises}

files_rise : (inputs : List Input) (ids : List FileId) → IsStrictlySortedBy compare_files ids → IsStrictlySortedBy (on (λ (f : LoadedFile). f.id) compare_files) (files_of inputs ids)
unfolding files_of IsStrictlySortedBy
files_rise inputs [] rise = tt
files_rise inputs (id ∷ ids) rise = by (files_rise inputs ids rise.1) (file_of inputs id) refl
  where
    by : IsStrictlySortedBy (on (λ (f : LoadedFile). f.id) compare_files) (filter_map (λ i. result_ok (file_of inputs i)) ids) → (r : Result LoadedFile LoadFault) → file_of inputs id ≡ r → IsStrictlySortedBy (on (λ (f : LoadedFile). f.id) compare_files) (filter_map (λ i. result_ok (file_of inputs i)) (id ∷ ids))
    by rest (Err e) r = rw r rest
    by rest (Ok file) r = rw r (
      all_from_in (λ (g : LoadedFile). compare_files file.id g.id ≡ Less) (filter_map (λ i. result_ok (file_of inputs i)) ids) (λ g there.
          let from = from_filter_map (λ (i : FileId). result_ok (file_of inputs i)) ids g there in
          let one : file.id ≡ id = id_kept inputs id file r in
          let two : g.id ≡ from.0 = id_kept inputs from.0 g (ok_back (file_of inputs from.0) g from.2) in
          ap₂ compare_files one two ∙ all_in (λ (i : FileId). compare_files id i ≡ Less) ids from.0 rise.0 from.1),
      rest,
    )

pub loaded_rises : (inputs : List Input) (libs : LibraryGraph) (wanted : List (List ℕ)) (loaded : Loaded) → AreInOrder inputs → loaded_of inputs libs wanted ≡ Ok loaded → AllPairs (λ a b. IsBefore a.id b.id) loaded.files
loaded_rises inputs libs wanted loaded order is = λ i j d low high.
    rising_at (on (λ (f : LoadedFile). f.id) compare_files) loaded.files i j d
    (subst (λ (fs : List LoadedFile). IsStrictlySortedBy (on (λ (f : LoadedFile). f.id) compare_files) fs) (sym (faultless inputs libs wanted loaded is).1) (files_rise inputs (loaded_ids inputs libs wanted) (union_rises inputs libs wanted (ids_rise inputs order)))) low high
