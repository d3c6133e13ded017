-- Where re-exported libraries are, case by case.
use Rattle.std.proofs.Common.{◌≡◌, ℕ, List, Option, Some, None, Result, Ok, Err, IsErrAnd, refl, sym, ap, ◌∙◌, subst}
use Rattle.std.proofs.lemmas.Result.{err_from_is_err_and}
use Rattle.mo_outside.specs.Answers.{Answer}
use Rattle.file_cache.specs.Kept.{FilesSeen}
use Rattle.file_cache.specs.Program.{File, Program, ends}
use Rattle.file_cache.specs.Runs.{Runs}
use Rattle.file_cache.proofs.RunLemmas.{none_run, same_run, short_start}
use Rattle.lib_bind.specs.Closing.{IsBindFault}
use Rattle.lib_bind.specs.Closure.{fetched, second_of, sought, sought_as, target, target_of}
use Rattle.lib_bind.specs.Found.{found}
use Rattle.lib_bind.specs.Paths.{plain_path, stub_path}
use Rattle.lib_bind.specs.declared.bind_fault.BindFault.{BindFault}
use Rattle.lib_bind.specs.declared.bind_fault.BindFault.TheVariants as fault
use Rattle.lib_bind.specs.declared.growing.Growing.{Growing}
use Rattle.lib_bind.specs.declared.growing.Reexport.{Reexport}
use Rattle.lib_bind.specs.declared.sought.Sought.{Sought}
use Rattle.lib_bind.specs.declared.sought.Target.{Target}

-- memory was wanting before anything was asked for
pub short_of_memory : {S A : Type 0} (fetches : S → List ℕ → Answer → S → Type 0) (program : Program A BindFault) (result : Result A BindFault) (seen : FilesSeen S)
    → IsErrAnd result (λ passed. passed ≡ fault.OutOfMemory) → Runs fetches IsBindFault program result seen seen
short_of_memory {A = A} fetches program result seen is =
    let passed = err_from_is_err_and result is in
    subst (λ (r : Result A BindFault). Runs fetches IsBindFault program r seen seen) (sym (passed.1 ∙ ap Err passed.2))
    (short_start fetches IsBindFault program fault.OutOfMemory seen (λ kind. kind))

module _ {S : Type 0} (fetches : S → List ℕ → Answer → S → Type 0) (heads : List (List ℕ × ℕ)) where
  -- a value that is there
  there_run : {A : Type 0} (program : Program A BindFault) (x : A) (seen : FilesSeen S) → ((look : List ℕ → File) → program look ≡ ends (Ok x) look) → Runs fetches IsBindFault program (Ok x) seen seen
  there_run program x seen same = same_run fetches IsBindFault (ends (Ok x)) program (Ok x) seen seen same (none_run fetches IsBindFault (Ok x) (Ok x) seen refl)

  sought_case : (path : List ℕ) (growing : Growing) (there : Option (Option ℕ)) (look : List ℕ → File) → found path growing.known ≡ there → sought heads path growing look ≡ sought_as heads path there growing look
  unfolding sought
  sought_case path growing there look is = ap (λ known. sought_as heads path known growing look) is

  pub known_path : (path : List ℕ) (document : Option ℕ) (growing : Growing) (seen : FilesSeen S) → found path growing.known ≡ Some document
      → Runs fetches IsBindFault (sought heads path growing) (Ok (record { document = document; growing = growing })) seen seen
  known_path path document growing seen is = there_run (sought heads path growing) (record { document = document; growing = growing }) seen (λ look. sought_case path growing (Some document) look is)

  pub new_path : (path : List ℕ) (growing : Growing) (result : Result Sought BindFault) (old new : FilesSeen S) → found path growing.known ≡ None
      → Runs fetches IsBindFault (sought_as heads path None growing) result old new → Runs fetches IsBindFault (sought heads path growing) result old new
  new_path path growing result old new is runs =
      same_run fetches IsBindFault (sought_as heads path None growing) (sought heads path growing) result old new (λ look. sought_case path growing None look is) runs

  pub second_here : (first second : List ℕ) (there : Option ℕ) (document : ℕ) (growing : Growing) (seen : FilesSeen S) → there ≡ Some document
      → Runs fetches IsBindFault (second_of heads first second there growing) (Ok (record { document = document; growing = growing })) seen seen
  second_here first second there document growing seen is =
      there_run (second_of heads first second there growing) (record { document = document; growing = growing }) seen (λ look. ap (λ known. second_of heads first second known growing look) is)

  pub second_fetched : (first second : List ℕ) (there : Option ℕ) (growing : Growing) (result : Result Target BindFault) (old new : FilesSeen S) → there ≡ None
      → Runs fetches IsBindFault (second_of heads first second None growing) result old new → Runs fetches IsBindFault (second_of heads first second there growing) result old new
  second_fetched first second there growing result old new is runs =
      same_run fetches IsBindFault (second_of heads first second None growing) (second_of heads first second there growing) result old new
      (λ look. ap (λ known. second_of heads first second known growing look) is) runs

  module _ (root : Option (List ℕ)) where
    target_case : (reexport : Reexport) (growing : Growing) (here : Option ℕ) (look : List ℕ → File) → reexport.here ≡ here
        → target root heads reexport growing look ≡ target_of root heads reexport.install here growing look
    unfolding target
    target_case reexport growing here look is = ap (λ near. target_of root heads reexport.install near growing look) is

    pub target_here : (reexport : Reexport) (document : ℕ) (growing : Growing) (seen : FilesSeen S) → reexport.here ≡ Some document
        → Runs fetches IsBindFault (target root heads reexport growing) (Ok (record { document = document; growing = growing })) seen seen
    target_here reexport document growing seen is =
        there_run (target root heads reexport growing) (record { document = document; growing = growing }) seen (λ look. target_case reexport growing (Some document) look is)

    pub target_fetched : (reexport : Reexport) (growing : Growing) (result : Result Target BindFault) (old new : FilesSeen S) → reexport.here ≡ None
        → Runs fetches IsBindFault (target_of root heads reexport.install None growing) result old new → Runs fetches IsBindFault (target root heads reexport growing) result old new
    target_fetched reexport growing result old new is runs =
        same_run fetches IsBindFault (target_of root heads reexport.install None growing) (target root heads reexport growing) result old new (λ look. target_case reexport growing None look is) runs

    pub at_their_paths : (install first second : List ℕ) (growing : Growing) (result : Result Target BindFault) (old new : FilesSeen S) → first ≡ stub_path root install → second ≡ plain_path root install
        → Runs fetches IsBindFault (fetched heads first second growing) result old new → Runs fetches IsBindFault (target_of root heads install None growing) result old new
    at_their_paths install first second growing result old new one two runs =
        same_run fetches IsBindFault (fetched heads first second growing) (target_of root heads install None growing) result old new
        (λ look. ap (λ path. fetched heads path (plain_path root install) growing look) (sym one) ∙ ap (λ path. fetched heads first path growing look) (sym two)) runs
