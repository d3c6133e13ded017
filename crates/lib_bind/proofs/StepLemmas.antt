-- Requests that are met, one after the other.
use Rattle.std.proofs.Common.{◌≡◌, ℕ, suc, ◌+◌, ◌<◌, List, [], ◌∷◌, length, Bool, true, false, nat_eq, Option, Some, Result, Ok, Err, IsErrAnd, slice_get, get_or, refl, sym, ap, ◌∙◌, subst, arith}
use Rattle.std.specs.List.{list_any}
use Rattle.std.proofs.lemmas.Option.{slice_get-get_or}
use Rattle.std.proofs.lemmas.Result.{err_from_is_err_and}
use Rattle.mo_outside.specs.Answers.{Answer}
use Rattle.file_cache.specs.Kept.{FilesSeen}
use Rattle.file_cache.specs.Program.{File, Program, ◌>>=◌, ends}
use Rattle.file_cache.specs.Runs.{Runs}
use Rattle.file_cache.proofs.RunLemmas.{none_run, same_run, then_ended, then_run}
use Rattle.tbd_doc.specs.declared.stub.StubFile.{StubFile}
use Rattle.lib_bind.specs.Closing.{IsBindFault, begun, linked, nothing, reach, reach_all, with_file, with_files}
use Rattle.lib_bind.specs.Closure.{after, met, step, target}
use Rattle.lib_bind.specs.inner.Closed.{IsClosing}
use Rattle.lib_bind.specs.declared.bind_fault.BindFault.{BindFault}
use Rattle.lib_bind.specs.declared.bind_fault.BindFault.TheVariants as fault
use Rattle.lib_bind.specs.declared.closing.Closing.{Closing}
use Rattle.lib_bind.specs.declared.closing.Request.{Request}
use Rattle.lib_bind.specs.declared.growing.Growing.{Growing}
use Rattle.lib_bind.specs.declared.library.Library.{Library}
use Rattle.lib_bind.specs.declared.sought.Target.{Target}
use Rattle.lib_bind.proofs.GrowingLemmas.{file_known}
use Rattle.lib_bind.proofs.ProgramLemmas.{made_run}

-- the request at a place
pub request_is : (work slice : List Request) (at : ℕ) (request : Request) → slice ≡ work → at < length work → request ≡ get_or slice at request → slice_get work at ≡ Some request
request_is work slice at request same within is =
    slice_get-get_or work at request within ∙ ap Some (sym (is ∙ ap (λ (requests : List Request). get_or requests at request) same))

-- to reach a document leaves those that are there
pub reach_growing : (to : ℕ) (before : Closing) → (reach to before).growing ≡ before.growing
unfolding reach
reach_growing to before = by (list_any (nat_eq to) before.reached) refl
  where
    by : (test : Bool) → list_any (nat_eq to) before.reached ≡ test → (reach to before).growing ≡ before.growing
    by true e = rw e refl
    by false e = rw e refl

pub all_growing : (libraries : List Library) (before : Closing) → (reach_all libraries before).growing ≡ before.growing
all_growing [] before = refl
all_growing (library ∷ libraries) before = all_growing libraries (reach library.document before) ∙ reach_growing library.document before

files_known : (heads : List (List ℕ × ℕ)) (files : List StubFile) (growing : Growing) → (with_files heads files growing).known ≡ growing.known
files_known heads [] growing = refl
files_known heads (file ∷ files) growing = files_known heads files (with_file heads file.docs growing) ∙ file_known heads file.docs growing

pub begun_known : (libraries : List Library) (heads : List (List ℕ × ℕ)) (files : List StubFile) (start : Closing) → start ≡ begun libraries heads files → start.growing.known ≡ []
begun_known libraries heads files start is =
    ap (λ (c : Closing). c.growing.known) is ∙ ap (λ (g : Growing). g.known) (all_growing libraries (record { growing = with_files heads files nothing; reached = []; work = [] }))
    ∙ files_known heads files nothing

-- the request at a place is met
step_met : (root : Option (List ℕ)) (heads : List (List ℕ × ℕ)) (at : ℕ) (closing : Closing) (request : Request) (look : List ℕ → File) → slice_get closing.work at ≡ Some request
    → step root heads at closing look ≡ met root heads (Some request) closing look
unfolding step
step_met root heads at closing request look is = ap (λ found. met root heads found closing look) is

module _ {S : Type 0} (fetches : S → List ℕ → Answer → S → Type 0) (root : Option (List ℕ)) (heads : List (List ℕ × ℕ)) (at : ℕ) (closing : Closing) (request : Request) (old new : FilesSeen S)
    (is : slice_get closing.work at ≡ Some request) where
  abbrev seeks : Program Target BindFault
  seeks = target root heads request.reexport closing.growing

  abbrev links : Target → Result Closing BindFault
  links there = Ok (linked request.from closing.reached closing.work there)

  met_run : (result : Result Closing BindFault) → Runs fetches IsBindFault (seeks >>= λ there. ends (links there)) result old new → Runs fetches IsBindFault (step root heads at closing) result old new
  met_run result runs =
      same_run fetches IsBindFault (seeks >>= λ there. ends (links there)) (step root heads at closing) result old new (λ look. step_met root heads at closing request look is) runs

  pub step_ended : (why : BindFault) (result : Result Closing BindFault) → Runs fetches IsBindFault seeks (Err why) old new → IsErrAnd result (λ passed. passed ≡ why)
      → Runs fetches IsBindFault (step root heads at closing) result old new
  step_ended why result runs ends_so = met_run result (then_ended fetches IsBindFault seeks (λ there. ends (links there)) why result old new runs ends_so)

  pub step_memory : (there : Target) (result : Result Closing BindFault) → Runs fetches IsBindFault seeks (Ok there) old new → IsErrAnd result (λ passed. passed ≡ fault.OutOfMemory)
      → Runs fetches IsBindFault (step root heads at closing) result old new
  step_memory there result runs ends_so =
      let passed = err_from_is_err_and result ends_so in
      subst (λ (r : Result Closing BindFault). Runs fetches IsBindFault (step root heads at closing) r old new) (sym (passed.1 ∙ ap Err passed.2))
      (met_run (Err fault.OutOfMemory) (made_run fetches IsBindFault seeks links there (Err fault.OutOfMemory) old new runs (λ kind. absurd kind)))

  pub step_linked : (there : Target) (next : Closing) → Runs fetches IsBindFault seeks (Ok there) old new → next ≡ linked request.from closing.reached closing.work there
      → Runs fetches IsBindFault (step root heads at closing) (Ok next) old new
  step_linked there next runs made = met_run (Ok next) (made_run fetches IsBindFault seeks links there (Ok next) old new runs (ap Ok (sym made)))

-- after some requests, the next one
pub after_next : {S : Type 0} (fetches : S → List ℕ → Answer → S → Type 0) (root : Option (List ℕ)) (heads : List (List ℕ × ℕ)) (start closing next : Closing) (at : ℕ) (old mid new : FilesSeen S)
    → Runs fetches IsBindFault (after root heads at start) (Ok closing) old mid → Runs fetches IsBindFault (step root heads at closing) (Ok next) mid new
    → Runs fetches IsBindFault (after root heads (at + 1) start) (Ok next) old new
after_next fetches root heads start closing next at old mid new before here =
    let count : suc at ≡ at + 1 = omega arith in
    subst (λ (n : ℕ). Runs fetches IsBindFault (after root heads n start) (Ok next) old new) count
    (then_run fetches IsBindFault (after root heads at start) (step root heads at) closing (Ok next) old mid new before here)

pub after_ended : {S : Type 0} (fetches : S → List ℕ → Answer → S → Type 0) (root : Option (List ℕ)) (heads : List (List ℕ × ℕ)) (start closing : Closing) (why : BindFault) (result : Result Closing BindFault) (at : ℕ) (old mid new : FilesSeen S)
    → Runs fetches IsBindFault (after root heads at start) (Ok closing) old mid → Runs fetches IsBindFault (step root heads at closing) (Err why) mid new
    → IsErrAnd result (λ passed. passed ≡ why) → IsClosing fetches root heads start result old new
after_ended fetches root heads start closing why result at old mid new before here ends_so =
    let passed = err_from_is_err_and result ends_so in
    subst (λ (r : Result Closing BindFault). IsClosing fetches root heads start r old new) (sym (passed.1 ∙ ap Err passed.2)) (record {
      count = suc at;
      runs = then_run fetches IsBindFault (after root heads at start) (step root heads at) closing (Err why) old mid new before here;
      done = tt;
    })

pub closing_starts : {S : Type 0} (fetches : S → List ℕ → Answer → S → Type 0) (root : Option (List ℕ)) (heads : List (List ℕ × ℕ)) (start : Closing) (seen : FilesSeen S)
    → Runs fetches IsBindFault (after root heads 0 start) (Ok start) seen seen
closing_starts fetches root heads start seen = none_run fetches IsBindFault (Ok start) (Ok start) seen refl
