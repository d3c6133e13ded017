-- What the files add to the documents keeps what holds of them.
use Rattle.std.proofs.Common.{◌≡◌, ℕ, zero, suc, List, length, slice_get, Option, Some, None, Result, Ok, Err, IfOk, refl, sym, subst}
use Rattle.file_cache.specs.Program.{File, There, Absent, ends, file_at}
use Rattle.mo_types.specs.declared.object_fault.ObjFault.{ObjFault}
use Rattle.tbd_doc.specs.declared.stub.StubFile.{StubFile}
use Rattle.lib_bind.specs.Closing.{added, last_of, read_at, with_file, with_known, with_link}
use Rattle.lib_bind.specs.Closing as spec
use Rattle.lib_bind.specs.Closure.{after, fetched, met, second_of, sought, sought_as, step, target, target_of}
use Rattle.lib_bind.specs.Found.{found}
use Rattle.lib_bind.specs.Paths.{plain_path, stub_path}
use Rattle.lib_bind.specs.Reexported.{reexported}
use Rattle.lib_bind.specs.declared.bind_fault.BindFault.TheVariants.{ReadFault}
use Rattle.lib_bind.specs.declared.closing.Closing.{Closing}
use Rattle.lib_bind.specs.declared.closing.Request.{Request}
use Rattle.lib_bind.specs.declared.growing.Growing.{Growing}
use Rattle.lib_bind.specs.declared.growing.Reexport.{Reexport}
use Rattle.lib_bind.specs.declared.sought.Sought.{Sought}
use Rattle.lib_bind.specs.declared.sought.Target.{Target}
use Rattle.lib_bind.proofs.ProgramLemmas.{absent_is, end_holds, end_made, there_is}
use Rattle.lib_bind.proofs.StepLemmas.{reach_growing}

module _ (look : List ℕ → File) (heads : List (List ℕ × ℕ)) (Holds : Growing → Type 0)
    (file_holds : (path bytes : List ℕ) (file : StubFile) (growing : Growing) → found path growing.known ≡ None → look path ≡ There bytes → reexported bytes ≡ Ok file → Holds growing
    → Holds (with_known path (Some (length growing.documents)) (with_file heads file.docs growing)))
    (absent_holds : (path : List ℕ) (growing : Growing) → found path growing.known ≡ None → look path ≡ Absent → Holds growing → Holds (with_known path None growing))
    (link_holds : (from to : ℕ) (growing : Growing) → Holds growing → Holds (with_link from to growing)) where
  abbrev HoldsThere : Sought → Type 0
  HoldsThere there = Holds there.growing

  abbrev HoldsOf : Target → Type 0
  HoldsOf there = Holds there.growing

  added_stays : (path bytes : List ℕ) (read : Result StubFile ObjFault) (growing : Growing) → found path growing.known ≡ None → look path ≡ There bytes → reexported bytes ≡ read → Holds growing
      → IfOk (added heads path read growing) HoldsThere
  added_stays path bytes (Err why) growing new there is holds = tt
  added_stays path bytes (Ok file) growing new there is holds = file_holds path bytes file growing new there is holds

  read_stays : (path : List ℕ) (file : Option (List ℕ)) (growing : Growing) → found path growing.known ≡ None → (file_at (ReadFault path) path look).end ≡ Ok file → Holds growing
      → IfOk (read_at heads path file growing) HoldsThere
  read_stays path (Some bytes) growing new is holds = added_stays path bytes (reexported bytes) growing new (there_is (ReadFault path) (look path) bytes is) refl holds
  read_stays path None growing new is holds = absent_holds path growing new (absent_is (ReadFault path) (look path) is) holds

  as_stays : (path : List ℕ) (there : Option (Option ℕ)) (growing : Growing) → found path growing.known ≡ there → Holds growing → IfOk (sought_as heads path there growing look).end HoldsThere
  as_stays path (Some document) growing is holds = holds
  as_stays path None growing is holds =
      end_made (file_at (ReadFault path) path) (λ file. ends (read_at heads path file growing)) look HoldsThere (λ file said. read_stays path file growing is said holds)

  sought_stays : (path : List ℕ) (growing : Growing) → Holds growing → IfOk (sought heads path growing look).end HoldsThere
  unfolding sought
  sought_stays path growing holds = as_stays path (found path growing.known) growing refl holds

  last_stays : (first : List ℕ) (document : Option ℕ) (growing : Growing) → Holds growing → IfOk (last_of first document growing) HoldsOf
  last_stays first (Some document) growing holds = holds
  last_stays first None growing holds = tt

  second_stays : (first second : List ℕ) (document : Option ℕ) (growing : Growing) → Holds growing → IfOk (second_of heads first second document growing look).end HoldsOf
  second_stays first second (Some document) growing holds = holds
  second_stays first second None growing holds =
      end_holds (sought heads second growing) (λ there. ends (last_of first there.document there.growing)) look HoldsThere HoldsOf (sought_stays second growing holds)
      (λ there is. last_stays first there.document there.growing is)

  fetched_stays : (first second : List ℕ) (growing : Growing) → Holds growing → IfOk (fetched heads first second growing look).end HoldsOf
  fetched_stays first second growing holds =
      end_holds (sought heads first growing) (λ there. second_of heads first second there.document there.growing) look HoldsThere HoldsOf (sought_stays first growing holds)
      (λ there is. second_stays first second there.document there.growing is)

  by_stays : (root : Option (List ℕ)) (install : List ℕ) (here : Option ℕ) (growing : Growing) → Holds growing → IfOk (target_of root heads install here growing look).end HoldsOf
  by_stays root install (Some document) growing holds = holds
  by_stays root install None growing holds = fetched_stays (stub_path root install) (plain_path root install) growing holds

  pub target_stays : (root : Option (List ℕ)) (reexport : Reexport) (growing : Growing) → Holds growing → IfOk (target root heads reexport growing look).end HoldsOf
  unfolding target
  target_stays root reexport growing holds = by_stays root reexport.install reexport.here growing holds

  linked_stays : (from : ℕ) (reached : List ℕ) (work : List Request) (there : Target) → Holds there.growing → Holds (spec.linked from reached work there).growing
  linked_stays from reached work there holds =
      subst (λ (growing : Growing). Holds growing) (sym (reach_growing there.document (record { growing = with_link from there.document there.growing; reached = reached; work = work }))) (link_holds from there.document there.growing holds)

  met_stays : (root : Option (List ℕ)) (request : Option Request) (closing : Closing) → Holds closing.growing → IfOk (met root heads request closing look).end (λ (new : Closing). Holds new.growing)
  met_stays root None closing holds = holds
  met_stays root (Some request) closing holds =
      end_holds (target root heads request.reexport closing.growing) (λ there. ends (Ok (spec.linked request.from closing.reached closing.work there))) look HoldsOf (λ (new : Closing). Holds new.growing)
      (target_stays root request.reexport closing.growing holds) (λ there is. linked_stays request.from closing.reached closing.work there is)

  step_stays : (root : Option (List ℕ)) (at : ℕ) (closing : Closing) → Holds closing.growing → IfOk (step root heads at closing look).end (λ (new : Closing). Holds new.growing)
  unfolding step
  step_stays root at closing holds = met_stays root (slice_get closing.work at) closing holds

  pub after_stays : (root : Option (List ℕ)) (count : ℕ) (start : Closing) → Holds start.growing → IfOk (after root heads count start look).end (λ (new : Closing). Holds new.growing)
  after_stays root zero start holds = holds
  after_stays root (suc count) start holds =
      end_holds (after root heads count start) (step root heads count) look (λ (new : Closing). Holds new.growing) (λ (new : Closing). Holds new.growing) (after_stays root count start holds)
      (λ closing is. step_stays root count closing is)
