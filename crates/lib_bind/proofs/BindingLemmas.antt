-- What a command line binds to, as its files were asked for.
use Rattle.std.proofs.Common.{◌≡◌, ℕ, List, Option, Result, Ok, Err, IsErrAnd, refl, sym, ap, ◌∙◌, subst}
use Rattle.std.proofs.lemmas.Result.{err_from_is_err_and}
use Rattle.command_line.specs.declared.command.Command.{Command}
use Rattle.mo_outside.specs.Answers.{Answer}
use Rattle.mo_types.specs.Gives.{Gives}
use Rattle.file_cache.specs.Kept.{FilesSeen}
use Rattle.file_cache.specs.Program.{◌>>=◌, ends}
use Rattle.file_cache.specs.Runs.{Runs}
use Rattle.file_cache.proofs.RunLemmas.{none_run, same_run, short_start, then_ended, then_run}
use Rattle.lib_bind.specs.Closing.{IsBindFault, begun, chosen_of}
use Rattle.lib_bind.specs.Closure.{Bound, Closes, bound_after}
use Rattle.lib_bind.specs.inner.Closed.{IsClosing}
use Rattle.lib_bind.specs.declared.bind_fault.BindFault.{BindFault}
use Rattle.lib_bind.specs.declared.bind_fault.BindFault.TheVariants as fault
use Rattle.lib_bind.specs.declared.choosing.Chosen.{Chosen}
use Rattle.lib_bind.specs.declared.closing.Closing.{Closing}
use Rattle.lib_bind.specs.declared.library.Library.{Library}
use Rattle.lib_bind.specs.declared.library.LibraryGraph.{LibraryGraph}
use Rattle.lib_bind.specs.declared.named.NamedStub.{NamedStub}
use Rattle.lib_bind.proofs.EndLemmas.{bound_by, bound_is, bound_of, closed_of, start_of}
use Rattle.lib_bind.proofs.ProgramLemmas.{made_run}

pub from_start : {S : Type 0} (fetches : S → List ℕ → Answer → S → Type 0) (root : Option (List ℕ)) (chosen : Chosen) (libraries : List Library) (start : Closing) (closed : Result Closing BindFault) (old new : FilesSeen S)
    → start ≡ begun libraries chosen.heads chosen.files → libraries ≡ chosen.libraries → IsClosing fetches root chosen.heads start closed old new → IsClosing fetches root chosen.heads (start_of chosen) closed old new
from_start fetches root chosen libraries start closed old new is same closing =
    subst (λ (c : Closing). IsClosing fetches root chosen.heads c closed old new) (is ∙ ap (λ (ls : List Library). begun ls chosen.heads chosen.files) same) closing

module _ {S : Type 0} (fetches : S → List ℕ → Answer → S → Type 0) (command : Command) (named : List NamedStub) (old new : FilesSeen S) where
  -- the same fault was answered
  ends_with : (count : ℕ) (why : BindFault) (result : Result LibraryGraph BindFault) → IsErrAnd result (λ passed. passed ≡ why) → Runs fetches IsBindFault (bound_after command named count) (Err why) old new
      → Closes fetches command named result old new
  ends_with count why result is runs =
      let passed = err_from_is_err_and result is in
      subst (λ (r : Result LibraryGraph BindFault). Closes fetches command named r old new) (sym (passed.1 ∙ ap Err passed.2)) (record { count = count; bound = Err why; runs = runs; shows = refl })

  bound_run : (count : ℕ) (result : Result Bound BindFault) → Runs fetches IsBindFault (ends (chosen_of command named) >>= bound_by command count) result old new → Runs fetches IsBindFault (bound_after command named count) result old new
  bound_run count result runs = same_run fetches IsBindFault (ends (chosen_of command named) >>= bound_by command count) (bound_after command named count) result old new (bound_is command named count) runs

  chosen_run : (chosen : Chosen) (count : ℕ) (result : Result Bound BindFault) → chosen_of command named ≡ Ok chosen → Runs fetches IsBindFault (bound_by command count chosen) result old new
      → Runs fetches IsBindFault (bound_after command named count) result old new
  chosen_run chosen count result is runs =
      bound_run count result (then_run fetches IsBindFault (ends (chosen_of command named)) (bound_by command count) chosen result old old new (none_run fetches IsBindFault (Ok chosen) (chosen_of command named) old is) runs)

  abbrev found : Chosen → Closing → Result Bound BindFault
  found chosen closing = Ok (bound_of chosen closing)

  pub not_closed : (chosen : Chosen) (why : BindFault) (result : Result LibraryGraph BindFault) → chosen_of command named ≡ Ok chosen
      → IsClosing fetches command.syslibroot chosen.heads (start_of chosen) (Err why) old new → IsErrAnd result (λ passed. passed ≡ why) → Closes fetches command named result old new
  not_closed chosen why result is closing ends_so =
      ends_with closing.count why result ends_so (chosen_run chosen closing.count (Err why) is
      (then_ended fetches IsBindFault (closed_of command closing.count chosen) (λ closing. ends (found chosen closing)) why (Err why) old new closing.runs refl))

  -- memory ran out after all was found
  pub not_held : (chosen : Chosen) (closing : Closing) (result : Result LibraryGraph BindFault) → chosen_of command named ≡ Ok chosen
      → IsClosing fetches command.syslibroot chosen.heads (start_of chosen) (Ok closing) old new → IsErrAnd result (λ passed. passed ≡ fault.OutOfMemory) → Closes fetches command named result old new
  not_held chosen closing result is closes ends_so =
      ends_with closes.count fault.OutOfMemory result ends_so (chosen_run chosen closes.count (Err fault.OutOfMemory) is
      (made_run fetches IsBindFault (closed_of command closes.count chosen) (found chosen) closing (Err fault.OutOfMemory) old new closes.runs (λ kind. absurd kind)))

  pub all_bound : (chosen : Chosen) (closing : Closing) (graph : LibraryGraph) → chosen_of command named ≡ Ok chosen
      → IsClosing fetches command.syslibroot chosen.heads (start_of chosen) (Ok closing) old new
      → graph.libraries ≡ chosen.libraries → graph.documents ≡ closing.growing.documents → graph.links ≡ closing.growing.links → Closes fetches command named (Ok graph) old new
  all_bound chosen closing graph is closes libraries documents links = record {
    count = closes.count;
    bound = found chosen closing;
    runs = chosen_run chosen closes.count (found chosen closing) is
        (made_run fetches IsBindFault (closed_of command closes.count chosen) (found chosen) closing (found chosen closing) old new closes.runs refl);
    shows = record { done = closes.done; libraries = libraries; documents = documents; links = links };
  }

module _ {S : Type 0} (fetches : S → List ℕ → Answer → S → Type 0) (command : Command) (named : List NamedStub) (seen : FilesSeen S) where
  pub none_chosen : (why : BindFault) (result : Result LibraryGraph BindFault) → Gives {A = Chosen} IsBindFault (Err why) (chosen_of command named) → IsErrAnd result (λ passed. passed ≡ why)
      → Closes fetches command named result seen seen
  none_chosen why result gives is =
      ends_with fetches command named seen seen 0 why result is (bound_run fetches command named seen seen 0 (Err why)
      (then_ended fetches IsBindFault (ends (chosen_of command named)) (bound_by command 0) why (Err why) seen seen (none_run fetches IsBindFault (Err why) (chosen_of command named) seen gives) refl))

  pub no_memory : (result : Result LibraryGraph BindFault) → IsErrAnd result (λ passed. passed ≡ fault.OutOfMemory) → Closes fetches command named result seen seen
  no_memory result is =
      ends_with fetches command named seen seen 0 fault.OutOfMemory result is (short_start fetches IsBindFault (bound_after command named 0) fault.OutOfMemory seen (λ kind. kind))
