-- What was written links what was loaded.
use Rattle.std.proofs.Common.{◌≡◌, ◌≢◌, ℕ, List, [], sym, subst, ◌∙◌}
use Rattle.file_cache.proofs.RunLemmas.{told_gave}
use Rattle.file_cache.specs.Kept.{FilesSeen}
use Rattle.file_cache.specs.Runs.{AreNew, file_told, paths_in}
use Rattle.link_engine.proofs.FetchedLemmas.{map_bytes}
use Rattle.loader_laws.proofs.FileLinks.{plan_links}
use Rattle.mo_outside.specs.Answers.{Answer, Exchange}
use Rattle.mo_types.specs.Answer.{code_of}
use Rattle.mo_types.specs.declared.answer.Status.{Status}
use Rattle.mo_types.specs.declared.answer.Status.TheVariants.{Done, OutOfMemory, ReadFault, Refused, Usage, WriteFault}
use Rattle.link_engine.specs.Answered.{Answered}
use Rattle.link_engine.specs.Settles.{OutputSeen}
use Rattle.atomld.specs.Exits.{Exits}
use Rattle.atomld.specs.Links.{Links}

-- success alone has the exit status 0
is_done : (status : Status) → code_of status ≡ 0 → status ≡ Done
is_done Done zero = cc
is_done (Refused refusal) zero = absurd cc
is_done (Usage word rule) zero = absurd cc
is_done (ReadFault path) zero = absurd cc
is_done WriteFault zero = absurd cc
is_done OutOfMemory zero = absurd cc

pub links : {S : Type 0} (fetches : S → List ℕ → Answer → S → Type 0) (words : List (List ℕ)) (code : ℕ) (files_old files_new : FilesSeen S) (old new : OutputSeen)
    → files_old.kept ≡ [] → Answered fetches words (code ≢ 4) (λ is. Exits is code old new) files_old files_new → code ≡ 0 → Links fetches words files_old files_new old new
links fetches words code files_old files_new old new none given zero =
    let gave = told_gave given.told (subst (λ (k : List Exchange). AreNew (paths_in k) (paths_in given.told)) none given.files.once) in
    let exits = given.settles (file_told given.told) gave in
    let done = exits.settles.done (is_done exits.status (sym exits.exits ∙ zero)) in
    record {
      told = given.told;
      files = given.files;
      plan = done.0;
      link = plan_links words (file_told given.told) done.0 done.1 (map_bytes given.told given.files.bytes);
      writes = done.2;
    }
