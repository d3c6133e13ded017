-- How a link ends, against its verdict.
use Rattle.std.proofs.Common.{◌≡◌, ℕ, ◌⊎◌, inl, inr, List, [], ◌++◌, take, Option, Some, None, Result, Ok, Err, IfSome, ◌≢◌, refl, sym, ap, ◌∙◌, subst}
use Rattle.file_cache.proofs.RunLemmas.{files_gave, told_gave}
use Rattle.file_cache.specs.Kept.{FilesSeen}
use Rattle.file_cache.specs.Program.{File}
use Rattle.file_cache.specs.Runs.{AllAgree, AllRead, AreNew, Gave, file_in, file_told, fresh, paths_in}
use Rattle.lib_bind.specs.declared.bind_fault.BindFault.{BindFault}
use Rattle.lib_bind.specs.declared.bind_fault.BindFault.TheVariants as bind
use Rattle.link_steps.proofs.AskLemmas.{told_case}
use Rattle.link_steps.specs.Steps.{Meets, map_err}
use Rattle.link_steps.specs.declared.fault.StepFault.{StepFault}
use Rattle.link_steps.specs.declared.fault.StepFault.TheVariants as fault
use Rattle.command_line.specs.declared.command.Command.{Command}
use Rattle.mo_cmd.specs.Command.{command_by}
use Rattle.mo_cmd.specs.declared.usage_fault.UsageFault.TheVariants as usage
use Rattle.mo_outside.specs.Answers.{Answer, Exchange}
use Rattle.mo_outside.specs.Faults.{Rises}
use Rattle.mo_outside.specs.Files.{FileMap}
use Rattle.mo_types.specs.declared.answer.Status.{Status}
use Rattle.mo_types.specs.declared.answer.Status.TheVariants as answer
use Rattle.mo_types.specs.declared.answer.Status.TheVariants.{Done, ReadFault, WriteFault, OutOfMemory}
use Rattle.mo_types.specs.declared.cause.UsageRule.{UsageRule}
use Rattle.link_engine.specs.declared.plan.Plan.{Plan}
use Rattle.link_engine.specs.declared.stop.Stop.{Stop}
use Rattle.link_engine.specs.declared.stop.Stop.TheVariants as stop
use Rattle.link_engine.specs.Answered.{Answered, Ran}
use Rattle.link_engine.specs.Causes.{StopCause}
use Rattle.link_engine.specs.Command.{commanded, linked_rows}
use Rattle.link_engine.specs.Kept.{IsReadWell, IsStop}
use Rattle.link_engine.specs.Settles.{Carries, CarriesPart, ExactlyWhere, IsComplete, OutputSeen, Settles, Stopped}
use Rattle.link_engine.specs.Stop.{bind_fault_for, status_for, status_of, usage_fault_for}
use Rattle.link_engine.specs.Verdict.{IsVerdict, IsVerdictAfter, plan_by}
use Rattle.link_engine.proofs.LawLemmas.{one_verdict, stop_causes}
use Rattle.link_engine.proofs.RanLemmas.{met_too}
use Rattle.link_engine.proofs.ReadLemmas.{tried_read, unread_told, verdict_names, verdict_read}

-- An answer before anything is written, against the verdict.

same_fault : {A E : Type 0} {x y : E} → ◌≡◌ {A = Result A E} (Err x) (Err y) → x ≡ y
same_fault e = cc

no_plan : {A E : Type 0} {x : E} {y : A} → ◌≡◌ {A = Result A E} (Err x) (Ok y) → ⊥
no_plan e = absurd cc

status_is_stop : (end : StepFault Stop) → IsStop (status_for end)
status_is_stop (fault.Stop (stop.Usage word rule)) = tt
status_is_stop (fault.Stop (stop.ReadFault path)) = tt
status_is_stop (fault.Stop (stop.Refused refusal)) = tt
status_is_stop fault.OutOfMemory = tt

-- the answer that tells a stop is that stop's alone
told_once : (end : StepFault Stop) (why : Stop) → status_for end ≡ status_of why → end ≡ fault.Stop why
told_once (fault.Stop (stop.Usage word rule)) (stop.Usage other more) e = cc
told_once (fault.Stop (stop.Usage word rule)) (stop.ReadFault path) e = absurd cc
told_once (fault.Stop (stop.Usage word rule)) (stop.Refused refusal) e = absurd cc
told_once (fault.Stop (stop.ReadFault path)) (stop.Usage other more) e = absurd cc
told_once (fault.Stop (stop.ReadFault path)) (stop.ReadFault other) e = cc
told_once (fault.Stop (stop.ReadFault path)) (stop.Refused refusal) e = absurd cc
told_once (fault.Stop (stop.Refused refusal)) (stop.Usage other more) e = absurd cc
told_once (fault.Stop (stop.Refused refusal)) (stop.ReadFault path) e = absurd cc
told_once (fault.Stop (stop.Refused refusal)) (stop.Refused other) e = cc
told_once fault.OutOfMemory (stop.Usage other more) e = absurd cc
told_once fault.OutOfMemory (stop.ReadFault path) e = absurd cc
told_once fault.OutOfMemory (stop.Refused refusal) e = absurd cc

-- no two things are given
abbrev IsOne : (Result Plan Stop → Type 0) → Type 0
IsOne is = (a b : Result Plan Stop) → is a → is b → a ≡ b

stops_only : (is : Result Plan Stop → Type 0) (end : StepFault Stop) (why : Stop) → Meets {A = Plan} is (Err end) → status_for end ≡ status_of why → is (Err why)
stops_only is end why meets same = subst (λ (e : StepFault Stop). Meets {A = Plan} is (Err e)) (told_once end why same) meets

stops_as : (is : Result Plan Stop → Type 0) (end : StepFault Stop) → IsOne is → Meets {A = Plan} is (Err end) → (why : Stop) → is (Err why) → (status_for end ≡ status_of why) ⊎ (status_for end ≡ OutOfMemory)
stops_as is (fault.Stop told) one meets why other = inl (ap status_of (same_fault (one (Err told) (Err why) meets other)))
stops_as is fault.OutOfMemory one meets why other = inr refl

stops_not : (is : Result Plan Stop → Type 0) (end : StepFault Stop) (out_fault : Type 0) → IsOne is → Meets {A = Plan} is (Err end) → (plan : Plan) → is (Ok plan) → (status_for end ≡ Done) ⊎ ((status_for end ≡ OutOfMemory) ⊎ out_fault)
stops_not is (fault.Stop told) out_fault one meets plan other = absurd (no_plan (one (Err told) (Ok plan) meets other))
stops_not is fault.OutOfMemory out_fault one meets plan other = inr (inl refl)

settles_stop : (is : Result Plan Stop → Type 0) (end : StepFault Stop) (old new : OutputSeen) → IsOne is → Meets {A = Plan} is (Err end) → Stopped (status_for end) old new → Settles is (status_for end) old new
settles_stop is end old new one meets stopped = record {
  stops = λ why. record {
    only = stops_only is end why meets;
    always = stops_as is end one meets why;
  };
  plans = stops_not is end (Rises old.out_faults new.out_faults) one meets;
  done = λ same. absurd (subst IsStop same (status_is_stop end));
  part = λ same. absurd (subst IsStop same (status_is_stop end));
  stopped = λ _. stopped;
}

pub settles_ended : (words : List (List ℕ)) (look : List ℕ → File) (end : StepFault Stop) (status result : Status) (old new : OutputSeen) → status ≡ status_for end → result ≡ status → Meets {A = Plan} (IsVerdict words look) (Err end) → Stopped status old new → Settles (IsVerdict words look) result old new
settles_ended words look end status result old new is same meets stopped =
    subst (λ (s : Status). Settles (IsVerdict words look) s old new) (sym (same ∙ is))
    (settles_stop (IsVerdict words look) end old new (one_verdict words look) meets (subst (λ (s : Status). Stopped s old new) is stopped))

status_of_stop : (why : Stop) → IsStop (status_of why)
status_of_stop (stop.Usage word rule) = tt
status_of_stop (stop.ReadFault path) = tt
status_of_stop (stop.Refused refusal) = tt

same_plan : {A E : Type 0} {x y : A} → ◌≡◌ {A = Result A E} (Ok x) (Ok y) → x ≡ y
same_plan e = cc

-- an answer after something was written
not_ended : (status : Status) → (status ≡ Done) ⊎ (status ≡ WriteFault) → IsStop status → ⊥
not_ended status (inl done) stop = subst IsStop done stop
not_ended status (inr failed) stop = subst IsStop failed stop

not_stop : (status : Status) (why : Stop) → (status ≡ Done) ⊎ (status ≡ WriteFault) → status ≡ status_of why → ⊥
not_stop status (stop.Usage word rule) (inl done) same = absurd cc
not_stop status (stop.ReadFault path) (inl done) same = absurd cc
not_stop status (stop.Refused refusal) (inl done) same = absurd cc
not_stop status (stop.Usage word rule) (inr failed) same = absurd cc
not_stop status (stop.ReadFault path) (inr failed) same = absurd cc
not_stop status (stop.Refused refusal) (inr failed) same = absurd cc

pub settles_plan : (words : List (List ℕ)) (look : List ℕ → File) (plan : Plan) (status : Status) (old new : OutputSeen) → IsVerdict words look (Ok plan) → (status ≡ Done) ⊎ (status ≡ WriteFault) → (status ≡ WriteFault → Rises old.out_faults new.out_faults) → (status ≡ Done → Carries plan old new) → (status ≡ WriteFault → CarriesPart plan old new) → Settles (IsVerdict words look) status old new
settles_plan words look plan status old new is kind writes done part = record {
  stops = λ why. record {
    only = λ same. absurd (not_stop status why kind same);
    always = λ refused. absurd (no_plan (one_verdict words look (Err why) (Ok plan) refused is));
  };
  plans = λ other built. elim kind [
    | inl at_done ↦ inl at_done
    | inr failed ↦ inr (inr (writes failed))
  ];
  done = λ at_done. (plan, is, done at_done);
  part = λ failed. (plan, is, part failed);
  stopped = λ stop. absurd (not_ended status kind stop);
}

-- what a verdict leaves open

built_whole : (words : List (List ℕ)) (look : List ℕ → File) (status : Status) (old new : OutputSeen) → Settles (IsVerdict words look) status old new → (plan : Plan) → IsVerdict words look (Ok plan) → status ≡ Done → Carries plan old new
built_whole words look status old new so plan is same =
    let d = so.done same in
    subst (λ (p : Plan). Carries p old new) (same_plan (one_verdict words look (Ok d.0) (Ok plan) d.1 is)) d.2

pub settles_complete : (words : List (List ℕ)) (look : List ℕ → File) (status : Status) (old new : OutputSeen) → Settles (IsVerdict words look) status old new → IsComplete (IsVerdict words look) status old new
settles_complete words look status old new so = record {
  built = λ plan is quiet. elim (so.plans plan is) [
    | inl at_done ↦ inl (at_done, built_whole words look status old new so plan is at_done)
    | inr (inl memory) ↦ inr memory
    | inr (inr rises) ↦ absurd (quiet rises)
  ];
  stopped = λ why is. elim ((so.stops why).always is) [
    | inl same ↦ inl (same, so.stopped (subst IsStop (sym same) (status_of_stop why)))
    | inr memory ↦ inr memory
  ];
}

-- ---- what files told, where what they hold is told: they answered as they hold, up to one that wasn't read

-- a status that no failed read led to has a verdict
record HasVerdict (is : Result Plan Stop → Type 0) : Type 0 where
  given : Result Plan Stop
  verdict : is given

verdict_there : (is : Result Plan Stop → Type 0) (status : Status) (old new : OutputSeen) → IsReadWell status → Settles is status old new → HasVerdict is
verdict_there is Done old new well so = let d = so.done refl in record { given = Ok d.0; verdict = d.1 }
verdict_there is WriteFault old new well so = let d = so.part refl in record { given = Ok d.0; verdict = d.1 }
verdict_there is (answer.Usage word rule) old new well so = record { given = Err (stop.Usage word rule); verdict = (so.stops (stop.Usage word rule)).only refl }
verdict_there is (answer.Refused refusal) old new well so = record { given = Err (stop.Refused refusal); verdict = (so.stops (stop.Refused refusal)).only refl }
verdict_there is (ReadFault path) old new well so = absurd well
verdict_there is OutOfMemory old new well so = absurd well

read_well_no_memory : (status : Status) → IsReadWell status → status ≡ OutOfMemory → ⊥
read_well_no_memory status well same = subst IsReadWell same well

read_well_no_fault : (status : Status) (path : List ℕ) → IsReadWell status → status ≡ ReadFault path → ⊥
read_well_no_fault status path well same = subst IsReadWell same well

-- ---- what the words are

-- words that aren't a command have no other verdict
misused_verdict : (words : List (List ℕ)) (look : List ℕ → File) (given : Result Plan Stop) (word : ℕ) (rule : UsageRule) → IsVerdict words look given → command_by linked_rows words ≡ Err (usage.At word rule)
    → given ≡ Err (stop.Usage word rule)
unfolding IsVerdictAfter
misused_verdict words look given word rule (tried, is) misused =
    told_case (commanded words) _ [] given tried (given ≡ Err (stop.Usage word rule)) is
    (λ other e stop same. stop ∙ ap Err (same_stop (sym e ∙ ap (map_err usage_fault_for) misused)))
    (λ command read first. absurd (no_command (sym (ap (map_err usage_fault_for) misused) ∙ read)))
  where
    same_stop : {x y : Stop} → ◌≡◌ {A = Result Command (StepFault Stop)} (Err (fault.Stop x)) (Err (fault.Stop y)) → x ≡ y
    same_stop e = cc

    no_command : {x : StepFault Stop} {y : Command} → ◌≡◌ {A = Result Command (StepFault Stop)} (Err x) (Ok y) → ⊥
    no_command e = absurd cc

usage_cause : (words : List (List ℕ)) (look : List ℕ → File) (word : ℕ) (rule : UsageRule) (tried : List (List ℕ)) → StopCause words look (stop.Usage word rule) tried → command_by linked_rows words ≡ Err (usage.At word rule)
usage_cause words look word rule tried (inl misused) = misused.0
usage_cause words look word rule tried (inr (command, read, inl many)) = absurd (let e = many.0.1 in cc)
usage_cause words look word rule tried (inr (command, read, inr (few, inl unfound))) = absurd unfound.ends
usage_cause words look word rule tried (inr (command, read, inr (few, inr (found, then, there, inl faulty)))) = absurd faulty.0
usage_cause words look word rule tried (inr (command, read, inr (few, inr (found, then, there, inr (contents, are, inl unbound))))) = absurd (by unbound.end unbound.is)
  where
    by : (end : BindFault) → bind_fault_for end ≡ fault.Stop (stop.Usage word rule) → ⊥
    by (bind.ReadFault path) e = absurd cc
    by (bind.Refused why) e = absurd cc
    by bind.OutOfMemory e = absurd cc
usage_cause words look word rule tried (inr (command, read, inr (few, inr (found, then, there, inr (contents, are, inr (libs, later, bound, inl unloaded)))))) = absurd unloaded.0
usage_cause words look word rule tried (inr (command, read, inr (few, inr (found, then, there, inr (contents, are, inr (libs, later, bound, inr (loaded, e, inl unlinked))))))) = absurd unlinked.0
usage_cause words look word rule tried (inr (command, read, inr (few, inr (found, then, there, inr (contents, are, inr (libs, later, bound, inr (loaded, e, inr (image, is, none)))))))) = absurd none

-- the answer tells the fault of the words just where they have it
usage_settled : (words : List (List ℕ)) (look : List ℕ → File) (status : Status) (old new : OutputSeen) (word : ℕ) (rule : UsageRule) → Settles (IsVerdict words look) status old new → ExactlyWhere (command_by linked_rows words ≡ Err (usage.At word rule)) (answer.Usage word rule) status
usage_settled words look status old new word rule so = record {
  only = λ same. let verdict = (so.stops (stop.Usage word rule)).only same in usage_cause words look word rule verdict.0 ((stop_causes words look (stop.Usage word rule) verdict.0).0 verdict.1);
  always = λ misused. by status so misused;
}
  where
    by : (status : Status) → Settles (IsVerdict words look) status old new → command_by linked_rows words ≡ Err (usage.At word rule) → (status ≡ answer.Usage word rule) ⊎ (status ≡ OutOfMemory)
    by Done so misused = let d = so.done refl in absurd (no_plan (sym (misused_verdict words look (Ok d.0) word rule d.1 misused)))
    by WriteFault so misused = let d = so.part refl in absurd (no_plan (sym (misused_verdict words look (Ok d.0) word rule d.1 misused)))
    by (answer.Usage other more) so misused = inl (ap status_of (same_fault (misused_verdict words look (Err (stop.Usage other more)) word rule ((so.stops (stop.Usage other more)).only refl) misused)))
    by (answer.Refused refusal) so misused = absurd (let e : stop.Refused refusal ≡ stop.Usage word rule = same_fault (misused_verdict words look (Err (stop.Refused refusal)) word rule ((so.stops (stop.Refused refusal)).only refl) misused) in cc)
    by (ReadFault path) so misused = absurd (let e : stop.ReadFault path ≡ stop.Usage word rule = same_fault (misused_verdict words look (Err (stop.ReadFault path)) word rule ((so.stops (stop.ReadFault path)).only refl) misused) in cc)
    by OutOfMemory so misused = inr refl

-- its verdict isn't that a path couldn't be read
not_unread : (is : Result Plan Stop → Type 0) (status : Status) (old new : OutputSeen) → IsReadWell status → Settles is status old new → (given : Result Plan Stop) → is given → (path : List ℕ) → given ≢ Err (stop.ReadFault path)
not_unread is status old new well so given verdict path same = elim ((so.stops (stop.ReadFault path)).always (subst is same verdict)) [
  | inl told ↦ read_well_no_fault status path well told
  | inr memory ↦ read_well_no_memory status well memory
]

-- ---- what files told

-- a line that was gone, of which nothing was kept before
pub answered : {S : Type 0} (fetches : S → List ℕ → Answer → S → Type 0) (words : List (List ℕ)) (result : Result Plan (StepFault Stop)) (ends : Type 0) (settles : (Result Plan Stop → Type 0) → Type 0) (old new : FilesSeen S)
    → old.kept ≡ [] → Ran fetches (λ look. plan_by look words) result old new → (ends → result ≢ Err fault.OutOfMemory)
    → ((look : List ℕ → File) → Meets (IsVerdict words look) result → settles (IsVerdict words look))
    → Answered fetches words ends settles (record old { kept = [] }) (record new { kept = [] })
unfolding IsVerdictAfter
answered {S = S} fetches words result ends settles old new none ran memory next = record {
  told = ran.told;
  files = record {
    chain = ran.files.chain;
    agree = ran.files.agree;
    bytes = ran.files.bytes;
    logged = ran.files.logged;
    once = subst (λ (k : List Exchange). AreNew (paths_in k) (paths_in ran.told)) none ran.files.once;
    holds = ran.files.holds;
    rises = ran.files.rises;
    still = ran.files.still;
    failed = ran.files.failed;
  };
  all = λ e look gave. by look result (memory e) (ran.gives look (before look gave) []);
  some = λ look gave given tried is.
      let part = ran.some look (before look gave) [] tried given is in
      (part.0, part.1 ∙ ap (λ (k : List Exchange). fresh (paths_in k) (take part.0 tried)) none);
  settles = λ look gave. next look (met_too (λ given. (tried : List (List ℕ)) × plan_by look words [] given ([] ++ tried) × (paths_in ran.told ≡ fresh (paths_in old.kept) tried)) (IsVerdict words look) result (λ given p. (p.0, p.1)) (ran.gives look (before look gave) []));
}
  where
    before : (look : List ℕ → File) → Gave look ran.told → Gave look (old.kept ++ ran.told)
    before look gave = subst (λ (k : List Exchange). Gave look (k ++ ran.told)) (sym none) gave

    paths : (tried : List (List ℕ)) → paths_in ran.told ≡ fresh (paths_in old.kept) tried → paths_in ran.told ≡ fresh [] tried
    paths tried is = is ∙ ap (λ (k : List Exchange). fresh (paths_in k) tried) none

    by : (look : List ℕ → File) (r : Result Plan (StepFault Stop)) → r ≢ Err fault.OutOfMemory
        → Meets (λ given. (tried : List (List ℕ)) × plan_by look words [] given ([] ++ tried) × (paths_in ran.told ≡ fresh (paths_in old.kept) tried)) r
        → (given : Result Plan Stop) × (tried : List (List ℕ)) × plan_by look words [] given tried × (paths_in ran.told ≡ fresh [] tried)
    by look (Ok plan) other p = (Ok plan, p.0, p.1, paths p.0 p.2)
    by look (Err (fault.Stop why)) other p = (Err why, p.0, p.1, paths p.0 p.2)
    by look (Err fault.OutOfMemory) other p = absurd (other refl)

module _ {S : Type 0} (fetches : S → List ℕ → Answer → S → Type 0) (words : List (List ℕ)) (status : Status) (seen_old seen_new : OutputSeen) (old new : FilesSeen S) where
  abbrev Told : Type 0
  Told = Answered fetches words (status ≢ OutOfMemory) (λ is. Settles is status seen_old seen_new) old new

  -- by the map alone
  abbrev alone : Told → List ℕ → File
  alone given = file_told given.told

  gave_alone : (none : old.kept ≡ []) (given : Told) → Gave (alone given) given.told
  gave_alone none given = told_gave given.told (subst (λ (k : List Exchange). AreNew (paths_in k) (paths_in given.told)) none given.files.once)

  -- no failed read is behind such an answer
  all_read : old.kept ≡ [] → IsReadWell status → (given : Told) → AllRead given.told
  all_read none well given =
      let gave = gave_alone none given in
      let all = given.all (read_well_no_memory status well) (alone given) gave in
      let so = given.settles (alone given) gave in
      tried_read (alone given) given.told all.1 gave all.3
      (verdict_read words (alone given) all.0 all.1 all.2 (not_unread (IsVerdict words (alone given)) status seen_old seen_new well so all.0 (all.1, all.2)))

  pub files_still : old.kept ≡ [] → IsReadWell status → Told → new.faults ≡ old.faults
  files_still none well given = given.files.still (all_read none well given)

  pub read_fault_rises : old.kept ≡ [] → (path : List ℕ) → status ≡ ReadFault path → Told → Rises old.faults new.faults
  read_fault_rises none path is given =
      let gave = gave_alone none given in
      let so = given.settles (alone given) gave in
      let verdict = (so.stops (stop.ReadFault path)).only is in
      given.files.failed (unread_told given.told path (verdict_names words (alone given) path verdict.0 verdict.1).unread)

  pub settles_told : old.kept ≡ [] → Told → IfSome old.holds (λ files. IsReadWell status → Settles (IsVerdict words (file_in files)) status seen_old seen_new)
  settles_told none given = by old.holds given.files.agree
    where
      by : (held : Option FileMap) → AllAgree held given.told → IfSome held (λ files. IsReadWell status → Settles (IsVerdict words (file_in files)) status seen_old seen_new)
      by None agree = tt
      by (Some files) agree = λ well. given.settles (file_in files) (files_gave files given.told agree (all_read none well given))

  pub usage_told : old.kept ≡ [] → (word : ℕ) (rule : UsageRule) → Told → ExactlyWhere (command_by linked_rows words ≡ Err (usage.At word rule)) (answer.Usage word rule) status
  usage_told none word rule given = usage_settled words (alone given) status seen_old seen_new word rule (given.settles (alone given) (gave_alone none given))

-- ---- answers

-- an answer that isn't want of memory isn't a step's either
pub still_ends : (end : StepFault Stop) (status result : Status) → status ≡ status_for end → result ≡ status → result ≢ OutOfMemory → end ≡ fault.OutOfMemory → ⊥
still_ends end status result told same other e = other (same ∙ told ∙ ap status_for e)

pub plan_ends : {plan : Plan} → ◌≢◌ {A = Result Plan (StepFault Stop)} (Ok plan) (Err fault.OutOfMemory)
plan_ends e = absurd cc

pub fault_ends : (end : StepFault Stop) (status result : Status) → status ≡ status_for end → result ≡ status → result ≢ OutOfMemory → ◌≢◌ {A = Result Plan (StepFault Stop)} (Err end) (Err fault.OutOfMemory)
fault_ends end status result told same other e = still_ends end status result told same other (same_fault e)

-- what is settled leads to something else
pub answered_then : {S : Type 0} (fetches : S → List ℕ → Answer → S → Type 0) (words : List (List ℕ)) (ends more_ends : Type 0) (settles then : (Result Plan Stop → Type 0) → Type 0) (old new : FilesSeen S)
    → Answered fetches words ends settles old new → (more_ends → ends) → ((is : Result Plan Stop → Type 0) → settles is → then is) → Answered fetches words more_ends then old new
answered_then fetches words ends more_ends settles then old new given fewer next = record {
  told = given.told;
  files = given.files;
  all = λ e. given.all (fewer e);
  some = given.some;
  settles = λ look gave. next (IsVerdict words look) (given.settles look gave);
}
