-- The laws of the verdict, a line for each step: there is one at most, and it is a stop just where its cause stands.
use Rattle.std.proofs.Common.{◌≡◌, ◌↔◌, ℕ, ◌+◌, ◌<◌, ◌^◌, Bool, true, false, nat_lt, List, [], length, Option, Some, None, Result, Ok, Err, refl, sym, ap, ◌∙◌, subst, arith}
use Rattle.std.specs.List.{range_with_len}
use Rattle.std.specs.Prelude.{IfOk}
use Rattle.std.proofs.lemmas.Bool.{ltb-true, ltb-false}
use Rattle.file_cache.specs.Program.{File, Outcome}
use Rattle.input_fetch.specs.Contents.{contents_of, places_of}
use Rattle.input_fetch.specs.declared.content.Content.{Content}
use Rattle.input_fetch.specs.declared.stop.FetchStop.{FetchStop}
use Rattle.input_fetch.specs.declared.stop.FetchStop.TheVariants as fetch
use Rattle.input_read.specs.Opened.{Contents}
use Rattle.input_read.specs.Opened as opened
use Rattle.input_read.proofs.LawLemmas.{told as told_first}
use Rattle.input_read.proofs.OpenedLemmas.{keeps_order}
use Rattle.lib_bind.specs.Closure.{Bound, IsLast, Shows, bound_after}
use Rattle.lib_bind.specs.Graph.{IsWhole}
use Rattle.lib_bind.specs.declared.bind_fault.BindFault.{BindFault}
use Rattle.lib_bind.specs.declared.library.LibraryGraph.{LibraryGraph}
use Rattle.lib_bind.specs.declared.named.NamedStub.{NamedStub}
use Rattle.lib_bind.proofs.OneLemmas.{outcomes_one, whole_one}
use Rattle.link_files.proofs.CauseLemmas.{link_stops}
use Rattle.link_files.proofs.OneLemmas.{link_one}
use Rattle.link_files.specs.Linked.{IsLinked}
use Rattle.link_files.specs.Names.{wanted}
use Rattle.link_steps.proofs.AskLemmas.{asks_law, last_law, told_law, tries_law, unless_law}
use Rattle.link_steps.proofs.StepLemmas.{mapped_value, told_one, told_stop}
use Rattle.link_steps.specs.Asking.{IsLawful, IsOne, Stops, tries}
use Rattle.link_steps.specs.Steps.{Agree, IsToldBy, map_err}
use Rattle.link_steps.specs.declared.fault.StepFault.{StepFault}
use Rattle.link_steps.specs.declared.fault.StepFault.TheVariants as fault
use Rattle.input_files.specs.Files.{all_ids}
use Rattle.member_rounds.specs.Rounds.{files_of, loaded_ids, loaded_of, round_fault}
use Rattle.input_files.specs.Sources.{AreInOrder}
use Rattle.input_files.specs.declared.fault.LoadFault.{LoadFault}
use Rattle.input_files.specs.declared.fault.LoadFault.TheVariants as rounds
use Rattle.input_files.specs.declared.input.Input.{Input}
use Rattle.member_rounds.proofs.RiseLemmas.{loaded_rises}
use Rattle.mo_cmd.specs.Command.{command_by}
use Rattle.command_line.specs.declared.command.Command.{Command}
use Rattle.mo_cmd.specs.declared.usage_fault.UsageFault.{UsageFault}
use Rattle.mo_cmd.specs.declared.usage_fault.UsageFault.TheVariants as usage
use Rattle.mo_types.specs.Scan.{first_some}
use Rattle.mo_types.specs.declared.answer.Refusal.{Refusal}
use Rattle.mo_types.specs.declared.answer.Refusal.TheVariants as refusal
use Rattle.mo_types.specs.declared.cause.Which.TheVariants.{Inputs}
use Rattle.mo_types.specs.declared.loaded.Loaded.{Loaded}
use Rattle.mo_types.specs.declared.loaded.LoadedFile.{LoadedFile}
use Rattle.link_engine.specs.declared.plan.Plan.{Plan}
use Rattle.link_engine.specs.declared.stop.Stop.{Stop}
use Rattle.link_engine.specs.declared.stop.Stop.TheVariants as stop
use Rattle.link_engine.specs.Bound.{BoundBy}
use Rattle.link_engine.specs.Causes.{IsAbsent, IsAbsentBy, IsCommand, IsCrowded, IsFaulty, IsMisused, IsUnbound, IsUnlinked, IsUnloaded, StopCause, causes}
use Rattle.link_engine.specs.Command.{commanded, crowd_stop, linked_rows}
use Rattle.link_engine.specs.Input.{inputs_with}
use Rattle.link_engine.specs.Stop.{bind_fault_for, fetch_fault_for, load_fault_for, usage_fault_for}
use Rattle.link_engine.specs.Fetched.{FetchedBy}
use Rattle.link_engine.specs.Verdict.{IsImage, IsVerdict, IsVerdictAfter, contents_with, files_for, plan_by, plan_of}
use Rattle.link_engine.proofs.InputLemmas.{inputs_rise}
use Rattle.link_engine.proofs.LoadedLemmas.{loaded_cut, loaded_low, loaded_referred, loaded_unwinds}
use Rattle.link_engine.specs.Lines.{after_command}

same_stop : {A : Type 0} {x y : Stop} → ◌≡◌ {A = Result A (StepFault Stop)} (Err (fault.Stop x)) (Err (fault.Stop y)) → x ≡ y
same_stop e = cc

-- ---- the words

misused : (words : List (List ℕ)) (why : Stop) → (commanded words ≡ Err (fault.Stop why)) ↔ IsMisused words why
misused words why = (λ e. by (command_by linked_rows words) refl e, λ c. from why c)
  where
    by : (r : Result Command UsageFault) → command_by linked_rows words ≡ r → map_err usage_fault_for r ≡ Err (fault.Stop why) → IsMisused words why
    by (Ok command) read e = absurd cc
    by (Err (usage.At word rule)) read e = let same : stop.Usage word rule ≡ why = same_stop {A = Command} e in subst (IsMisused words) same read
    by (Err usage.OutOfMemory) read e = absurd cc

    from : (other : Stop) → IsMisused words other → commanded words ≡ Err (fault.Stop other)
    from (stop.Usage word rule) c = ap (map_err usage_fault_for) c
    from (stop.ReadFault path) c = absurd c
    from (stop.Refused refusal) c = absurd c

command_is : (words : List (List ℕ)) (command : Command) → (commanded words ≡ Ok command) ↔ IsCommand words command
command_is words command = mapped_value usage_fault_for (command_by linked_rows words) command

crowded : (command : Command) (why : Stop) → (crowd_stop command ≡ Some why) ↔ IsCrowded command why
crowded command why = by (nat_lt (length command.inputs) (2 ^ 16)) refl
  where
    by : (b : Bool) → nat_lt (length command.inputs) (2 ^ 16) ≡ b → (crowd_stop command ≡ Some why) ↔ IsCrowded command why
    by true low =
        let less : length command.inputs < 2 ^ 16 = ltb-true _ _ low in
        ((λ e. absurd (let h : None ≡ Some why = rw low at e in cc)), (λ c. absurd (omega (arith, less, c.0))))
    by false low = (
      (λ e. let h : Some (stop.Refused (refusal.Limit Inputs)) ≡ Some why = rw low at e in let same : stop.Refused (refusal.Limit Inputs) ≡ why = cc in (ltb-false _ _ low, sym same)),
      (λ c. rw low (ap Some (sym c.1))),
    )

-- ---- the rounds

abbrev pub fault_in : List Input → LibraryGraph → List (List ℕ) → Option LoadFault
fault_in inputs libs names = first_some (round_fault inputs libs names) (range_with_len 0 (length (all_ids inputs) + 1))

pub loaded_fault : (inputs : List Input) (libs : LibraryGraph) (names : List (List ℕ)) (why : LoadFault) → loaded_of inputs libs names ≡ Err why → fault_in inputs libs names ≡ Some why
unfolding loaded_of
loaded_fault inputs libs names why e = by (fault_in inputs libs names) refl
  where
    by : (o : Option LoadFault) → fault_in inputs libs names ≡ o → fault_in inputs libs names ≡ Some why
    by None o = absurd (let s : Ok (record { files = files_of inputs (loaded_ids inputs libs names) }) ≡ Err why = rw o at e in cc)
    by (Some other) o = let s : ◌≡◌ {A = Result Loaded LoadFault} (Err other) (Err why) = rw o at e in let same : other ≡ why = cc in o ∙ ap Some same

fault_loaded : (inputs : List Input) (libs : LibraryGraph) (names : List (List ℕ)) (why : LoadFault) → fault_in inputs libs names ≡ Some why → loaded_of inputs libs names ≡ Err why
unfolding loaded_of
fault_loaded inputs libs names why e = rw e refl

-- ---- the inputs

module _ (look : List ℕ → File) (command : Command) where
  fetched_one : IsOne (FetchedBy look command)
  fetched_one a b old new older newer p q = told_one (map_err fetch_fault_for (contents_of (places_of command) look).end) a b p.told q.told

  absent : Stops (FetchedBy look command) (IsAbsent look command)
  absent old why new = (
    λ p. record { ends = to (contents_of (places_of command) look).end ((told_stop (map_err fetch_fault_for (contents_of (places_of command) look).end) why).0 p.told); tries = p.tries },
    λ c. record { told = (told_stop (map_err fetch_fault_for (contents_of (places_of command) look).end) why).1 (from (contents_of (places_of command) look).end why c.ends); tries = c.tries },
  )
    where
      to : (end : Result (List Content) FetchStop) → map_err fetch_fault_for end ≡ Err (fault.Stop why) → IsAbsentBy end why
      to (Ok found) e = absurd cc
      to (Err (fetch.ReadFault path)) e = subst (IsAbsentBy (Err (fetch.ReadFault path))) (same_stop {A = List Content} e) refl
      to (Err (fetch.Missing path)) e = subst (IsAbsentBy (Err (fetch.Missing path))) (same_stop {A = List Content} e) refl
      to (Err fetch.OutOfMemory) e = absurd cc

      from : (end : Result (List Content) FetchStop) (other : Stop) → IsAbsentBy end other → map_err fetch_fault_for end ≡ Err (fault.Stop other)
      from end (stop.Usage word rule) c = absurd c
      from end (stop.ReadFault path) c = ap (map_err fetch_fault_for) c
      from end (stop.Refused (refusal.Missing path)) c = ap (map_err fetch_fault_for) c
      from end (stop.Refused (refusal.Malformed path place rule)) c = absurd c
      from end (stop.Refused (refusal.Unsupported path feature)) c = absurd c
      from end (stop.Refused (refusal.Limit which)) c = absurd c
      from end (stop.Refused (refusal.Duplicate name first second)) c = absurd c
      from end (stop.Refused (refusal.Undefined name file)) c = absurd c
      from end (stop.Refused (refusal.NeedsImage file place)) c = absurd c
      from end (stop.Refused (refusal.Range file place kind value)) c = absurd c

-- what is refused by a round fault is refused by the link
round_refuses : {A : Type 0} (r : Result A LoadFault) (why : Stop) → map_err load_fault_for r ≡ Err (fault.Stop why) → (refused : Refusal) × (r ≡ Err (rounds.Refused refused)) × (stop.Refused refused ≡ why)
round_refuses (Ok x) why e = absurd cc
round_refuses {A = A} (Err (rounds.Refused refused)) why e = (refused, refl, same_stop {A = A} e)
round_refuses (Err rounds.OutOfMemory) why e = absurd cc

faulty : (command : Command) (found : List Content) (why : Stop) → (contents_with command found ≡ Err (fault.Stop why)) ↔ IsFaulty command found why
faulty command found why = (
  λ e. let f = round_refuses (opened.contents_of (inputs_with command found)) why e in
      subst (IsFaulty command found) f.2 ((told_first (inputs_with command found) (rounds.Refused f.0)).0 f.1),
  λ c. from why c,
)
  where
    from : (other : Stop) → IsFaulty command found other → contents_with command found ≡ Err (fault.Stop other)
    from (stop.Usage word rule) c = absurd c
    from (stop.ReadFault path) c = absurd c
    from (stop.Refused refused) c = ap (map_err load_fault_for) ((told_first (inputs_with command found) (rounds.Refused refused)).1 c)

unloaded : (command : Command) (inputs : List Input) (libs : LibraryGraph) (why : Stop) → (files_for command inputs libs ≡ Err (fault.Stop why)) ↔ IsUnloaded command inputs libs why
unloaded command inputs libs why = (
  λ e. let f = round_refuses (loaded_of inputs libs (wanted command)) why e in
      subst (IsUnloaded command inputs libs) f.2 (loaded_fault inputs libs (wanted command) (rounds.Refused f.0) f.1),
  λ c. from why c,
)
  where
    from : (other : Stop) → IsUnloaded command inputs libs other → files_for command inputs libs ≡ Err (fault.Stop other)
    from (stop.Usage word rule) c = absurd c
    from (stop.ReadFault path) c = absurd c
    from (stop.Refused refused) c = ap (map_err load_fault_for) (fault_loaded inputs libs (wanted command) (rounds.Refused refused) c)

-- ---- the libraries

module _ (look : List ℕ → File) (command : Command) (stubs : List NamedStub) where
  -- the same libraries, or the same fault
  libraries_one : (count more : ℕ) (x y : Result LibraryGraph BindFault) (end : Result Bound BindFault) → Shows count x end → Shows more y end → IfOk x IsWhole → IfOk y IsWhole → x ≡ y
  libraries_one count more (Ok graph) (Ok other) (Ok bound) p q whole also =
      ap Ok (whole_one graph other whole also (p.libraries ∙ sym q.libraries) (p.documents ∙ sym q.documents) (p.links ∙ sym q.links))
  libraries_one count more (Ok graph) (Err why) (Ok bound) p q whole also = absurd q
  libraries_one count more (Ok graph) y (Err fault) p q whole also = absurd p
  libraries_one count more (Err why) y (Ok bound) p q whole also = absurd p
  libraries_one count more (Err why) (Ok graph) (Err fault) p q whole also = absurd q
  libraries_one count more (Err why) (Err other) (Err fault) p q whole also = ap Err (p ∙ sym q)

  bound_one : IsOne (BoundBy look command stubs)
  bound_one a b old new older newer p q =
      let same : (bound_after command stubs q.count look).end ≡ (bound_after command stubs p.count look).end =
      ap (λ (o : Outcome Bound BindFault). o.end) (outcomes_one look command stubs q.count p.count q.last p.last) in
      let bound = libraries_one p.count q.count p.bound q.bound (bound_after command stubs p.count look).end p.is (subst (Shows q.count q.bound) same q.is) p.whole q.whole in
      told_one (map_err bind_fault_for q.bound) a b (subst (λ (r : Result LibraryGraph BindFault). IsToldBy (map_err bind_fault_for r) a) bound p.told) q.told

  unbound : Stops (BoundBy look command stubs) (IsUnbound look command stubs)
  unbound old why new = (
    λ p. to p p.bound (bound_after command stubs p.count look).end refl p.is ((told_stop (map_err bind_fault_for p.bound) why).0 p.told),
    λ c. record {
      count = c.count;
      last = subst (IsLast c.count) (sym c.ends) tt;
      bound = Err c.end;
      is = subst (Shows c.count (Err c.end)) (sym c.ends) refl;
      whole = tt;
      told = (told_stop (map_err {A = LibraryGraph} bind_fault_for (Err c.end)) why).1 (ap (λ w. Err w) c.is);
      tries = c.tries;
    },
  )
    where
      same_end : {x y : StepFault Stop} → ◌≡◌ {A = Result LibraryGraph (StepFault Stop)} (Err x) (Err y) → x ≡ y
      same_end e = cc

      to : (p : BoundBy look command stubs old (Err why) new) (r : Result LibraryGraph BindFault) (end : Result Bound BindFault) → (bound_after command stubs p.count look).end ≡ end → Shows p.count r end
          → map_err bind_fault_for r ≡ Err (fault.Stop why) → IsUnbound look command stubs old why new
      to p (Ok libs) end is shows e = absurd cc
      to p (Err why) (Ok bound) is shows e = absurd shows
      to p (Err why) (Err other) is shows e = record { count = p.count; end = why; ends = is ∙ ap (λ w. Err w) (sym shows); is = same_end e; tries = p.tries }

-- ---- the image

-- the files of a command's inputs
module _ (command : Command) (libs : LibraryGraph) (inputs : List Input) (loaded : Loaded) (order : AreInOrder inputs) (is : loaded_of inputs libs (wanted command) ≡ Ok loaded) where
  linked_one : (a b : Result (List ℕ) Refusal) → IsLinked command libs loaded.files a → IsLinked command libs loaded.files b → a ≡ b
  linked_one =
      let names = wanted command in
      link_one command libs loaded.files (loaded_rises inputs libs names loaded order is) (loaded_cut inputs libs names loaded is) (loaded_referred inputs libs names loaded is) (loaded_low inputs libs names loaded is) (loaded_unwinds inputs libs names loaded is)

  image_one : Agree (IsImage command libs loaded.files) (IsImage command libs loaded.files)
  image_one a b p q = by a b p q
    where
      refused_as : (x : Result (List ℕ) Refusal) → Result (List ℕ) Stop
      refused_as (Ok image) = Ok image
      refused_as (Err why) = Err (stop.Refused why)

      by : (a b : Result (List ℕ) Stop) → IsImage command libs loaded.files a → IsImage command libs loaded.files b → a ≡ b
      by (Ok x) (Ok y) p q = ap refused_as (linked_one (Ok x) (Ok y) p q)
      by (Ok x) (Err (stop.Refused w)) p q = ap refused_as (linked_one (Ok x) (Err w) p q)
      by (Err (stop.Refused v)) (Ok y) p q = ap refused_as (linked_one (Err v) (Ok y) p q)
      by (Err (stop.Refused v)) (Err (stop.Refused w)) p q = ap refused_as (linked_one (Err v) (Err w) p q)
      by (Err (stop.Usage word rule)) b p q = absurd p
      by (Err (stop.ReadFault path)) b p q = absurd p
      by a (Err (stop.Usage word rule)) p q = absurd q
      by a (Err (stop.ReadFault path)) p q = absurd q

unlinked : (command : Command) (libs : LibraryGraph) (files : List LoadedFile) (why : Stop) → IsImage command libs files (Err why) ↔ IsUnlinked command libs files why
unlinked command libs files (stop.Usage word rule) = ((λ p. p), (λ c. c))
unlinked command libs files (stop.ReadFault path) = ((λ p. p), (λ c. c))
unlinked command libs files (stop.Refused why) = link_stops command libs files why

-- ---- all steps, a line for each

-- the positions of what was opened rise
opened_order : (command : Command) (found : List Content) (contents : Contents) → contents_with command found ≡ Ok contents → AreInOrder contents.inputs
opened_order command found contents e = keeps_order (inputs_with command found) contents (inputs_rise command found) ((mapped_value load_fault_for (opened.contents_of (inputs_with command found)) contents).0 e)

lawful : (look : List ℕ → File) (words : List (List ℕ)) → IsLawful (plan_by look words) (causes look words)
lawful look words =
    told_law _ _ (misused words) (command_is words) (λ command read.
    unless_law _ _ (crowded command) (λ few.
    asks_law _ _ (fetched_one look command) (absent look command) (λ found old new there.
    told_law _ _ (faulty command found) (λ contents. mapped_value load_fault_for (opened.contents_of (inputs_with command found)) contents) (λ contents are.
    asks_law _ _ (bound_one look command contents.stubs) (unbound look command contents.stubs) (λ libs before later bound.
    told_law _ _ (unloaded command contents.inputs libs) (λ loaded. mapped_value load_fault_for (loaded_of contents.inputs libs (wanted command)) loaded) (λ loaded e.
    tries_law _ _ (image_one command libs contents.inputs loaded (opened_order command found contents are) ((mapped_value load_fault_for (loaded_of contents.inputs libs (wanted command)) loaded).0 e)) (unlinked command libs loaded.files) (λ image is.
    last_law (plan_of command image))))))))

pub one_verdict : (words : List (List ℕ)) (look : List ℕ → File) (a b : Result Plan Stop) → IsVerdict words look a → IsVerdict words look b → a ≡ b
unfolding IsVerdictAfter
one_verdict words look a b p q = (lawful look words).one a b [] p.0 [] q.0 p.1 q.1

pub stop_causes : (words : List (List ℕ)) (look : List ℕ → File) (why : Stop) (tried : List (List ℕ)) → IsVerdictAfter words look (Err why) tried ↔ StopCause words look why tried
unfolding IsVerdictAfter
stop_causes words look why tried = (lawful look words).stops [] why tried

pub same_command : (words others : List (List ℕ)) (look : List ℕ → File) (given : Result Plan Stop) (tried : List (List ℕ)) → commanded words ≡ commanded others → IsVerdictAfter words look given tried → IsVerdictAfter others look given tried
unfolding IsVerdictAfter
same_command words others look given tried same is =
    subst (λ (r : Result Command (StepFault Stop)). tries (IsToldBy r) (λ command. after_command look command) [] given tried) same is
