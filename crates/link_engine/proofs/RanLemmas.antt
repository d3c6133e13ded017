-- A link's line of steps that was gone: what files told, and what the line gives by it.
use Rattle.std.specs.Prelude.{IfOk}
use Rattle.std.proofs.Common.{◌≡◌, ◌+◌, ◌-◌, inl, inr, ℕ, zero, suc, List, [], ◌∷◌, ◌++◌, length, min, take, Option, Some, None, Result, Ok, Err, IsErrAnd, refl, sym, ap, ◌∙◌, subst, append_assoc, arith}
use Rattle.std.proofs.lemmas.List.{append-nil, append_cancel_left, take_all}
use Rattle.std.proofs.lemmas.Bool.{cases_lt}
use Rattle.std.proofs.lemmas.Result.{err_from_is_err_and}
use Rattle.file_cache.proofs.RunLemmas.{gave-first, none_asked, paths_both, take_first, take_more, told_both}
use Rattle.file_cache.specs.Kept.{FilesSeen}
use Rattle.file_cache.specs.Program.{File, Outcome}
use Rattle.file_cache.specs.Runs.{Gave, IsReal, Runs, fresh, paths_in}
use Rattle.input_fetch.specs.Contents.{IsFetchStop, contents_of, places_of}
use Rattle.input_fetch.specs.declared.content.Content.{Content}
use Rattle.input_fetch.specs.declared.stop.FetchStop.{FetchStop}
use Rattle.input_fetch.specs.declared.stop.FetchStop.TheVariants as fetch
use Rattle.lib_bind.proofs.EndLemmas.{bound_stays, tried_goes_on}
use Rattle.lib_bind.specs.Closing.{IsBindFault}
use Rattle.lib_bind.specs.Closure.{Bound, IsLast, Shows, bound_after}
use Rattle.lib_bind.specs.Graph.{IsWhole}
use Rattle.lib_bind.specs.declared.bind_fault.BindFault.{BindFault}
use Rattle.lib_bind.specs.declared.bind_fault.BindFault.TheVariants as bind
use Rattle.lib_bind.specs.declared.library.LibraryGraph.{LibraryGraph}
use Rattle.lib_bind.specs.declared.named.NamedStub.{NamedStub}
use Rattle.link_steps.proofs.AskLemmas.{asks_case, asks_ends, asks_on, told_case, told_on, unless_case, unless_on}
use Rattle.link_steps.proofs.StepLemmas.{told_stop, told_value}
use Rattle.link_steps.specs.Asking.{Acts, Reply, asks, tries, unless}
use Rattle.link_steps.specs.Steps.{IsToldBy, Meets, OnStop, map_err}
use Rattle.link_steps.specs.declared.fault.StepFault.{StepFault}
use Rattle.link_steps.specs.declared.fault.StepFault.TheVariants as fault
use Rattle.command_line.specs.declared.command.Command.{Command}
use Rattle.mo_outside.specs.Answers.{Answer, Exchange}
use Rattle.mo_types.specs.Gives.{Gives}
use Rattle.link_engine.specs.Answered.{Ran}
use Rattle.link_engine.specs.Asks.{BindsLibraries, FetchesInputs, IsTold}
use Rattle.link_engine.specs.Bound.{BoundBy}
use Rattle.link_engine.specs.Fetched.{FetchedBy}
use Rattle.link_engine.specs.Stop.{bind_fault_for, fetch_fault_for}
use Rattle.link_engine.specs.declared.stop.Stop.{Stop}

abbrev Paths : Type 0
Paths = List (List ℕ)

abbrev Line : Type 0 → Type 1
Line A = (List ℕ → File) → Reply Paths Stop A

same_value : {A E : Type 0} {x y : A} → ◌≡◌ {A = Result A E} (Ok x) (Ok y) → x ≡ y
same_value e = cc

same_fault : {A E : Type 0} {x y : E} → ◌≡◌ {A = Result A E} (Err x) (Err y) → x ≡ y
same_fault e = cc

-- ---- what a call returned

-- what a line gives, and the paths that it tried, where files told something
abbrev Reached : {S A : Type 0} → Line A → List Exchange → FilesSeen S → (List ℕ → File) → Paths → Result A Stop → Type 0
Reached line told old look start given = (tried : Paths) × line look start given (start ++ tried) × (paths_in told ≡ fresh (paths_in old.kept) tried)

-- what follows is met too
pub met_too : {A : Type 0} (P Q : Result A Stop → Type 0) (result : Result A (StepFault Stop)) → ((given : Result A Stop) → P given → Q given) → Meets P result → Meets Q result
met_too P Q (Ok x) on p = on (Ok x) p
met_too P Q (Err (fault.Stop why)) on p = on (Err why) p
met_too P Q (Err fault.OutOfMemory) on p = tt

-- a fault is handed on
handed_on : {A : Type 0} (Q : Result A Stop → Type 0) (end : StepFault Stop) (result : Result A (StepFault Stop)) → IsErrAnd result (λ passed. passed ≡ end) → OnStop end (λ why. Q (Err why)) → Meets Q result
handed_on {A = A} Q end result passes is =
    let passed = err_from_is_err_and result passes in
    subst (λ (r : Result A (StepFault Stop)). Meets Q r) (sym (passed.1 ∙ ap Err passed.2)) is

-- ---- lines that try no path that isn't told

-- paths that are tried come after those before
abbrev pub Extends : {A : Type 0} → Reply Paths Stop A → Type 0
Extends {A = A} may = (start : Paths) (given : Result A Stop) (end : Paths) → may start given end → (tried : Paths) × (end ≡ start ++ tried)

-- ---- a line that asks for nothing

pub quiet_ran : {S A : Type 0} (fetches : S → List ℕ → Answer → S → Type 0) (line : Line A) (result : Result A (StepFault Stop)) (seen : FilesSeen S)
    → ((look : List ℕ → File) (start : Paths) → Acts (line look) start result start) → Ran fetches line result seen seen
quiet_ran {A = A} fetches line result seen acts = record {
  told = [];
  files = none_asked fetches seen;
  gives = λ look gave start. by look start result (acts look start);
  some = λ look gave start tried given is. (0, refl);
}
  where
    by : (look : List ℕ → File) (start : Paths) (r : Result A (StepFault Stop)) → Acts (line look) start r start → Meets (λ given. (tried : Paths) × line look start given (start ++ tried) × ([] ≡ fresh (paths_in seen.kept) tried)) r
    by look start (Ok x) is = ([], subst (line look start (Ok x)) (sym (append-nil start)) is, refl)
    by look start (Err (fault.Stop why)) is = ([], subst (line look start (Err why)) (sym (append-nil start)) is, refl)
    by look start (Err fault.OutOfMemory) is = tt

-- ---- steps that ask for nothing

pub told_ran : {S A B : Type 0} (fetches : S → List ℕ → Answer → S → Type 0) (r : Result A (StepFault Stop)) (line : A → Line B) (x : A) (result : Result B (StepFault Stop)) (old new : FilesSeen S) → r ≡ Ok x
    → Ran fetches (line x) result old new → Ran fetches (λ look. tries (IsToldBy r) (λ y. line y look)) result old new
told_ran {A = A} fetches r line x result old new e ran = record {
  told = ran.told;
  files = ran.files;
  gives = λ look gave start. met_too (Reached (line x) ran.told old look start) (Reached (λ l. tries (IsToldBy r) (λ y. line y l)) ran.told old look start) result (λ given p. (p.0, told_on r (λ y. line y look) x start given (start ++ p.0) e p.1, p.2)) (ran.gives look gave start);
  some = λ look gave start tried given is.
      told_case r (λ y. line y look) start given (start ++ tried) _ is
      (λ why stop same more. absurd (let h : ◌≡◌ {A = Result A (StepFault Stop)} (Err (fault.Stop why)) (Ok x) = sym stop ∙ e in cc))
      (λ y also follows. ran.some look gave start tried given (subst (λ z. line z look start given (start ++ tried)) (same_value (sym also ∙ e)) follows));
}

pub unless_ran : {S B : Type 0} (fetches : S → List ℕ → Answer → S → Type 0) (r : Option Stop) (line : Line B) (result : Result B (StepFault Stop)) (old new : FilesSeen S) → r ≡ None
    → Ran fetches line result old new → Ran fetches (λ look. unless r (line look)) result old new
unless_ran fetches r line result old new e ran = record {
  told = ran.told;
  files = ran.files;
  gives = λ look gave start. met_too (Reached line ran.told old look start) (Reached (λ l. unless r (line l)) ran.told old look start) result (λ given p. (p.0, unless_on r (line look) start given (start ++ p.0) e p.1, p.2)) (ran.gives look gave start);
  some = λ look gave start tried given is.
      unless_case r (line look) start given (start ++ tried) _ is
      (λ why stop same more. absurd (let h : ◌≡◌ {A = Option Stop} (Some why) None = sym stop ∙ e in cc))
      (λ also follows. ran.some look gave start tried given follows);
}

-- ---- the inputs

value_told : {A E : Type 0} (f : E → StepFault Stop) (end : Result A E) (x : A) → IsTold f end (Ok x) → end ≡ Ok x
value_told f (Ok y) x is = ap Ok (sym (same_value is))
value_told f (Err why) x is = absurd cc

fault_told : {A E : Type 0} (f : E → StepFault Stop) (end : Result A E) (why : StepFault Stop) → IsTold f end (Err why) → (fault : E) × (end ≡ Err fault) × (f fault ≡ why)
fault_told f (Ok y) why is = absurd cc
fault_told {A = A} f (Err fault) why is = (fault, refl, sym (same_fault {A = A} is))

-- a value that is told is the end's
end_told : {A E : Type 0} (f : E → StepFault Stop) (end : Result A E) (x : A) → end ≡ Ok x → IsToldBy (map_err f end) (Ok x)
end_told f end x is = (told_value (map_err f end) x).1 (ap (map_err f) is)

one_told : {A E : Type 0} (f : E → StepFault Stop) (end : Result A E) (x y : A) → end ≡ Ok y → IsToldBy (map_err f end) (Ok x) → x ≡ y
one_told f end x y is told = sym (same_value (sym (ap (map_err f) is) ∙ (told_value (map_err f end) x).0 told))

none_told : {A E : Type 0} (f : E → StepFault Stop) (end : Result A E) (x : A) (why : Stop) → end ≡ Ok x → IsToldBy (map_err f end) (Err why) → ⊥
none_told {A = A} f end x why is told =
    let h : ◌≡◌ {A = Result A (StepFault Stop)} (Ok x) (Err (fault.Stop why)) = sym (ap (map_err f) is) ∙ (told_stop (map_err f end) why).0 told in
    absurd cc

-- so is a stop
stop_told : {A E : Type 0} (f : E → StepFault Stop) (end : Result A E) (fault_is : E) (why : Stop) → end ≡ Err fault_is → f fault_is ≡ fault.Stop why → IsToldBy (map_err f end) (Err why)
stop_told f end fault_is why is same = (told_stop (map_err f end) why).1 (ap (map_err f) is ∙ ap (λ w. Err w) same)

module _ {S B : Type 0} (fetches : S → List ℕ → Answer → S → Type 0) (command : Command) (rest : List Content → Line B) where
  abbrev Fetching : Line B
  Fetching look = asks (FetchedBy look command) (λ found. rest found look)

  -- the paths that are tried for inputs
  abbrev input_paths : (List ℕ → File) → Paths
  input_paths look = (contents_of (places_of command) look).tried

  tried_then : (look : List ℕ → File) (start then tried : Paths) (given : Result B Stop) (found : List Content) → ((x : List Content) → Extends (rest x look)) → then ≡ start ++ input_paths look
      → rest found look then given (start ++ tried) → (more : Paths) × (tried ≡ input_paths look ++ more)
  tried_then look start then tried given found extends is follows =
      let more = extends found then given (start ++ tried) follows in
      (more.0, append_cancel_left start tried (input_paths look ++ more.0) (more.1 ∙ ap (λ (ps : Paths). ps ++ more.0) is ∙ append_assoc start (input_paths look) more.0))

  pub fetch_ran : (found : List Content) (result : Result B (StepFault Stop)) (old mid new : FilesSeen S) → FetchesInputs fetches command (Ok found) old mid → ((look : List ℕ → File) (x : List Content) → Extends (rest x look))
      → Ran fetches (rest found) result mid new → Ran fetches Fetching result old new
  fetch_ran found result old mid new first extends ran =
      let runs : Runs fetches IsFetchStop (contents_of (places_of command)) (Ok found) old mid =
      subst (λ (r : Result (List Content) FetchStop). Runs fetches IsFetchStop (contents_of (places_of command)) r old mid) (value_told fetch_fault_for first.end found first.told) first.runs in
      let a : List Exchange = runs.asked in
      let b : List Exchange = ran.told in
      let before : (look : List ℕ → File) → Gave look (old.kept ++ (a ++ b)) → Gave look (old.kept ++ a) = λ look gave. gave-first look (old.kept ++ a) b (subst (Gave look) (sym (append_assoc old.kept a b)) gave) in
      let after : (look : List ℕ → File) → Gave look (old.kept ++ (a ++ b)) → Gave look (mid.kept ++ b) =
      λ look gave. subst (Gave look) (sym (ap (λ (k : List Exchange). k ++ b) runs.kept ∙ append_assoc old.kept a b)) gave in
      record {
        told = a ++ b;
        files = told_both fetches a b old mid new runs.kept runs.files ran.files;
        gives = λ look gave start. met_too (Reached (rest found) b mid look (start ++ input_paths look)) (Reached Fetching (a ++ b) old look start) result
            (λ given p.
            let tried : Paths = input_paths look in (
              tried ++ p.0,
              asks_on (FetchedBy look command) (λ x. rest x look) found start (start ++ tried) given (start ++ (tried ++ p.0))
                  (record { told = end_told fetch_fault_for (contents_of (places_of command) look).end found (runs.gives look (before look gave)); tries = refl })
                  (subst (rest found look (start ++ tried) given) (append_assoc start tried p.0) p.1),
              paths_both old.kept mid.kept a b tried p.0 runs.kept (runs.whole tt look (before look gave)) p.2,
            ))
            (ran.gives look (after look gave) (start ++ input_paths look));
        some = λ look gave start tried given is.
            asks_case (FetchedBy look command) (λ x. rest x look) start given (start ++ tried) _ is
            (λ why by stop. absurd (none_told fetch_fault_for (contents_of (places_of command) look).end found why (runs.gives look (before look gave)) by.told))
            (λ x then by follows.
            let same : x ≡ found = one_told fetch_fault_for (contents_of (places_of command) look).end x found (runs.gives look (before look gave)) by.told in
            let more = tried_then look start then tried given x (extends look) by.tries follows in
            let here : rest found look (start ++ input_paths look) given ((start ++ input_paths look) ++ more.0) =
            subst (λ (f : List Content). rest f look (start ++ input_paths look) given ((start ++ input_paths look) ++ more.0)) same
            (subst (λ (t : Paths). rest x look t given ((start ++ input_paths look) ++ more.0)) by.tries
            (subst (rest x look then given) (ap (λ (ps : Paths). start ++ ps) more.1 ∙ sym (append_assoc start (input_paths look) more.0)) follows)) in
            let part = ran.some look (after look gave) (start ++ input_paths look) more.0 given here in (
              length (input_paths look) + part.0,
              paths_both old.kept mid.kept a b (input_paths look) (take part.0 more.0) runs.kept (runs.whole tt look (before look gave)) part.1
                  ∙ ap (fresh (paths_in old.kept))
                  (sym (take_more (input_paths look) more.0 part.0 (length (input_paths look) + part.0) refl)
                  ∙ ap (take (length (input_paths look) + part.0)) (sym more.1)),
            ));
      }

  pub fetch_stopped : (end : StepFault Stop) (result : Result B (StepFault Stop)) (old new : FilesSeen S) → FetchesInputs fetches command (Err end) old new → ((look : List ℕ → File) (x : List Content) → Extends (rest x look))
      → IsErrAnd result (λ passed. passed ≡ end) → Ran fetches Fetching result old new
  fetch_stopped end result old new first extends passes =
      let is = fault_told fetch_fault_for first.end end first.told in
      let runs : Runs fetches IsFetchStop (contents_of (places_of command)) (Err is.0) old new =
      subst (λ (r : Result (List Content) FetchStop). Runs fetches IsFetchStop (contents_of (places_of command)) r old new) is.1 first.runs in
      record {
        told = runs.asked;
        files = runs.files;
        gives = λ look gave start. handed_on (Reached Fetching runs.asked old look start) end result passes (by is.0 runs is.2 look gave start);
        some = λ look gave start tried given line.
            let part = runs.some look gave in
            asks_case (FetchedBy look command) (λ x. rest x look) start given (start ++ tried) _ line
            (λ why by stop. (part.0, part.1 ∙ ap (λ (ps : Paths). fresh (paths_in old.kept) (take part.0 ps)) (sym (append_cancel_left start tried (input_paths look) by.tries))))
            (λ x then by follows.
            let more = tried_then look start then tried given x (extends look) by.tries follows in (
              min part.0 (length (input_paths look)),
              part.1 ∙ ap (fresh (paths_in old.kept)) (sym (take_first (input_paths look) more.0 part.0) ∙ ap (take (min part.0 (length (input_paths look)))) (sym more.1)),
            ));
      }
    where
      by : (why : FetchStop) (runs : Runs fetches IsFetchStop (contents_of (places_of command)) (Err why) old new) → fetch_fault_for why ≡ end → (look : List ℕ → File) → Gave look (old.kept ++ runs.asked) → (start : Paths)
          → OnStop end (λ stop. (tried : Paths) × Fetching look start (Err stop) (start ++ tried) × (paths_in runs.asked ≡ fresh (paths_in old.kept) tried))
      by why runs same look gave start = subst (λ (e : StepFault Stop). OnStop e (λ stop. (tried : Paths) × Fetching look start (Err stop) (start ++ tried) × (paths_in runs.asked ≡ fresh (paths_in old.kept) tried))) same (at why runs look gave)
        where
          at : (why : FetchStop) (runs : Runs fetches IsFetchStop (contents_of (places_of command)) (Err why) old new) (look : List ℕ → File) → Gave look (old.kept ++ runs.asked)
              → OnStop (fetch_fault_for why) (λ stop. (tried : Paths) × Fetching look start (Err stop) (start ++ tried) × (paths_in runs.asked ≡ fresh (paths_in old.kept) tried))
          at (fetch.ReadFault path) runs look gave = (
            input_paths look,
            asks_ends (FetchedBy look command) (λ x. rest x look) _ start _ (start ++ input_paths look) (record { told = stop_told fetch_fault_for (contents_of (places_of command) look).end _ _ (runs.gives look gave tt) refl; tries = refl }) refl,
            runs.whole tt look gave,
          )
          at (fetch.Missing path) runs look gave = (
            input_paths look,
            asks_ends (FetchedBy look command) (λ x. rest x look) _ start _ (start ++ input_paths look) (record { told = stop_told fetch_fault_for (contents_of (places_of command) look).end _ _ (runs.gives look gave tt) refl; tries = refl }) refl,
            runs.whole tt look gave,
          )
          at fetch.OutOfMemory runs look gave = tt

-- ---- the libraries

-- the paths that are tried up to some request are the first of those that are tried up to the last one
tried_by : (look : List ℕ → File) (command : Command) (stubs : List NamedStub) (count last : ℕ) → IsLast last (bound_after command stubs last look).end
    → (k : ℕ) × ((bound_after command stubs count look).tried ≡ take k (bound_after command stubs last look).tried)
tried_by look command stubs count last ends = elim (cases_lt count last) [
  | inl low ↦
      let more : (last - count) + count ≡ last = omega (arith, low) in (
        length (bound_after command stubs count look).tried,
        tried_goes_on look command stubs (last - count) count
            ∙ ap (λ (n : ℕ). take (length (bound_after command stubs count look).tried) (bound_after command stubs n look).tried) more,
      )
  | inr high ↦
      let more : (count - last) + last ≡ count = omega (arith, high) in (
        length (bound_after command stubs last look).tried,
        ap (λ (n : ℕ). (bound_after command stubs n look).tried) (sym more)
            ∙ ap (λ (o : Outcome Bound BindFault). o.tried) (bound_stays look command stubs (count - last) last ends)
            ∙ sym (take_all (length (bound_after command stubs last look).tried) (bound_after command stubs last look).tried (omega arith)),
      )
]

-- first ones of first ones
take_take : {A : Type 0} (n k : ℕ) (xs : List A) → (m : ℕ) × (take n (take k xs) ≡ take m xs)
take_take zero k xs = (0, refl)
take_take (suc n) zero xs = (0, refl)
take_take (suc n) (suc k) [] = (0, refl)
take_take (suc n) (suc k) (x ∷ xs) = let rest = take_take n k xs in (suc rest.0, ap (λ more. x ∷ more) rest.1)

-- after so many requests none is left, or there was a fault
shown_last : (count : ℕ) (end : Result LibraryGraph BindFault) (bound : Result Bound BindFault) → Shows count end bound → IsLast count bound
shown_last count (Ok graph) (Ok bound) is = is.done
shown_last count (Ok graph) (Err why) is = tt
shown_last count (Err why) (Ok bound) is = absurd is
shown_last count (Err why) (Err other) is = tt

module _ {S B : Type 0} (fetches : S → List ℕ → Answer → S → Type 0) (command : Command) (stubs : List NamedStub) (rest : LibraryGraph → Line B) where
  abbrev Binding : Line B
  Binding look = asks (BoundBy look command stubs) (λ libs. rest libs look)

  -- what follows tries nothing
  abbrev IsQuiet : Type 0
  IsQuiet = (look : List ℕ → File) (libs : LibraryGraph) (start : Paths) (given : Result B Stop) (end : Paths) → rest libs look start given end → end ≡ start

  -- the paths that a line tried are those up to the last request
  bound_paths : IsQuiet → (look : List ℕ → File) (start tried : Paths) (given : Result B Stop) (count n : ℕ) → Binding look start given (start ++ tried) → (m : ℕ) × (take n (bound_after command stubs count look).tried ≡ take m tried)
  bound_paths quiet look start tried given count n line =
      asks_case (BoundBy look command stubs) (λ libs. rest libs look) start given (start ++ tried) _ line
      (λ why by stop. at by.count by.last (append_cancel_left start tried _ by.tries))
      (λ libs then by follows. at by.count by.last (append_cancel_left start tried _ (quiet look libs then given (start ++ tried) follows ∙ by.tries)))
    where
      at : (last : ℕ) → IsLast last (bound_after command stubs last look).end → tried ≡ (bound_after command stubs last look).tried → (m : ℕ) × (take n (bound_after command stubs count look).tried ≡ take m tried)
      at last ends same =
          let by = tried_by look command stubs count last ends in
          let first = take_take n by.0 (bound_after command stubs last look).tried in
          (first.0, ap (take n) by.1 ∙ first.1 ∙ ap (take first.0) (sym same))

  -- what was asked for, however it ended
  asked_some : IsQuiet → (count : ℕ) (bound : Result Bound BindFault) (old new : FilesSeen S) (runs : Runs fetches IsBindFault (bound_after command stubs count) bound old new) (look : List ℕ → File) → Gave look (old.kept ++ runs.asked)
      → (start tried : Paths) (given : Result B Stop) → Binding look start given (start ++ tried) → (m : ℕ) × (paths_in runs.asked ≡ fresh (paths_in old.kept) (take m tried))
  asked_some quiet count bound old new runs look gave start tried given line =
      let part = runs.some look gave in
      let first = bound_paths quiet look start tried given count part.0 line in
      (first.0, part.1 ∙ ap (fresh (paths_in old.kept)) first.1)

  pub bind_ran : (libs : LibraryGraph) (result : Result B (StepFault Stop)) (old new : FilesSeen S) → BindsLibraries fetches command stubs (Ok libs) old new → IsQuiet
      → ((look : List ℕ → File) (start : Paths) → Acts (rest libs look) start result start) → Ran fetches Binding result old new
  bind_ran libs result old new binds quiet acts =
      let end_is : binds.end ≡ Ok libs = value_told bind_fault_for binds.end libs binds.told in
      let runs = binds.closes.runs in
      let count : ℕ = binds.closes.count in
      let shows : Shows count (Ok libs) binds.closes.bound = subst (λ (r : Result LibraryGraph BindFault). Shows count r binds.closes.bound) end_is binds.closes.shows in
      let whole : IsWhole libs = subst (λ (r : Result LibraryGraph BindFault). IfOk r IsWhole) end_is binds.whole in
      record {
        told = runs.asked;
        files = runs.files;
        gives = λ look gave start.
            let tried : Paths = (bound_after command stubs count look).tried in
            let is : (bound_after command stubs count look).end ≡ binds.closes.bound = ended binds.closes.bound shows look (runs.gives look gave) in
            by look start tried
            (record {
              count = count;
              last = subst (IsLast count) (sym is) (shown_last count (Ok libs) binds.closes.bound shows);
              bound = Ok libs;
              is = subst (Shows count (Ok libs)) (sym is) shows;
              whole = whole;
              told = refl;
              tries = refl;
            })
            (runs.whole (real binds.closes.bound shows) look gave) result (acts look (start ++ tried));
        some = λ look gave start tried given line. asked_some quiet count binds.closes.bound old new runs look gave start tried given line;
      }
    where
      ended : (bound : Result Bound BindFault) → Shows binds.closes.count (Ok libs) bound → (look : List ℕ → File) → Gives IsBindFault bound (bound_after command stubs binds.closes.count look).end → (bound_after command stubs binds.closes.count look).end ≡ bound
      ended (Ok bound) shows look gives = gives
      ended (Err why) shows look gives = absurd shows

      real : (bound : Result Bound BindFault) → Shows binds.closes.count (Ok libs) bound → IsReal IsBindFault bound
      real (Ok bound) shows = tt
      real (Err why) shows = absurd shows

      by : (look : List ℕ → File) (start tried : Paths) → BoundBy look command stubs start (Ok libs) (start ++ tried) → paths_in binds.closes.runs.asked ≡ fresh (paths_in old.kept) tried → (r : Result B (StepFault Stop)) → Acts (rest libs look) (start ++ tried) r (start ++ tried)
          → Meets (λ given. (more : Paths) × Binding look start given (start ++ more) × (paths_in binds.closes.runs.asked ≡ fresh (paths_in old.kept) more)) r
      by look start tried bound paths (Ok x) is = (tried, asks_on (BoundBy look command stubs) (λ l. rest l look) libs start (start ++ tried) (Ok x) (start ++ tried) bound is, paths)
      by look start tried bound paths (Err (fault.Stop why)) is = (tried, asks_on (BoundBy look command stubs) (λ l. rest l look) libs start (start ++ tried) (Err why) (start ++ tried) bound is, paths)
      by look start tried bound paths (Err fault.OutOfMemory) is = tt

  pub bind_stopped : (end : StepFault Stop) (result : Result B (StepFault Stop)) (old new : FilesSeen S) → BindsLibraries fetches command stubs (Err end) old new → IsQuiet
      → IsErrAnd result (λ passed. passed ≡ end) → Ran fetches Binding result old new
  bind_stopped end result old new binds quiet passes =
      let is = fault_told bind_fault_for binds.end end binds.told in
      let runs = binds.closes.runs in
      let count : ℕ = binds.closes.count in
      let shows : Shows count (Err is.0) binds.closes.bound = subst (λ (r : Result LibraryGraph BindFault). Shows count r binds.closes.bound) is.1 binds.closes.shows in
      record {
        told = runs.asked;
        files = runs.files;
        gives = λ look gave start. handed_on (Reached Binding runs.asked old look start) end result passes
            (subst (λ (e : StepFault Stop). OnStop e (λ stop. (tried : Paths) × Binding look start (Err stop) (start ++ tried) × (paths_in runs.asked ≡ fresh (paths_in old.kept) tried))) is.2
            (at is.0 binds.closes.bound shows look start (runs.gives look gave) (λ real. runs.whole real look gave)));
        some = λ look gave start tried given line. asked_some quiet count binds.closes.bound old new runs look gave start tried given line;
      }
    where
      asked : List Exchange
      asked = binds.closes.runs.asked

      stops : (why : BindFault) (stop : Stop) (look : List ℕ → File) (start : Paths) → bind_fault_for why ≡ fault.Stop stop → (bound_after command stubs binds.closes.count look).end ≡ Err why
          → paths_in asked ≡ fresh (paths_in old.kept) (bound_after command stubs binds.closes.count look).tried → (tried : Paths) × Binding look start (Err stop) (start ++ tried) × (paths_in asked ≡ fresh (paths_in old.kept) tried)
      stops why stop look start e ends paths = (
        (bound_after command stubs binds.closes.count look).tried,
        asks_ends (BoundBy look command stubs) (λ l. rest l look) stop start (Err stop) _
            (record {
              count = binds.closes.count;
              last = subst (IsLast binds.closes.count) (sym ends) tt;
              bound = Err why;
              is = subst (Shows binds.closes.count (Err why)) (sym ends) refl;
              whole = tt;
              told = stop_told {A = LibraryGraph} bind_fault_for (Err why) why stop refl e;
              tries = refl;
            }) refl,
        paths,
      )

      at : (why : BindFault) (bound : Result Bound BindFault) → Shows binds.closes.count (Err why) bound → (look : List ℕ → File) (start : Paths) → Gives IsBindFault bound (bound_after command stubs binds.closes.count look).end
          → (IsReal IsBindFault bound → paths_in asked ≡ fresh (paths_in old.kept) (bound_after command stubs binds.closes.count look).tried)
          → OnStop (bind_fault_for why) (λ stop. (tried : Paths) × Binding look start (Err stop) (start ++ tried) × (paths_in asked ≡ fresh (paths_in old.kept) tried))
      at why (Ok bound) shows look start gives paths = absurd shows
      at (bind.ReadFault path) (Err other) shows look start gives paths =
          let real : IsBindFault other = subst IsBindFault shows tt in
          stops (bind.ReadFault path) _ look start refl (gives real ∙ ap Err (sym shows)) (paths real)
      at (bind.Refused refusal) (Err other) shows look start gives paths =
          let real : IsBindFault other = subst IsBindFault shows tt in
          stops (bind.Refused refusal) _ look start refl (gives real ∙ ap Err (sym shows)) (paths real)
      at bind.OutOfMemory (Err other) shows look start gives paths = tt
