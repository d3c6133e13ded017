-- A path that couldn't be read is the last one that is tried, and the verdict tells it.
use Rattle.std.proofs.Common.{◌≡◌, ◌≢◌, ◌⊎◌, ◌^◌, inl, inr, ℕ, zero, suc, nat_le, nat_lt, length, get_or, slice_get, List, [], ◌∷◌, ◌++◌, if◌then◌else◌, Bool, true, false, cond, Option, Some, None, Result, Ok, Err, refl, sym, ap, ◌∙◌, subst, append_assoc, bytes_eq}
use Rattle.std.specs.List.{list_any}
use Rattle.std.specs.Map.{lookup}
use Rattle.file_cache.specs.Program.{File, There, Absent, Unread, Program, ◌>>=◌, and_then, ends, file_at, read_as}
use Rattle.file_cache.specs.Runs.{AllRead, Gave, IsTold, file_told, fresh, paths_in, told_as}
use Rattle.input_fetch.specs.Contents.{content_of, contents_of, first_of, places_of, there_or}
use Rattle.input_fetch.specs.declared.content.Content.{Content}
use Rattle.input_fetch.specs.declared.stop.FetchStop.{FetchStop}
use Rattle.input_fetch.specs.declared.stop.FetchStop.TheVariants as fetch
use Rattle.lib_bind.specs.Closing.{added, begun, choose, choose_all, choose_as, chosen_of, fault_of, install_of, last_of, linked, no_input, read_at, with_library}
use Rattle.lib_bind.specs.Closure.{Bound, after, bound_after, met, second_of, sought, sought_as, step, target, target_of}
use Rattle.lib_bind.specs.Found.{found}
use Rattle.lib_bind.specs.Paths.{plain_path, stub_path}
use Rattle.lib_bind.specs.Reexported.{reexported}
use Rattle.lib_bind.specs.declared.bind_fault.BindFault.{BindFault}
use Rattle.lib_bind.specs.declared.bind_fault.BindFault.TheVariants as bind
use Rattle.lib_bind.specs.declared.choosing.Chosen.{Chosen}
use Rattle.lib_bind.specs.declared.closing.Closing.{Closing}
use Rattle.lib_bind.specs.declared.closing.Request.{Request}
use Rattle.lib_bind.specs.declared.growing.Growing.{Growing}
use Rattle.lib_bind.specs.declared.growing.Reexport.{Reexport}
use Rattle.lib_bind.specs.declared.named.NamedStub.{NamedStub}
use Rattle.lib_bind.specs.declared.sought.Sought.{Sought}
use Rattle.command_line.specs.declared.command.Command.{Command}
use Rattle.mo_outside.specs.Answers.{Answer, Exchange}
use Rattle.mo_outside.specs.Answers as answer
use Rattle.mo_types.specs.Gives as given
use Rattle.mo_types.specs.declared.answer.Refusal.TheVariants as refusal
use Rattle.mo_types.specs.declared.cause.Which.TheVariants.{Libraries}
use Rattle.mo_types.specs.declared.object_fault.ObjFault.{ObjFault}
use Rattle.mo_types.specs.declared.object_fault.ObjFault.TheVariants as object
use Rattle.tbd_doc.specs.declared.stub.StubFile.{StubFile}
use Rattle.input_files.specs.declared.fault.LoadFault.{LoadFault}
use Rattle.input_files.specs.declared.fault.LoadFault.TheVariants as rounds
use Rattle.input_read.specs.Opened as opened
use Rattle.lib_bind.specs.Closure.{Shows}
use Rattle.lib_bind.specs.declared.library.LibraryGraph.{LibraryGraph}
use Rattle.link_files.specs.Names.{wanted}
use Rattle.link_steps.proofs.AskLemmas.{asks_case, last_case, told_case, tries_case, unless_case}
use Rattle.link_steps.specs.Steps.{IsToldBy, map_err}
use Rattle.link_steps.specs.declared.fault.StepFault.{StepFault}
use Rattle.link_steps.specs.declared.fault.StepFault.TheVariants as fault
use Rattle.member_rounds.specs.Rounds.{loaded_of}
use Rattle.mo_cmd.specs.Command.{command_by}
use Rattle.mo_cmd.specs.declared.usage_fault.UsageFault.{UsageFault}
use Rattle.mo_cmd.specs.declared.usage_fault.UsageFault.TheVariants as usage
use Rattle.mo_types.specs.declared.cause.Which.TheVariants.{Inputs}
use Rattle.mo_types.specs.declared.loaded.LoadedFile.{LoadedFile}
use Rattle.link_engine.specs.Bound.{BoundBy}
use Rattle.link_engine.specs.Command.{commanded, crowd_stop, linked_rows}
use Rattle.link_engine.specs.Fetched.{FetchedBy}
use Rattle.link_engine.specs.Input.{inputs_with}
use Rattle.link_engine.specs.Kept.{IsNotUnread}
use Rattle.link_engine.specs.Stop.{bind_fault_for, fetch_fault_for, load_fault_for, usage_fault_for}
use Rattle.link_engine.specs.Unread.{AreReadable, EndsUnread}
use Rattle.link_engine.specs.Verdict.{IsImage, IsVerdictAfter, contents_with, files_for, plan_of}
use Rattle.link_engine.specs.declared.plan.Plan.{Plan}
use Rattle.link_engine.specs.declared.stop.Stop.{Stop}
use Rattle.link_engine.specs.declared.stop.Stop.TheVariants as stop

-- ---- programs

-- a program ends at the first path that can't be read, and tells it; it tells none else
pub record IsCareful {A E : Type 0} (fault : List ℕ → E) (program : Program A E) : Type 0 where
  read : (look : List ℕ → File) → ((path : List ℕ) → (program look).end ≢ Err (fault path)) → AreReadable look (program look).tried
  names : (look : List ℕ → File) (path : List ℕ) → (program look).end ≡ Err (fault path) → EndsUnread look (program look).tried path

readable-append : (look : List ℕ → File) (first second : List (List ℕ)) → AreReadable look first → AreReadable look second → AreReadable look (first ++ second)
readable-append look [] second all rest = rest
readable-append look (path ∷ first) second (here, all) rest = (here, readable-append look first second all rest)

unread_later : (look : List ℕ → File) (first second : List (List ℕ)) (path : List ℕ) → AreReadable look first → EndsUnread look second path → EndsUnread look (first ++ second) path
unread_later look first second path all end = record {
  front = first ++ end.front;
  is = ap (λ (paths : List (List ℕ)). first ++ paths) end.is ∙ sym (append_assoc first end.front (path ∷ []));
  read = readable-append look first end.front all end.read;
  unread = end.unread;
}

careful_end : {A E : Type 0} (fault : List ℕ → E) (end : Result A E) → ((path : List ℕ) → end ≢ Err (fault path)) → IsCareful fault (ends end)
careful_end fault end other = record {
  read = λ look fine. tt;
  names = λ look path is. absurd (other path is);
}

careful_file : {E : Type 0} (fault : List ℕ → E) (path : List ℕ) → ((a b : List ℕ) → fault a ≡ fault b → a ≡ b) → IsCareful fault (file_at (fault path) path)
careful_file {E = E} fault path one = record {
  read = λ look fine. ((λ unread. fine path (ap (read_as (fault path)) unread)), tt);
  names = λ look other is. by look other (look path) refl is;
}
  where
    by : (look : List ℕ → File) (other : List ℕ) (stands : File) → look path ≡ stands → read_as (fault path) stands ≡ Err (fault other) → EndsUnread look (path ∷ []) other
    by look other (There bytes) e is = absurd cc
    by look other Absent e is = absurd cc
    by look other Unread e is =
        let h : ◌≡◌ {A = Result (Option (List ℕ)) E} (Err (fault path)) (Err (fault other)) = is in
        let named : fault path ≡ fault other = cc in
        let same : path ≡ other = one path other named in
        subst (EndsUnread look (path ∷ [])) same (record { front = []; is = refl; read = tt; unread = e })

careful_then : {A B E : Type 0} (fault : List ℕ → E) (program : Program A E) (next : A → Program B E) → IsCareful fault program → ((x : A) → IsCareful fault (next x)) → IsCareful fault (program >>= next)
careful_then {A = A} {B = B} {E = E} fault program next first rest = record {
  read = λ look fine. reads look (program look).end refl fine;
  names = λ look path is. tells look path (program look).end refl is;
}
  where
    reads : (look : List ℕ → File) (end : Result A E) → (program look).end ≡ end → ((path : List ℕ) → (and_then (program look).tried end (λ x. next x look)).end ≢ Err (fault path))
        → AreReadable look (and_then (program look).tried (program look).end (λ x. next x look)).tried
    reads look (Ok x) e fine =
        subst (λ (r : Result A E). AreReadable look (and_then (program look).tried r (λ y. next y look)).tried) (sym e)
        (readable-append look (program look).tried (next x look).tried (first.read look (λ path is. ok_err (sym e ∙ is))) ((rest x).read look fine))
      where
        ok_err : {y : A} {why : E} → ◌≡◌ {A = Result A E} (Ok y) (Err why) → ⊥
        ok_err h = absurd cc
    reads look (Err why) e fine =
        subst (λ (r : Result A E). AreReadable look (and_then (program look).tried r (λ y. next y look)).tried) (sym e)
        (first.read look (λ path is. fine path (turned (sym e ∙ is))))
      where
        turned : {path : List ℕ} → ◌≡◌ {A = Result A E} (Err why) (Err (fault path)) → ◌≡◌ {A = Result B E} (Err why) (Err (fault path))
        turned h = let same : why ≡ fault _ = cc in ap Err same

    tells : (look : List ℕ → File) (path : List ℕ) (end : Result A E) → (program look).end ≡ end → (and_then (program look).tried (program look).end (λ x. next x look)).end ≡ Err (fault path)
        → EndsUnread look (and_then (program look).tried (program look).end (λ x. next x look)).tried path
    tells look path (Ok x) e is =
        subst (λ (r : Result A E). EndsUnread look (and_then (program look).tried r (λ y. next y look)).tried path) (sym e)
        (unread_later look (program look).tried (next x look).tried path (first.read look (λ other h. ok_err (sym e ∙ h)))
        ((rest x).names look path (sym (ap (λ (r : Result A E). (and_then (program look).tried r (λ y. next y look)).end) e) ∙ is)))
      where
        ok_err : {y : A} {why : E} → ◌≡◌ {A = Result A E} (Ok y) (Err why) → ⊥
        ok_err h = absurd cc
    tells look path (Err why) e is =
        subst (λ (r : Result A E). EndsUnread look (and_then (program look).tried r (λ y. next y look)).tried path) (sym e)
        (first.names look path (e ∙ turned (sym (ap (λ (r : Result A E). (and_then (program look).tried r (λ y. next y look)).end) e) ∙ is)))
      where
        turned : ◌≡◌ {A = Result B E} (Err why) (Err (fault path)) → ◌≡◌ {A = Result A E} (Err why) (Err (fault path))
        turned h = let same : why ≡ fault path = cc in ap Err same

-- ---- the inputs

fetch_one : (a b : List ℕ) → fetch.ReadFault a ≡ fetch.ReadFault b → a ≡ b
fetch_one a b e = cc

content_careful : (first : List ℕ) (paths : List (List ℕ)) → IsCareful fetch.ReadFault (content_of first paths)
content_careful first [] = careful_end fetch.ReadFault (Err (fetch.Missing first)) (λ path e. absurd cc)
content_careful first (path ∷ paths) = careful_then fetch.ReadFault (file_at (fetch.ReadFault path) path) (there_or path (content_of first paths)) (careful_file fetch.ReadFault path fetch_one) (by (content_careful first paths))
  where
    by : IsCareful fetch.ReadFault (content_of first paths) → (file : Option (List ℕ)) → IsCareful fetch.ReadFault (there_or path (content_of first paths) file)
    by later (Some bytes) = careful_end fetch.ReadFault (Ok (record { label = path; bytes = bytes })) (λ other e. absurd cc)
    by later None = later

pub contents_careful : (places : List (List (List ℕ))) → IsCareful fetch.ReadFault (contents_of places)
contents_careful [] = careful_end fetch.ReadFault (Ok []) (λ path e. absurd cc)
contents_careful (paths ∷ places) =
    careful_then fetch.ReadFault (content_of (first_of paths) paths) _ (content_careful (first_of paths) paths) (λ content.
    careful_then fetch.ReadFault (contents_of places) _ (contents_careful places) (λ more. careful_end fetch.ReadFault (Ok (content ∷ more)) (λ path e. absurd cc)))

-- ---- the libraries

bind_one : (a b : List ℕ) → bind.ReadFault a ≡ bind.ReadFault b → a ≡ b
bind_one a b e = cc

-- what a file says can't be that it couldn't be read
file_fault : (path : List ℕ) (why : ObjFault) (other : List ℕ) → fault_of path why ≢ bind.ReadFault other
file_fault path (object.Malformed place rule) other e = absurd cc
file_fault path (object.Unsupported feature) other e = absurd cc
file_fault path (object.Limit which) other e = absurd cc
file_fault path object.OutOfMemory other e = absurd cc

added_well : (heads : List (List ℕ × ℕ)) (path : List ℕ) (stubs : Result StubFile ObjFault) (growing : Growing) (other : List ℕ) → added heads path stubs growing ≢ Err (bind.ReadFault other)
added_well heads path (Ok stubs) growing other e = absurd cc
added_well heads path (Err why) growing other e = file_fault path why other (let h : ◌≡◌ {A = Result Sought BindFault} (Err (fault_of path why)) (Err (bind.ReadFault other)) = e in cc)

read_well : (heads : List (List ℕ × ℕ)) (path : List ℕ) (file : Option (List ℕ)) (growing : Growing) (other : List ℕ) → read_at heads path file growing ≢ Err (bind.ReadFault other)
read_well heads path (Some bytes) growing other e = added_well heads path (reexported bytes) growing other e
read_well heads path None growing other e = absurd cc

last_well : (first : List ℕ) (document : Option ℕ) (growing : Growing) (other : List ℕ) → last_of first document growing ≢ Err (bind.ReadFault other)
last_well first (Some document) growing other e = absurd cc
last_well first None growing other e = absurd cc

sought_careful : (heads : List (List ℕ × ℕ)) (path : List ℕ) (growing : Growing) → IsCareful bind.ReadFault (sought heads path growing)
unfolding sought
sought_careful heads path growing = by (found path growing.known)
  where
    by : (known : Option (Option ℕ)) → IsCareful bind.ReadFault (sought_as heads path known growing)
    by (Some document) = careful_end bind.ReadFault (Ok (record { document = document; growing = growing })) (λ other e. absurd cc)
    by None = careful_then bind.ReadFault (file_at (bind.ReadFault path) path) _ (careful_file bind.ReadFault path bind_one) (λ file. careful_end bind.ReadFault (read_at heads path file growing) (read_well heads path file growing))

second_careful : (heads : List (List ℕ × ℕ)) (first second : List ℕ) (document : Option ℕ) (growing : Growing) → IsCareful bind.ReadFault (second_of heads first second document growing)
second_careful heads first second (Some document) growing = careful_end bind.ReadFault (Ok (record { document = document; growing = growing })) (λ other e. absurd cc)
second_careful heads first second None growing =
    careful_then bind.ReadFault (sought heads second growing) _ (sought_careful heads second growing) (λ there. careful_end bind.ReadFault (last_of first there.document there.growing) (last_well first there.document there.growing))

target_careful : (root : Option (List ℕ)) (heads : List (List ℕ × ℕ)) (reexport : Reexport) (growing : Growing) → IsCareful bind.ReadFault (target root heads reexport growing)
unfolding target
target_careful root heads reexport growing = by reexport.here
  where
    by : (here : Option ℕ) → IsCareful bind.ReadFault (target_of root heads reexport.install here growing)
    by (Some document) = careful_end bind.ReadFault (Ok (record { document = document; growing = growing })) (λ other e. absurd cc)
    by None =
        let first : List ℕ = stub_path root reexport.install in
        careful_then bind.ReadFault (sought heads first growing) _ (sought_careful heads first growing) (λ there. second_careful heads first (plain_path root reexport.install) there.document there.growing)

met_careful : (root : Option (List ℕ)) (heads : List (List ℕ × ℕ)) (request : Option Request) (closing : Closing) → IsCareful bind.ReadFault (met root heads request closing)
met_careful root heads None closing = careful_end bind.ReadFault (Ok closing) (λ other e. absurd cc)
met_careful root heads (Some request) closing =
    careful_then bind.ReadFault (target root heads request.reexport closing.growing) _ (target_careful root heads request.reexport closing.growing) (λ there.
    careful_end bind.ReadFault (Ok (linked request.from closing.reached closing.work there)) (λ other e. absurd cc))

step_careful : (root : Option (List ℕ)) (heads : List (List ℕ × ℕ)) (at : ℕ) (closing : Closing) → IsCareful bind.ReadFault (step root heads at closing)
unfolding step
step_careful root heads at closing = met_careful root heads (slice_get closing.work at) closing

after_careful : (root : Option (List ℕ)) (heads : List (List ℕ × ℕ)) (count : ℕ) (closing : Closing) → IsCareful bind.ReadFault (after root heads count closing)
after_careful root heads zero closing = careful_end bind.ReadFault (Ok closing) (λ other e. absurd cc)
after_careful root heads (suc count) closing = careful_then bind.ReadFault (after root heads count closing) _ (after_careful root heads count closing) (λ next. step_careful root heads count next)

choose_well : (command : Command) (named : NamedStub) (chosen : Chosen) (other : List ℕ) → choose command named chosen ≢ Err (bind.ReadFault other)
unfolding choose
choose_well command named chosen other = by (found (install_of named) chosen.heads)
  where
    by : (there : Option ℕ) → choose_as command named there chosen ≢ Err (bind.ReadFault other)
    by (Some document) e = absurd cc
    by None e = many (nat_le 240 (length chosen.libraries)) e
      where
        many : (b : Bool) → (if b then Err (bind.Refused (refusal.Limit Libraries)) else Ok (with_library (get_or command.inputs named.position no_input) named chosen)) ≢ Err (bind.ReadFault other)
        many true e = absurd (let h : ◌≡◌ {A = Result Chosen BindFault} (Err (bind.Refused (refusal.Limit Libraries))) (Err (bind.ReadFault other)) = e in cc)
        many false e = absurd (let h : ◌≡◌ {A = Result Chosen BindFault} (Ok (with_library (get_or command.inputs named.position no_input) named chosen)) (Err (bind.ReadFault other)) = e in cc)

all_well : (command : Command) (named : List NamedStub) (chosen : Chosen) (other : List ℕ) → choose_all command named chosen ≢ Err (bind.ReadFault other)
all_well command [] chosen other e = absurd cc
all_well command (one ∷ named) chosen other e = by (choose command one chosen) refl (all_well command named) e
  where
    by : (r : Result Chosen BindFault) → choose command one chosen ≡ r → ((more : Chosen) (path : List ℕ) → choose_all command named more ≢ Err (bind.ReadFault path)) → given.◌>>=◌ r (choose_all command named) ≢ Err (bind.ReadFault other)
    by (Ok more) is rest e = rest more other e
    by (Err why) is rest e = choose_well command one chosen other (is ∙ e)

pub bound_careful : (command : Command) (named : List NamedStub) (count : ℕ) → IsCareful bind.ReadFault (bound_after command named count)
unfolding bound_after
bound_careful command named count =
    careful_then bind.ReadFault (ends (chosen_of command named)) _ (careful_end bind.ReadFault (chosen_of command named) (all_well command named (record { libraries = []; heads = []; files = []; documents = 0 }))) (λ chosen.
    careful_then bind.ReadFault (after command.syslibroot chosen.heads count (begun chosen.libraries chosen.heads chosen.files)) _ (after_careful command.syslibroot chosen.heads count (begun chosen.libraries chosen.heads chosen.files)) (λ closing.
    careful_end bind.ReadFault (Ok (record { libraries = chosen.libraries; closing = closing })) (λ other e. absurd cc)))

-- ---- a link's steps

-- all that was tried could be read, or the last path couldn't, and is told
abbrev Reads : {A : Type 0} → (List ℕ → File) → Result A Stop → List (List ℕ) → Type 0
Reads look given tried = (AreReadable look tried × ((path : List ℕ) → given ≢ Err (stop.ReadFault path))) ⊎ ((path : List ℕ) × (given ≡ Err (stop.ReadFault path)) × EndsUnread look tried path)

same_fault : {A E : Type 0} {x y : E} → ◌≡◌ {A = Result A E} (Err x) (Err y) → x ≡ y
same_fault e = cc

-- what is told
reads_as : {A : Type 0} (look : List ℕ → File) (answer given : Result A Stop) (tried : List (List ℕ)) → given ≡ answer → Reads look answer tried → Reads look given tried
reads_as {A = A} look answer given tried is reads = subst (λ (r : Result A Stop). Reads look r tried) (sym is) reads

-- a stop is handed on
reads_stop : {A B : Type 0} (look : List ℕ → File) (why : Stop) (given : Result B Stop) (tried : List (List ℕ)) → given ≡ Err why → Reads {A = A} look (Err why) tried → Reads look given tried
reads_stop {A = A} {B = B} look why given tried is (inl (read, fine)) = inl (read, λ path e. fine path (ap (λ w. Err w) (same_fault {A = B} (sym is ∙ e))))
reads_stop {A = A} {B = B} look why given tried is (inr (path, told, ends)) = inr (path, is ∙ ap (λ w. Err w) (same_fault {A = A} told), ends)

-- a stop of a step that asks for nothing
reads_quiet : {B : Type 0} (look : List ℕ → File) (why : Stop) (given : Result B Stop) (old tried : List (List ℕ)) → IsNotUnread why → given ≡ Err why → tried ≡ old → AreReadable look old → Reads look given tried
reads_quiet {B = B} look why given old tried fine is same read =
    inl (subst (AreReadable look) (sym same) read, λ path e. subst IsNotUnread (same_fault {A = B} (sym is ∙ e)) fine)

-- what was read stays read
reads_more : {A : Type 0} (look : List ℕ → File) (given : Result A Stop) (old tried new : List (List ℕ)) → AreReadable look old → new ≡ old ++ tried → Reads look given tried → Reads look given new
reads_more look given old tried new read is (inl (more, fine)) = inl (subst (AreReadable look) (sym is) (readable-append look old tried read more), fine)
reads_more look given old tried new read is (inr (path, told, ends)) = inr (path, told, subst (λ (paths : List (List ℕ)). EndsUnread look paths path) (sym is) (unread_later look old tried path read ends))

fetch_reads : (look : List ℕ → File) (command : Command) (old new : List (List ℕ)) (given : Result (List Content) Stop) → AreReadable look old → FetchedBy look command old given new → Reads look given new
fetch_reads look command old new given read by =
    reads_more look given old (contents_of (places_of command) look).tried new read by.tries (at (contents_of (places_of command) look).end refl by.told)
  where
    careful : IsCareful fetch.ReadFault (contents_of (places_of command))
    careful = contents_careful (places_of command)

    tried : List (List ℕ)
    tried = (contents_of (places_of command) look).tried

    at : (end : Result (List Content) FetchStop) → (contents_of (places_of command) look).end ≡ end → IsToldBy (map_err fetch_fault_for end) given → Reads look given tried
    at (Ok found) is told = reads_as look (Ok found) given tried told (inl (careful.read look (λ path e. ok_err (sym is ∙ e)), λ path e. absurd cc))
      where
        ok_err : {path : List ℕ} → ◌≡◌ {A = Result (List Content) FetchStop} (Ok found) (Err (fetch.ReadFault path)) → ⊥
        ok_err h = absurd cc
    at (Err (fetch.ReadFault path)) is told = inr (path, told, careful.names look path is)
    at (Err (fetch.Missing path)) is told = reads_as look (Err (stop.Refused (refusal.Missing path))) given tried told (inl (careful.read look (λ other e. apart other (sym is ∙ e)), λ other e. absurd cc))
      where
        apart : (other : List ℕ) → ◌≡◌ {A = Result (List Content) FetchStop} (Err (fetch.Missing path)) (Err (fetch.ReadFault other)) → ⊥
        apart other h = absurd cc
    at (Err fetch.OutOfMemory) is told = absurd told

bind_reads : (look : List ℕ → File) (command : Command) (stubs : List NamedStub) (old new : List (List ℕ)) (given : Result LibraryGraph Stop) → AreReadable look old → BoundBy look command stubs old given new → Reads look given new
bind_reads look command stubs old new given read by =
    reads_more look given old (bound_after command stubs by.count look).tried new read by.tries (at by.bound (bound_after command stubs by.count look).end refl by.is by.told)
  where
    careful : IsCareful bind.ReadFault (bound_after command stubs by.count)
    careful = bound_careful command stubs by.count

    tried : List (List ℕ)
    tried = (bound_after command stubs by.count look).tried

    at : (bound : Result LibraryGraph BindFault) (end : Result Bound BindFault) → (bound_after command stubs by.count look).end ≡ end → Shows by.count bound end → IsToldBy (map_err bind_fault_for bound) given → Reads look given tried
    at (Ok libs) (Ok bound) is shows told = reads_as look (Ok libs) given tried told (inl (careful.read look (λ path e. ok_err (sym is ∙ e)), λ path e. absurd cc))
      where
        ok_err : {path : List ℕ} → ◌≡◌ {A = Result Bound BindFault} (Ok bound) (Err (bind.ReadFault path)) → ⊥
        ok_err h = absurd cc
    at (Ok libs) (Err why) is shows told = absurd shows
    at (Err why) (Ok bound) is shows told = absurd shows
    at (Err (bind.ReadFault path)) (Err why) is shows told = inr (path, told, careful.names look path (is ∙ ap (λ w. Err w) (sym shows)))
    at (Err (bind.Refused refused)) (Err why) is shows told =
        reads_as look (Err (stop.Refused refused)) given tried told (inl (careful.read look (λ other e. apart other (shows ∙ same_fault {A = Bound} (sym is ∙ e))), λ other e. absurd cc))
      where
        apart : (other : List ℕ) → bind.Refused refused ≡ bind.ReadFault other → ⊥
        apart other h = absurd cc
    at (Err bind.OutOfMemory) (Err why) is shows told = absurd told

-- what follows a value whose paths could be read
reads_on : {A : Type 0} (look : List ℕ → File) (x : A) (tried : List (List ℕ)) (C : Type 0) → Reads {A = A} look (Ok x) tried → (AreReadable look tried → C) → C
reads_on look x tried C (inl (read, fine)) next = next read
reads_on look x tried C (inr (path, is, last)) next = absurd cc

-- a stop that a layer below tells
same_stop : {A : Type 0} {x y : Stop} → ◌≡◌ {A = Result A (StepFault Stop)} (Err (fault.Stop x)) (Err (fault.Stop y)) → x ≡ y
same_stop e = cc

misused_fine : (words : List (List ℕ)) (why : Stop) → commanded words ≡ Err (fault.Stop why) → IsNotUnread why
misused_fine words why e = by (command_by linked_rows words) e
  where
    by : (r : Result Command UsageFault) → map_err usage_fault_for r ≡ Err (fault.Stop why) → IsNotUnread why
    by (Ok command) e = absurd cc
    by (Err (usage.At word rule)) e = subst IsNotUnread (same_stop {A = Command} e) tt
    by (Err usage.OutOfMemory) e = absurd cc

crowded_fine : (command : Command) (why : Stop) → crowd_stop command ≡ Some why → IsNotUnread why
crowded_fine command why e = by (nat_lt (length command.inputs) (2 ^ 16)) e
  where
    by : (b : Bool) → (if b then None else Some (stop.Refused (refusal.Limit Inputs))) ≡ Some why → IsNotUnread why
    by true h = absurd (let s : None ≡ Some why = h in cc)
    by false h = let s : Some (stop.Refused (refusal.Limit Inputs)) ≡ Some why = h in let same : stop.Refused (refusal.Limit Inputs) ≡ why = cc in subst IsNotUnread same tt

round_fine : {A : Type 0} (r : Result A LoadFault) (why : Stop) → map_err load_fault_for r ≡ Err (fault.Stop why) → IsNotUnread why
round_fine (Ok x) why e = absurd cc
round_fine {A = A} (Err (rounds.Refused refused)) why e = subst IsNotUnread (same_stop {A = A} e) tt
round_fine (Err rounds.OutOfMemory) why e = absurd cc

image_fine : (command : Command) (libs : LibraryGraph) (files : List LoadedFile) (why : Stop) → IsImage command libs files (Err why) → IsNotUnread why
image_fine command libs files (stop.Usage word rule) is = tt
image_fine command libs files (stop.ReadFault path) is = is
image_fine command libs files (stop.Refused refused) is = tt

verdict_reads : (words : List (List ℕ)) (look : List ℕ → File) (given : Result Plan Stop) (tried : List (List ℕ)) → IsVerdictAfter words look given tried → Reads look given tried
unfolding IsVerdictAfter
verdict_reads words look given tried is =
    told_case (commanded words) _ [] given tried (Reads look given tried) is
    (λ why e stop same. reads_quiet look why given [] tried (misused_fine words why e) stop same tt)
    (λ command e first. unless_case (crowd_stop command) _ [] given tried (Reads look given tried) first
    (λ why e stop same. reads_quiet look why given [] tried (crowded_fine command why e) stop same tt)
    (λ e second. asks_case (FetchedBy look command) _ [] given tried (Reads look given tried) second
    (λ why by stop. reads_stop look why given tried stop (fetch_reads look command [] tried (Err why) tt by))
    (λ found middle by third. reads_on look found middle (Reads look given tried) (fetch_reads look command [] middle (Ok found) tt by) (λ there.
    told_case (contents_with command found) _ middle given tried (Reads look given tried) third
    (λ why e stop same. reads_quiet look why given middle tried (round_fine (opened.contents_of (inputs_with command found)) why e) stop same there)
    (λ contents e fourth. asks_case (BoundBy look command contents.stubs) _ middle given tried (Reads look given tried) fourth
    (λ why by stop. reads_stop look why given tried stop (bind_reads look command contents.stubs middle tried (Err why) there by))
    (λ libs later by fifth. reads_on look libs later (Reads look given tried) (bind_reads look command contents.stubs middle later (Ok libs) there by) (λ all.
    told_case (files_for command contents.inputs libs) _ later given tried (Reads look given tried) fifth
    (λ why e stop same. reads_quiet look why given later tried (round_fine (loaded_of contents.inputs libs (wanted command)) why e) stop same all)
    (λ loaded e sixth. tries_case (IsImage command libs loaded.files) _ later given tried (Reads look given tried) sixth
    (λ why by stop same. reads_quiet look why given later tried (image_fine command libs loaded.files why by) stop same all)
    (λ image by seventh. last_case (Ok (plan_of command image)) later given tried (Reads look given tried) seventh
    (λ answer same. inl (subst (AreReadable look) (sym same) all, λ path e. plan_fault (sym answer ∙ e))))))))))))
  where
    plan_fault : {plan : Plan} {path : List ℕ} → ◌≡◌ {A = Result Plan Stop} (Ok plan) (Err (stop.ReadFault path)) → ⊥
    plan_fault h = absurd cc

-- where no path is told, all could be read
pub verdict_read : (words : List (List ℕ)) (look : List ℕ → File) (given : Result Plan Stop) (tried : List (List ℕ)) → IsVerdictAfter words look given tried → ((path : List ℕ) → given ≢ Err (stop.ReadFault path)) → AreReadable look tried
verdict_read words look given tried is fine = by (verdict_reads words look given tried is)
  where
    by : Reads look given tried → AreReadable look tried
    by (inl (read, other)) = read
    by (inr (path, told, ends)) = absurd (fine path told)

-- a path that is told is the last one
pub verdict_names : (words : List (List ℕ)) (look : List ℕ → File) (path : List ℕ) (tried : List (List ℕ)) → IsVerdictAfter words look (Err (stop.ReadFault path)) tried → EndsUnread look tried path
verdict_names words look path tried is = by (verdict_reads words look (Err (stop.ReadFault path)) tried is)
  where
    by : Reads {A = Plan} look (Err (stop.ReadFault path)) tried → EndsUnread look tried path
    by (inl (read, other)) = absurd (other path refl)
    by (inr (named, told, ends)) =
        let h : ◌≡◌ {A = Result Plan Stop} (Err (stop.ReadFault path)) (Err (stop.ReadFault named)) = told in
        let same : path ≡ named = cc in
        subst (EndsUnread look tried) (sym same) ends

-- ---- what was told of paths

-- of paths that could be read, those that come first are such
fresh_readable : (look : List ℕ → File) (known tried : List (List ℕ)) → AreReadable look tried → AreReadable look (fresh known tried)
fresh_readable look known [] read = tt
fresh_readable look known (path ∷ tried) (here, read) = by (list_any (bytes_eq path) known) (fresh_readable look known tried read) (fresh_readable look (known ++ path ∷ []) tried read)
  where
    by : (b : Bool) → AreReadable look (fresh known tried) → AreReadable look (fresh (known ++ path ∷ []) tried) → AreReadable look (if b then fresh known tried else path ∷ fresh (known ++ path ∷ []) tried)
    by true rest more = rest
    by false rest more = (here, more)

readable_told : (look : List ℕ → File) (told : List Exchange) → Gave look told → AreReadable look (paths_in told) → AllRead told
readable_told look [] gave read = tt
readable_told look ((path, given) ∷ told) (here, gave) (well, read) = (by given here, readable_told look told gave read)
  where
    by : (a : Answer) → IsTold (look path) a → a ≢ answer.Unread
    by (answer.There bytes) is e = absurd cc
    by answer.Absent is e = absurd cc
    by answer.Unread is e = well is
    by answer.Refused is e = absurd cc

pub tried_read : (look : List ℕ → File) (told : List Exchange) (tried : List (List ℕ)) → Gave look told → paths_in told ≡ fresh [] tried → AreReadable look tried → AllRead told
tried_read look told tried gave is read = readable_told look told gave (subst (AreReadable look) (sym is) (fresh_readable look [] tried read))

-- a path under which it is told that a file can't be read was answered so
pub unread_told : (told : List Exchange) (path : List ℕ) → file_told told path ≡ Unread → ¬ AllRead told
unread_told [] path is read = absurd cc
unread_told ((name, given) ∷ told) path is (well, read) = by (bytes_eq path name) is (λ later. unread_told told path later read)
  where
    one : (a : Answer) → a ≢ answer.Unread → told_as (Some a) ≡ Unread → ⊥
    one (answer.There bytes) fine e = absurd cc
    one answer.Absent fine e = absurd cc
    one answer.Unread fine e = fine refl
    one answer.Refused fine e = absurd cc

    by : (b : Bool) → told_as (cond b (Some given) (lookup (bytes_eq path) told)) ≡ Unread → (file_told told path ≡ Unread → ⊥) → ⊥
    by true e later = one given well e
    by false e later = later e
