-- No step of a link lacks memory: what its definition tells is an answer.
use Rattle.std.proofs.Common.{◌≡◌, ℕ, zero, suc, ◌+◌, ◌^◌, ◌++◌, if◌then◌else◌, Bool, true, false, nat_le, nat_lt, List, [], ◌∷◌, length, get_or, slice_get, Option, Some, None, Result, Ok, Err, IfErr, IfSome, refl, ◌∙◌, subst}
use Rattle.std.specs.List.{position, range_with_len}
use Rattle.std.specs.Option.{option_map}
use Rattle.std.specs.Result.{result_err}
use Rattle.file_cache.specs.Program.{File, There, Absent, Unread, Outcome, Program, ◌>>=◌, and_then, ends, file_at, read_as}
use Rattle.input_fetch.specs.Contents.{IsFetchStop, content_of, contents_of, first_of, places_of, there_or}
use Rattle.input_fetch.specs.declared.content.Content.{Content}
use Rattle.input_fetch.specs.declared.stop.FetchStop.{FetchStop}
use Rattle.input_fetch.specs.declared.stop.FetchStop.TheVariants as fetch
use Rattle.input_files.specs.Files.{IsLoadFault, all_ids, content_of as file_content, file_of}
use Rattle.input_files.specs.declared.fault.LoadFault.{LoadFault}
use Rattle.input_files.specs.declared.fault.LoadFault.TheVariants as rounds
use Rattle.input_files.specs.declared.input.Input.{Input}
use Rattle.input_read.specs.Opened as opened
use Rattle.input_read.specs.Opening.{opening_of}
use Rattle.input_read.proofs.FaultLemmas.{either, then_real as follows_real}
use Rattle.input_read.proofs.LawLemmas.{told as told_first}
use Rattle.input_read.proofs.PlaceLemmas.{input_faulty, read_faulty}
use Rattle.input_read.proofs.TextLemmas.{file_faulty, stubs_faulty}
use Rattle.lib_bind.specs.Closing.{IsBindFault, added, begun, choose, choose_all, choose_as, chosen_of, install_of, last_of, linked, no_input, read_at, with_library}
use Rattle.lib_bind.specs.Closure.{Bound, after, bound_after, met, second_of, sought, sought_as, step, target, target_of}
use Rattle.lib_bind.specs.Found.{found}
use Rattle.lib_bind.specs.Paths.{plain_path, stub_path}
use Rattle.lib_bind.specs.Reexported.{IsFileFault, by_kind, of_stub, of_text, reexported, stub_text, stubs_of, text_of, told}
use Rattle.lib_bind.specs.declared.bind_fault.BindFault.{BindFault}
use Rattle.lib_bind.specs.declared.bind_fault.BindFault.TheVariants as bind
use Rattle.lib_bind.specs.declared.choosing.Chosen.{Chosen}
use Rattle.lib_bind.specs.declared.closing.Closing.{Closing}
use Rattle.lib_bind.specs.declared.closing.Request.{Request}
use Rattle.lib_bind.specs.declared.growing.Growing.{Growing}
use Rattle.lib_bind.specs.declared.growing.Reexport.{Reexport}
use Rattle.lib_bind.specs.declared.library.LibraryGraph.{LibraryGraph}
use Rattle.lib_bind.specs.declared.named.NamedStub.{NamedStub}
use Rattle.link_files.specs.Names.{wanted}
use Rattle.link_steps.specs.Steps.{map_err}
use Rattle.link_steps.specs.declared.fault.StepFault.{StepFault}
use Rattle.link_steps.specs.declared.fault.StepFault.TheVariants as fault
use Rattle.member_rounds.specs.Rounds.{files_of, loaded_of, names_fault, new_ids, round, round_fault}
use Rattle.name_ids.specs.Names.{external_names, numbered}
use Rattle.command_line.specs.declared.command.Command.{Command}
use Rattle.mo_cmd.specs.Command.{IsUsage, command_by, command_from, decided, has_input, numbers_of, or_no_input, switches_of, whole_of}
use Rattle.mo_cmd.specs.Faults.{fault_of as part_fault, first_fault, or_nul, rule_of}
use Rattle.mo_cmd.specs.Items.{following, items_of}
use Rattle.mo_cmd.specs.Parts.{has_nul, parts_of}
use Rattle.mo_cmd.specs.declared.faults.Whole.{Whole}
use Rattle.mo_cmd.specs.declared.parts.Part.{Part}
use Rattle.mo_cmd.specs.declared.usage_fault.UsageFault.{UsageFault}
use Rattle.mo_cmd.specs.declared.usage_fault.UsageFault.TheVariants as usage
use Rattle.mo_types.specs.Kind.{kind_of}
use Rattle.mo_types.specs.Scan.{first_some, option_or_else}
use Rattle.mo_types.specs.declared.answer.Refusal.TheVariants as refusal
use Rattle.mo_types.specs.declared.cause.UsageRule.{UsageRule}
use Rattle.mo_types.specs.declared.cause.UsageRule.TheVariants.{Unknown}
use Rattle.mo_types.specs.declared.cause.Which.TheVariants.{FileBytes, Libraries, Names}
use Rattle.mo_types.specs.declared.key.FileId.{FileId}
use Rattle.mo_types.specs.declared.kind.Kind.{Kind}
use Rattle.mo_types.specs.declared.kind.Kind.TheVariants as kind
use Rattle.mo_types.specs.declared.loaded.LoadedFile.{LoadedFile}
use Rattle.mo_types.specs.declared.object_fault.ObjFault.{ObjFault}
use Rattle.mo_types.specs.declared.object_fault.ObjFault.TheVariants as object
use Rattle.tbd_doc.specs.Stubs.{IsStubFault, stub_file_of}
use Rattle.tbd_yaml.specs.File.{file_of as file_of_text}
use Rattle.tbd_doc.specs.declared.fault.StubFault.{StubFault}
use Rattle.tbd_doc.specs.declared.fault.StubFault.TheVariants as stub
use Rattle.tbd_doc.specs.declared.stub.StubFile.{StubFile}
use Rattle.yaml_text.specs.FaultText.{IsYamlFault}
use Rattle.yaml_text.specs.declared.fault.YamlFault.{YamlFault}
use Rattle.yaml_text.specs.declared.fault.YamlFault.TheVariants as yaml
use Rattle.yaml_text.specs.declared.file.YamlFile.{YamlFile}
use Rattle.link_engine.specs.Command.{commanded, linked_rows}
use Rattle.link_engine.specs.Input.{inputs_with}
use Rattle.link_engine.specs.Stop.{bind_fault_for, fetch_fault_for, load_fault_for, usage_fault_for}
use Rattle.link_engine.specs.Verdict.{contents_with, files_for}
use Rattle.link_engine.specs.declared.stop.Stop.{Stop}
use Rattle.link_engine.proofs.LawLemmas.{loaded_fault}

-- an end of a layer below that doesn't lack memory is told as one that doesn't
still_real : {A E : Type 0} (turn : E → StepFault Stop) (IsReal : E → Type 0) (r : Result A E) → IfErr r IsReal → ((why : E) → IsReal why → turn why ≡ fault.OutOfMemory → ⊥) → map_err turn r ≡ Err fault.OutOfMemory → ⊥
still_real turn IsReal (Ok x) real each e = absurd cc
still_real turn IsReal (Err why) real each e = each why real (let same : turn why ≡ fault.OutOfMemory = cc in same)

-- ---- the words

nul_real : (word : ℕ) (values : List (List ℕ)) (rule : Option UsageRule) → IfSome (or_nul word values rule) IsUsage
nul_real word values (Some rule) = tt
nul_real word values None = by (position has_nul values)
  where
    by : (at : Option ℕ) → IfSome (option_map (λ before. usage.At (word + 1 + before) Unknown) at) IsUsage
    by (Some before) = tt
    by None = tt

either_usage : (a b : Option UsageFault) → IfSome a IsUsage → IfSome b IsUsage → IfSome (option_or_else a b) IsUsage
either_usage (Some why) b one other = one
either_usage None b one other = other

parts_real : (whole : Whole) (words : List (List ℕ)) (parts : List Part) → IfSome (first_fault whole words parts) IsUsage
parts_real whole words [] = tt
parts_real whole words (part ∷ parts) =
    either_usage (part_fault whole words part) (first_fault whole words parts)
    (nul_real (part.at + 1) (following words part) (rule_of whole part (following words part))) (parts_real whole words parts)

line_real : (named : Bool) (why : Option UsageFault) → IfSome why IsUsage → IfSome (or_no_input named why) IsUsage
line_real named (Some why) real = real
line_real true None real = tt
line_real false None real = tt

decided_real : (why : Option UsageFault) (command : Command) → IfSome why IsUsage → IfErr (decided why command) IsUsage
decided_real (Some why) command real = real
decided_real None command real = tt

command_real : (words : List (List ℕ)) → IfErr (command_by linked_rows words) IsUsage
unfolding command_by
command_real words =
    let items = items_of linked_rows words in
    let parts = parts_of linked_rows words in
    let whole = whole_of parts (switches_of items) (numbers_of items) in
    decided_real _ (command_from items) (line_real (has_input items) (first_fault whole words parts) (parts_real whole words parts))

pub words_end : (words : List (List ℕ)) → commanded words ≡ Err fault.OutOfMemory → ⊥
words_end words = still_real usage_fault_for IsUsage (command_by linked_rows words) (command_real words) by
  where
    by : (why : UsageFault) → IsUsage why → usage_fault_for why ≡ fault.OutOfMemory → ⊥
    by (usage.At word rule) real e = absurd cc
    by usage.OutOfMemory real e = real

-- ---- the files of the inputs

then_real : {A B E : Type 0} (P : E → Type 0) (tried : List (List ℕ)) (end : Result A E) (next : A → Outcome B E) → IfErr end P → ((x : A) → IfErr (next x).end P) → IfErr (and_then tried end next).end P
then_real P tried (Ok x) next first rest = rest x
then_real P tried (Err why) next first rest = first

file_real : (path : List ℕ) (stands : File) → IfErr (read_as (fetch.ReadFault path) stands) IsFetchStop
file_real path (There bytes) = tt
file_real path Absent = tt
file_real path Unread = tt

content_real : (look : List ℕ → File) (first : List ℕ) (paths : List (List ℕ)) → IfErr (content_of first paths look).end IsFetchStop
content_real look first [] = tt
content_real look first (path ∷ paths) =
    then_real IsFetchStop (path ∷ []) (read_as (fetch.ReadFault path) (look path)) (λ file. there_or path (content_of first paths) file look) (file_real path (look path)) (by (content_real look first paths))
  where
    by : IfErr (content_of first paths look).end IsFetchStop → (file : Option (List ℕ)) → IfErr (there_or path (content_of first paths) file look).end IsFetchStop
    by later (Some bytes) = tt
    by later None = later

contents_real : (look : List ℕ → File) (places : List (List (List ℕ))) → IfErr (contents_of places look).end IsFetchStop
contents_real look [] = tt
contents_real look (paths ∷ places) =
    then_real IsFetchStop (content_of (first_of paths) paths look).tried (content_of (first_of paths) paths look).end _ (content_real look (first_of paths) paths) (λ content.
    then_real IsFetchStop (contents_of places look).tried (contents_of places look).end (λ more. ends (Ok (content ∷ more)) look) (contents_real look places) (λ more. tt))

pub inputs_end : (look : List ℕ → File) (command : Command) → map_err fetch_fault_for (contents_of (places_of command) look).end ≡ Err fault.OutOfMemory → ⊥
inputs_end look command = still_real fetch_fault_for IsFetchStop (contents_of (places_of command) look).end (contents_real look (places_of command)) by
  where
    by : (why : FetchStop) → IsFetchStop why → fetch_fault_for why ≡ fault.OutOfMemory → ⊥
    by (fetch.ReadFault path) real e = absurd cc
    by (fetch.Missing path) real e = absurd cc
    by fetch.OutOfMemory real e = real

-- ---- what the inputs are, and the rounds

first_real : {A : Type 0} (f : A → Option LoadFault) (xs : List A) (why : LoadFault) → ((x : A) → f x ≡ Some why → IsLoadFault why) → first_some f xs ≡ Some why → IsLoadFault why
first_real f [] why each e = absurd cc
first_real f (x ∷ xs) why each e = by (first_real f xs why each) (f x) refl
  where
    by : (first_some f xs ≡ Some why → IsLoadFault why) → (o : Option LoadFault) → f x ≡ o → IsLoadFault why
    by rest None o = rest (rw o at e)
    by rest (Some other) o = let same : Some other ≡ Some why = rw o at e in each x (o ∙ same)

real_err : {A : Type 0} (r : Result A LoadFault) (why : LoadFault) → IfErr r IsLoadFault → result_err r ≡ Some why → IsLoadFault why
real_err (Ok x) why real e = absurd cc
real_err (Err other) why real e = let same : other ≡ why = cc in subst IsLoadFault same real

opened_real : (inputs : List Input) (why : LoadFault) → opened.contents_of inputs ≡ Err why → IsLoadFault why
opened_real inputs why e = first_real (λ input. result_err (opening_of input)) inputs why (λ input is. real_err (opening_of input) why (input_faulty input) is) ((told_first inputs why).0 e)

member_real : (inputs : List Input) (id : FileId) → IfErr (file_of inputs id) IsLoadFault
unfolding file_of
member_real inputs id = read_faulty id (file_content inputs id).label (file_content inputs id).bytes

either_real : (a b : Option LoadFault) (why : LoadFault) → (a ≡ Some why → IsLoadFault why) → (b ≡ Some why → IsLoadFault why) → option_or_else a b ≡ Some why → IsLoadFault why
either_real (Some x) b why p q e = p e
either_real None b why p q e = q e

names_real : (files : List LoadedFile) (names : List (List ℕ)) (why : LoadFault) → names_fault files names ≡ Some why → IsLoadFault why
names_real files names why e = by (nat_lt (length (numbered (external_names files ++ names))) (2 ^ 24)) e
  where
    by : (b : Bool) → (if b then None else Some (rounds.Refused (refusal.Limit Names))) ≡ Some why → IsLoadFault why
    by true h = absurd (let s : None ≡ Some why = h in cc)
    by false h = let same : Some (rounds.Refused (refusal.Limit Names)) ≡ Some why = h in let t : rounds.Refused (refusal.Limit Names) ≡ why = cc in subst IsLoadFault t tt

round_real : (inputs : List Input) (libs : LibraryGraph) (names : List (List ℕ)) (k : ℕ) (why : LoadFault) → round_fault inputs libs names k ≡ Some why → IsLoadFault why
unfolding round_fault
round_real inputs libs names k why e =
    either_real _ _ why
    (λ f. first_real (λ id. result_err (file_of inputs id)) (new_ids inputs libs names k) why (λ id is. real_err (file_of inputs id) why (member_real inputs id) is) f)
    (names_real (files_of inputs (round inputs libs names k)) names why) e

loaded_real : (inputs : List Input) (libs : LibraryGraph) (names : List (List ℕ)) (why : LoadFault) → loaded_of inputs libs names ≡ Err why → IsLoadFault why
loaded_real inputs libs names why e = first_real (round_fault inputs libs names) (range_with_len 0 (length (all_ids inputs) + 1)) why (λ k is. round_real inputs libs names k why is) (loaded_fault inputs libs names why e)

loads : (why : LoadFault) → IsLoadFault why → load_fault_for why ≡ fault.OutOfMemory → ⊥
loads (rounds.Refused refused) real e = absurd cc
loads rounds.OutOfMemory real e = real

-- what holds of each end that a definition has
real_if : {A : Type 0} (r : Result A LoadFault) → ((why : LoadFault) → r ≡ Err why → IsLoadFault why) → IfErr r IsLoadFault
real_if (Ok x) each = tt
real_if (Err why) each = each why refl

pub opening_ends : (command : Command) (found : List Content) → contents_with command found ≡ Err fault.OutOfMemory → ⊥
opening_ends command found = still_real load_fault_for IsLoadFault (opened.contents_of (inputs_with command found)) (real_if _ (opened_real (inputs_with command found))) loads

pub rounds_end : (command : Command) (inputs : List Input) (libs : LibraryGraph) → files_for command inputs libs ≡ Err fault.OutOfMemory → ⊥
rounds_end command inputs libs = still_real load_fault_for IsLoadFault (loaded_of inputs libs (wanted command)) (real_if _ (loaded_real inputs libs (wanted command))) loads

-- ---- the libraries

text_real : (bytes : List ℕ) → IfErr (text_of bytes) IsFileFault
text_real bytes = by (file_of_text bytes) (file_faulty bytes)
  where
    by : (r : Result YamlFile YamlFault) → IfErr r IsYamlFault → IfErr (told of_text r) IsFileFault
    by (Ok file) real = tt
    by (Err (yaml.At line rule)) real = tt
    by (Err yaml.OutOfMemory) real = real

stubs_real : (file : YamlFile) → IfErr (stubs_of file) IsFileFault
stubs_real file = by (stub_file_of file) (stubs_faulty file)
  where
    by : (r : Result StubFile StubFault) → IfErr r IsStubFault → IfErr (told of_stub r) IsFileFault
    by (Ok stubs) real = tt
    by (Err stub.NotTbd4) real = tt
    by (Err stub.NoTarget) real = tt
    by (Err (stub.BadKey doc)) real = tt
    by (Err stub.OutOfMemory) real = real

kind_real : (bytes : List ℕ) (k : Kind) → IfErr (by_kind bytes k) IsFileFault
unfolding stub_text
kind_real bytes kind.Stub = follows_real IsFileFault (text_of bytes) stubs_of (text_real bytes) stubs_real
kind_real bytes kind.MachO = tt
kind_real bytes kind.Archive = tt
kind_real bytes kind.Universal = tt
kind_real bytes kind.NotAnInput = tt
kind_real bytes (kind.Refused feature) = tt

reexported_real : (bytes : List ℕ) → IfErr (reexported bytes) IsFileFault
unfolding reexported
reexported_real bytes = either IsFileFault (nat_le (2 ^ 30) (length bytes)) (Err (object.Limit FileBytes)) (by_kind bytes (kind_of bytes)) tt (kind_real bytes (kind_of bytes))

added_real : (heads : List (List ℕ × ℕ)) (path : List ℕ) (stubs : Result StubFile ObjFault) (growing : Growing) → IfErr stubs IsFileFault → IfErr (added heads path stubs growing) IsBindFault
added_real heads path (Ok stubs) growing real = tt
added_real heads path (Err (object.Malformed place rule)) growing real = tt
added_real heads path (Err (object.Unsupported feature)) growing real = tt
added_real heads path (Err (object.Limit which)) growing real = tt
added_real heads path (Err object.OutOfMemory) growing real = real

read_real : (heads : List (List ℕ × ℕ)) (path : List ℕ) (file : Option (List ℕ)) (growing : Growing) → IfErr (read_at heads path file growing) IsBindFault
read_real heads path (Some bytes) growing = added_real heads path (reexported bytes) growing (reexported_real bytes)
read_real heads path None growing = tt

last_real : (first : List ℕ) (document : Option ℕ) (growing : Growing) → IfErr (last_of first document growing) IsBindFault
last_real first (Some document) growing = tt
last_real first None growing = tt

-- whatever stands under each path, the program's end is a value or a fault of libraries
record IsReal {A : Type 0} (program : Program A BindFault) : Type 0 where
  real : (look : List ℕ → File) → IfErr (program look).end IsBindFault

real_end : {A : Type 0} (end : Result A BindFault) → IfErr end IsBindFault → IsReal (ends end)
real_end end is = record { real = λ look. is }

real_then : {A B : Type 0} (program : Program A BindFault) (next : A → Program B BindFault) → IsReal program → ((x : A) → IsReal (next x)) → IsReal (program >>= next)
real_then program next first rest = record {
  real = λ look. then_real IsBindFault (program look).tried (program look).end (λ x. next x look) (first.real look) (λ x. (rest x).real look);
}

real_file : (path : List ℕ) → IsReal (file_at (bind.ReadFault path) path)
real_file path = record { real = λ look. by (look path) }
  where
    by : (stands : File) → IfErr (read_as (bind.ReadFault path) stands) IsBindFault
    by (There bytes) = tt
    by Absent = tt
    by Unread = tt

sought_real : (heads : List (List ℕ × ℕ)) (path : List ℕ) (growing : Growing) → IsReal (sought heads path growing)
unfolding sought
sought_real heads path growing = by (found path growing.known)
  where
    by : (known : Option (Option ℕ)) → IsReal (sought_as heads path known growing)
    by (Some document) = real_end (Ok (record { document = document; growing = growing })) tt
    by None = real_then (file_at (bind.ReadFault path) path) _ (real_file path) (λ file. real_end (read_at heads path file growing) (read_real heads path file growing))

second_real : (heads : List (List ℕ × ℕ)) (first second : List ℕ) (document : Option ℕ) (growing : Growing) → IsReal (second_of heads first second document growing)
second_real heads first second (Some document) growing = real_end (Ok (record { document = document; growing = growing })) tt
second_real heads first second None growing =
    real_then (sought heads second growing) _ (sought_real heads second growing) (λ there. real_end (last_of first there.document there.growing) (last_real first there.document there.growing))

target_real : (root : Option (List ℕ)) (heads : List (List ℕ × ℕ)) (reexport : Reexport) (growing : Growing) → IsReal (target root heads reexport growing)
unfolding target
target_real root heads reexport growing = by reexport.here
  where
    by : (here : Option ℕ) → IsReal (target_of root heads reexport.install here growing)
    by (Some document) = real_end (Ok (record { document = document; growing = growing })) tt
    by None =
        let first : List ℕ = stub_path root reexport.install in
        real_then (sought heads first growing) _ (sought_real heads first growing) (λ there. second_real heads first (plain_path root reexport.install) there.document there.growing)

met_real : (root : Option (List ℕ)) (heads : List (List ℕ × ℕ)) (request : Option Request) (closing : Closing) → IsReal (met root heads request closing)
met_real root heads None closing = real_end (Ok closing) tt
met_real root heads (Some request) closing =
    real_then (target root heads request.reexport closing.growing) _ (target_real root heads request.reexport closing.growing) (λ there.
    real_end (Ok (linked request.from closing.reached closing.work there)) tt)

step_real : (root : Option (List ℕ)) (heads : List (List ℕ × ℕ)) (at : ℕ) (closing : Closing) → IsReal (step root heads at closing)
unfolding step
step_real root heads at closing = met_real root heads (slice_get closing.work at) closing

after_real : (root : Option (List ℕ)) (heads : List (List ℕ × ℕ)) (count : ℕ) (closing : Closing) → IsReal (after root heads count closing)
after_real root heads zero closing = real_end (Ok closing) tt
after_real root heads (suc count) closing = real_then (after root heads count closing) _ (after_real root heads count closing) (λ next. step_real root heads count next)

choose_real : (command : Command) (named : NamedStub) (chosen : Chosen) → IfErr (choose command named chosen) IsBindFault
unfolding choose
choose_real command named chosen = by (found (install_of named) chosen.heads)
  where
    by : (there : Option ℕ) → IfErr (choose_as command named there chosen) IsBindFault
    by (Some document) = tt
    by None = either IsBindFault (nat_le 240 (length chosen.libraries)) (Err (bind.Refused (refusal.Limit Libraries))) (Ok (with_library (get_or command.inputs named.position no_input) named chosen)) tt tt

all_real : (command : Command) (named : List NamedStub) (chosen : Chosen) → IfErr (choose_all command named chosen) IsBindFault
all_real command [] chosen = tt
all_real command (one ∷ named) chosen = follows_real IsBindFault (choose command one chosen) (choose_all command named) (choose_real command one chosen) (all_real command named)

bound_real : (command : Command) (named : List NamedStub) (count : ℕ) → IsReal (bound_after command named count)
unfolding bound_after
bound_real command named count =
    real_then (ends (chosen_of command named)) _ (real_end (chosen_of command named) (all_real command named (record { libraries = []; heads = []; files = []; documents = 0 }))) (λ chosen.
    real_then (after command.syslibroot chosen.heads count (begun chosen.libraries chosen.heads chosen.files)) _ (after_real command.syslibroot chosen.heads count (begun chosen.libraries chosen.heads chosen.files)) (λ closing.
    real_end (Ok (record { libraries = chosen.libraries; closing = closing })) tt))

pub libraries_end : {A : Type 0} (look : List ℕ → File) (command : Command) (named : List NamedStub) (count : ℕ) (why : BindFault) → (bound_after command named count look).end ≡ Err why
    → ◌≡◌ {A = Result A (StepFault Stop)} (Err (bind_fault_for why)) (Err fault.OutOfMemory) → ⊥
libraries_end {A = A} look command named count why is =
    still_real {A = A} bind_fault_for IsBindFault (Err why) (subst (λ (r : Result Bound BindFault). IfErr r IsBindFault) is ((bound_real command named count).real look)) by
  where
    by : (other : BindFault) → IsBindFault other → bind_fault_for other ≡ fault.OutOfMemory → ⊥
    by (bind.ReadFault path) real e = absurd cc
    by (bind.Refused refused) real e = absurd cc
    by bind.OutOfMemory real e = real
