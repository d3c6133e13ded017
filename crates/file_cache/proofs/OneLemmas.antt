-- One path.
use Rattle.std.proofs.Common.{◌≡◌, ◌≢◌, ℕ, ◌≤◌, ◌<◌, ◌++◌, ◌∷◌, [], List, map, All, Bool, true, false, cond, ◌||◌, Option, Some, None, Result, Ok, Err, IfOk, IsErrAnd, IsErrOf, OnOk, refl, sym, ap, ◌∙◌, subst, arith, bytes_eq, if◌then◌else◌}
use Rattle.std.specs.List.{list_any}
use Rattle.std.proofs.lemmas.List.{append-nil, map-append}
use Rattle.std.proofs.lemmas.Result.{err_from_is_err_and}
use Rattle.std.proofs.lemmas.Slice.Eq.{bytes_eq-Decides}
use Rattle.indexmap.specs.IndexMap.{insert_entry}
use Rattle.mo_outside.specs.Answers.{Agrees, Answer, Exchange, answer_of}
use Rattle.mo_outside.specs.Answers as answer
use Rattle.mo_outside.specs.Faults.{Rises}
use Rattle.mo_outside.specs.Files.{FileMap, Fetches}
use Rattle.mo_outside.specs.Log.{Logs}
use Rattle.mo_outside.specs.Tells.{Tells}
use Rattle.mo_outside.specs.declared.traits.FetchFault.{FetchFault}
use Rattle.mo_types.specs.Gives.{Gives}
use Rattle.file_cache.specs.Kept.{FilesSeen, answer_kept, exchange_kept, kept_at}
use Rattle.file_cache.specs.Program.{File, Unread, Program, file_at, read_as}
use Rattle.file_cache.specs.Runs.{Asks, Gave, IsOfBytes, IsTold, IsUnread, FilesTold, Runs, Says, fresh, paths_in, unread}
use Rattle.file_cache.specs.declared.asking.AskFault.{AskFault}
use Rattle.file_cache.specs.declared.asking.AskFault.TheVariants as fault
use Rattle.file_cache.proofs.RunLemmas.{gave-second, none_asked, short_start}

-- ---- what is kept

-- one pair more, for a path that has none
inserted : (path : List ℕ) (file : Option (List ℕ)) (pairs : List (List ℕ × Option (List ℕ))) → kept_at path pairs ≡ None → insert_entry bytes_eq pairs path file ≡ pairs ++ (path, file) ∷ []
inserted path file [] none = refl
inserted path file (pair ∷ pairs) none = by (bytes_eq path pair.0) none (inserted path file pairs)
  where
    by : (test : Bool) → cond test (Some pair.1) (kept_at path pairs) ≡ None → (kept_at path pairs ≡ None → insert_entry bytes_eq pairs path file ≡ pairs ++ (path, file) ∷ [])
        → (if test then (pair.0, file) ∷ pairs else pair ∷ insert_entry bytes_eq pairs path file) ≡ pair ∷ (pairs ++ (path, file) ∷ [])
    by true found rest = absurd cc
    by false found rest = ap (λ more. pair ∷ more) (rest found)

pub kept_new : (path key : List ℕ) (file value : Option (List ℕ)) (old kept new : List (List ℕ × Option (List ℕ))) → key ≡ path → value ≡ file → old ≡ kept → kept_at path kept ≡ None → new ≡ insert_entry bytes_eq old key value → new ≡ kept ++ (path, file) ∷ []
kept_new path key file value old kept new is holds same none made =
    made ∙ ap (λ o. insert_entry bytes_eq o key value) same ∙ ap (λ (k : List ℕ). insert_entry bytes_eq kept k value) is ∙ ap (insert_entry bytes_eq kept path) holds ∙ inserted path file kept none

pub ruleset keeping = (kept_new)

-- for a path that isn't kept nothing is known
not_known : (path : List ℕ) (pairs : List (List ℕ × Option (List ℕ))) → kept_at path pairs ≡ None → list_any (bytes_eq path) (paths_in (map exchange_kept pairs)) ≡ false
not_known path [] none = refl
not_known path (pair ∷ pairs) none = by (bytes_eq path pair.0) none (not_known path pairs)
  where
    by : (test : Bool) → cond test (Some pair.1) (kept_at path pairs) ≡ None → (kept_at path pairs ≡ None → list_any (bytes_eq path) (paths_in (map exchange_kept pairs)) ≡ false)
        → (test || list_any (bytes_eq path) (paths_in (map exchange_kept pairs))) ≡ false
    by true found rest = absurd cc
    by false found rest = rest found

is_known : (path : List ℕ) (file : Option (List ℕ)) (pairs : List (List ℕ × Option (List ℕ))) → kept_at path pairs ≡ Some file → list_any (bytes_eq path) (paths_in (map exchange_kept pairs)) ≡ true
is_known path file [] there = absurd cc
is_known path file (pair ∷ pairs) there = by (bytes_eq path pair.0) there (is_known path file pairs)
  where
    by : (test : Bool) → cond test (Some pair.1) (kept_at path pairs) ≡ Some file → (kept_at path pairs ≡ Some file → list_any (bytes_eq path) (paths_in (map exchange_kept pairs)) ≡ true)
        → (test || list_any (bytes_eq path) (paths_in (map exchange_kept pairs))) ≡ true
    by true found rest = refl
    by false found rest = rest found

-- what is kept is what stands there
told_there : (look : List ℕ → File) (path : List ℕ) (file : Option (List ℕ)) (pairs : List (List ℕ × Option (List ℕ))) → Gave look (map exchange_kept pairs) → kept_at path pairs ≡ Some file → IsTold (look path) (answer_kept file)
told_there look path file [] gave there = absurd cc
told_there look path file (pair ∷ pairs) gave there = by (bytes_eq path pair.0) refl there (told_there look path file pairs gave.1)
  where
    by : (test : Bool) → bytes_eq path pair.0 ≡ test → cond test (Some pair.1) (kept_at path pairs) ≡ Some file → (kept_at path pairs ≡ Some file → IsTold (look path) (answer_kept file)) → IsTold (look path) (answer_kept file)
    by true same found rest =
        let is : pair.0 ≡ path = sym ((bytes_eq-Decides path pair.0).0 same) in
        let file_is : pair.1 ≡ file = cc in
        subst (λ f. IsTold (look path) (answer_kept f)) file_is (subst (λ (p : List ℕ). IsTold (look p) (answer_kept pair.1)) is gave.0)
    by false same found rest = rest found

told_end : (stands : File) (file : Option (List ℕ)) → IsTold stands (answer_kept file) → read_as unread stands ≡ Ok file
told_end stands (Some bytes) is = ap (read_as unread) is
told_end stands None is = ap (read_as unread) is

gave_before : (look : List ℕ → File) (kept : List Exchange) → Gave look (kept ++ []) → Gave look kept
gave_before look kept gave = subst (Gave look) (append-nil kept) gave

-- a path that is kept isn't asked for again
pub kept_run : {S : Type 0} (fetches : S → List ℕ → Answer → S → Type 0) (path : List ℕ) (file : Option (List ℕ)) (pairs : List (List ℕ × Option (List ℕ))) (seen : FilesSeen S)
    → seen.kept ≡ map exchange_kept pairs → kept_at path pairs ≡ Some file → Runs fetches IsUnread (file_at unread path) (Ok file) seen seen
kept_run fetches path file pairs seen kept there = record {
  asked = [];
  files = none_asked fetches seen;
  gives = λ look gave. told_end (look path) file (told_there look path file pairs (subst (Gave look) kept (gave_before look seen.kept gave)) there);
  whole = λ is look gave. none;
  some = λ look gave. (1, none);
  kept = sym (append-nil seen.kept);
}
  where
    none : [] ≡ fresh (paths_in seen.kept) (path ∷ [])
    none = sym (ap (λ test. if test then [] else path ∷ []) (ap (λ (k : List Exchange). list_any (bytes_eq path) (paths_in k)) kept ∙ is_known path file pairs there))

-- no memory for what is kept
pub no_run : {S A : Type 0} (fetches : S → List ℕ → Answer → S → Type 0) (program : Program A AskFault) (result : Result A AskFault) (seen : FilesSeen S)
    → IsErrAnd result (λ why. why ≡ fault.OutOfMemory) → Runs fetches IsUnread program result seen seen
no_run {A = A} fetches program result seen is =
    let passed = err_from_is_err_and result is in
    subst (λ (r : Result A AskFault). Runs fetches IsUnread program r seen seen) (sym (passed.1 ∙ ap Err passed.2))
    (short_start fetches IsUnread program fault.OutOfMemory seen (λ kind. kind))

-- ---- the files are asked

agrees : (held : Option FileMap) (path bytes : List ℕ) (fetched : Result Bool FetchFault) → IfOk fetched (λ there. Fetches held path there bytes) → Agrees held path (answer_of fetched bytes)
agrees None path bytes fetched tells = tt
agrees (Some files) path bytes (Ok true) tells = tells
agrees (Some files) path bytes (Ok false) tells = tells
agrees (Some files) path bytes (Err FetchFault.Failed) tells = tt
agrees (Some files) path bytes (Err FetchFault.Memory) tells = tt

are_bytes : (bytes : List ℕ) (fetched : Result Bool FetchFault) → All (λ byte. byte < 256) bytes → IsOfBytes (answer_of fetched bytes)
are_bytes bytes (Ok true) all = all
are_bytes bytes (Ok false) all = tt
are_bytes bytes (Err FetchFault.Failed) all = tt
are_bytes bytes (Err FetchFault.Memory) all = tt

one_told : (path : List ℕ) (old new : Option (List (List ℕ))) → Tells (Logs path) old new → Tells (Asks (path ∷ [])) old new
one_told path old None is = tt
one_told path None (Some new) is = absurd is
one_told path (Some old) (Some new) is = record { asked = is.logged }

-- a fetch that didn't fail counts no fault
read_still : (fetched : Result Bool FetchFault) (bytes : List ℕ) (old new : ℕ) → OnOk fetched (new ≡ old) → (IsErrOf fetched FetchFault.Memory → new ≡ old) → answer_of fetched bytes ≢ answer.Unread → new ≡ old
read_still (Ok there) bytes old new still refused read = still
read_still (Err FetchFault.Failed) bytes old new still refused read = absurd (read refl)
read_still (Err FetchFault.Memory) bytes old new still refused read = refused refl

unread_rises : (fetched : Result Bool FetchFault) (bytes : List ℕ) (old new : ℕ) → (IsErrOf fetched FetchFault.Failed → Rises old new) → ¬ (answer_of fetched bytes ≢ answer.Unread) → Rises old new
unread_rises (Ok true) bytes old new failed unread = absurd (unread (λ e. absurd cc))
unread_rises (Ok false) bytes old new failed unread = absurd (unread (λ e. absurd cc))
unread_rises (Err FetchFault.Failed) bytes old new failed unread = failed refl
unread_rises (Err FetchFault.Memory) bytes old new failed unread = absurd (unread (λ e. absurd cc))

said_end : (result : Result (Option (List ℕ)) AskFault) (given : Answer) (stands : File) → Says result given → IsTold stands given → Gives IsUnread result (read_as unread stands)
said_end (Ok (Some bytes)) given stands says told = ap (read_as unread) (subst (IsTold stands) says told)
said_end (Ok None) given stands says told = ap (read_as unread) (subst (IsTold stands) says told)
said_end (Err fault.Unread) given stands says told = λ kind. ap (read_as unread) (subst (IsTold stands) says told)
said_end (Err fault.OutOfMemory) given stands says told = λ kind. absurd kind

-- what is kept then
said_kept : (file : Option (List ℕ)) (given : Answer) → Says (Ok file) given → given ≡ answer_kept file
said_kept (Some bytes) given says = says
said_kept None given says = says

pub kept_more : (path : List ℕ) (file : Option (List ℕ)) (given : Answer) (old new : List (List ℕ × Option (List ℕ))) → new ≡ old ++ (path, file) ∷ [] → Says (Ok file) given → map exchange_kept new ≡ map exchange_kept old ++ (path, given) ∷ []
kept_more path file given old new is says =
    ap (map exchange_kept) is ∙ map-append exchange_kept old ((path, file) ∷ []) ∙ ap (λ (a : Answer). map exchange_kept old ++ (path, a) ∷ []) (sym (said_kept file given says))

pub asked_run : {S : Type 0} (fetches : S → List ℕ → Answer → S → Type 0) (pairs : List (List ℕ × Option (List ℕ))) (result : Result (Option (List ℕ)) AskFault) (path sent bytes : List ℕ)
    (fetched : Result Bool FetchFault) (old new : FilesSeen S)
    → sent ≡ path → old.kept ≡ map exchange_kept pairs → kept_at path pairs ≡ None → fetches old.self sent (answer_of fetched bytes) new.self → IfOk fetched (λ there. Fetches old.holds sent there bytes)
    → Tells (Logs sent) old.told new.told → new.holds ≡ old.holds → old.faults ≤ new.faults → OnOk fetched (new.faults ≡ old.faults) → (IsErrOf fetched FetchFault.Memory → new.faults ≡ old.faults)
    → (IsErrOf fetched FetchFault.Failed → Rises old.faults new.faults) → All (λ byte. byte < 256) bytes
    → Says result (answer_of fetched bytes) → OnOk result (new.kept ≡ old.kept ++ (path, answer_of fetched bytes) ∷ []) → Runs fetches IsUnread (file_at unread path) result old new
asked_run fetches pairs result path sent bytes fetched old new same kept none shows tells logs holds rises still refused failed low says more = record {
  asked = (path, answer_of fetched bytes) ∷ [];
  files = told;
  gives = λ look gave. said_end result (answer_of fetched bytes) (look path) says (gave-second look old.kept ((path, answer_of fetched bytes) ∷ []) gave).0;
  whole = λ is look gave. one;
  some = λ look gave. (1, one);
  kept = more;
}
  where
    fresh_one : list_any (bytes_eq path) (paths_in old.kept) ≡ false
    fresh_one = ap (λ (k : List Exchange). list_any (bytes_eq path) (paths_in k)) kept ∙ not_known path pairs none

    one : path ∷ [] ≡ fresh (paths_in old.kept) (path ∷ [])
    one = sym (ap (λ test. if test then [] else path ∷ []) fresh_one)

    told : FilesTold fetches ((path, answer_of fetched bytes) ∷ []) old new
    told = record {
      chain = (new.self, subst (λ (p : List ℕ). fetches old.self p (answer_of fetched bytes) new.self) same shows, refl);
      agree = (subst (λ (p : List ℕ). Agrees old.holds p (answer_of fetched bytes)) same (agrees old.holds sent bytes fetched tells), tt);
      bytes = (are_bytes bytes fetched low, tt);
      logged = subst (λ (p : List ℕ). Tells (Asks (p ∷ [])) old.told new.told) same (one_told sent old.told new.told logs);
      once = (fresh_one, tt);
      holds = holds;
      rises = rises;
      still = λ read. read_still fetched bytes old.faults new.faults still refused read.0;
      failed = λ unread. unread_rises fetched bytes old.faults new.faults failed (λ there. unread (there, tt));
    }

-- the same, where a fault is handed on
pub asked_stopped : {S : Type 0} (fetches : S → List ℕ → Answer → S → Type 0) (pairs : List (List ℕ × Option (List ℕ))) (result : Result (Option (List ℕ)) AskFault) (why : AskFault) (path sent bytes : List ℕ)
    (fetched : Result Bool FetchFault) (old new : FilesSeen S)
    → sent ≡ path → old.kept ≡ map exchange_kept pairs → kept_at path pairs ≡ None → fetches old.self sent (answer_of fetched bytes) new.self → IfOk fetched (λ there. Fetches old.holds sent there bytes)
    → Tells (Logs sent) old.told new.told → new.holds ≡ old.holds → old.faults ≤ new.faults → OnOk fetched (new.faults ≡ old.faults) → (IsErrOf fetched FetchFault.Memory → new.faults ≡ old.faults)
    → (IsErrOf fetched FetchFault.Failed → Rises old.faults new.faults) → All (λ byte. byte < 256) bytes
    → Says (Err why) (answer_of fetched bytes) → IsErrAnd result (λ passed. passed ≡ why) → Runs fetches IsUnread (file_at unread path) result old new
asked_stopped fetches pairs result why path sent bytes fetched old new same kept none shows tells logs holds rises still refused failed low says is =
    let passed = err_from_is_err_and result is in
    subst (λ (r : Result (Option (List ℕ)) AskFault). Runs fetches IsUnread (file_at unread path) r old new) (sym (passed.1 ∙ ap Err passed.2))
    (asked_run fetches pairs (Err why) path sent bytes fetched old new same kept none shows tells logs holds rises still refused failed low says tt)
