-- Programs that are run over files.
use Rattle.std.specs.Prelude.{ℕ, ◌≡◌, ◌≢◌, ◌≤◌, ◌<◌, ◌++◌, List, [], ◌∷◌, All, map, take, false, bytes_eq, Option, Some, None, Result, Ok, Err, OnOk, if◌then◌else◌}
use Rattle.std.specs.List.{list_any}
use Rattle.std.specs.Map.{lookup}
use Rattle.mo_outside.specs.Answers.{Agrees, Answer, Chain, Exchange}
use Rattle.mo_outside.specs.Answers as answer
use Rattle.mo_outside.specs.Faults.{Rises}
use Rattle.mo_outside.specs.Files.{FileMap, fetched}
use Rattle.mo_outside.specs.Tells.{Tells}
use Rattle.mo_types.specs.Gives.{Gives}
use Rattle.file_cache.specs.Kept.{FilesSeen}
use Rattle.file_cache.specs.Program.{File, There, Absent, Unread, Program}
use Rattle.file_cache.specs.declared.asking.AskFault.{AskFault}
use Rattle.file_cache.specs.declared.asking.AskFault.TheVariants as fault

abbrev pub paths_in : List Exchange → List (List ℕ)
paths_in asked = map (λ one. one.0) asked

-- the paths were asked for, one after the other, and no others
pub record Asks (paths old new : List (List ℕ)) : Type 0 where
  pub asked : new ≡ old ++ paths

-- an answer tells what stands there; where memory was refused it tells nothing
abbrev pub IsTold : File → Answer → Type 0
IsTold file (answer.There bytes) = file ≡ There bytes
IsTold file answer.Absent = file ≡ Absent
IsTold file answer.Unread = file ≡ Unread
IsTold file answer.Refused = Unit {0}

-- what stands under each path is what was answered
abbrev pub Gave : (List ℕ → File) → List Exchange → Type 0
Gave look [] = Unit {0}
Gave look (one ∷ more) = IsTold (look one.0) one.1 × Gave look more

-- each answer is that of the files, where these are told
abbrev pub AllAgree : Option FileMap → List Exchange → Type 0
AllAgree held [] = Unit {0}
AllAgree held (one ∷ more) = Agrees held one.0 one.1 × AllAgree held more

-- what was read are bytes
abbrev pub IsOfBytes : Answer → Type 0
IsOfBytes (answer.There bytes) = All (λ byte. byte < 256) bytes
IsOfBytes answer.Absent = Unit {0}
IsOfBytes answer.Unread = Unit {0}
IsOfBytes answer.Refused = Unit {0}

abbrev pub AreOfBytes : List Exchange → Type 0
AreOfBytes [] = Unit {0}
AreOfBytes (one ∷ more) = IsOfBytes one.1 × AreOfBytes more

-- every file could be read
abbrev pub AllRead : List Exchange → Type 0
AllRead [] = Unit {0}
AllRead (one ∷ more) = (one.1 ≢ answer.Unread) × AllRead more

-- of paths those that aren't known, each where it comes first
abbrev pub fresh : List (List ℕ) → List (List ℕ) → List (List ℕ)
fresh known [] = []
fresh known (path ∷ paths) = if list_any (bytes_eq path) known then fresh known paths else path ∷ fresh (known ++ path ∷ []) paths

-- a value, or a fault that definitions give
abbrev pub IsReal : {A E : Type 0} → (E → Type 0) → Result A E → Type 0
IsReal real (Ok x) = Unit {0}
IsReal real (Err why) = real why

-- each of the paths comes for the first time, after those before
abbrev pub AreNew : List (List ℕ) → List (List ℕ) → Type 0
AreNew before [] = Unit {0}
AreNew before (path ∷ paths) = (list_any (bytes_eq path) before ≡ false) × AreNew (before ++ path ∷ []) paths

-- What files told is a finite map from paths to answers. They were asked for its paths, each once, of none of which anything
-- was kept, in this order, and gave these answers, of which the ones on a file are bytes. They hold what they held, and their
-- count of faults rose just where a file couldn't be read.
pub record FilesTold {S : Type 0} (fetches : S → List ℕ → Answer → S → Type 0) (told : List Exchange) (old new : FilesSeen S) : Type 0 where
  pub chain : Chain fetches old.self told new.self
  pub agree : AllAgree old.holds told
  pub bytes : AreOfBytes told
  pub logged : Tells (Asks (paths_in told)) old.told new.told
  pub once : AreNew (paths_in old.kept) (paths_in told)
  pub holds : new.holds ≡ old.holds
  pub rises : old.faults ≤ new.faults
  pub still : AllRead told → new.faults ≡ old.faults
  pub failed : ¬ AllRead told → Rises old.faults new.faults

-- A program was run: files told something, which is kept. By any look-up that gives this and what was kept before, the result
-- is the program's end, and the paths are those that it tries and that weren't kept; where memory ran out, they are those among
-- the first that it tries.
pub record Runs {S A E : Type 0} (fetches : S → List ℕ → Answer → S → Type 0) (real : E → Type 0) (program : Program A E)
    (result : Result A E) (old new : FilesSeen S) : Type 0 where
  pub asked : List Exchange
  pub files : FilesTold fetches asked old new
  pub gives : (look : List ℕ → File) → Gave look (old.kept ++ asked) → Gives real result (program look).end
  pub whole : IsReal real result → (look : List ℕ → File) → Gave look (old.kept ++ asked) → paths_in asked ≡ fresh (paths_in old.kept) (program look).tried
  pub some : (look : List ℕ → File) → Gave look (old.kept ++ asked) → (count : ℕ) × (paths_in asked ≡ fresh (paths_in old.kept) (take count (program look).tried))
  pub kept : OnOk result (new.kept ≡ old.kept ++ asked)

-- ---- one path

-- the fault of a file that couldn't be read
abbrev pub unread : AskFault
unread = fault.Unread

abbrev pub IsUnread : AskFault → Type 0
IsUnread fault.Unread = Unit {0}
IsUnread fault.OutOfMemory = ⊥

-- what is told of a fetch is its answer; want of memory is left to the code
abbrev pub Says : Result (Option (List ℕ)) AskFault → Answer → Type 0
Says (Ok (Some bytes)) given = given ≡ answer.There bytes
Says (Ok None) given = given ≡ answer.Absent
Says (Err fault.Unread) given = given ≡ answer.Unread
Says (Err fault.OutOfMemory) given = Unit {0}

-- ---- what holds of these

-- what files that can be read have under a path
abbrev pub standing : Option (List ℕ) → File
standing (Some bytes) = There bytes
standing None = Absent

abbrev pub file_in : FileMap → List ℕ → File
file_in files path = standing (fetched files path)

-- what is told of a path, if anything is: what was answered; nothing stands under any other path
abbrev pub told_as : Option Answer → File
told_as None = Absent
told_as (Some (answer.There bytes)) = There bytes
told_as (Some answer.Absent) = Absent
told_as (Some answer.Unread) = Unread
told_as (Some answer.Refused) = Absent

-- what stands under each path where no more than this was told
abbrev pub file_told : List Exchange → List ℕ → File
file_told told path = told_as (lookup (bytes_eq path) told)

-- What is made of an answer, where a file that couldn't be read has this fault: the file, the fault, or want of memory.
abbrev pub Passes : {E : Type 0} → (E → Type 0) → E → Result (Option (List ℕ)) AskFault → Result (Option (List ℕ)) E → Type 0
Passes real why (Ok file) (Ok passed) = passed ≡ file
Passes real why (Ok file) (Err fault) = ¬ real fault
Passes real why (Err fault.Unread) (Ok passed) = ⊥
Passes real why (Err fault.Unread) (Err fault) = real fault → fault ≡ why
Passes real why (Err fault.OutOfMemory) (Ok passed) = ⊥
Passes real why (Err fault.OutOfMemory) (Err fault) = ¬ real fault
