-- What is fetched of files that are bytes has bytes.
use Rattle.std.proofs.Common.{◌≡◌, ◌<◌, ℕ, ◌+◌, inl, inr, All, length, get_or, arith, Bool, true, false, cond, bytes_eq, List, [], ◌∷◌, Some, Result, Ok, Err, refl, subst}
use Rattle.std.specs.Map.{lookup}
use Rattle.std.proofs.lemmas.Bool.{cases_lt}
use Rattle.std.proofs.lemmas.List.{get_or_past}
use Rattle.std.specs.List.{AllByRecursion}
use Rattle.file_cache.specs.Program.{File, There, Absent, Unread, Outcome, and_then, ends, read_as}
use Rattle.file_cache.specs.Runs.{AreOfBytes, IsOfBytes, file_told, told_as}
use Rattle.input_fetch.specs.Contents.{content_of, contents_of, first_of, there_or}
use Rattle.input_fetch.specs.declared.content.Content.{Content}
use Rattle.input_fetch.specs.declared.stop.FetchStop.TheVariants.{ReadFault}
use Rattle.command_line.specs.declared.command.CommandInput.{CommandInput}
use Rattle.mo_obj.specs.Read.{AreBytes}
use Rattle.mo_outside.specs.Answers.{Answer, Exchange}
use Rattle.mo_outside.specs.Answers as answer
use Rattle.link_engine.specs.Bytes.{HasBytes, HaveBytes as HaveLookBytes}
use Rattle.link_engine.specs.Input.{inputs_from}
use Rattle.link_engine.proofs.PartLemmas.{HaveBytes as HaveInputBytes}
use Rattle.link_engine.proofs.ValueLemmas.{no_value, same_value}

-- ---- what was fetched

-- files of bytes
abbrev pub AreFetched : List Content → Type 0
AreFetched found = AllByRecursion (λ (content : Content). AreBytes content.bytes) found

-- what follows a value, which is given
then_ok : {A B E : Type 0} (tried : List (List ℕ)) (end : Result A E) (next : A → Outcome B E) (y : B) → (and_then tried end next).end ≡ Ok y → (x : A) × (end ≡ Ok x) × ((next x).end ≡ Ok y)
then_ok tried (Ok x) next y is = (x, refl, is)
then_ok tried (Err why) next y is = absurd cc

found_bytes : (look : List ℕ → File) (first : List ℕ) (paths : List (List ℕ)) (found : Content) → HaveLookBytes look → (content_of first paths look).end ≡ Ok found → AreBytes found.bytes
found_bytes look first [] found have e = no_value _ found e
found_bytes look first (path ∷ paths) found have e = by (look path) (have path) (found_bytes look first paths found have) e
  where
    by : (stands : File) → HasBytes stands → ((content_of first paths look).end ≡ Ok found → AreBytes found.bytes)
        → (and_then (path ∷ []) (read_as (ReadFault path) stands) (λ file. there_or path (content_of first paths) file look)).end ≡ Ok found → AreBytes found.bytes
    by (There bytes) are later is = subst (λ (content : Content). AreBytes content.bytes) (same_value _ found is) are
    by Absent are later is = later is
    by Unread are later is = no_value _ found is

pub fetched_bytes : (look : List ℕ → File) (places : List (List (List ℕ))) (found : List Content) → HaveLookBytes look → (contents_of places look).end ≡ Ok found → AreFetched found
fetched_bytes look [] found have e = subst AreFetched (same_value [] found e) tt
fetched_bytes look (paths ∷ places) found have e =
    let one = then_ok (content_of (first_of paths) paths look).tried (content_of (first_of paths) paths look).end _ found e in
    let more = then_ok (contents_of places look).tried (contents_of places look).end (λ all. ends (Ok (one.0 ∷ all)) look) found one.2 in
    subst AreFetched (same_value (one.0 ∷ more.0) found more.2)
    (found_bytes look (first_of paths) paths one.0 have one.1, fetched_bytes look places more.0 have more.1)

pub inputs_bytes : (all : Bool) (at : ℕ) (inputs : List CommandInput) (found : List Content) → AreFetched found → HaveInputBytes (inputs_from all at inputs found)
inputs_bytes all at [] found are = tt
inputs_bytes all at (input ∷ inputs) [] are = tt
inputs_bytes all at (input ∷ inputs) (content ∷ found) are = (are.0, inputs_bytes all (at + 1) inputs found are.1)

-- ---- what was told

are_bytes : (bytes : List ℕ) → All (λ byte. byte < 256) bytes → AreBytes bytes
are_bytes bytes all i = elim (cases_lt i (length bytes)) [
  | inl within ↦ all i 0 within
  | inr past ↦ let none : get_or bytes i 0 ≡ 0 = get_or_past bytes i 0 past in omega (arith, none)
]

told_bytes : (given : Answer) → IsOfBytes given → HasBytes (told_as (Some given))
told_bytes (answer.There bytes) are = are_bytes bytes are
told_bytes answer.Absent are = tt
told_bytes answer.Unread are = tt
told_bytes answer.Refused are = tt

-- a map of answers that are bytes has bytes under each path
pub map_bytes : (told : List Exchange) → AreOfBytes told → HaveLookBytes (file_told told)
map_bytes [] are path = tt
map_bytes ((name, given) ∷ told) (here, are) path = by (bytes_eq path name) (map_bytes told are path)
  where
    by : (b : Bool) → HasBytes (file_told told path) → HasBytes (told_as (cond b (Some given) (lookup (bytes_eq path) told)))
    by true later = told_bytes given here
    by false later = later
