-- Files that can all be read.
use Rattle.std.proofs.Common.{◌≡◌, ◌↔◌, ℕ, ◌∷◌, [], List, Option, Some, None, Result, Ok, Err, refl, sym, ap, ◌∙◌}
use Rattle.file_cache.specs.Program.{File, Outcome, Program, ◌>>=◌, and_then, ends, file_at, read_as}
use Rattle.file_cache.specs.Runs.{file_in, standing}
use Rattle.mo_outside.specs.Files.{FileMap, fetched}
use Rattle.mo_types.specs.Gives as given
use Rattle.input_fetch.specs.Contents as spec
use Rattle.input_fetch.specs.Contents.{content_of, contents_of, first_of}
use Rattle.input_fetch.specs.There.{AreFirstThere, IsFirstMissing, contents_in, found_in, or_missing, there_or}
use Rattle.input_fetch.specs.declared.content.Content.{Content}
use Rattle.input_fetch.specs.declared.stop.FetchStop.{FetchStop}
use Rattle.input_fetch.specs.declared.stop.FetchStop.TheVariants.{ReadFault, Missing}
use Rattle.input_fetch.proofs.ThereLemmas.{from_missing, from_there, missing_from, not_unread, there_from}

-- the end of what follows a value
then_end : {A B : Type 0} (tried : List (List ℕ)) (end : Result A FetchStop) (next : A → Outcome B FetchStop) → (and_then tried end next).end ≡ given.◌>>=◌ end (λ x. (next x).end)
then_end tried (Ok x) next = refl
then_end tried (Err why) next = refl

content_told : (files : FileMap) (first : List ℕ) (paths : List (List ℕ)) → (content_of first paths (file_in files)).end ≡ or_missing first (found_in files paths)
content_told files first [] = refl
content_told files first (path ∷ paths) = by (fetched files path) (content_told files first paths)
  where
    by : (o : Option (List ℕ)) → (content_of first paths (file_in files)).end ≡ or_missing first (found_in files paths)
        → (and_then (path ∷ []) (read_as (ReadFault path) (standing o)) (λ file. spec.there_or path (content_of first paths) file (file_in files))).end ≡ or_missing first (there_or path o (found_in files paths))
    by (Some bytes) later = refl
    by None later = later

pub contents_told : (files : FileMap) (places : List (List (List ℕ))) → (contents_of places (file_in files)).end ≡ contents_in files places
contents_told files [] = refl
contents_told files (paths ∷ places) =
    let look : List ℕ → File = file_in files in
    let one : Outcome Content FetchStop = content_of (first_of paths) paths look in
    let rest : Content → Program (List Content) FetchStop = λ content. contents_of places >>= λ more. ends (Ok (content ∷ more)) in
    then_end one.tried one.end (λ content. rest content look)
    ∙ ap (λ (end : Result Content FetchStop). given.◌>>=◌ end (λ content. (rest content look).end)) (content_told files (first_of paths) paths)
    ∙ by (or_missing (first_of paths) (found_in files paths)) (contents_of places look) (contents_told files places)
  where
    by : (found : Result Content FetchStop) (more : Outcome (List Content) FetchStop) → more.end ≡ contents_in files places
        → given.◌>>=◌ found (λ content. (and_then more.tried more.end (λ all. ends (Ok (content ∷ all)) (file_in files))).end)
        ≡ given.◌>>=◌ found (λ content. given.◌>>=◌ (contents_in files places) (λ all. Ok (content ∷ all)))
    by (Ok content) more is =
        then_end more.tried more.end (λ all. ends (Ok (content ∷ all)) (file_in files)) ∙ ap (λ (end : Result (List Content) FetchStop). given.◌>>=◌ end (λ all. Ok (content ∷ all))) is
    by (Err why) more is = refl

-- in the words of the files

pub read_told : (files : FileMap) (places : List (List (List ℕ))) (path : List ℕ) → ¬ ((contents_of places (file_in files)).end ≡ Err (ReadFault path))
read_told files places path is = not_unread files places path (sym (contents_told files places) ∙ is)

pub there_told : (files : FileMap) (places : List (List (List ℕ))) (contents : List Content) → ((contents_of places (file_in files)).end ≡ Ok contents) ↔ AreFirstThere files places contents
there_told files places contents = (
  λ is. there_from files places contents (sym (contents_told files places) ∙ is),
  λ all. contents_told files places ∙ from_there files places contents all,
)

pub missing_told : (files : FileMap) (places : List (List (List ℕ))) (path : List ℕ) → ((contents_of places (file_in files)).end ≡ Err (Missing path)) ↔ IsFirstMissing files places path
missing_told files places path = (
  λ is. missing_from files places path (sym (contents_told files places) ∙ is),
  λ first. contents_told files places ∙ from_missing files places path first,
)

pub ruleset told = (read_told)
