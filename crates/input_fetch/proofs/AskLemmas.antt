-- The files of inputs that are asked for one after the other.
use Rattle.std.proofs.Common.{◌≡◌, ℕ, suc, ◌+◌, ◌<◌, ◌≤◌, ◌++◌, ◌∷◌, [], List, length, drop, get_or, Option, Some, None, Result, Ok, Err, IsErrAnd, refl, sym, ap, ◌∙◌, subst, arith, add-one, append_assoc}
use Rattle.std.proofs.Math.Seq.{drop-cons}
use Rattle.std.proofs.lemmas.List.{append-nil, drop_all}
use Rattle.std.proofs.lemmas.Result.{err_from_is_err_and}
use Rattle.file_cache.proofs.RunLemmas.{none_run, short_start, then_ended, then_run}
use Rattle.file_cache.specs.Kept.{FilesSeen}
use Rattle.file_cache.specs.Program.{File, Program, ◌>>=◌, ends, file_at}
use Rattle.file_cache.specs.Runs.{Runs}
use Rattle.mo_outside.specs.Answers.{Answer}
use Rattle.input_fetch.specs.Contents.{IsFetchStop, content_of, contents_of, first_of, there_or}
use Rattle.input_fetch.specs.declared.content.Content.{Content}
use Rattle.input_fetch.specs.declared.stop.FetchStop.{FetchStop}
use Rattle.input_fetch.specs.declared.stop.FetchStop.TheVariants.{ReadFault, Missing, OutOfMemory}

drop_next : {A : Type 0} (xs : List A) (n : ℕ) (d : A) → n < length xs → drop n xs ≡ get_or xs n d ∷ drop (n + 1) xs
drop_next xs n d within = drop-cons xs n d within ∙ ap (λ (m : ℕ). get_or xs n d ∷ drop m xs) (sym (add-one n))

module _ {S : Type 0} (fetches : S → List ℕ → Answer → S → Type 0) where
  abbrev Ran : {A : Type 0} → Program A FetchStop → Result A FetchStop → FilesSeen S → FilesSeen S → Type 0
  Ran program result old new = Runs fetches IsFetchStop program result old new

  -- what is done from now on is all of a program, where a first part of it was done
  abbrev pub Goes : {A : Type 0} → Program A FetchStop → Program A FetchStop → (Result A FetchStop → Result A FetchStop) → FilesSeen S → FilesSeen S → Type 0
  Goes {A = A} all rest turned old now = (result : Result A FetchStop) (new : FilesSeen S) → Ran rest result now new → Ran all (turned result) old new

  -- ---- memory that runs out

  -- before a path was asked for
  pub wanting : {A : Type 0} (program : Program A FetchStop) (result : Result A FetchStop) (seen : FilesSeen S) → IsErrAnd result (λ why. why ≡ OutOfMemory) → Ran program result seen seen
  wanting {A = A} program result seen is =
      let passed = err_from_is_err_and result is in
      subst (λ (r : Result A FetchStop). Ran program r seen seen) (sym (passed.1 ∙ ap Err passed.2)) (short_start fetches IsFetchStop program OutOfMemory seen (λ real. real))

  -- after a value
  pub wanting_then : {A B : Type 0} (program : Program A FetchStop) (next : A → Program B FetchStop) (x : A) (result : Result B FetchStop) (old new : FilesSeen S)
      → IsErrAnd result (λ why. why ≡ OutOfMemory) → Ran program (Ok x) old new → Ran (program >>= next) result old new
  wanting_then program next x result old new is first = then_run fetches IsFetchStop program next x result old new new first (wanting (next x) result new is)

  -- ---- the paths of an input

  -- what is known of a file that was asked for
  pub known_as : (path : List ℕ) (first second : Option (List ℕ)) (old new : FilesSeen S) → first ≡ second → Ran (file_at (ReadFault path) path) (Ok first) old new → Ran (file_at (ReadFault path) path) (Ok second) old new
  known_as path first second old new same ran = subst (λ (file : Option (List ℕ)). Ran (file_at (ReadFault path) path) (Ok file) old new) same ran

  -- the first ones have no file
  abbrev pub AreAbsent : List (List ℕ) → ℕ → FilesSeen S → FilesSeen S → Type 0
  AreAbsent paths count old now = Goes (content_of (first_of paths) paths) (content_of (first_of paths) (drop count paths)) (λ result. result) old now

  -- what stands at the next path, and what follows
  path_at : (first : List ℕ) (paths : List (List ℕ)) (count : ℕ) (path : List ℕ) → count < length paths → path ≡ get_or paths count path
      → content_of first (drop count paths) ≡ (file_at (ReadFault path) path >>= there_or path (content_of first (drop (count + 1) paths)))
  path_at first paths count path within is =
      ap (content_of first) (drop_next paths count path within)
      ∙ ap (λ (p : List ℕ). file_at (ReadFault p) p >>= there_or p (content_of first (drop (count + 1) paths))) (sym is)

  pub then_absent : (paths : List (List ℕ)) (count : ℕ) (path : List ℕ) (old now new : FilesSeen S) → count < length paths → path ≡ get_or paths count path
      → AreAbsent paths count old now → Ran (file_at (ReadFault path) path) (Ok None) now new → AreAbsent paths (count + 1) old new
  then_absent paths count path old now new within is absent ran result last rest =
      absent result last
      (subst (λ (p : Program Content FetchStop). Ran p result now last) (sym (path_at (first_of paths) paths count path within is))
      (then_run fetches IsFetchStop (file_at (ReadFault path) path) (there_or path (content_of (first_of paths) (drop (count + 1) paths))) None result now new last ran rest))

  pub then_there : (paths : List (List ℕ)) (count : ℕ) (path label bytes : List ℕ) (old now new : FilesSeen S) → count < length paths → path ≡ get_or paths count path → label ≡ path
      → AreAbsent paths count old now → Ran (file_at (ReadFault path) path) (Ok (Some bytes)) now new
      → Ran (content_of (first_of paths) paths) (Ok (record { label = label; bytes = bytes })) old new
  then_there paths count path label bytes old now new within is same absent ran =
      absent _ new
      (subst (λ (p : Program Content FetchStop). Ran p (Ok (record { label = label; bytes = bytes })) now new) (sym (path_at (first_of paths) paths count path within is))
      (then_run fetches IsFetchStop (file_at (ReadFault path) path) (there_or path (content_of (first_of paths) (drop (count + 1) paths))) (Some bytes) _ now new new ran
      (none_run fetches IsFetchStop _ _ new (ap (λ (l : List ℕ). Ok (record { label = l; bytes = bytes })) (sym same)))))

  pub then_wanting : (paths : List (List ℕ)) (count : ℕ) (path : List ℕ) (file : Option (List ℕ)) (result : Result Content FetchStop) (old now new : FilesSeen S) → count < length paths → path ≡ get_or paths count path
      → IsErrAnd result (λ why. why ≡ OutOfMemory) → AreAbsent paths count old now → Ran (file_at (ReadFault path) path) (Ok file) now new → Ran (content_of (first_of paths) paths) result old new
  then_wanting paths count path file result old now new within is short absent ran =
      absent result new
      (subst (λ (p : Program Content FetchStop). Ran p result now new) (sym (path_at (first_of paths) paths count path within is))
      (wanting_then (file_at (ReadFault path) path) (there_or path (content_of (first_of paths) (drop (count + 1) paths))) file result now new short ran))

  pub then_stopped : (paths : List (List ℕ)) (count : ℕ) (path : List ℕ) (why : FetchStop) (result : Result Content FetchStop) (old now new : FilesSeen S) → count < length paths → path ≡ get_or paths count path
      → IsErrAnd result (λ passed. passed ≡ why) → AreAbsent paths count old now → Ran (file_at (ReadFault path) path) (Err why) now new → Ran (content_of (first_of paths) paths) result old new
  then_stopped paths count path why result old now new within is passed absent ran =
      absent result new
      (subst (λ (p : Program Content FetchStop). Ran p result now new) (sym (path_at (first_of paths) paths count path within is))
      (then_ended fetches IsFetchStop (file_at (ReadFault path) path) (there_or path (content_of (first_of paths) (drop (count + 1) paths))) why result now new ran passed))

  pub none_there : (paths : List (List ℕ)) (count : ℕ) (path : List ℕ) (old now : FilesSeen S) → length paths ≤ count → path ≡ first_of paths → AreAbsent paths count old now
      → Ran (content_of (first_of paths) paths) (Err (Missing path)) old now
  none_there paths count path old now past is absent =
      absent _ now
      (subst (λ (rest : List (List ℕ)). Ran (content_of (first_of paths) rest) (Err (Missing path)) now now) (sym (drop_all count paths past))
      (none_run fetches IsFetchStop _ _ now (λ real. ap (λ (p : List ℕ). Err (Missing p)) (sym is))))

  -- the same of other paths that are these
  pub at_place : (paths others : List (List ℕ)) (result : Result Content FetchStop) (old new : FilesSeen S) → paths ≡ others → Ran (content_of (first_of paths) paths) result old new → Ran (content_of (first_of others) others) result old new
  at_place paths others result old new same ran = subst (λ (list : List (List ℕ)). Ran (content_of (first_of list) list) result old new) same ran

  -- ---- the inputs

  -- contents, and then those of a result
  abbrev pub and_all : List Content → Result (List Content) FetchStop → Result (List Content) FetchStop
  and_all contents (Ok more) = Ok (contents ++ more)
  and_all contents (Err why) = Err why

  -- the first inputs have these contents
  abbrev pub AreThere : List (List (List ℕ)) → ℕ → List Content → FilesSeen S → FilesSeen S → Type 0
  AreThere places count contents old now = Goes (contents_of places) (contents_of (drop count places)) (and_all contents) old now

  abbrev with_more : List (List (List ℕ)) → Content → Program (List Content) FetchStop
  with_more places content = contents_of places >>= λ more. ends (Ok (content ∷ more))

  with_one : (places : List (List (List ℕ))) (content : Content) (result : Result (List Content) FetchStop) (old new : FilesSeen S) → Ran (contents_of places) result old new → Ran (with_more places content) (and_all (content ∷ []) result) old new
  with_one places content (Ok more) old new ran =
      then_run fetches IsFetchStop (contents_of places) (λ all. ends (Ok (content ∷ all))) more (Ok (content ∷ more)) old new new ran (none_run fetches IsFetchStop _ _ new refl)
  with_one places content (Err why) old new ran = then_ended fetches IsFetchStop (contents_of places) (λ all. ends (Ok (content ∷ all))) why (Err why) old new ran refl

  one_more : (contents : List Content) (content : Content) (result : Result (List Content) FetchStop) → and_all contents (and_all (content ∷ []) result) ≡ and_all (contents ++ content ∷ []) result
  one_more contents content (Ok more) = ap Ok (sym (append_assoc contents (content ∷ []) more))
  one_more contents content (Err why) = refl

  pub none_yet : (places : List (List (List ℕ))) (contents : List Content) (seen : FilesSeen S) → contents ≡ [] → AreThere places 0 contents seen seen
  none_yet places contents seen none result last ran = subst (λ (c : List Content). Ran (contents_of places) (and_all c result) seen last) (sym none) (by result ran)
    where
      by : (r : Result (List Content) FetchStop) → Ran (contents_of places) r seen last → Ran (contents_of places) (and_all [] r) seen last
      by (Ok more) ran = ran
      by (Err why) ran = ran

  -- the paths of the next input, and what follows
  input_at : (places : List (List (List ℕ))) (count : ℕ) (paths : List (List ℕ)) → count < length places → paths ≡ get_or places count []
      → contents_of (drop count places) ≡ (content_of (first_of paths) paths >>= with_more (drop (count + 1) places))
  input_at places count paths within is =
      ap contents_of (drop_next places count [] within)
      ∙ ap (λ (ps : List (List ℕ)). content_of (first_of ps) ps >>= with_more (drop (count + 1) places)) (sym is)

  pub then_content : (places : List (List (List ℕ))) (count : ℕ) (contents more : List Content) (content : Content) (old now new : FilesSeen S) → more ≡ contents ++ content ∷ [] → count < length places
      → AreThere places count contents old now → (let paths : List (List ℕ) = get_or places count [] in Ran (content_of (first_of paths) paths) (Ok content) now new) → AreThere places (count + 1) more old new
  then_content places count contents more content old now new made within there ran result last rest =
      let paths : List (List ℕ) = get_or places count [] in
      subst (λ (r : Result (List Content) FetchStop). Ran (contents_of places) r old last)
      (one_more contents content result ∙ ap (λ (c : List Content). and_all c result) (sym made))
      (there (and_all (content ∷ []) result) last
      (subst (λ (p : Program (List Content) FetchStop). Ran p (and_all (content ∷ []) result) now last) (sym (input_at places count paths within refl))
      (then_run fetches IsFetchStop (content_of (first_of paths) paths) (with_more (drop (count + 1) places)) content _ now new last ran
      (with_one (drop (count + 1) places) content result new last rest))))

  pub then_stop : (places : List (List (List ℕ))) (count : ℕ) (contents : List Content) (why : FetchStop) (result : Result (List Content) FetchStop) (old now new : FilesSeen S) → count < length places
      → IsErrAnd result (λ passed. passed ≡ why) → AreThere places count contents old now → (let paths : List (List ℕ) = get_or places count [] in Ran (content_of (first_of paths) paths) (Err why) now new)
      → Ran (contents_of places) result old new
  then_stop places count contents why result old now new within passed there ran =
      let paths : List (List ℕ) = get_or places count [] in
      let is = err_from_is_err_and result passed in
      subst (λ (r : Result (List Content) FetchStop). Ran (contents_of places) r old new) (sym is.1)
      (there (Err is.0) new
      (subst (λ (p : Program (List Content) FetchStop). Ran p (Err is.0) now new) (sym (input_at places count paths within refl))
      (then_ended fetches IsFetchStop (content_of (first_of paths) paths) (with_more (drop (count + 1) places)) why (Err is.0) now new ran is.2)))

  -- no memory to keep an input's content, or for its paths
  pub then_short : (places : List (List (List ℕ))) (count : ℕ) (contents : List Content) (result : Result (List Content) FetchStop) (old now : FilesSeen S)
      → IsErrAnd result (λ why. why ≡ OutOfMemory) → AreThere places count contents old now → Ran (contents_of places) result old now
  then_short places count contents result old now short there =
      let is = err_from_is_err_and result short in
      subst (λ (r : Result (List Content) FetchStop). Ran (contents_of places) r old now) (sym is.1)
      (there (Err is.0) now (wanting (contents_of (drop count places)) (Err is.0) now is.2))

  pub all_there : (places : List (List (List ℕ))) (count : ℕ) (contents : List Content) (old now : FilesSeen S) → length places ≤ count → AreThere places count contents old now → Ran (contents_of places) (Ok contents) old now
  all_there places count contents old now past there =
      subst (λ (c : List Content). Ran (contents_of places) (Ok c) old now) (append-nil contents)
      (there (Ok []) now (subst (λ (rest : List (List (List ℕ))). Ran (contents_of rest) (Ok []) now now) (sym (drop_all count places past)) (none_run fetches IsFetchStop _ _ now refl)))
