-- Programs that are run one after the other.
use Rattle.std.proofs.Common.{◌≡◌, ◌≢◌, ◌⊎◌, inl, inr, if◌then◌else◌, ℕ, zero, suc, ◌+◌, ◌≤◌, ◌++◌, ◌∷◌, [], List, length, min, take, Bool, true, false, cond, ◌||◌, Option, Some, None, Result, Ok, Err, IsErrAnd, OnOk, refl, sym, ap, ◌∙◌, subst, arith, append_assoc, bytes_eq}
use Rattle.std.specs.List.{list_any}
use Rattle.std.specs.Map.{lookup}
use Rattle.std.proofs.lemmas.List.{append-nil, map-append, take-append-le, take_all, take_min}
use Rattle.std.proofs.lemmas.Slice.Eq.{bytes_eq-Decides}
use Rattle.std.proofs.lemmas.Result.{err_from_is_err_and}
use Rattle.mo_outside.specs.Answers.{Answer, Chain, Exchange}
use Rattle.mo_outside.specs.Answers as answer
use Rattle.mo_outside.specs.Faults.{Rises}
use Rattle.mo_outside.specs.Files.{FileMap}
use Rattle.mo_outside.specs.Tells.{Tells}
use Rattle.mo_types.specs.Gives.{Gives}
use Rattle.file_cache.specs.Kept.{FilesSeen}
use Rattle.file_cache.specs.Program.{File, There, Absent, Unread, Program, ◌>>=◌, and_then, ends, file_at, read_as}
use Rattle.file_cache.specs.Runs.{AllAgree, AllRead, AreNew, AreOfBytes, Asks, Gave, IsTold, IsUnread, FilesTold, Passes, Runs, file_in, file_told, fresh, paths_in, standing, told_as, unread}
use Rattle.file_cache.specs.declared.asking.AskFault.{AskFault}
use Rattle.file_cache.specs.declared.asking.AskFault.TheVariants as fault

-- ---- paths that are asked for once

pub fresh_new : (known tried : List (List ℕ)) → AreNew known (fresh known tried)
fresh_new known [] = tt
fresh_new known (path ∷ tried) = by (list_any (bytes_eq path) known) refl (fresh_new known tried) (fresh_new (known ++ path ∷ []) tried)
  where
    by : (test : Bool) → list_any (bytes_eq path) known ≡ test → AreNew known (fresh known tried) → AreNew (known ++ path ∷ []) (fresh (known ++ path ∷ []) tried) → AreNew known (if test then fresh known tried else path ∷ fresh (known ++ path ∷ []) tried)
    by true is rest more = rest
    by false is rest more = (is, more)

-- those of a second list come after those of a first
pub fresh_append : (known first second : List (List ℕ)) → fresh known (first ++ second) ≡ fresh known first ++ fresh (known ++ fresh known first) second
fresh_append known [] second = ap (λ (before : List (List ℕ)). fresh before second) (sym (append-nil known))
fresh_append known (path ∷ first) second = by (list_any (bytes_eq path) known) (fresh_append known first second) (fresh_append (known ++ path ∷ []) first second)
  where
    by : (test : Bool) → fresh known (first ++ second) ≡ fresh known first ++ fresh (known ++ fresh known first) second
        → fresh (known ++ path ∷ []) (first ++ second) ≡ fresh (known ++ path ∷ []) first ++ fresh ((known ++ path ∷ []) ++ fresh (known ++ path ∷ []) first) second
        → (if test then fresh known (first ++ second) else path ∷ fresh (known ++ path ∷ []) (first ++ second))
        ≡ (if test then fresh known first else path ∷ fresh (known ++ path ∷ []) first) ++ fresh (known ++ (if test then fresh known first else path ∷ fresh (known ++ path ∷ []) first)) second
    by true rest more = rest
    by false rest more =
        ap (λ (paths : List (List ℕ)). path ∷ paths)
        (more
        ∙ ap (λ (before : List (List ℕ)). fresh (known ++ path ∷ []) first ++ fresh before second) (append_assoc known (path ∷ []) (fresh (known ++ path ∷ []) first)))

-- ---- answers of files that tell what they hold

pub files_gave : (files : FileMap) (asked : List Exchange) → AllAgree (Some files) asked → AllRead asked → Gave (file_in files) asked
files_gave files [] agree read = tt
files_gave files ((path, answer.There bytes) ∷ asked) (here, agree) (well, read) = (ap standing here, files_gave files asked agree read)
files_gave files ((path, answer.Absent) ∷ asked) (here, agree) (well, read) = (ap standing here, files_gave files asked agree read)
files_gave files ((path, answer.Unread) ∷ asked) (here, agree) (well, read) = absurd (well refl)
files_gave files ((path, answer.Refused) ∷ asked) (here, agree) (well, read) = (tt, files_gave files asked agree read)

-- ---- no path

pub none_told : (told : Option (List (List ℕ))) → Tells (Asks []) told told
none_told None = tt
none_told (Some paths) = record { asked = sym (append-nil paths) }

pub none_asked : {S : Type 0} (fetches : S → List ℕ → Answer → S → Type 0) (seen : FilesSeen S) → FilesTold fetches [] seen seen
none_asked fetches seen = record {
  chain = refl;
  agree = tt;
  bytes = tt;
  logged = none_told seen.told;
  once = tt;
  holds = refl;
  rises = omega arith;
  still = λ read. refl;
  failed = λ unread. absurd (unread tt);
}

kept_still : {A E : Type 0} (result : Result A E) (kept : List Exchange) → OnOk result (kept ≡ kept ++ [])
kept_still (Ok x) kept = sym (append-nil kept)
kept_still (Err why) kept = tt

pub none_run : {S A E : Type 0} (fetches : S → List ℕ → Answer → S → Type 0) (real : E → Type 0) (result end : Result A E) (seen : FilesSeen S) → Gives real result end → Runs fetches real (ends end) result seen seen
none_run fetches real result end seen gives = record {
  asked = [];
  files = none_asked fetches seen;
  gives = λ look gave. gives;
  whole = λ is look gave. refl;
  some = λ look gave. (0, refl);
  kept = kept_still result seen.kept;
}

-- memory ran out before anything was asked for
pub short_start : {S A E : Type 0} (fetches : S → List ℕ → Answer → S → Type 0) (real : E → Type 0) (program : Program A E) (why : E) (seen : FilesSeen S) → ¬ real why → Runs fetches real program (Err why) seen seen
short_start fetches real program why seen short = record {
  asked = [];
  files = none_asked fetches seen;
  gives = λ look gave is. absurd (short is);
  whole = λ is look gave. absurd (short is);
  some = λ look gave. (0, refl);
  kept = tt;
}

-- ---- a program, and then another one

pub chain-append : {S : Type 0} (fetches : S → List ℕ → Answer → S → Type 0) (first second : List Exchange) (a b c : S) → Chain fetches a first b → Chain fetches b second c → Chain fetches a (first ++ second) c
chain-append fetches [] second a b c same rest = subst (λ x. Chain fetches x second c) same rest
chain-append fetches (one ∷ first) second a b c (next, shows, more) rest = (next, shows, chain-append fetches first second next b c more rest)

pub agree-append : (held : Option FileMap) (first second : List Exchange) → AllAgree held first → AllAgree held second → AllAgree held (first ++ second)
agree-append held [] second all rest = rest
agree-append held (one ∷ first) second (here, all) rest = (here, agree-append held first second all rest)

pub bytes-append : (first second : List Exchange) → AreOfBytes first → AreOfBytes second → AreOfBytes (first ++ second)
bytes-append [] second all rest = rest
bytes-append (one ∷ first) second (here, all) rest = (here, bytes-append first second all rest)

pub read-both : (first second : List Exchange) → AllRead (first ++ second) → AllRead first × AllRead second
read-both [] second all = (tt, all)
read-both (one ∷ first) second (here, all) = let both = read-both first second all in ((here, both.0), both.1)

pub read-append : (first second : List Exchange) → AllRead first → AllRead second → AllRead (first ++ second)
read-append [] second all rest = rest
read-append (one ∷ first) second (here, all) rest = (here, read-append first second all rest)

pub tells-append : (first second : List (List ℕ)) (x y z : Option (List (List ℕ))) → Tells (Asks first) x y → Tells (Asks second) y z → Tells (Asks (first ++ second)) x z
tells-append first second x y None p q = tt
tells-append first second x None (Some c) p q = absurd q
tells-append first second None (Some b) (Some c) p q = absurd p
tells-append first second (Some a) (Some b) (Some c) p q =
    record { asked = q.asked ∙ ap (λ (paths : List (List ℕ)). paths ++ second) p.asked ∙ append_assoc a first second }

pub gave-first : (look : List ℕ → File) (first second : List Exchange) → Gave look (first ++ second) → Gave look first
gave-first look [] second all = tt
gave-first look (one ∷ first) second (here, all) = (here, gave-first look first second all)

pub gave-second : (look : List ℕ → File) (first second : List Exchange) → Gave look (first ++ second) → Gave look second
gave-second look [] second all = all
gave-second look (one ∷ first) second (here, all) = gave-second look first second all

pub paths-append : (first second : List Exchange) → paths_in (first ++ second) ≡ paths_in first ++ paths_in second
paths-append first second = map-append (λ (one : Exchange). one.0) first second

-- each file could be read, or one couldn't
pub read_or_not : (asked : List Exchange) → AllRead asked ⊎ ¬ AllRead asked
read_or_not [] = inl tt
read_or_not (one ∷ asked) = by one.1 (read_or_not asked)
  where
    by : (a : Answer) → AllRead asked ⊎ ¬ AllRead asked → ((a ≢ answer.Unread) × AllRead asked) ⊎ ¬ ((a ≢ answer.Unread) × AllRead asked)
    by (answer.There bytes) (inl read) = inl (λ e. absurd cc, read)
    by answer.Absent (inl read) = inl (λ e. absurd cc, read)
    by answer.Refused (inl read) = inl (λ e. absurd cc, read)
    by answer.Unread rest = inr (λ both. both.0 refl)
    by a (inr unread) = inr (λ both. unread both.1)

pub rises_on : (old mid new : ℕ) → Rises old mid → mid ≤ new → Rises old new
rises_on old mid new here more = omega (arith, here, more)

pub new-append : (before first second : List (List ℕ)) → AreNew before first → AreNew (before ++ first) second → AreNew before (first ++ second)
new-append before [] second all rest = subst (λ (paths : List (List ℕ)). AreNew paths second) (append-nil before) rest
new-append before (path ∷ first) second (here, all) rest =
    (here, new-append (before ++ path ∷ []) first second all (subst (λ (paths : List (List ℕ)). AreNew paths second) (sym (append_assoc before (path ∷ []) first)) rest))

pub take_more : {A : Type 0} (xs ys : List A) (n m : ℕ) → m ≡ length xs + n → take m (xs ++ ys) ≡ xs ++ take n ys
take_more [] ys n m is = ap (λ (k : ℕ). take k ys) (let e : m ≡ n = omega (arith, is) in e)
take_more (x ∷ xs) ys n zero is = absurd (let e : 0 ≡ length (x ∷ xs) + n = is in omega (arith, e))
take_more (x ∷ xs) ys n (suc m) is = ap (λ more. x ∷ more) (take_more xs ys n m (let e : suc m ≡ length (x ∷ xs) + n = is in omega (arith, e)))

pub take_first : {A : Type 0} (xs ys : List A) (n : ℕ) → take (min n (length xs)) (xs ++ ys) ≡ take n xs
take_first xs ys n = take-append-le (min n (length xs)) xs ys (omega arith) ∙ take_min n xs

-- files told something, and then more, where the first was kept
pub told_both : {S : Type 0} (fetches : S → List ℕ → Answer → S → Type 0) (first second : List Exchange) (old mid new : FilesSeen S) → mid.kept ≡ old.kept ++ first
    → FilesTold fetches first old mid → FilesTold fetches second mid new → FilesTold fetches (first ++ second) old new
told_both fetches first second old mid new kept one two = record {
  chain = chain-append fetches first second old.self mid.self new.self one.chain two.chain;
  agree = agree-append old.holds first second one.agree (subst (λ (held : Option FileMap). AllAgree held second) one.holds two.agree);
  bytes = bytes-append first second one.bytes two.bytes;
  logged = subst (λ (ps : List (List ℕ)). Tells (Asks ps) old.told new.told) (sym (paths-append first second)) (tells-append (paths_in first) (paths_in second) old.told mid.told new.told one.logged two.logged);
  once = subst (AreNew (paths_in old.kept)) (sym (paths-append first second))
      (new-append (paths_in old.kept) (paths_in first) (paths_in second) one.once
      (subst (λ (ks : List (List ℕ)). AreNew ks (paths_in second)) (ap paths_in kept ∙ paths-append old.kept first) two.once));
  holds = two.holds ∙ one.holds;
  rises = let a : old.faults ≤ mid.faults = one.rises in let b : mid.faults ≤ new.faults = two.rises in omega arith;
  still = λ read. let both = read-both first second read in two.still both.1 ∙ one.still both.0;
  failed = λ unread. elim (read_or_not first) [
    | inl here ↦ subst (λ (n : ℕ). Rises n new.faults) (one.still here) (two.failed (λ there. unread (read-append first second here there)))
    | inr here ↦ rises_on old.faults mid.faults new.faults (one.failed here) two.rises
  ];
}

pub paths_both : (kept middle first second : List Exchange) (tried more : List (List ℕ)) → middle ≡ kept ++ first → paths_in first ≡ fresh (paths_in kept) tried → paths_in second ≡ fresh (paths_in middle) more
    → paths_in (first ++ second) ≡ fresh (paths_in kept) (tried ++ more)
paths_both kept middle first second tried more is one two =
    paths-append first second
    ∙ ap (λ (ps : List (List ℕ)). paths_in first ++ ps) (two ∙ ap (λ (ks : List (List ℕ)). fresh ks more) (ap paths_in is ∙ paths-append kept first))
    ∙ ap (λ (ps : List (List ℕ)). ps ++ fresh (paths_in kept ++ ps) more) one
    ∙ sym (fresh_append (paths_in kept) tried more)

module _ {S A B E : Type 0} (fetches : S → List ℕ → Answer → S → Type 0) (real : E → Type 0) (program : Program A E) (next : A → Program B E) where
  -- after the value of the first, by a look-up by which it has that
  gone_on : (x : A) (look : List ℕ → File) → (program look).end ≡ Ok x
      → (program >>= next) look ≡ record { tried = (program look).tried ++ (next x look).tried; end = (next x look).end }
  gone_on x look is = ap (λ r. and_then (program look).tried r (λ y. next y look)) is

  stopped : (why : E) (look : List ℕ → File) → (program look).end ≡ Err why → (program >>= next) look ≡ record { tried = (program look).tried; end = Err why }
  stopped why look is = ap (λ r. and_then (program look).tried r (λ y. next y look)) is

  pub then_run : (x : A) (result : Result B E) (old mid new : FilesSeen S) → Runs fetches real program (Ok x) old mid → Runs fetches real (next x) result mid new → Runs fetches real (program >>= next) result old new
  then_run x result old mid new first second =
      let a : List Exchange = first.asked in
      let b : List Exchange = second.asked in
      let kept : mid.kept ++ b ≡ old.kept ++ (a ++ b) = ap (λ (k : List Exchange). k ++ b) first.kept ∙ append_assoc old.kept a b in
      let before : (look : List ℕ → File) → Gave look (old.kept ++ (a ++ b)) → Gave look (old.kept ++ a) =
      λ look gave. gave-first look (old.kept ++ a) b (subst (Gave look) (sym (append_assoc old.kept a b)) gave) in
      let after : (look : List ℕ → File) → Gave look (old.kept ++ (a ++ b)) → Gave look (mid.kept ++ b) = λ look gave. subst (Gave look) (sym kept) gave in
      let value : (look : List ℕ → File) → Gave look (old.kept ++ (a ++ b)) → (program look).end ≡ Ok x = λ look gave. first.gives look (before look gave) in
      let joined : (look : List ℕ → File) → Gave look (old.kept ++ (a ++ b)) → (more : List (List ℕ)) → paths_in b ≡ fresh (paths_in mid.kept) more
      → paths_in (a ++ b) ≡ fresh (paths_in old.kept) ((program look).tried ++ more) =
      λ look gave more is. paths_both old.kept mid.kept a b (program look).tried more first.kept (first.whole tt look (before look gave)) is in
      record {
        asked = a ++ b;
        files = told_both fetches a b old mid new first.kept first.files second.files;
        gives = λ look gave. subst (λ o. Gives real result o.end) (sym (gone_on x look (value look gave))) (second.gives look (after look gave));
        whole = λ is look gave. joined look gave (next x look).tried (second.whole is look (after look gave)) ∙ ap (λ o. fresh (paths_in old.kept) o.tried) (sym (gone_on x look (value look gave)));
        some = λ look gave.
            let part = second.some look (after look gave) in (
              length (program look).tried + part.0,
              joined look gave (take part.0 (next x look).tried) part.1
                  ∙ ap (fresh (paths_in old.kept)) (sym (take_more (program look).tried (next x look).tried part.0 (length (program look).tried + part.0) refl))
                  ∙ ap (λ o. fresh (paths_in old.kept) (take (length (program look).tried + part.0) o.tried)) (sym (gone_on x look (value look gave))),
            );
        kept = kept_on result kept second.kept;
      }
    where
      kept_on : (r : Result B E) → mid.kept ++ second.asked ≡ old.kept ++ (first.asked ++ second.asked) → OnOk r (new.kept ≡ mid.kept ++ second.asked) → OnOk r (new.kept ≡ old.kept ++ (first.asked ++ second.asked))
      kept_on (Ok y) is last = last ∙ is
      kept_on (Err why) is last = tt

  -- what came after a program that ended isn't tried
  pub then_ended : (why : E) (result : Result B E) (old new : FilesSeen S) → Runs fetches real program (Err why) old new → IsErrAnd result (λ passed. passed ≡ why) → Runs fetches real (program >>= next) result old new
  then_ended why result old new first is =
      let passed = err_from_is_err_and result is in
      subst (λ (r : Result B E). Runs fetches real (program >>= next) r old new) (sym (passed.1 ∙ ap Err passed.2)) (record {
        asked = first.asked;
        files = first.files;
        gives = λ look gave kind. ap (λ o. o.end) (stopped why look (first.gives look gave kind));
        whole = λ kind look gave. first.whole kind look gave ∙ ap (λ o. fresh (paths_in old.kept) o.tried) (sym (stopped why look (first.gives look gave kind)));
        some = λ look gave. let part = first.some look gave in (min part.0 (length (program look).tried), part.1 ∙ ap (fresh (paths_in old.kept)) (sym (tried_first look part.0 (program look).end refl)));
        kept = tt;
      })
    where
      tried_first : (look : List ℕ → File) (count : ℕ) (end : Result A E) → (program look).end ≡ end → take (min count (length (program look).tried)) ((program >>= next) look).tried ≡ take count (program look).tried
      tried_first look count (Ok x) e = ap (λ o. take (min count (length (program look).tried)) o.tried) (gone_on x look e) ∙ take_first (program look).tried (next x look).tried count
      tried_first look count (Err other) e = ap (λ o. take (min count (length (program look).tried)) o.tried) (stopped other look e) ∙ take_min count (program look).tried

-- ---- the same program

pub same_run : {S A E : Type 0} (fetches : S → List ℕ → Answer → S → Type 0) (real : E → Type 0) (program other : Program A E) (result : Result A E) (old new : FilesSeen S)
    → ((look : List ℕ → File) → other look ≡ program look) → Runs fetches real program result old new → Runs fetches real other result old new
same_run fetches real program other result old new same runs = record {
  asked = runs.asked;
  files = runs.files;
  gives = λ look gave. subst (λ o. Gives real result o.end) (sym (same look)) (runs.gives look gave);
  whole = λ is look gave. runs.whole is look gave ∙ ap (λ o. fresh (paths_in old.kept) o.tried) (sym (same look));
  some = λ look gave. let part = runs.some look gave in (part.0, part.1 ∙ ap (λ o. fresh (paths_in old.kept) (take part.0 o.tried)) (sym (same look)));
  kept = runs.kept;
}

-- ---- what was told

told_here : (path : List ℕ) (given : Answer) (before more : List Exchange) → list_any (bytes_eq path) (paths_in before) ≡ false
    → lookup (bytes_eq path) (before ++ (path, given) ∷ more) ≡ Some given
told_here path given [] more new = ap (λ (test : Bool). cond test (Some given) (lookup (bytes_eq path) more)) ((bytes_eq-Decides path path).1 refl)
told_here path given (one ∷ before) more new = by (bytes_eq path one.0) new (told_here path given before more)
  where
    by : (test : Bool) → (test || list_any (bytes_eq path) (paths_in before)) ≡ false
        → (list_any (bytes_eq path) (paths_in before) ≡ false → lookup (bytes_eq path) (before ++ (path, given) ∷ more) ≡ Some given)
        → cond test (Some one.1) (lookup (bytes_eq path) (before ++ (path, given) ∷ more)) ≡ Some given
    by true is rest = absurd cc
    by false is rest = rest is

told_is : (given : Answer) (told : Option Answer) → told ≡ Some given → IsTold (told_as told) given
told_is (answer.There bytes) told is = ap told_as is
told_is answer.Absent told is = ap told_as is
told_is answer.Unread told is = ap told_as is
told_is answer.Refused told is = tt

gave_later : (before more : List Exchange) → AreNew (paths_in before) (paths_in more) → Gave (file_told (before ++ more)) more
gave_later before [] new = tt
gave_later before ((path, given) ∷ more) new = (
  told_is given (lookup (bytes_eq path) (before ++ (path, given) ∷ more)) (told_here path given before more new.0),
  subst (λ (told : List Exchange). Gave (file_told told) more) (append_assoc before ((path, given) ∷ []) more)
      (gave_later (before ++ (path, given) ∷ []) more
      (subst (λ (known : List (List ℕ)). AreNew known (paths_in more)) (sym (paths-append before ((path, given) ∷ []))) new.1)),
)

pub told_gave : (told : List Exchange) → AreNew [] (paths_in told) → Gave (file_told told) told
told_gave told new = gave_later [] told new

-- ---- want of memory at the end

-- all that was tried was tried, where memory ran out after the end of a program
pub short_run : {S A B E : Type 0} (fetches : S → List ℕ → Answer → S → Type 0) (real : E → Type 0) (program : Program A E) (other : Program B E) (x : A) (why : E) (old new : FilesSeen S)
    → ((look : List ℕ → File) → (program look).end ≡ Ok x → (other look).tried ≡ (program look).tried) → ¬ real why
    → Runs fetches real program (Ok x) old new → Runs fetches real other (Err why) old new
short_run fetches real program other x why old new same short runs = record {
  asked = runs.asked;
  files = runs.files;
  gives = λ look gave is. absurd (short is);
  whole = λ is look gave. absurd (short is);
  some = λ look gave. (
    length (program look).tried,
    runs.whole tt look gave
        ∙ ap (fresh (paths_in old.kept)) (sym (take_all (length (program look).tried) (program look).tried (omega arith)))
        ∙ ap (λ (tried : List (List ℕ)). fresh (paths_in old.kept) (take (length (program look).tried) tried)) (sym (same look (runs.gives look gave))),
  );
  kept = tt;
}

-- ---- the fault of a file that couldn't be read

-- a fault that is handed on
passed_run : {S E : Type 0} (fetches : S → List ℕ → Answer → S → Type 0) (real : E → Type 0) (why : E) (path : List ℕ)
    (given : Result (Option (List ℕ)) AskFault) (passed : E) (old new : FilesSeen S) (runs : Runs fetches IsUnread (file_at unread path) given old new)
    → (real passed → (look : List ℕ → File) → Gave look (old.kept ++ runs.asked) → read_as why (look path) ≡ Err passed)
    → (real passed → (look : List ℕ → File) → Gave look (old.kept ++ runs.asked) → paths_in runs.asked ≡ fresh (paths_in old.kept) (path ∷ []))
    → Runs fetches real (file_at why path) (Err passed) old new
passed_run fetches real why path given passed old new runs ends tries = record {
  asked = runs.asked;
  files = runs.files;
  gives = λ look gave is. ends is look gave;
  whole = tries;
  some = runs.some;
  kept = tt;
}

pub told_run : {S E : Type 0} (fetches : S → List ℕ → Answer → S → Type 0) (real : E → Type 0) (why : E) (path : List ℕ)
    (given : Result (Option (List ℕ)) AskFault) (result : Result (Option (List ℕ)) E) (old new : FilesSeen S)
    → Passes real why given result → Runs fetches IsUnread (file_at unread path) given old new → Runs fetches real (file_at why path) result old new
told_run {E = E} fetches real why path (Ok file) (Ok passed) old new same runs = record {
  asked = runs.asked;
  files = runs.files;
  gives = λ look gave. read_ok why (look path) file (runs.gives look gave) ∙ ap Ok (sym same);
  whole = λ is look gave. runs.whole tt look gave;
  some = runs.some;
  kept = runs.kept;
}
  where
    read_ok : (why : E) (stands : File) (file : Option (List ℕ)) → read_as unread stands ≡ Ok file → read_as why stands ≡ Ok file
    read_ok why (There bytes) file is = cc
    read_ok why Absent file is = cc
    read_ok why Unread file is = absurd cc
told_run fetches real why path (Ok file) (Err passed) old new short runs = passed_run fetches real why path (Ok file) passed old new runs (λ is. absurd (short is)) (λ is. absurd (short is))
told_run fetches real why path (Err fault.Unread) (Ok passed) old new none runs = absurd none
told_run {E = E} fetches real why path (Err fault.Unread) (Err passed) old new same runs =
    passed_run fetches real why path (Err fault.Unread) passed old new runs (λ is look gave. read_err why (look path) (runs.gives look gave tt) ∙ ap Err (sym (same is))) (λ is look gave. runs.whole tt look gave)
  where
    read_err : (why : E) (stands : File) → read_as unread stands ≡ Err fault.Unread → read_as why stands ≡ Err why
    read_err why (There bytes) is = absurd cc
    read_err why Absent is = absurd cc
    read_err why Unread is = refl
told_run fetches real why path (Err fault.OutOfMemory) (Ok passed) old new none runs = absurd none
told_run fetches real why path (Err fault.OutOfMemory) (Err passed) old new short runs = passed_run fetches real why path (Err fault.OutOfMemory) passed old new runs (λ is. absurd (short is)) (λ is. absurd (short is))
