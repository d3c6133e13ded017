-- What finitely many files re-export is finite, and so are the requests. What is waited for, what documents that weren't
-- reached re-export, and what files that weren't read do are counted together: no step makes these more.
use Rattle.std.proofs.Common.{◌≡◌, ℕ, zero, suc, ◌+◌, ◌≤◌, ◌++◌, ◌∷◌, [], List, length, map, get_or, slice_get, Bool, true, false, ◌||◌, is_some, Option, Some, None, Result, Ok, Err, IfOk, nat_eq, refl, sym, ap, ◌∙◌, arith, bytes_eq, cond, length-append}
use Rattle.std.specs.Prelude.{if◌then◌else◌}
use Rattle.std.specs.List.{list_any}
use Rattle.std.specs.Map.{lookup}
use Rattle.std.proofs.lemmas.List.{length-map}
use Rattle.std.proofs.lemmas.List.Folds.{list_any-append}
use Rattle.std.proofs.lemmas.Slice.Eq.{bytes_eq-Decides}
use Rattle.command_line.specs.declared.command.Command.{Command}
use Rattle.file_cache.specs.Program.{File, There, Absent, Unread, and_then, ends}
use Rattle.file_cache.specs.Runs.{file_told, paths_in, told_as}
use Rattle.mo_outside.specs.Answers.{Exchange}
use Rattle.mo_types.specs.Scan.{option_or_else}
use Rattle.mo_types.specs.declared.object_fault.ObjFault.{ObjFault}
use Rattle.tbd_doc.specs.declared.stub.Stub.{Stub}
use Rattle.tbd_doc.specs.declared.stub.StubFile.{StubFile}
use Rattle.lib_bind.specs.Closing.{chosen_of, linked, reach, reexports_of, requests_of, with_file, with_known, with_link}
use Rattle.lib_bind.specs.Closure.{IsLast, after, bound_after, met, step, target}
use Rattle.lib_bind.specs.Found.{found}
use Rattle.lib_bind.specs.Reexported.{reexported}
use Rattle.lib_bind.specs.declared.bind_fault.BindFault.{BindFault}
use Rattle.lib_bind.specs.declared.choosing.Chosen.{Chosen}
use Rattle.lib_bind.specs.declared.closing.Closing.{Closing}
use Rattle.lib_bind.specs.declared.closing.Request.{Request}
use Rattle.lib_bind.specs.declared.growing.Growing.{Growing}
use Rattle.lib_bind.specs.declared.growing.Reexport.{Reexport}
use Rattle.lib_bind.specs.declared.named.NamedStub.{NamedStub}
use Rattle.lib_bind.specs.declared.sought.Target.{Target}
use Rattle.lib_bind.proofs.EndLemmas.{bound_by, bound_of, closed_of, start_of}
use Rattle.lib_bind.proofs.GrowingLemmas.{found_more}
use Rattle.lib_bind.proofs.ProgramLemmas.{end_holds}
use Rattle.lib_bind.proofs.StayLemmas.{target_stays}

-- ---- what documents that weren't reached re-export

abbrev unless : Bool → ℕ → ℕ
unless test n = if test then 0 else n

unless_less : (n : ℕ) (a b : Bool) → (a ≡ true → b ≡ true) → unless b n ≤ unless a n
unless_less n true b so = let is : b ≡ true = so refl in rw is (omega arith)
unless_less n false true so = omega arith
unless_less n false false so = omega arith

-- those of the documents from a number on
abbrev waiting : List ℕ → ℕ → List (List Reexport) → ℕ
waiting reached at [] = 0
waiting reached at (all ∷ rest) = unless (list_any (nat_eq at) reached) (length all) + waiting reached (at + 1) rest

-- those of all
abbrev every : List (List Reexport) → ℕ
every [] = 0
every (all ∷ rest) = length all + every rest

unless_most : (test : Bool) (n : ℕ) → unless test n ≤ n
unless_most true n = omega arith
unless_most false n = omega arith

waiting_most : (reached : List ℕ) (at : ℕ) (all : List (List Reexport)) → waiting reached at all ≤ every all
waiting_most reached at [] = omega arith
waiting_most reached at (all ∷ rest) =
    let one : unless (list_any (nat_eq at) reached) (length all) ≤ length all = unless_most (list_any (nat_eq at) reached) (length all) in
    let more : waiting reached (at + 1) rest ≤ every rest = waiting_most reached (at + 1) rest in
    omega (arith, one, more)

waiting_append : (reached : List ℕ) (at : ℕ) (xs ys : List (List Reexport)) → waiting reached at (xs ++ ys) ≤ waiting reached at xs + every ys
waiting_append reached at [] ys = let most : waiting reached at ys ≤ every ys = waiting_most reached at ys in omega (arith, most)
waiting_append reached at (x ∷ xs) ys = let rest : waiting reached (at + 1) (xs ++ ys) ≤ waiting reached (at + 1) xs + every ys = waiting_append reached (at + 1) xs ys in omega (arith, rest)

or_true : (a b : Bool) → a ≡ true → (a || b) ≡ true
or_true true b is = refl
or_true false b is = absurd cc

still_reached : (reached : List ℕ) (to at : ℕ) → list_any (nat_eq at) reached ≡ true → list_any (nat_eq at) (reached ++ to ∷ []) ≡ true
still_reached reached to at is = list_any-append (nat_eq at) reached (to ∷ []) ∙ or_true (list_any (nat_eq at) reached) (list_any (nat_eq at) (to ∷ [])) is

waiting_less : (reached : List ℕ) (to at : ℕ) (all : List (List Reexport)) → waiting (reached ++ to ∷ []) at all ≤ waiting reached at all
waiting_less reached to at [] = omega arith
waiting_less reached to at (all ∷ rest) =
    let one : unless (list_any (nat_eq at) (reached ++ to ∷ [])) (length all) ≤ unless (list_any (nat_eq at) reached) (length all) =
    unless_less (length all) (list_any (nat_eq at) reached) (list_any (nat_eq at) (reached ++ to ∷ [])) (still_reached reached to at) in
    let more : waiting (reached ++ to ∷ []) (at + 1) rest ≤ waiting reached (at + 1) rest = waiting_less reached to (at + 1) rest in
    omega (arith, one, more)

itself : (n : ℕ) → nat_eq n n ≡ true
itself n = grind arith

or_second : (a b : Bool) → b ≡ true → (a || b) ≡ true
or_second true b is = refl
or_second false b is = is

now_reached : (reached : List ℕ) (to : ℕ) → list_any (nat_eq to) (reached ++ to ∷ []) ≡ true
now_reached reached to =
    list_any-append (nat_eq to) reached (to ∷ []) ∙ or_second (list_any (nat_eq to) reached) (list_any (nat_eq to) (to ∷ [])) (or_true (nat_eq to to) false (itself to))

-- what a document re-exports that is reached now
waiting_reach : (reached : List ℕ) (to at k : ℕ) (all : List (List Reexport)) → to ≡ at + k → list_any (nat_eq to) reached ≡ false → waiting (reached ++ to ∷ []) at all + length (get_or all k []) ≤ waiting reached at all
waiting_reach reached to at k [] is new = omega arith
waiting_reach reached to at zero (all ∷ rest) is new =
    let here : at ≡ to = omega (arith, is) in
    let before : unless (list_any (nat_eq at) reached) (length all) ≡ length all = ap (λ n. unless (list_any (nat_eq n) reached) (length all)) here ∙ ap (λ test. unless test (length all)) new in
    let after_it : unless (list_any (nat_eq at) (reached ++ to ∷ [])) (length all) ≡ 0 =
    ap (λ n. unless (list_any (nat_eq n) (reached ++ to ∷ [])) (length all)) here ∙ ap (λ test. unless test (length all)) (now_reached reached to) in
    let more : waiting (reached ++ to ∷ []) (at + 1) rest ≤ waiting reached (at + 1) rest = waiting_less reached to (at + 1) rest in
    omega (arith, before, after_it, more)
waiting_reach reached to at (suc k) (all ∷ rest) is new =
    let one : unless (list_any (nat_eq at) (reached ++ to ∷ [])) (length all) ≤ unless (list_any (nat_eq at) reached) (length all) =
    unless_less (length all) (list_any (nat_eq at) reached) (list_any (nat_eq at) (reached ++ to ∷ [])) (still_reached reached to at) in
    let same : to ≡ at + 1 + k = omega (arith, is) in
    let more : waiting (reached ++ to ∷ []) (at + 1) rest + length (get_or rest k []) ≤ waiting reached (at + 1) rest = waiting_reach reached to (at + 1) k rest same new in
    omega (arith, one, more)

-- ---- what files that weren't read re-export

abbrev size : List Stub → ℕ
size [] = 0
size (stub ∷ stubs) = length stub.reexports + size stubs

abbrev size_read : Result StubFile ObjFault → ℕ
size_read (Ok file) = size file.docs
size_read (Err why) = 0

abbrev size_in : File → ℕ
size_in (There bytes) = size_read (reexported bytes)
size_in Absent = 0
size_in Unread = 0

abbrev left : (List ℕ → File) → List (List ℕ × Option ℕ) → List (List ℕ) → ℕ
left look known [] = 0
left look known (path ∷ paths) = unless (is_some (found path known)) (size_in (look path)) + left look known paths

some_more : (here : Option (Option ℕ)) (more : Option (Option ℕ)) → is_some here ≡ true → is_some (option_or_else here more) ≡ true
some_more (Some x) more is = refl
some_more None more is = absurd cc

still_found : (path other : List ℕ) (document : Option ℕ) (known : List (List ℕ × Option ℕ)) → is_some (found other known) ≡ true → is_some (found other (known ++ (path, document) ∷ [])) ≡ true
still_found path other document known is =
    ap is_some (found_more other path document known) ∙ some_more (found other known) (if bytes_eq other path then Some document else None) is

now_found : (path other : List ℕ) (document : Option ℕ) (known : List (List ℕ × Option ℕ)) → bytes_eq other path ≡ true → is_some (found other (known ++ (path, document) ∷ [])) ≡ true
now_found path other document known same =
    ap is_some (found_more other path document known)
    ∙ ap (λ (test : Bool). is_some (option_or_else (found other known) (if test then Some document else None))) same ∙ either (found other known)
  where
    either : (here : Option (Option ℕ)) → is_some (option_or_else here (Some document)) ≡ true
    either (Some x) = refl
    either None = refl

left_less : (look : List ℕ → File) (path : List ℕ) (document : Option ℕ) (known : List (List ℕ × Option ℕ)) (paths : List (List ℕ)) → left look (known ++ (path, document) ∷ []) paths ≤ left look known paths
left_less look path document known [] = omega arith
left_less look path document known (other ∷ paths) =
    let one : unless (is_some (found other (known ++ (path, document) ∷ []))) (size_in (look other)) ≤ unless (is_some (found other known)) (size_in (look other)) =
    unless_less (size_in (look other)) (is_some (found other known)) (is_some (found other (known ++ (path, document) ∷ []))) (still_found path other document known) in
    let more : left look (known ++ (path, document) ∷ []) paths ≤ left look known paths = left_less look path document known paths in
    omega (arith, one, more)

or_rest : (a b : Bool) → (a || b) ≡ true → a ≡ false → b ≡ true
or_rest true b is none = absurd cc
or_rest false b is none = is

left_read : (look : List ℕ → File) (path : List ℕ) (document : Option ℕ) (known : List (List ℕ × Option ℕ)) (paths : List (List ℕ)) → found path known ≡ None → list_any (bytes_eq path) paths ≡ true
    → left look (known ++ (path, document) ∷ []) paths + size_in (look path) ≤ left look known paths
left_read look path document known [] new there = absurd cc
left_read look path document known (other ∷ paths) new there = by (bytes_eq path other) refl (left_read look path document known paths new)
  where
    by : (test : Bool) → bytes_eq path other ≡ test → (list_any (bytes_eq path) paths ≡ true → left look (known ++ (path, document) ∷ []) paths + size_in (look path) ≤ left look known paths)
        → left look (known ++ (path, document) ∷ []) (other ∷ paths) + size_in (look path) ≤ left look known (other ∷ paths)
    by true is rest =
        let same : path ≡ other = (bytes_eq-Decides path other).0 is in
        let before : unless (is_some (found other known)) (size_in (look other)) ≡ size_in (look path) =
        ap (λ (p : List ℕ). unless (is_some (found p known)) (size_in (look p))) (sym same) ∙ ap (λ (here : Option (Option ℕ)). unless (is_some here) (size_in (look path))) new in
        let after_it : unless (is_some (found other (known ++ (path, document) ∷ []))) (size_in (look other)) ≡ 0 =
        ap (λ test. unless test (size_in (look other))) (now_found path other document known ((bytes_eq-Decides other path).1 (sym same))) in
        let more : left look (known ++ (path, document) ∷ []) paths ≤ left look known paths = left_less look path document known paths in
        omega (arith, before, after_it, more)
    by false is rest =
        let one : unless (is_some (found other (known ++ (path, document) ∷ []))) (size_in (look other)) ≤ unless (is_some (found other known)) (size_in (look other)) =
        unless_less (size_in (look other)) (is_some (found other known)) (is_some (found other (known ++ (path, document) ∷ []))) (still_found path other document known) in
        let more : left look (known ++ (path, document) ∷ []) paths + size_in (look path) ≤ left look known paths =
        rest (or_rest (bytes_eq path other) (list_any (bytes_eq path) paths) there is) in
        omega (arith, one, more)

-- ---- no step makes these more

file_every : (heads : List (List ℕ × ℕ)) (first : ℕ) (all stubs : List Stub) → every (map (reexports_of heads first all) stubs) ≡ size stubs
file_every heads first all [] = refl
file_every heads first all (stub ∷ stubs) =
    ap (λ n. n + every (map (reexports_of heads first all) stubs)) (length-map stub.reexports _) ∙ ap (λ n. length stub.reexports + n) (file_every heads first all stubs)

module _ (look : List ℕ → File) (paths : List (List ℕ)) (told : (path bytes : List ℕ) → look path ≡ There bytes → list_any (bytes_eq path) paths ≡ true) where
  abbrev open_in : List ℕ → Growing → ℕ
  open_in reached growing = waiting reached 0 growing.reexports + left look growing.known paths

  -- all requests that are there or may come
  abbrev pub requests_in : Closing → ℕ
  requests_in closing = length closing.work + open_in closing.reached closing.growing

  abbrev IsWithin : ℕ → List ℕ → ℕ → Growing → Type 0
  IsWithin n reached work growing = work + open_in reached growing ≤ n

  file_waiting : (reached : List ℕ) (heads : List (List ℕ × ℕ)) (stubs : List Stub) (growing : Growing) → waiting reached 0 (with_file heads stubs growing).reexports ≤ waiting reached 0 growing.reexports + size stubs
  unfolding with_file
  file_waiting reached heads stubs growing =
      let more : waiting reached 0 (growing.reexports ++ map (reexports_of heads (length growing.documents) stubs) stubs)
      ≤ waiting reached 0 growing.reexports + every (map (reexports_of heads (length growing.documents) stubs) stubs) =
      waiting_append reached 0 growing.reexports (map (reexports_of heads (length growing.documents) stubs) stubs) in
      let count : every (map (reexports_of heads (length growing.documents) stubs) stubs) ≡ size stubs = file_every heads (length growing.documents) stubs stubs in
      omega (arith, more, count)

  file_known : (heads : List (List ℕ × ℕ)) (stubs : List Stub) (growing : Growing) → (with_file heads stubs growing).known ≡ growing.known
  unfolding with_file
  file_known heads stubs growing = refl

  file_within : (n : ℕ) (reached : List ℕ) (work : ℕ) (heads : List (List ℕ × ℕ)) (path bytes : List ℕ) (file : StubFile) (growing : Growing) → found path growing.known ≡ None → look path ≡ There bytes
      → reexported bytes ≡ Ok file → IsWithin n reached work growing → IsWithin n reached work (with_known path (Some (length growing.documents)) (with_file heads file.docs growing))
  file_within n reached work heads path bytes file growing new there read within =
      let size_is : size_in (look path) ≡ size file.docs = ap size_in there ∙ ap size_read read in
      let some : waiting reached 0 (with_file heads file.docs growing).reexports ≤ waiting reached 0 growing.reexports + size file.docs = file_waiting reached heads file.docs growing in
      let less : left look (growing.known ++ (path, Some (length growing.documents)) ∷ []) paths + size_in (look path) ≤ left look growing.known paths =
      left_read look path (Some (length growing.documents)) growing.known paths new (told path bytes there) in
      let same : left look ((with_file heads file.docs growing).known ++ (path, Some (length growing.documents)) ∷ []) paths ≡ left look (growing.known ++ (path, Some (length growing.documents)) ∷ []) paths =
      ap (λ (known : List (List ℕ × Option ℕ)). left look (known ++ (path, Some (length growing.documents)) ∷ []) paths) (file_known heads file.docs growing) in
      omega (arith, size_is, some, less, same, within)

  absent_within : (n : ℕ) (reached : List ℕ) (work : ℕ) (path : List ℕ) (growing : Growing) → IsWithin n reached work growing → IsWithin n reached work (with_known path None growing)
  absent_within n reached work path growing within =
      let less : left look (growing.known ++ (path, None) ∷ []) paths ≤ left look growing.known paths = left_less look path None growing.known paths in
      omega (arith, less, within)

  reach_within : (n to : ℕ) (closing : Closing) → requests_in closing ≤ n → requests_in (reach to closing) ≤ n
  unfolding reach
  reach_within n to closing within = by (list_any (nat_eq to) closing.reached) refl
    where
      by : (test : Bool) → list_any (nat_eq to) closing.reached ≡ test
          → requests_in (if test then closing else record { growing = closing.growing; reached = closing.reached ++ to ∷ []; work = closing.work ++ requests_of to (get_or closing.growing.reexports to []) }) ≤ n
      by true is = within
      by false is =
          let less : waiting (closing.reached ++ to ∷ []) 0 closing.growing.reexports + length (get_or closing.growing.reexports to []) ≤ waiting closing.reached 0 closing.growing.reexports =
          waiting_reach closing.reached to 0 to closing.growing.reexports (omega arith) is in
          let count : length (requests_of to (get_or closing.growing.reexports to [])) ≡ length (get_or closing.growing.reexports to []) = length-map (get_or closing.growing.reexports to []) _ in
          let more : length (closing.work ++ requests_of to (get_or closing.growing.reexports to [])) ≡ length closing.work + length (requests_of to (get_or closing.growing.reexports to [])) =
          length-append closing.work (requests_of to (get_or closing.growing.reexports to [])) in
          omega (arith, less, count, more, within)

  module _ (root : Option (List ℕ)) (heads : List (List ℕ × ℕ)) (n : ℕ) where
    met_within : (request : Option Request) (closing : Closing) → requests_in closing ≤ n → IfOk (met root heads request closing look).end (λ new. requests_in new ≤ n)
    met_within None closing within = within
    met_within (Some request) closing within =
        end_holds (target root heads request.reexport closing.growing) (λ there. ends (Ok (linked request.from closing.reached closing.work there))) look
        (λ (there : Target). IsWithin n closing.reached (length closing.work) there.growing) (λ new. requests_in new ≤ n)
        (target_stays look heads (IsWithin n closing.reached (length closing.work))
        (λ path bytes file growing new there read is. file_within n closing.reached (length closing.work) heads path bytes file growing new there read is)
        (λ path growing new there is. absent_within n closing.reached (length closing.work) path growing is) (λ from to growing is. is) root request.reexport closing.growing within)
        (λ there is. reach_within n there.document (record { growing = with_link request.from there.document there.growing; reached = closing.reached; work = closing.work }) is)

    step_within : (at : ℕ) (closing : Closing) → requests_in closing ≤ n → IfOk (step root heads at closing look).end (λ new. requests_in new ≤ n)
    unfolding step
    step_within at closing within = met_within (slice_get closing.work at) closing within

    after_within : (count : ℕ) (start : Closing) → requests_in start ≤ n → IfOk (after root heads count start look).end (λ new. requests_in new ≤ n)
    after_within zero start within = within
    after_within (suc count) start within =
        end_holds (after root heads count start) (step root heads count) look (λ (new : Closing). requests_in new ≤ n) (λ (new : Closing). requests_in new ≤ n) (after_within count start within)
        (λ closing is. step_within count closing is)

  last_by : (command : Command) (chosen : Chosen) (tried : List (List ℕ)) (count : ℕ) (closed : Result Closing BindFault) → IfOk closed (λ new. requests_in new ≤ count)
      → IsLast count (and_then tried closed (λ closing. ends (Ok (bound_of chosen closing)) look)).end
  last_by command chosen tried count (Ok closing) within = omega (arith, within)
  last_by command chosen tried count (Err why) within = tt

  chosen_last : (command : Command) (chosen : Result Chosen BindFault) → (count : ℕ) × IsLast count (and_then [] chosen (λ one. bound_by command count one look)).end
  chosen_last command (Err why) = (0, tt)
  chosen_last command (Ok chosen) =
      let n : ℕ = requests_in (start_of chosen) in
      (n, last_by command chosen (closed_of command n chosen look).tried n (closed_of command n chosen look).end (after_within command.syslibroot chosen.heads n n (start_of chosen) (omega arith)))

  pub bound_last : (command : Command) (named : List NamedStub) → (count : ℕ) × IsLast count (bound_after command named count look).end
  unfolding bound_after
  bound_last command named = chosen_last command (chosen_of command named)

-- ---- what was told

told_there : (path : List ℕ) (bytes : List ℕ) (told : List Exchange) → file_told told path ≡ There bytes → list_any (bytes_eq path) (paths_in told) ≡ true
told_there path bytes [] is = absurd (no_file bytes is)
  where
    no_file : (bytes : List ℕ) → file_told [] path ≡ There bytes → ⊥
    no_file bytes h = absurd cc
told_there path bytes (one ∷ told) is = by (bytes_eq path one.0) is (told_there path bytes told)
  where
    by : (test : Bool) → told_as (cond test (Some one.1) (lookup (bytes_eq path) told)) ≡ There bytes → (file_told told path ≡ There bytes → list_any (bytes_eq path) (paths_in told) ≡ true)
        → (test || list_any (bytes_eq path) (paths_in told)) ≡ true
    by true is rest = refl
    by false is rest = rest is

pub finite_last : (told : List Exchange) (command : Command) (named : List NamedStub) → (count : ℕ) × IsLast count (bound_after command named count (file_told told)).end
finite_last told command named = bound_last (file_told told) (paths_in told) (λ path bytes is. told_there path bytes told is) command named
