-- The numbers that are kept while libraries are fetched are those of documents.
use Rattle.std.proofs.Common.{◌≡◌, ℕ, zero, suc, ◌+◌, ◌<◌, ◌≤◌, ◌⊎◌, ◌++◌, ◌∷◌, [], List, length, map, get_or, All, Contains, Bool, true, false, Option, Some, None, Result, Ok, Err, IfOk, IfSome, nat_eq, refl, sym, ap, ◌∙◌, subst, inl, inr, arith, bytes_eq, cond, length-append}
use Rattle.std.specs.Prelude.{if◌then◌else◌}
use Rattle.std.specs.List.{list_any}
use Rattle.std.proofs.Math.ListN.{set, length-set}
use Rattle.std.proofs.lemmas.Bool.{cases_eq}
use Rattle.std.proofs.lemmas.List.{get_or-set_same, get_or-set_other, length-map}
use Rattle.std.proofs.lemmas.List.Elements.{All-append, All-get_or, All-head, All-map, All-push, All-tail, All-weaker, Contains-append_cases}
use Rattle.list_lemmas.proofs.Members.{in_from_Contains}
use Rattle.file_cache.specs.Program.{File, file_at, ends}
use Rattle.mo_types.specs.Scan.{option_or_else}
use Rattle.mo_types.specs.declared.object_fault.ObjFault.{ObjFault}
use Rattle.tbd_doc.specs.declared.stub.Stub.{Stub}
use Rattle.tbd_doc.specs.declared.stub.StubFile.{StubFile}
use Rattle.lib_bind.specs.Closing.{added, begun, last_of, nothing, place_in, reach, reach_all, read_at, reexport_by, reexports_of, requests_of, with_file, with_files, with_known, with_link}
use Rattle.lib_bind.specs.Closing as spec
use Rattle.lib_bind.specs.Closure.{fetched, second_of, sought, sought_as, target, target_of}
use Rattle.lib_bind.specs.Found.{found}
use Rattle.lib_bind.specs.Graph.{linked}
use Rattle.lib_bind.specs.Paths.{plain_path, stub_path}
use Rattle.lib_bind.specs.Reexported.{reexported}
use Rattle.lib_bind.specs.declared.bind_fault.BindFault.TheVariants.{ReadFault}
use Rattle.lib_bind.specs.declared.closing.Closing.{Closing}
use Rattle.lib_bind.specs.declared.closing.Request.{Request}
use Rattle.lib_bind.specs.declared.growing.Growing.{Growing}
use Rattle.lib_bind.specs.declared.growing.Reexport.{Reexport}
use Rattle.lib_bind.specs.declared.library.Library.{Library}
use Rattle.lib_bind.specs.declared.sought.Sought.{Sought}
use Rattle.lib_bind.specs.declared.sought.Target.{Target}
use Rattle.lib_bind.specs.inner.Held.{AreHeads, AreThere, Finds, IsFound, IsGrown, IsHeld, IsOf, IsRequestOf, Meets, total}
use Rattle.lib_bind.proofs.StepLemmas.{reach_growing}
use Rattle.lib_bind.proofs.ProgramLemmas.{end_holds, end_made}
use Rattle.lib_bind.proofs.TextLemmas.{HasDocument, reexported_has}

-- ---- more documents

of_more : (n m : ℕ) (document : Option ℕ) → n ≤ m → IsOf n document → IsOf m document
of_more n m None low is = tt
of_more n m (Some d) low is = omega (arith, low, is)

pub heads_more : (n m : ℕ) (heads : List (List ℕ × ℕ)) → n ≤ m → AreHeads n heads → AreHeads m heads
heads_more n m heads low are = All-weaker (λ (pair : List ℕ × ℕ). pair.1 < n) (λ (pair : List ℕ × ℕ). pair.1 < m) (λ pair is. omega (arith, low, is)) heads are

grown_more : (n m : ℕ) (growing : Growing) → n ≤ m → IsGrown n growing → IsGrown m growing
grown_more n m growing low grown = record {
  links = grown.links;
  leads = λ from to there. omega (arith, low, grown.leads from to there);
  reexports = grown.reexports;
  here = All-weaker (λ (all : List Reexport). All (λ (reexport : Reexport). IsOf n reexport.here) all) (λ (all : List Reexport). All (λ (reexport : Reexport). IsOf m reexport.here) all)
      (λ all are. All-weaker (λ (reexport : Reexport). IsOf n reexport.here) (λ (reexport : Reexport). IsOf m reexport.here) (λ reexport is. of_more n m reexport.here low is) all are)
      growing.reexports grown.here;
  known = All-weaker (λ (pair : List ℕ × Option ℕ). IsOf n pair.1) (λ (pair : List ℕ × Option ℕ). IsOf m pair.1) (λ pair is. of_more n m pair.1 low is) growing.known grown.known;
}

work_more : (n m : ℕ) (work : List Request) → n ≤ m → All (IsRequestOf n) work → All (IsRequestOf m) work
work_more n m work low are = All-weaker (IsRequestOf n) (IsRequestOf m) (λ request is. record { from = omega (arith, low, is.from); here = of_more n m request.reexport.here low is.here }) work are

-- ---- the documents of a file

no_links : (stubs : List Stub) (from : ℕ) → linked (map (λ stub. []) stubs) from ≡ []
no_links [] from = refl
no_links (stub ∷ stubs) zero = refl
no_links (stub ∷ stubs) (suc from) = no_links stubs from

pub same_links : (links : List (List ℕ)) (stubs : List Stub) (from : ℕ) → linked (links ++ map (λ stub. []) stubs) from ≡ linked links from
same_links [] stubs from = no_links stubs from
same_links (targets ∷ links) stubs zero = refl
same_links (targets ∷ links) stubs (suc from) = same_links links stubs from

place_within : (n first : ℕ) (stubs : List Stub) (install : List ℕ) → first + length stubs ≤ n → IsOf n (place_in first stubs install)
place_within n first [] install fits = tt
place_within n first (stub ∷ stubs) install fits = by (bytes_eq install stub.install) (place_within n (first + 1) stubs install (omega arith))
  where
    by : (test : Bool) → IsOf n (place_in (first + 1) stubs install) → IsOf n (if test then Some first else place_in (first + 1) stubs install)
    by true rest = let low : first < n = omega arith in low
    by false rest = rest

found_within : {V : Type 0} (Q : V → Type 0) (name : List ℕ) (pairs : List (List ℕ × V)) → All (λ pair. Q pair.1) pairs → IfSome (found name pairs) Q
found_within Q name [] are = tt
found_within {V = V} Q name (pair ∷ pairs) are =
    by (bytes_eq name pair.0) (All-head (λ (one : List ℕ × V). Q one.1) pair pairs are) (found_within Q name pairs (All-tail (λ (one : List ℕ × V). Q one.1) pair pairs are))
  where
    by : (test : Bool) → Q pair.1 → IfSome (found name pairs) Q → IfSome (cond test (Some pair.1) (found name pairs)) Q
    by true here rest = here
    by false here rest = rest

or_within : (n : ℕ) (near head : Option ℕ) → IsOf n near → IsOf n head → IsOf n (option_or_else near head)
or_within n (Some d) head one other = one
or_within n None head one other = other

pub file_grown : (n : ℕ) (heads : List (List ℕ × ℕ)) (stubs : List Stub) (growing : Growing) → AreHeads n heads → IsGrown n growing → length growing.documents + length stubs ≤ n → IsGrown n (with_file heads stubs growing)
unfolding with_file
file_grown n heads stubs growing are grown fits = record {
  links = length-append growing.links (map (λ (stub : Stub). []) stubs) ∙ ap (λ k. length growing.links + k) (length-map stubs (λ (stub : Stub). []))
      ∙ ap (λ k. k + length stubs) grown.links ∙ sym (length-append growing.documents stubs);
  leads = λ from to there. grown.leads from to (subst (λ (targets : List ℕ). Contains targets to) (same_links growing.links stubs from) there);
  reexports = length-append growing.reexports (map (reexports_of heads (length growing.documents) stubs) stubs)
      ∙ ap (λ k. length growing.reexports + k) (length-map stubs (reexports_of heads (length growing.documents) stubs))
      ∙ ap (λ k. k + length stubs) grown.reexports ∙ sym (length-append growing.documents stubs);
  here = All-append (λ (all : List Reexport). All (λ (reexport : Reexport). IsOf n reexport.here) all) growing.reexports (map (reexports_of heads (length growing.documents) stubs) stubs) grown.here
      (All-map (λ (all : List Reexport). All (λ (reexport : Reexport). IsOf n reexport.here) all) (reexports_of heads (length growing.documents) stubs) stubs
      (λ k d low. All-map (λ (reexport : Reexport). IsOf n reexport.here) (λ install. reexport_by (place_in (length growing.documents) stubs install) (found install heads) install) (get_or stubs k d).reexports
      (λ i e inside.
      or_within n (place_in (length growing.documents) stubs (get_or (get_or stubs k d).reexports i e)) (found (get_or (get_or stubs k d).reexports i e) heads)
      (place_within n (length growing.documents) stubs (get_or (get_or stubs k d).reexports i e) fits)
      (found_within (λ (document : ℕ). document < n) (get_or (get_or stubs k d).reexports i e) heads are))));
  known = grown.known;
}

file_count : (heads : List (List ℕ × ℕ)) (stubs : List Stub) (growing : Growing) → length (with_file heads stubs growing).documents ≡ length growing.documents + length stubs
unfolding with_file
file_count heads stubs growing = length-append growing.documents stubs

known_grown : (n : ℕ) (path : List ℕ) (document : Option ℕ) (growing : Growing) → IsGrown n growing → IsOf n document → IsGrown n (with_known path document growing)
known_grown n path document growing grown is = record {
  links = grown.links;
  leads = grown.leads;
  reexports = grown.reexports;
  here = grown.here;
  known = All-push (λ (pair : List ℕ × Option ℕ). IsOf n pair.1) growing.known (path, document) grown.known is;
}

-- ---- where a re-exported library is

pub there_found : (growing : Growing) (document : Option ℕ) → IsGrown (length growing.documents) growing → IsOf (length growing.documents) document → IsFound growing document growing
there_found growing document grown is = record { grown = grown; more = omega arith; there = is }

read_found : (heads : List (List ℕ × ℕ)) (path : List ℕ) (read : Result StubFile ObjFault) (growing : Growing) → AreHeads (length growing.documents) heads → IsGrown (length growing.documents) growing
    → IfOk read HasDocument → IfOk (added heads path read growing) (Finds growing)
read_found heads path (Err why) growing are grown some = tt
read_found heads path (Ok stubs) growing are grown some = record {
  grown = known_grown n path (Some (length growing.documents)) (with_file heads stubs.docs growing)
      (file_grown n heads stubs.docs growing (heads_more (length growing.documents) n heads low are) (grown_more (length growing.documents) n growing low grown) (omega (arith, count)))
      less;
  more = low;
  there = less;
}
  where
    n : ℕ
    n = length (with_file heads stubs.docs growing).documents

    count : length (with_file heads stubs.docs growing).documents ≡ length growing.documents + length stubs.docs
    count = file_count heads stubs.docs growing

    low : length growing.documents ≤ length (with_file heads stubs.docs growing).documents
    low = omega (arith, count)

    less : length growing.documents < length (with_file heads stubs.docs growing).documents
    less = omega (arith, count, some)

pub at_found : (heads : List (List ℕ × ℕ)) (path : List ℕ) (file : Option (List ℕ)) (growing : Growing) → AreThere heads growing → IfOk (read_at heads path file growing) (Finds growing)
at_found heads path (Some bytes) growing are = read_found heads path (reexported bytes) growing are.heads_are are.grown (reexported_has bytes)
at_found heads path None growing are = record { grown = known_grown (length growing.documents) path None growing are.grown tt; more = omega arith; there = tt }

pub known_there : (path : List ℕ) (heads : List (List ℕ × ℕ)) (growing : Growing) → AreThere heads growing → IfSome (found path growing.known) (IsOf (length growing.documents))
known_there path heads growing there = found_within (IsOf (length growing.documents)) path growing.known there.grown.known

sought_by : (look : List ℕ → File) (heads : List (List ℕ × ℕ)) (path : List ℕ) (known : Option (Option ℕ)) (growing : Growing) → AreThere heads growing → IfSome known (IsOf (length growing.documents))
    → IfOk (sought_as heads path known growing look).end (Finds growing)
sought_by look heads path (Some document) growing there is = there_found growing document there.grown is
sought_by look heads path None growing there is =
    end_made (file_at (ReadFault path) path) (λ file. ends (read_at heads path file growing)) look (Finds growing) (λ file _. at_found heads path file growing there)

sought_found : (look : List ℕ → File) (heads : List (List ℕ × ℕ)) (path : List ℕ) (growing : Growing) → AreThere heads growing → IfOk (sought heads path growing look).end (Finds growing)
unfolding sought
sought_found look heads path growing there = sought_by look heads path (found path growing.known) growing there (known_there path heads growing there)

pub last_found : (first : List ℕ) (growing : Growing) (document : Option ℕ) (new : Growing) → IsFound growing document new → IfOk (last_of first document new) (Meets growing)
last_found first growing (Some document) new is = is
last_found first growing None new is = tt

-- what is found after something was found
pub found_then : (growing middle : Growing) (document other : Option ℕ) (new : Growing) → IsFound growing document middle → IsFound middle other new → IsFound growing other new
found_then growing middle document other new first second = record { grown = second.grown; more = omega (arith, first.more, second.more); there = second.there }

pub met_then : {E : Type 0} (growing : Growing) (at : Sought) (result : Result Target E) → Finds growing at → IfOk result (Meets at.growing) → IfOk result (Meets growing)
met_then growing at (Ok there) first second = found_then growing at.growing at.document (Some there.document) there.growing first second
met_then growing at (Err why) first second = tt

pub still_there : (heads : List (List ℕ × ℕ)) (growing : Growing) (document : Option ℕ) (new : Growing) → AreThere heads growing → IsFound growing document new → AreThere heads new
still_there heads growing document new there is = record { heads_are = heads_more (length growing.documents) (length new.documents) heads is.more there.heads_are; grown = is.grown }

second_found : (look : List ℕ → File) (heads : List (List ℕ × ℕ)) (first second : List ℕ) (growing : Growing) (document : Option ℕ) (new : Growing) → AreThere heads growing
    → IsFound growing document new → IfOk (second_of heads first second document new look).end (Meets growing)
second_found look heads first second growing (Some document) new there is = is
second_found look heads first second growing None new there is =
    end_holds (sought heads second new) (λ at. ends (last_of first at.document at.growing)) look (Finds new) (Meets growing)
    (sought_found look heads second new (still_there heads growing None new there is))
    (λ at finds. last_found first growing at.document at.growing (found_then growing new None at.document at.growing is finds))

fetched_found : (look : List ℕ → File) (heads : List (List ℕ × ℕ)) (first second : List ℕ) (growing : Growing) → AreThere heads growing → IfOk (fetched heads first second growing look).end (Meets growing)
fetched_found look heads first second growing there =
    end_holds (sought heads first growing) (λ at. second_of heads first second at.document at.growing) look (Finds growing) (Meets growing)
    (sought_found look heads first growing there) (λ at finds. second_found look heads first second growing at.document at.growing there finds)

target_by : (look : List ℕ → File) (root : Option (List ℕ)) (heads : List (List ℕ × ℕ)) (install : List ℕ) (here : Option ℕ) (growing : Growing) → AreThere heads growing
    → IsOf (length growing.documents) here → IfOk (target_of root heads install here growing look).end (Meets growing)
target_by look root heads install (Some document) growing there is = there_found growing (Some document) there.grown is
target_by look root heads install None growing there is = fetched_found look heads (stub_path root install) (plain_path root install) growing there

pub target_found : (look : List ℕ → File) (root : Option (List ℕ)) (heads : List (List ℕ × ℕ)) (reexport : Reexport) (growing : Growing) → AreThere heads growing
    → IsOf (length growing.documents) reexport.here → IfOk (target root heads reexport growing look).end (Meets growing)
unfolding target
target_found look root heads reexport growing there is = target_by look root heads reexport.install reexport.here growing there is

-- ---- requests

requests_held : (n to : ℕ) (reexports : List Reexport) → to < n → All (λ (reexport : Reexport). IsOf n reexport.here) reexports → All (IsRequestOf n) (requests_of to reexports)
requests_held n to reexports low are =
    All-map (IsRequestOf n) (λ (reexport : Reexport). record { from = to; reexport = reexport }) reexports (λ k d within. record { from = low; here = are k d within })

reached_held : (n to : ℕ) (heads : List (List ℕ × ℕ)) (closing : Closing) → to < length closing.growing.documents → IsHeld n heads closing
    → All (IsRequestOf (length closing.growing.documents)) (closing.work ++ requests_of to (get_or closing.growing.reexports to []))
reached_held n to heads closing low held =
    All-append (IsRequestOf (length closing.growing.documents)) closing.work (requests_of to (get_or closing.growing.reexports to [])) held.work
    (requests_held (length closing.growing.documents) to (get_or closing.growing.reexports to []) low
    (All-get_or (λ (all : List Reexport). All (λ (reexport : Reexport). IsOf (length closing.growing.documents) reexport.here) all) closing.growing.reexports to [] (omega (arith, held.grown.reexports)) held.grown.here))

pub reach_held : (n to : ℕ) (heads : List (List ℕ × ℕ)) (closing : Closing) → to < length closing.growing.documents → IsHeld n heads closing → IsHeld n heads (reach to closing)
unfolding reach
reach_held n to heads closing low held = by (list_any (nat_eq to) closing.reached)
  where
    by : (test : Bool) → IsHeld n heads (if test then closing else record { growing = closing.growing; reached = closing.reached ++ to ∷ []; work = closing.work ++ requests_of to (get_or closing.growing.reexports to []) })
    by true = held
    by false = record { heads_are = held.heads_are; more = held.more; grown = held.grown; work = reached_held n to heads closing low held }

one_link : (n from to : ℕ) (links : List (List ℕ)) → from < length links → to < n → ((a b : ℕ) → Contains (linked links a) b → b < n)
    → (a b : ℕ) → Contains (linked (set links from (get_or links from [] ++ to ∷ [])) a) b → b < n
one_link n from to links inside low leads a b there = elim (cases_eq a from) [
  | inl same ↦
      let here : Contains (get_or links from [] ++ to ∷ []) b =
      subst (λ (targets : List ℕ). Contains targets b) (ap (linked (set links from (get_or links from [] ++ to ∷ []))) same ∙ get_or-set_same links from (get_or links from [] ++ to ∷ []) [] inside) there in
      cases (Contains-append_cases (get_or links from []) (to ∷ []) b here)
  | inr other ↦ leads a b (subst (λ (targets : List ℕ). Contains targets b) (get_or-set_other links from a (get_or links from [] ++ to ∷ []) [] other) there)
]
  where
    alone : Contains (to ∷ []) b → b ≡ to
    alone (zero, within, is) = sym is
    alone (suc k, within, is) = absurd (omega arith)

    cases : Contains (get_or links from []) b ⊎ Contains (to ∷ []) b → b < n
    cases (inl old) = leads from b old
    cases (inr new) = let same : b ≡ to = alone new in omega (arith, same, low)

pub link_grown : (n from to : ℕ) (growing : Growing) → from < length growing.documents → to < n → IsGrown n growing → IsGrown n (with_link from to growing)
link_grown n from to growing inside low grown = record {
  links = length-set growing.links from (get_or growing.links from [] ++ to ∷ []) ∙ grown.links;
  leads = one_link n from to growing.links (omega (arith, grown.links)) low grown.leads;
  reexports = grown.reexports;
  here = grown.here;
  known = grown.known;
}

pub linked_held : (n from : ℕ) (heads : List (List ℕ × ℕ)) (closing : Closing) (there : Target) → from < length closing.growing.documents → IsHeld n heads closing → Meets closing.growing there
    → IsHeld n heads (spec.linked from closing.reached closing.work there)
linked_held n from heads closing there inside held leads =
    reach_held n there.document heads (record { growing = with_link from there.document there.growing; reached = closing.reached; work = closing.work }) leads.there (record {
      heads_are = held.heads_are;
      more = omega (arith, held.more, leads.more);
      grown = link_grown (length there.growing.documents) from there.document there.growing (omega (arith, inside, leads.more)) leads.there leads.grown;
      work = work_more (length closing.growing.documents) (length there.growing.documents) closing.work leads.more held.work;
    })

-- ---- the documents of the named libraries

nothing_grown : (n : ℕ) → IsGrown n nothing
nothing_grown n = record {
  links = refl;
  leads = λ from to there. absurd (in_from_Contains [] to (subst (λ (targets : List ℕ). Contains targets to) (none from) there));
  reexports = refl;
  here = λ k d low. absurd (omega arith);
  known = λ k d low. absurd (omega arith);
}
  where
    none : (from : ℕ) → linked [] from ≡ []
    none from = refl

files_grown : (n : ℕ) (heads : List (List ℕ × ℕ)) (files : List StubFile) (growing : Growing) → AreHeads n heads → IsGrown n growing → length growing.documents + total files ≤ n → IsGrown n (with_files heads files growing)
unfolding total
files_grown n heads [] growing are grown fits = grown
files_grown n heads (file ∷ files) growing are grown fits =
    let count : length (with_file heads file.docs growing).documents ≡ length growing.documents + length file.docs = file_count heads file.docs growing in
    files_grown n heads files (with_file heads file.docs growing) are (file_grown n heads file.docs growing are grown (omega arith)) (omega (arith, count))

files_count : (heads : List (List ℕ × ℕ)) (files : List StubFile) (growing : Growing) → length (with_files heads files growing).documents ≡ length growing.documents + total files
unfolding total
files_count heads [] growing = omega arith
files_count heads (file ∷ files) growing =
    let count : length (with_file heads file.docs growing).documents ≡ length growing.documents + length file.docs = file_count heads file.docs growing in
    let rest : length (with_files heads files (with_file heads file.docs growing)).documents ≡ length (with_file heads file.docs growing).documents + total files = files_count heads files (with_file heads file.docs growing) in
    omega (arith, count, rest)

pub all_held : (n : ℕ) (heads : List (List ℕ × ℕ)) (libraries : List Library) (closing : Closing) → All (λ (library : Library). library.document < length closing.growing.documents) libraries → IsHeld n heads closing
    → IsHeld n heads (reach_all libraries closing)
all_held n heads [] closing low held = held
all_held n heads (library ∷ libraries) closing low held =
    all_held n heads libraries (reach library.document closing)
    (subst (λ (growing : Growing). All (λ (one : Library). one.document < length growing.documents) libraries) (sym (reach_growing library.document closing))
    (All-tail (λ (one : Library). one.document < length closing.growing.documents) library libraries low))
    (reach_held n library.document heads closing (All-head (λ (one : Library). one.document < length closing.growing.documents) library libraries low) held)

files_held : (heads : List (List ℕ × ℕ)) (files : List StubFile) → AreHeads (total files) heads → IsHeld (total files) heads (record { growing = with_files heads files nothing; reached = []; work = [] })
files_held heads files are = record {
  heads_are = are;
  more = omega (arith, count);
  grown = subst (λ (n : ℕ). IsGrown n (with_files heads files nothing)) (sym count) (files_grown (total files) heads files nothing are (nothing_grown (total files)) (omega arith));
  work = λ k d low. absurd (omega arith);
}
  where
    count : length (with_files heads files nothing).documents ≡ total files
    count = let c : length (with_files heads files nothing).documents ≡ 0 + total files = files_count heads files nothing in omega (arith, c)

pub files_reexports : (heads : List (List ℕ × ℕ)) (files : List StubFile) (growing : Growing) → AreHeads (total files) heads → growing ≡ with_files heads files nothing → length growing.reexports ≡ total files
files_reexports heads files growing are is =
    let held : IsHeld (total files) heads (record { growing = with_files heads files nothing; reached = []; work = [] }) = files_held heads files are in
    let count : length (with_files heads files nothing).documents ≡ 0 + total files = files_count heads files nothing in
    ap (λ (g : Growing). length g.reexports) is ∙ held.grown.reexports ∙ (omega (arith, count))

pub begun_held : (heads : List (List ℕ × ℕ)) (libraries : List Library) (files : List StubFile) (closing : Closing) → AreHeads (total files) heads → All (λ (library : Library). library.document < total files) libraries
    → closing ≡ begun libraries heads files → IsHeld (total files) heads closing
begun_held heads libraries files closing are low is =
    let count : length (with_files heads files nothing).documents ≡ 0 + total files = files_count heads files nothing in
    let same : total files ≡ length (with_files heads files nothing).documents = omega (arith, count) in
    subst (λ (c : Closing). IsHeld (total files) heads c) (sym is)
    (all_held (total files) heads libraries (record { growing = with_files heads files nothing; reached = []; work = [] })
    (subst (λ (n : ℕ). All (λ (library : Library). library.document < n) libraries) same low) (files_held heads files are))

pub begun_result : {E : Type 0} (heads : List (List ℕ × ℕ)) (libraries : List Library) (files : List StubFile) (result : Result Closing E) → AreHeads (total files) heads → All (λ (library : Library). library.document < total files) libraries
    → IfOk result (λ closing. closing ≡ begun libraries heads files) → IfOk result (IsHeld (total files) heads)
begun_result heads libraries files (Ok closing) are low is = begun_held heads libraries files closing are low is
begun_result heads libraries files (Err why) are low is = tt
