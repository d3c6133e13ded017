-- The links of a document are what it re-exports.
use Rattle.std.proofs.Common.{◌≡◌, ℕ, zero, suc, ◌+◌, ◌<◌, ◌≤◌, ◌⊎◌, ◌++◌, ◌∷◌, [], List, length, map, take, get_or, All, Contains, Bool, true, false, Option, Some, None, Result, Ok, Err, IfOk, nat_eq, refl, sym, ap, ap₂, ◌∙◌, subst, inl, inr, arith, bytes_eq, length-append}
use Rattle.std.specs.Prelude.{if◌then◌else◌, ◌||◌}
use Rattle.std.specs.List.{AllZip, list_any}
use Rattle.std.proofs.Math.ListN.{set}
use Rattle.std.proofs.lemmas.Bool.{cases_eq}
use Rattle.std.proofs.lemmas.List.{append-nil, get_or-set_same, get_or-set_other, get_or_append_left, get_or_default, map-append, take-append-le, take_all, take_more}
use Rattle.std.proofs.lemmas.List.Elements.{All-get_or, All-head, All-tail}
use Rattle.std.proofs.lemmas.List.Folds.{list_any-append}
use Rattle.std.proofs.lemmas.Option.{slice_get-get_or, slice_get_past}
use Rattle.std.proofs.lemmas.Slice.Eq.{bytes_eq-Decides}
use Rattle.list_lemmas.proofs.Members.{In, in_from_Contains}
use Rattle.command_line.specs.declared.command.Command.{Command}
use Rattle.file_cache.specs.Program.{File, ends, file_at}
use Rattle.mo_types.specs.Scan.{option_or_else}
use Rattle.mo_types.specs.declared.object_fault.ObjFault.{ObjFault}
use Rattle.tbd_doc.specs.declared.stub.Stub.{Stub}
use Rattle.tbd_doc.specs.declared.stub.StubFile.{StubFile}
use Rattle.lib_bind.specs.Closing.{added, begun, last_of, nothing, reach, reach_all, read_at, reexports_of, requests_of, with_file, with_files, with_known, with_link}
use Rattle.lib_bind.specs.Closing as spec
use Rattle.lib_bind.specs.Closure.{Bound, after, bound_after, fetched, met, second_of, sought, sought_as, step, target, target_of}
use Rattle.lib_bind.specs.Found.{found}
use Rattle.lib_bind.specs.Graph.{AreLibraries, linked}
use Rattle.lib_bind.specs.Links.{HasLinks, IsFirstAt, LeadsBy, LeadsTo}
use Rattle.lib_bind.specs.Named.{are_named}
use Rattle.lib_bind.specs.Paths.{plain_path, stub_path}
use Rattle.lib_bind.specs.Provides.{no_document}
use Rattle.lib_bind.specs.Reexported.{reexported}
use Rattle.lib_bind.specs.declared.bind_fault.BindFault.TheVariants.{ReadFault}
use Rattle.lib_bind.specs.declared.closing.Closing.{Closing}
use Rattle.lib_bind.specs.declared.closing.Request.{Request}
use Rattle.lib_bind.specs.declared.growing.Growing.{Growing}
use Rattle.lib_bind.specs.declared.growing.Reexport.{Reexport}
use Rattle.lib_bind.specs.declared.library.Library.{Library}
use Rattle.lib_bind.specs.declared.named.NamedStub.{NamedStub}
use Rattle.lib_bind.specs.declared.sought.Sought.{Sought}
use Rattle.lib_bind.specs.declared.sought.Target.{Target}
use Rattle.lib_bind.proofs.GrowingLemmas.{found_more}
use Rattle.lib_bind.specs.inner.Held.{AreHeads, IsFound, IsHeld, IsRequestOf, Meets, total}
use Rattle.lib_bind.proofs.AnsweredLemmas.{all_within, held_there}
use Rattle.lib_bind.proofs.ChosenLemmas.{ok_holds, whole_chosen}
use Rattle.lib_bind.proofs.EndLemmas.{IsMade, closed_of, made_of, start_of}
use Rattle.lib_bind.proofs.HeldLemmas.{begun_held, files_reexports, linked_held, same_links, target_found}
use Rattle.lib_bind.proofs.StepLemmas.{reach_growing}
use Rattle.lib_bind.proofs.ProgramLemmas.{end_holds, end_made}
use Rattle.lib_bind.proofs.WholeLemmas.{within_or_past}

-- ---- documents that are added

-- what a document re-exports has the install names of its text
abbrev pub AreNames : Growing → Type 0
AreNames growing = map (λ (all : List Reexport). map (λ (reexport : Reexport). reexport.install) all) growing.reexports ≡ map (λ (stub : Stub). stub.reexports) growing.documents

-- what was there stays
pub record Grows (old new : Growing) : Type 0 where
  pub known : (path : List ℕ) (document : Option ℕ) → found path old.known ≡ Some document → found path new.known ≡ Some document
  pub links : (d : ℕ) → linked new.links d ≡ linked old.links d
  pub more : length old.reexports ≤ length new.reexports
  pub reexports : (d : ℕ) → d < length old.reexports → get_or new.reexports d [] ≡ get_or old.reexports d []
  pub names : AreNames old → AreNames new

grows_itself : (growing : Growing) → Grows growing growing
grows_itself growing = record {
  known = λ path document is. is;
  links = λ d. refl;
  more = omega arith;
  reexports = λ d low. refl;
  names = λ are. are;
}

grows_then : (old mid new : Growing) → Grows old mid → Grows mid new → Grows old new
grows_then old mid new first second = record {
  known = λ path document is. second.known path document (first.known path document is);
  links = λ d. second.links d ∙ first.links d;
  more = omega (arith, first.more, second.more);
  reexports = λ d low. second.reexports d (omega (arith, low, first.more)) ∙ first.reexports d low;
  names = λ are. second.names (first.names are);
}

installs : (names : List (List ℕ)) (by : List ℕ → Reexport) → ((name : List ℕ) → (by name).install ≡ name) → map (λ (reexport : Reexport). reexport.install) (map by names) ≡ names
installs [] by same = refl
installs (name ∷ names) by same = ap₂ (λ (n : List ℕ) (ns : List (List ℕ)). n ∷ ns) (same name) (installs names by same)

file_installs : (heads : List (List ℕ × ℕ)) (first : ℕ) (all stubs : List Stub) → map (λ (every : List Reexport). map (λ (reexport : Reexport). reexport.install) every) (map (reexports_of heads first all) stubs) ≡ map (λ (stub : Stub). stub.reexports) stubs
file_installs heads first all [] = refl
file_installs heads first all (stub ∷ stubs) =
    ap₂ (λ (n : List (List ℕ)) (ns : List (List (List ℕ))). n ∷ ns) (installs stub.reexports _ (λ name. refl)) (file_installs heads first all stubs)

file_grows : (heads : List (List ℕ × ℕ)) (stubs : List Stub) (growing : Growing) → Grows growing (with_file heads stubs growing)
unfolding with_file
file_grows heads stubs growing = record {
  known = λ path document is. is;
  links = λ d. same_links growing.links stubs d;
  more = omega (arith, length-append growing.reexports (map (reexports_of heads (length growing.documents) stubs) stubs));
  reexports = λ d low. get_or_append_left growing.reexports (map (reexports_of heads (length growing.documents) stubs) stubs) [] d low;
  names = λ are. map-append _ growing.reexports (map (reexports_of heads (length growing.documents) stubs) stubs)
      ∙ ap₂ (λ (xs ys : List (List (List ℕ))). xs ++ ys) are (file_installs heads (length growing.documents) stubs stubs)
      ∙ sym (map-append (λ (stub : Stub). stub.reexports) growing.documents stubs);
}

stays_known : (path other : List ℕ) (document new : Option ℕ) (known : List (List ℕ × Option ℕ)) → found path known ≡ Some document → found path (known ++ (other, new) ∷ []) ≡ Some document
stays_known path other document new known is =
    found_more path other new known ∙ ap (λ (there : Option (Option ℕ)). option_or_else there (if bytes_eq path other then Some new else None)) is

known_grows : (path : List ℕ) (document : Option ℕ) (growing : Growing) → Grows growing (with_known path document growing)
known_grows path document growing = record {
  known = λ other there is. stays_known other path there document growing.known is;
  links = λ d. refl;
  more = omega arith;
  reexports = λ d low. refl;
  names = λ are. are;
}

abbrev none_of : Option (Option ℕ)
none_of = None

now_known : (path : List ℕ) (document : Option ℕ) (known : List (List ℕ × Option ℕ)) → found path known ≡ None → found path (known ++ (path, document) ∷ []) ≡ Some document
now_known path document known none =
    found_more path path document known ∙ ap (λ (there : Option (Option ℕ)). option_or_else there (if bytes_eq path path then Some document else None)) none
    ∙ ap (λ (test : Bool). if test then Some document else none_of) ((bytes_eq-Decides path path).1 refl)

-- ---- where a re-exported library is

pub record IsSought (path : List ℕ) (growing : Growing) (there : Sought) : Type 0 where
  pub grows : Grows growing there.growing
  pub known : found path there.growing.known ≡ Some there.document

file_known_too : (heads : List (List ℕ × ℕ)) (stubs : List Stub) (growing : Growing) → (with_file heads stubs growing).known ≡ growing.known
unfolding with_file
file_known_too heads stubs growing = refl

added_sought : (heads : List (List ℕ × ℕ)) (path : List ℕ) (read : Result StubFile ObjFault) (growing : Growing) → found path growing.known ≡ None → IfOk (added heads path read growing) (IsSought path growing)
added_sought heads path (Err why) growing none = tt
added_sought heads path (Ok stubs) growing none = record {
  grows = grows_then growing (with_file heads stubs.docs growing) (with_known path (Some (length growing.documents)) (with_file heads stubs.docs growing)) (file_grows heads stubs.docs growing)
      (known_grows path (Some (length growing.documents)) (with_file heads stubs.docs growing));
  known = now_known path (Some (length growing.documents)) (with_file heads stubs.docs growing).known (ap (λ (known : List (List ℕ × Option ℕ)). found path known) (file_known_too heads stubs.docs growing) ∙ none);
}

read_sought : (heads : List (List ℕ × ℕ)) (path : List ℕ) (file : Option (List ℕ)) (growing : Growing) → found path growing.known ≡ None → IfOk (read_at heads path file growing) (IsSought path growing)
read_sought heads path (Some bytes) growing none = added_sought heads path (reexported bytes) growing none
read_sought heads path None growing none = record { grows = known_grows path None growing; known = now_known path None growing.known none }

as_sought : (look : List ℕ → File) (heads : List (List ℕ × ℕ)) (path : List ℕ) (there : Option (Option ℕ)) (growing : Growing) → found path growing.known ≡ there → IfOk (sought_as heads path there growing look).end (IsSought path growing)
as_sought look heads path (Some document) growing is = record { grows = grows_itself growing; known = is }
as_sought look heads path None growing is =
    end_made (file_at (ReadFault path) path) (λ file. ends (read_at heads path file growing)) look (IsSought path growing) (λ file _. read_sought heads path file growing is)

sought_grows : (look : List ℕ → File) (heads : List (List ℕ × ℕ)) (path : List ℕ) (growing : Growing) → IfOk (sought heads path growing look).end (IsSought path growing)
unfolding sought
sought_grows look heads path growing = as_sought look heads path (found path growing.known) growing refl

pub record IsMet (leads : List (List ℕ × Option ℕ) → ℕ → Type 0) (growing : Growing) (there : Target) : Type 0 where
  pub grows : Grows growing there.growing
  pub leads_to : leads there.growing.known there.document

abbrev FirstAt : List ℕ → List ℕ → List (List ℕ × Option ℕ) → ℕ → Type 0
FirstAt first second known to = IsFirstAt known first second to

last_met : (first second : List ℕ) (growing : Growing) (document : Option ℕ) (new : Growing) → Grows growing new → found first new.known ≡ Some None → found second new.known ≡ Some document
    → IfOk (last_of first document new) (IsMet (FirstAt first second) growing)
last_met first second growing (Some document) new grows none there = record { grows = grows; leads_to = inr (none, there) }
last_met first second growing None new grows none there = tt

second_met : (look : List ℕ → File) (heads : List (List ℕ × ℕ)) (first second : List ℕ) (growing : Growing) (document : Option ℕ) (new : Growing) → Grows growing new → found first new.known ≡ Some document
    → IfOk (second_of heads first second document new look).end (IsMet (FirstAt first second) growing)
second_met look heads first second growing (Some document) new grows there = record { grows = grows; leads_to = inl there }
second_met look heads first second growing None new grows none =
    end_holds (sought heads second new) (λ there. ends (last_of first there.document there.growing)) look (IsSought second new) (IsMet (FirstAt first second) growing) (sought_grows look heads second new)
    (λ there is. last_met first second growing there.document there.growing (grows_then growing new there.growing grows is.grows) (is.grows.known first None none) is.known)

fetched_met : (look : List ℕ → File) (heads : List (List ℕ × ℕ)) (first second : List ℕ) (growing : Growing) → IfOk (fetched heads first second growing look).end (IsMet (FirstAt first second) growing)
fetched_met look heads first second growing =
    end_holds (sought heads first growing) (λ there. second_of heads first second there.document there.growing) look (IsSought first growing) (IsMet (FirstAt first second) growing) (sought_grows look heads first growing)
    (λ there is. second_met look heads first second growing there.document there.growing is.grows is.known)

by_met : (look : List ℕ → File) (root : Option (List ℕ)) (heads : List (List ℕ × ℕ)) (install : List ℕ) (here : Option ℕ) (growing : Growing)
    → IfOk (target_of root heads install here growing look).end (IsMet (λ known to. LeadsBy root known install here to) growing)
by_met look root heads install (Some document) growing = record { grows = grows_itself growing; leads_to = refl }
by_met look root heads install None growing = fetched_met look heads (stub_path root install) (plain_path root install) growing

abbrev pub Leading : Option (List ℕ) → Reexport → List (List ℕ × Option ℕ) → ℕ → Type 0
Leading root reexport known to = LeadsTo root known reexport to

pub target_met : (look : List ℕ → File) (root : Option (List ℕ)) (heads : List (List ℕ × ℕ)) (reexport : Reexport) (growing : Growing) → IfOk (target root heads reexport growing look).end (IsMet (Leading root reexport) growing)
unfolding target
target_met look root heads reexport growing = by_met look root heads reexport.install reexport.here growing

-- ---- requests of a document

abbrev pub wanted_of : ℕ → List Request → List Reexport
wanted_of d [] = []
wanted_of d (request ∷ rest) = if nat_eq d request.from then request.reexport ∷ wanted_of d rest else wanted_of d rest

wanted_append : (d : ℕ) (xs ys : List Request) → wanted_of d (xs ++ ys) ≡ wanted_of d xs ++ wanted_of d ys
wanted_append d [] ys = refl
wanted_append d (request ∷ xs) ys = by (nat_eq d request.from) (wanted_append d xs ys)
  where
    by : (test : Bool) → wanted_of d (xs ++ ys) ≡ wanted_of d xs ++ wanted_of d ys
        → (if test then request.reexport ∷ wanted_of d (xs ++ ys) else wanted_of d (xs ++ ys)) ≡ (if test then request.reexport ∷ wanted_of d xs else wanted_of d xs) ++ wanted_of d ys
    by true rest = ap (λ (all : List Reexport). request.reexport ∷ all) rest
    by false rest = rest

wanted_all : (d to : ℕ) (reexports : List Reexport) → nat_eq d to ≡ true → wanted_of d (requests_of to reexports) ≡ reexports
wanted_all d to [] is = refl
wanted_all d to (reexport ∷ reexports) is =
    ap (λ (test : Bool). if test then reexport ∷ wanted_of d (requests_of to reexports) else wanted_of d (requests_of to reexports)) is
    ∙ ap (λ (all : List Reexport). reexport ∷ all) (wanted_all d to reexports is)

wanted_none : (d to : ℕ) (reexports : List Reexport) → nat_eq d to ≡ false → wanted_of d (requests_of to reexports) ≡ []
wanted_none d to [] is = refl
wanted_none d to (reexport ∷ reexports) is =
    ap (λ (test : Bool). if test then reexport ∷ wanted_of d (requests_of to reexports) else wanted_of d (requests_of to reexports)) is ∙ wanted_none d to reexports is

abbrev due_by : Bool → List Reexport → List Reexport
due_by reached reexports = if reached then reexports else []

is_number : (d to : ℕ) → nat_eq d to ≡ true → d ≡ to
is_number d to is = grind arith

-- after so many requests the links are those of the requests that were met
pub record IsLinked (root : Option (List ℕ)) (count : ℕ) (closing : Closing) : Type 0 where
  pub names : AreNames closing.growing
  pub reached : (d : ℕ) → list_any (nat_eq d) closing.reached ≡ true → d < length closing.growing.reexports
  pub wanted : (d : ℕ) → wanted_of d closing.work ≡ due_by (list_any (nat_eq d) closing.reached) (get_or closing.growing.reexports d [])
  pub met : (d : ℕ) → AllZip (LeadsTo root closing.growing.known) (wanted_of d (take count closing.work)) (linked closing.growing.links d)

-- ---- a document is reached

one_more : (d to : ℕ) (reached : List ℕ) → list_any (nat_eq d) (reached ++ to ∷ []) ≡ (list_any (nat_eq d) reached || (nat_eq d to || false))
one_more d to reached = list_any-append (nat_eq d) reached (to ∷ [])

reached_low : (d to n : ℕ) (reached : List ℕ) → (list_any (nat_eq d) reached ≡ true → d < n) → to < n → (old here : Bool) → list_any (nat_eq d) reached ≡ old → nat_eq d to ≡ here → (old || (here || false)) ≡ true → d < n
reached_low d to n reached low inside true here is e both = low is
reached_low d to n reached low inside false true is e both = let same : d ≡ to = is_number d to e in omega (arith, same, inside)
reached_low d to n reached low inside false false is e both = absurd (cc)

wanted_more : (d to : ℕ) (closing : Closing) (here : Bool) → nat_eq d to ≡ here → list_any (nat_eq to) closing.reached ≡ false
    → wanted_of d closing.work ≡ due_by (list_any (nat_eq d) closing.reached) (get_or closing.growing.reexports d [])
    → wanted_of d closing.work ++ wanted_of d (requests_of to (get_or closing.growing.reexports to [])) ≡ due_by (list_any (nat_eq d) closing.reached || (here || false)) (get_or closing.growing.reexports d [])
wanted_more d to closing true e new wanted =
    let same : d ≡ to = is_number d to e in
    let none : list_any (nat_eq d) closing.reached ≡ false = ap (λ (n : ℕ). list_any (nat_eq n) closing.reached) same ∙ new in
    ap₂ (λ (xs ys : List Reexport). xs ++ ys) (wanted ∙ ap (λ (test : Bool). due_by test (get_or closing.growing.reexports d [])) none) (wanted_all d to (get_or closing.growing.reexports to []) e)
    ∙ ap (λ (n : ℕ). get_or closing.growing.reexports n []) (sym same)
    ∙ ap (λ (test : Bool). due_by (test || (true || false)) (get_or closing.growing.reexports d [])) (sym none)
wanted_more d to closing false e new wanted =
    ap₂ (λ (xs ys : List Reexport). xs ++ ys) wanted (wanted_none d to (get_or closing.growing.reexports to []) e) ∙ append-nil _
    ∙ ap (λ (test : Bool). due_by test (get_or closing.growing.reexports d [])) (or_false (list_any (nat_eq d) closing.reached))
  where
    or_false : (b : Bool) → b ≡ (b || (false || false))
    or_false true = refl
    or_false false = refl

pub reach_linked : (root : Option (List ℕ)) (count to : ℕ) (closing : Closing) → to < length closing.growing.reexports → count ≤ length closing.work → IsLinked root count closing → IsLinked root count (reach to closing)
unfolding reach
reach_linked root count to closing inside few is = by (list_any (nat_eq to) closing.reached) refl
  where
    by : (test : Bool) → list_any (nat_eq to) closing.reached ≡ test
        → IsLinked root count (if test then closing else record { growing = closing.growing; reached = closing.reached ++ to ∷ []; work = closing.work ++ requests_of to (get_or closing.growing.reexports to []) })
    by true e = is
    by false e = record {
      names = is.names;
      reached = λ d there. reached_low d to (length closing.growing.reexports) closing.reached (is.reached d) inside (list_any (nat_eq d) closing.reached) (nat_eq d to) refl refl (sym (one_more d to closing.reached) ∙ there);
      wanted = λ d. wanted_append d closing.work (requests_of to (get_or closing.growing.reexports to [])) ∙ wanted_more d to closing (nat_eq d to) refl e (is.wanted d)
          ∙ ap (λ (test : Bool). due_by test (get_or closing.growing.reexports d [])) (sym (one_more d to closing.reached));
      met = λ d. subst (λ (work : List Request). AllZip (LeadsTo root closing.growing.known) (wanted_of d work) (linked closing.growing.links d))
          (sym (take-append-le count closing.work (requests_of to (get_or closing.growing.reexports to [])) few)) (is.met d);
    }

-- ---- a request is met

leads_on : (root : Option (List ℕ)) (old new : Growing) (install : List ℕ) (here : Option ℕ) (to : ℕ) → Grows old new → LeadsBy root old.known install here to → LeadsBy root new.known install here to
leads_on root old new install (Some document) to grows leads = leads
leads_on root old new install None to grows (inl first) = inl (grows.known (stub_path root install) (Some to) first)
leads_on root old new install None to grows (inr second) = inr (grows.known (stub_path root install) None second.0, grows.known (plain_path root install) (Some to) second.1)

all_lead_on : (root : Option (List ℕ)) (old new : Growing) → Grows old new → (reexports : List Reexport) (links : List ℕ) → AllZip (LeadsTo root old.known) reexports links → AllZip (LeadsTo root new.known) reexports links
all_lead_on root old new grows [] [] all = all
all_lead_on root old new grows [] (to ∷ links) all = absurd all
all_lead_on root old new grows (reexport ∷ reexports) [] all = absurd all
all_lead_on root old new grows (reexport ∷ reexports) (to ∷ links) all = (leads_on root old new reexport.install reexport.here to grows all.0, all_lead_on root old new grows reexports links all.1)

one_leads_more : {X Y : Type 0} (R : X → Y → Type 0) (xs : List X) (ys : List Y) (x : X) (y : Y) → AllZip R xs ys → R x y → AllZip R (xs ++ x ∷ []) (ys ++ y ∷ [])
one_leads_more R [] [] x y all one = (one, tt)
one_leads_more R [] (z ∷ ys) x y all one = absurd all
one_leads_more R (z ∷ xs) [] x y all one = absurd all
one_leads_more R (z ∷ xs) (w ∷ ys) x y all one = (all.0, one_leads_more R xs ys x y all.1 one)

due_same : (d : ℕ) (old new : Growing) → Grows old new → (reached : Bool) → (reached ≡ true → d < length old.reexports) → due_by reached (get_or old.reexports d []) ≡ due_by reached (get_or new.reexports d [])
due_same d old new grows true low = sym (grows.reexports d (low refl))
due_same d old new grows false low = refl

number_itself : (d to : ℕ) → d ≡ to → nat_eq d to ≡ true
number_itself d to is = grind arith

other_number : (d to : ℕ) → (d ≡ to → ⊥) → nat_eq d to ≡ false
other_number d to other = grind arith

module _ (root : Option (List ℕ)) (count : ℕ) (closing : Closing) (request : Request) (there : Target) (within : count < length closing.work) (at : get_or closing.work count request ≡ request)
    (inside : request.from < length there.growing.links) (grows : Grows closing.growing there.growing) (leads : LeadsTo root there.growing.known request.reexport there.document) (is : IsLinked root count closing) where
  abbrev links : List (List ℕ)
  links = set there.growing.links request.from (get_or there.growing.links request.from [] ++ there.document ∷ [])

  wanted_next : (d : ℕ) → wanted_of d (take (count + 1) closing.work) ≡ wanted_of d (take count closing.work) ++ wanted_of d (request ∷ [])
  wanted_next d =
      ap (wanted_of d) (take_more closing.work count request within ∙ ap (λ (r : Request). take count closing.work ++ r ∷ []) at) ∙ wanted_append d (take count closing.work) (request ∷ [])

  met_before : (d : ℕ) → AllZip (LeadsTo root there.growing.known) (wanted_of d (take count closing.work)) (linked there.growing.links d)
  met_before d =
      subst (λ (targets : List ℕ). AllZip (LeadsTo root there.growing.known) (wanted_of d (take count closing.work)) targets) (sym (grows.links d))
      (all_lead_on root closing.growing there.growing grows (wanted_of d (take count closing.work)) (linked closing.growing.links d) (is.met d))

  met_by : (d : ℕ) → (d ≡ request.from) ⊎ (d ≡ request.from → ⊥) → AllZip (LeadsTo root there.growing.known) (wanted_of d (take count closing.work) ++ wanted_of d (request ∷ [])) (linked links d)
  met_by d (inl same) =
      let one : wanted_of d (request ∷ []) ≡ request.reexport ∷ [] = ap (λ (test : Bool). if test then request.reexport ∷ [] else []) (number_itself d request.from same) in
      let here : linked links d ≡ linked there.growing.links d ++ there.document ∷ [] =
      ap (linked links) same ∙ get_or-set_same there.growing.links request.from (get_or there.growing.links request.from [] ++ there.document ∷ []) [] inside
      ∙ ap (λ (n : ℕ). linked there.growing.links n ++ there.document ∷ []) (sym same) in
      subst (λ (targets : List ℕ). AllZip (LeadsTo root there.growing.known) (wanted_of d (take count closing.work) ++ wanted_of d (request ∷ [])) targets) (sym here)
      (subst (λ (more : List Reexport). AllZip (LeadsTo root there.growing.known) (wanted_of d (take count closing.work) ++ more) (linked there.growing.links d ++ there.document ∷ [])) (sym one)
      (one_leads_more (LeadsTo root there.growing.known) (wanted_of d (take count closing.work)) (linked there.growing.links d) request.reexport there.document (met_before d) leads))
  met_by d (inr other) =
      let none : wanted_of d (request ∷ []) ≡ [] = ap (λ (test : Bool). if test then request.reexport ∷ [] else []) (other_number d request.from other) in
      let here : linked links d ≡ linked there.growing.links d = get_or-set_other there.growing.links request.from d (get_or there.growing.links request.from [] ++ there.document ∷ []) [] other in
      subst (λ (targets : List ℕ). AllZip (LeadsTo root there.growing.known) (wanted_of d (take count closing.work) ++ wanted_of d (request ∷ [])) targets) (sym here)
      (subst (λ (reexports : List Reexport). AllZip (LeadsTo root there.growing.known) reexports (linked there.growing.links d))
      (sym (ap (λ (more : List Reexport). wanted_of d (take count closing.work) ++ more) none ∙ append-nil (wanted_of d (take count closing.work)))) (met_before d))

  pub link_linked : IsLinked root (count + 1) (record { growing = with_link request.from there.document there.growing; reached = closing.reached; work = closing.work })
  link_linked = record {
    names = grows.names is.names;
    reached = λ d yes_reached. (let low : d < length closing.growing.reexports = is.reached d yes_reached in omega (arith, low, grows.more));
    wanted = λ d. is.wanted d ∙ due_same d closing.growing there.growing grows (list_any (nat_eq d) closing.reached) (is.reached d);
    met = λ d. subst (λ (reexports : List Reexport). AllZip (LeadsTo root there.growing.known) reexports (linked links d)) (sym (wanted_next d)) (met_by d (cases_eq d request.from));
  }

-- ---- a step

-- the numbers are those of documents, and the links those of the requests that were met
pub record IsGoing (n : ℕ) (root : Option (List ℕ)) (heads : List (List ℕ × ℕ)) (count : ℕ) (closing : Closing) : Type 0 where
  pub held : IsHeld n heads closing
  pub linked_are : IsLinked root count closing

module _ (look : List ℕ → File) (n : ℕ) (root : Option (List ℕ)) (heads : List (List ℕ × ℕ)) (at : ℕ) (closing : Closing) (going : IsGoing n root heads at closing) where
  both : {A E : Type 0} (P Q : A → Type 0) (r : Result A E) → IfOk r P → IfOk r Q → IfOk r (λ x. P x × Q x)
  both P Q (Ok x) p q = (p, q)
  both P Q (Err e) p q = tt

  module _ (request : Request) (within : at < length closing.work) (is : get_or closing.work at request ≡ request) where
    asks : IsRequestOf (length closing.growing.documents) request
    asks = subst (IsRequestOf (length closing.growing.documents)) is (All-get_or (IsRequestOf (length closing.growing.documents)) closing.work at request within going.held.work)

    there_going : (there : Target) → IsFound closing.growing (Some there.document) there.growing → IsMet (Leading root request.reexport) closing.growing there
        → IsGoing n root heads (at + 1) (spec.linked request.from closing.reached closing.work there)
    there_going there found_is met_is =
        let count : length there.growing.links ≡ length there.growing.documents = found_is.grown.links in
        let reexports : length there.growing.reexports ≡ length there.growing.documents = found_is.grown.reexports in
        let more : length closing.growing.documents ≤ length there.growing.documents = found_is.more in
        let from : request.from < length closing.growing.documents = asks.from in
        let low : there.document < length there.growing.documents = found_is.there in
        record {
          held = linked_held n request.from heads closing there asks.from going.held found_is;
          linked_are = reach_linked root (at + 1) there.document (record { growing = with_link request.from there.document there.growing; reached = closing.reached; work = closing.work }) (omega (arith, reexports, low)) (omega (arith, within))
              (link_linked root at closing request there within is (omega (arith, count, more, from)) met_is.grows met_is.leads_to going.linked_are);
        }

    met_going : IfOk (met root heads (Some request) closing look).end (IsGoing n root heads (at + 1))
    met_going =
        end_holds (target root heads request.reexport closing.growing) (λ there. ends (Ok (spec.linked request.from closing.reached closing.work there))) look
        (λ there. Meets closing.growing there × IsMet (Leading root request.reexport) closing.growing there) (IsGoing n root heads (at + 1))
        (both (Meets closing.growing) (IsMet (Leading root request.reexport) closing.growing) (target root heads request.reexport closing.growing look).end
        (target_found look root heads request.reexport closing.growing (held_there n heads closing going.held) asks.here)
        (target_met look root heads request.reexport closing.growing))
        (λ there is. there_going there is.0 is.1)

  none_left : length closing.work ≤ at → IsGoing n root heads (at + 1) closing
  none_left past = record {
    held = going.held;
    linked_are = record {
      names = going.linked_are.names;
      reached = going.linked_are.reached;
      wanted = going.linked_are.wanted;
      met = λ d. subst (λ (work : List Request). AllZip (LeadsTo root closing.growing.known) (wanted_of d work) (linked closing.growing.links d)) (take_all at closing.work past ∙ sym (take_all (at + 1) closing.work (omega (arith, past)))) (going.linked_are.met d);
    };
  }

  no_request : Request
  no_request = record { from = 0; reexport = record { install = []; here = None } }

  step_by : (at < length closing.work) ⊎ (length closing.work ≤ at) → IfOk (step root heads at closing look).end (IsGoing n root heads (at + 1))
  unfolding step
  step_by (inl within) =
      subst (λ (found_is : Option Request). IfOk (met root heads found_is closing look).end (IsGoing n root heads (at + 1))) (sym (slice_get-get_or closing.work at no_request within))
      (met_going (get_or closing.work at no_request) within (get_or_default closing.work at (get_or closing.work at no_request) no_request within))
  step_by (inr past) =
      subst (λ (found_is : Option Request). IfOk (met root heads found_is closing look).end (IsGoing n root heads (at + 1))) (sym (slice_get_past closing.work at past)) (none_left past)

  pub step_going : IfOk (step root heads at closing look).end (IsGoing n root heads (at + 1))
  step_going = step_by (within_or_past at (length closing.work))

pub after_going : (look : List ℕ → File) (n : ℕ) (root : Option (List ℕ)) (heads : List (List ℕ × ℕ)) (start : Closing) (count : ℕ) → IsGoing n root heads 0 start → IfOk (after root heads count start look).end (IsGoing n root heads count)
after_going look n root heads start zero going = going
after_going look n root heads start (suc count) going =
    let one : count + 1 ≡ suc count = omega arith in
    subst (λ (c : ℕ). IfOk (after root heads (suc count) start look).end (IsGoing n root heads c)) one
    (end_holds (after root heads count start) (step root heads count) look (IsGoing n root heads count) (IsGoing n root heads (count + 1)) (after_going look n root heads start count going)
    (λ closing is. step_going look n root heads count closing is))

-- ---- the start

files_names : (heads : List (List ℕ × ℕ)) (files : List StubFile) (growing : Growing) → Grows growing (with_files heads files growing)
files_names heads [] growing = grows_itself growing
files_names heads (file ∷ files) growing = grows_then growing (with_file heads file.docs growing) (with_files heads files (with_file heads file.docs growing)) (file_grows heads file.docs growing) (files_names heads files (with_file heads file.docs growing))

no_numbers : (d : ℕ) → linked [] d ≡ []
no_numbers d = refl

files_linked : (root : Option (List ℕ)) (heads : List (List ℕ × ℕ)) (files : List StubFile) → IsLinked root 0 (record { growing = with_files heads files nothing; reached = []; work = [] })
files_linked root heads files = record {
  names = (files_names heads files nothing).names refl;
  reached = λ d there. absurd (cc);
  wanted = λ d. refl;
  met = λ d. subst (λ (targets : List ℕ). AllZip (LeadsTo root (with_files heads files nothing).known) [] targets) (sym ((files_names heads files nothing).links d ∙ no_numbers d)) tt;
}

all_linked : (root : Option (List ℕ)) (libraries : List Library) (closing : Closing) → All (λ (library : Library). library.document < length closing.growing.reexports) libraries → IsLinked root 0 closing → IsLinked root 0 (reach_all libraries closing)
all_linked root [] closing low is = is
all_linked root (library ∷ libraries) closing low is =
    all_linked root libraries (reach library.document closing)
    (subst (λ (growing : Growing). All (λ (one : Library). one.document < length growing.reexports) libraries) (sym (reach_growing library.document closing))
    (All-tail (λ (one : Library). one.document < length closing.growing.reexports) library libraries low))
    (reach_linked root 0 library.document closing (All-head (λ (one : Library). one.document < length closing.growing.reexports) library libraries low) (omega arith) is)

begun_going : (root : Option (List ℕ)) (heads : List (List ℕ × ℕ)) (libraries : List Library) (files : List StubFile) → AreHeads (total files) heads → AreLibraries (total files) libraries
    → IsGoing (total files) root heads 0 (begun libraries heads files)
begun_going root heads libraries files are libs =
    let within : All (λ (library : Library). library.document < total files) libraries = all_within (total files) libraries libs in
    record {
      held = begun_held heads libraries files (begun libraries heads files) are within refl;
      linked_are = all_linked root libraries (record { growing = with_files heads files nothing; reached = []; work = [] })
          (subst (λ (n : ℕ). All (λ (library : Library). library.document < n) libraries) (sym (files_reexports heads files (with_files heads files nothing) are refl)) within) (files_linked root heads files);
    }

-- ---- the end

map_at : {X Y : Type 0} (f : X → Y) (xs : List X) (d : ℕ) (e : X) → get_or (map f xs) d (f e) ≡ f (get_or xs d e)
map_at f [] d e = refl
map_at f (x ∷ xs) zero e = refl
map_at f (x ∷ xs) (suc d) e = map_at f xs d e

is_there : (reached : List ℕ) (d : ℕ) → In d reached → list_any (nat_eq d) reached ≡ true
is_there [] d there = absurd there
is_there (one ∷ reached) d (inl same) = ap (λ (test : Bool). test || list_any (nat_eq d) reached) (number_itself d one (sym same))
is_there (one ∷ reached) d (inr there) = ap (λ (rest : Bool). nat_eq d one || rest) (is_there reached d there) ∙ or_true (nat_eq d one)
  where
    or_true : (b : Bool) → (b || true) ≡ true
    or_true true = refl
    or_true false = refl

linked_has : (root : Option (List ℕ)) (count : ℕ) (closing : Closing) (d : ℕ) → length closing.work ≤ count → IsLinked root count closing → Contains closing.reached d → HasLinks root closing.growing d
linked_has root count closing d past is there = record {
  names = sym (map_at (λ (all : List Reexport). map (λ (reexport : Reexport). reexport.install) all) closing.growing.reexports d [])
      ∙ ap (λ (all : List (List (List ℕ))). get_or all d []) is.names ∙ map_at (λ (stub : Stub). stub.reexports) closing.growing.documents d no_document;
  leads = subst (λ (reexports : List Reexport). AllZip (LeadsTo root closing.growing.known) reexports (linked closing.growing.links d))
      (ap (wanted_of d) (take_all count closing.work past) ∙ is.wanted d
      ∙ ap (λ (test : Bool). due_by test (get_or closing.growing.reexports d [])) (is_there closing.reached d (in_from_Contains closing.reached d there))) (is.met d);
}

-- what was bound was gone for, request by request
pub bound_going : (look : List ℕ → File) (command : Command) (named : List NamedStub) (count : ℕ) (bound : Bound) → are_named (length command.inputs) 0 named ≡ true → (made : IsMade command named count look bound)
    → IsGoing (total made.chosen.files) command.syslibroot made.chosen.heads count made.closing
bound_going look command named count bound are made =
    let whole = whole_chosen (length command.inputs) command named made.chosen are made.chosen_is in
    ok_holds (IsGoing (total made.chosen.files) command.syslibroot made.chosen.heads count) (closed_of command count made.chosen look).end made.closing made.closing_is
    (after_going look (total made.chosen.files) command.syslibroot made.chosen.heads (start_of made.chosen) count
    (begun_going command.syslibroot made.chosen.heads made.chosen.libraries made.chosen.files whole.0 whole.1))

pub links_are : (look : List ℕ → File) (command : Command) (named : List NamedStub) (count : ℕ) (bound : Bound) (document : ℕ) → are_named (length command.inputs) 0 named ≡ true
    → (bound_after command named count look).end ≡ Ok bound → length bound.closing.work ≤ count → Contains bound.closing.reached document → HasLinks command.syslibroot bound.closing.growing document
links_are look command named count bound document are is past there =
    let made = made_of command named count look bound is in
    linked_has command.syslibroot count bound.closing document past
    (subst (λ (b : Bound). IsLinked command.syslibroot count b.closing) made.is (bound_going look command named count bound are made).linked_are) there
