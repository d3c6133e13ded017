-- The stubs of documents, one after the other.
use Rattle.std.proofs.Common.{◌≡◌, ℕ, ◌+◌, ◌<◌, ◌≤◌, List, [], ◌∷◌, ◌++◌, Option, Some, None, Result, Ok, Err, length, get_or, drop, refl, sym, ap, ◌∙◌, subst, append-nil, append_assoc}
use Rattle.std.specs.Prelude.{Bool, true, false, codes, if◌then◌else◌, ◌==◌}
use Rattle.std.specs.List.{flat_map, AllByRecursion}
use Rattle.std.specs.Result.{IsErrAnd}
use Rattle.std.proofs.lemmas.Result.{err_from_is_err_and}
use Rattle.std.proofs.lemmas.List.Elements.{All-from_recursion}
use Rattle.std.proofs.lemmas.Grind.{flat_map-append}
use Rattle.std.proofs.lemmas.List.{drop_all, drop_more}
use Rattle.mo_types.specs.Gives.{◌>>=◌, Gives}
use Rattle.tbd_yaml.specs.Tree.{HasTree, events_of}
use Rattle.yaml_text.specs.declared.file.YamlDoc.{YamlDoc}
use Rattle.yaml_text.specs.declared.file.YamlEvent.{YamlEvent}
use Rattle.yaml_text.specs.declared.file.YamlFile.{YamlFile}
use Rattle.tbd_doc.specs.declared.fault.StubFault.{StubFault}
use Rattle.tbd_doc.specs.declared.fault.StubFault.TheVariants.{NotTbd4, NoTarget, BadKey}
use Rattle.tbd_doc.specs.declared.stub.Export.{Export}
use Rattle.tbd_doc.specs.declared.stub.Stub.{Stub}
use Rattle.tbd_doc.specs.declared.stub.StubFile.{StubFile}
use Rattle.tbd_doc.specs.Nodes.{KeyedNode, fields_of, tree_of, text_under}
use Rattle.tbd_doc.specs.Forms.{is_well_formed}
use Rattle.tbd_doc.specs.Exports.{exporting, exported_names, weak_names, AreInOrder}
use Rattle.tbd_doc.specs.Stubs.{IsStubFault, IsWholeStub, IsWhole, is_tbd4, target_of, text_or_empty, version_or_one, libraries_of, exports_for, stub_of, stub_for, stub_at, stubs_from, stub_file_of, with_stub}
use Rattle.tbd_doc.proofs.OrderLemmas.{exports_in_order}
use Rattle.tbd_doc.specs.inner.Places.{IsNode}
use Rattle.tbd_doc.proofs.WalkLemmas.{node_here}

pub whole_node : (doc : YamlDoc) (events : List YamlEvent) → HasTree doc → events ≡ doc.events → IsNode events 0
whole_node doc events has same = node_here events 0 has.0 [] (same ∙ has.1 ∙ sym (append-nil (events_of has.0)))

pub two_keys : {X : Type 0} {Y : Type 0} (f : X → List Y) (a b : List X) (none first second : List Y) → none ≡ [] → first ≡ none ++ flat_map f a → second ≡ first ++ flat_map f b → second ≡ flat_map f (a ++ b)
two_keys f a b none first second is first_is second_is =
    second_is ∙ ap (λ xs. xs ++ flat_map f b) (first_is ∙ ap (λ xs. xs ++ flat_map f a) is) ∙ sym (flat_map-append f a b)

abbrev a_stub : List ℕ → ℕ → ℕ → List (List ℕ) → List Export → Stub
a_stub install current compatible reexports exports = record { install = install; current = current; compatible = compatible; reexports = reexports; exports = exports }

abbrev a_file : List Stub → StubFile
a_file stubs = record { docs = stubs }

-- stubs are those of the documents below one
pub record IsReading (docs : List YamlDoc) (at : ℕ) (stubs : List Stub) : Type 0 where
  pub same : (stubs_from at (drop at docs) >>= λ more. Ok (stubs ++ more)) ≡ stubs_from 0 docs

all_read : {E : Type 0} (read : Result (List Stub) E) → (read >>= λ more. Ok ([] ++ more)) ≡ read
all_read (Ok stubs) = refl
all_read (Err e) = refl

pub reading_starts : (docs : List YamlDoc) (stubs : List Stub) → stubs ≡ [] → IsReading docs 0 stubs
reading_starts docs stubs is = rw is record { same = all_read (stubs_from 0 docs) }

abbrev read_of : ℕ → YamlDoc → Result (Option Stub) StubFault
read_of number doc = stub_at number doc.tag (fields_of (tree_of doc.events))

from_here : (docs : List YamlDoc) (at : ℕ) (doc : YamlDoc) → at < length docs → doc ≡ get_or docs at doc
    → stubs_from at (drop at docs) ≡ (read_of at doc >>= λ stub. stubs_from (at + 1) (drop (at + 1) docs) >>= λ stubs. Ok (with_stub stub stubs))
from_here docs at doc within is = ap (stubs_from at) (drop_more docs at doc within ∙ ap (λ d. d ∷ drop (at + 1) docs) (sym is))

placed : (stub : Option Stub) (stubs rest : List Stub) → stubs ++ with_stub stub rest ≡ (stubs ++ with_stub stub []) ++ rest
placed None stubs rest = ap (λ xs. xs ++ rest) (sym (append-nil stubs))
placed (Some stub) stubs rest = sym (append_assoc stubs (stub ∷ []) rest)

with_more : {E : Type 0} (stub : Option Stub) (stubs : List Stub) (read : Result (List Stub) E) → ((read >>= λ rest. Ok (with_stub stub rest)) >>= λ more. Ok (stubs ++ more)) ≡ (read >>= λ more. Ok ((stubs ++ with_stub stub []) ++ more))
with_more stub stubs (Ok rest) = ap Ok (placed stub stubs rest)
with_more stub stubs (Err e) = refl

pub reading_goes_on : (docs : List YamlDoc) (at : ℕ) (stubs more : List Stub) (doc : YamlDoc) (stub : Option Stub) → IsReading docs at stubs → at < length docs → doc ≡ get_or docs at doc
    → read_of at doc ≡ Ok stub → more ≡ stubs ++ with_stub stub [] → IsReading docs (at + 1) more
reading_goes_on docs at stubs more doc stub reading within is read grown =
    let rest : Result (List Stub) StubFault = stubs_from (at + 1) (drop (at + 1) docs) in
    let here : stubs_from at (drop at docs) ≡ (rest >>= λ others. Ok (with_stub stub others)) =
    from_here docs at doc within is ∙ ap (λ r. r >>= λ stub. rest >>= λ others. Ok (with_stub stub others)) read in
    record {
      same = ap (λ xs. rest >>= λ others. Ok (xs ++ others)) grown ∙ sym (with_more stub stubs rest)
          ∙ ap (λ r. r >>= λ others. Ok (stubs ++ others)) (sym here) ∙ reading.same;
    }

pub reading_stops : (docs : List YamlDoc) (at : ℕ) (stubs : List Stub) (doc : YamlDoc) (fault : StubFault) → IsReading docs at stubs → at < length docs → doc ≡ get_or docs at doc
    → read_of at doc ≡ Err fault → stubs_from 0 docs ≡ Err fault
reading_stops docs at stubs doc fault reading within is read =
    let rest : Result (List Stub) StubFault = stubs_from (at + 1) (drop (at + 1) docs) in
    let here : stubs_from at (drop at docs) ≡ Err fault =
    from_here docs at doc within is ∙ ap (λ r. r >>= λ stub. rest >>= λ others. Ok (with_stub stub others)) read in
    sym reading.same ∙ ap (λ r. r >>= λ others. Ok (stubs ++ others)) here

pub reading_ends : (docs : List YamlDoc) (at : ℕ) (stubs : List Stub) → IsReading docs at stubs → length docs ≤ at → stubs_from 0 docs ≡ Ok stubs
reading_ends docs at stubs reading past =
    sym reading.same ∙ ap (λ rest. stubs_from at rest >>= λ others. Ok (stubs ++ others)) (drop_all at docs past) ∙ ap Ok (append-nil stubs)

pub ruleset reading = (reading_starts, reading_goes_on, reading_stops, reading_ends)

pub stub_made : (target : List ℕ) (fields : List KeyedNode) (install : List ℕ) (current compatible : ℕ) (reexports : List (List ℕ)) (exports : List Export)
    → install ≡ text_or_empty (text_under (codes "install-name") fields) → current ≡ version_or_one (text_under (codes "current-version") fields) → compatible ≡ version_or_one (text_under (codes "compatibility-version") fields)
    → reexports ≡ libraries_of target fields → exports ≡ exports_for target fields → a_stub install current compatible reexports exports ≡ stub_of target fields
unfolding stub_of
stub_made target fields install current compatible reexports exports i c d r e = rw (i, c, d, r, e) refl

pub stub_held : (result : Result (Option Stub) StubFault) (number : ℕ) (tag : List ℕ) (fields : List KeyedNode) (target : Option (List ℕ)) → is_tbd4 tag fields ≡ true → target ≡ target_of fields
    → Gives IsStubFault result (stub_for number fields target) → Gives IsStubFault result (stub_at number tag fields)
unfolding stub_at
stub_held result number tag fields target test is gives = rw test (subst (λ t. Gives IsStubFault result (stub_for number fields t)) is gives)

pub file_ok : (file : YamlFile) (docs : List YamlDoc) (stubs : List Stub) → docs ≡ file.docs → stubs_from 0 docs ≡ Ok stubs → stub_file_of file ≡ Ok (record { docs = stubs })
unfolding stub_file_of
file_ok file docs stubs same is = ap (λ r. r >>= λ stubs. Ok (a_file stubs)) (ap (stubs_from 0) (sym same) ∙ is)

pub file_err : (file : YamlFile) (docs : List YamlDoc) (fault : StubFault) → docs ≡ file.docs → stubs_from 0 docs ≡ Err fault → stub_file_of file ≡ Err fault
unfolding stub_file_of
file_err file docs fault same is = ap (λ r. r >>= λ stubs. Ok (a_file stubs)) (ap (stubs_from 0) (sym same) ∙ is)

pub passed_on : {T : Type 0} (returned : Result T StubFault) (fault : StubFault) (given : Result T StubFault) → IsErrAnd returned (λ e. e ≡ fault) → (IsStubFault fault → given ≡ Err fault) → Gives IsStubFault returned given
passed_on returned fault given is at_fault =
    let passed = err_from_is_err_and returned is in
    rw passed.1 (λ h. at_fault (subst IsStubFault passed.2 h) ∙ ap Err (sym passed.2))

-- What is read is whole.

exports_whole : (target : List ℕ) (fields : List KeyedNode) → AreInOrder (exports_for target fields)
unfolding exports_for
exports_whole target fields = exports_in_order (flat_map exported_names (exporting target fields)) (flat_map weak_names (exporting target fields))

stub_whole : (target : List ℕ) (fields : List KeyedNode) → IsWholeStub (stub_of target fields)
unfolding stub_of
stub_whole target fields = exports_whole target fields

tbd4_only : (test : Bool) (read : Result (Option Stub) StubFault) (stub : Stub) → (if test then read else Err NotTbd4) ≡ Ok (Some stub) → read ≡ Ok (Some stub)
tbd4_only true read stub is = is
tbd4_only false read stub is = absurd (cc)

no_stub : (test : Bool) (stub : Stub) → (if test then Err NoTarget else Ok None) ≡ Ok (Some stub) → ⊥
no_stub true stub is = cc
no_stub false stub is = cc

the_stub : (test : Bool) (made stub : Stub) (number : ℕ) → (if test then Ok (Some made) else Err (BadKey number)) ≡ Ok (Some stub) → made ≡ stub
the_stub true made stub number is = cc
the_stub false made stub number is = absurd (cc)

for_whole : (number : ℕ) (fields : List KeyedNode) (target : Option (List ℕ)) (stub : Stub) → stub_for number fields target ≡ Ok (Some stub) → IsWholeStub stub
for_whole number fields None stub is = absurd (no_stub (number == 0) stub is)
for_whole number fields (Some target) stub is = subst IsWholeStub (the_stub (is_well_formed fields) (stub_of target fields) stub number is) (stub_whole target fields)

at_whole : (number : ℕ) (tag : List ℕ) (fields : List KeyedNode) (stub : Stub) → stub_at number tag fields ≡ Ok (Some stub) → IsWholeStub stub
unfolding stub_at
at_whole number tag fields stub is = for_whole number fields (target_of fields) stub (tbd4_only (is_tbd4 tag fields) (stub_for number fields (target_of fields)) stub is)

more_whole : (read : Result (Option Stub) StubFault) (rest : Result (List Stub) StubFault) (stubs : List Stub) → ((stub : Stub) → read ≡ Ok (Some stub) → IsWholeStub stub) → ((others : List Stub) → rest ≡ Ok others → AllByRecursion IsWholeStub others)
    → (read >>= λ stub. rest >>= λ others. Ok (with_stub stub others)) ≡ Ok stubs → AllByRecursion IsWholeStub stubs
more_whole (Err e) rest stubs one all is = absurd (cc)
more_whole (Ok None) (Err e) stubs one all is = absurd (cc)
more_whole (Ok None) (Ok others) stubs one all is = all stubs is
more_whole (Ok (Some stub)) (Err e) stubs one all is = absurd (cc)
more_whole (Ok (Some stub)) (Ok others) stubs one all is = let same : stub ∷ others ≡ stubs = cc in subst (AllByRecursion IsWholeStub) same (one stub refl, all others refl)

stubs_whole : (docs : List YamlDoc) (number : ℕ) (stubs : List Stub) → stubs_from number docs ≡ Ok stubs → AllByRecursion IsWholeStub stubs
stubs_whole [] number stubs is = let same : [] ≡ stubs = cc in subst (AllByRecursion IsWholeStub) same tt
stubs_whole (doc ∷ docs) number stubs is =
    more_whole (read_of number doc) (stubs_from (number + 1) docs) stubs (at_whole number doc.tag (fields_of (tree_of doc.events))) (stubs_whole docs (number + 1)) is

file_step : (read : Result (List Stub) StubFault) (stubs : StubFile) → (read >>= λ docs. Ok (a_file docs)) ≡ Ok stubs → read ≡ Ok stubs.docs
file_step (Ok docs) stubs is = let same : a_file docs ≡ stubs = cc in ap (λ file. Ok file.docs) same
file_step (Err e) stubs is = absurd (cc)

pub read_whole : (file : YamlFile) (stubs : StubFile) → stub_file_of file ≡ Ok stubs → IsWhole stubs
unfolding stub_file_of
read_whole file stubs is = All-from_recursion IsWholeStub stubs.docs (stubs_whole file.docs 0 stubs.docs (file_step (stubs_from 0 file.docs) stubs is))
