-- The text of a stub library has a document.
use Rattle.std.proofs.Common.{ℕ, ◌+◌, ◌<◌, ◌++◌, ◌∷◌, [], List, length, Bool, true, false, Option, Some, None, Result, Ok, Err, IfOk, IsSome, refl, arith, length-append}
use Rattle.std.specs.Prelude.{if◌then◌else◌, ◌^◌, nat_le}
use Rattle.mo_types.specs.Gives.{◌>>=◌}
use Rattle.mo_types.specs.Kind.{kind_of}
use Rattle.mo_types.specs.declared.kind.Kind.{Kind}
use Rattle.mo_types.specs.declared.kind.Kind.TheVariants as kind
use Rattle.tbd_yaml.specs.File.{closed, ends, file_of, finished, flow_in, new_reading, read_on, with_next}
use Rattle.yaml_text.specs.Lines.{lines_of}
use Rattle.tbd_yaml.specs.declared.body.FlowList.{FlowList}
use Rattle.yaml_text.specs.declared.fault.YamlFault.{YamlFault}
use Rattle.yaml_text.specs.declared.file.YamlDoc.{YamlDoc}
use Rattle.yaml_text.specs.declared.file.YamlFile.{YamlFile}
use Rattle.tbd_yaml.specs.declared.reading.OpenDoc.{OpenDoc}
use Rattle.tbd_yaml.specs.declared.reading.Reading.{Reading}
use Rattle.tbd_doc.specs.Nodes.{KeyedNode, fields_of, tree_of}
use Rattle.tbd_doc.specs.Forms.{is_well_formed}
use Rattle.tbd_doc.specs.Stubs.{is_tbd4, stub_at, stub_file_of, stub_for, stub_of, stubs_from, target_of, with_stub}
use Rattle.tbd_doc.specs.declared.fault.StubFault.{StubFault}
use Rattle.tbd_doc.specs.declared.stub.Stub.{Stub}
use Rattle.tbd_doc.specs.declared.stub.StubFile.{StubFile}
use Rattle.lib_bind.specs.Reexported.{by_kind, reexported, stub_text, stubs_of, text_of, told}

-- what holds of a value holds of what is made of it
pub then_holds : {A B E : Type 0} (P : A → Type 0) (Q : B → Type 0) (r : Result A E) (f : A → Result B E) → IfOk r P → ((x : A) → P x → IfOk (f x) Q) → IfOk (r >>= f) Q
then_holds P Q (Ok x) f holds next = next x holds
then_holds P Q (Err e) f holds next = tt

pub either : {A E : Type 0} (P : A → Type 0) (test : Bool) (a b : Result A E) → IfOk a P → IfOk b P → IfOk (if test then a else b) P
either P true a b one other = one
either P false a b one other = other

pub told_holds : {A E F : Type 0} (P : A → Type 0) (turn : E → F) (r : Result A E) → IfOk r P → IfOk (told turn r) P
told_holds P turn (Ok x) holds = holds
told_holds P turn (Err e) holds = tt

abbrev HasDoc : YamlFile → Type 0
HasDoc file = 0 < length file.docs

one_more : {X : Type 0} (xs : List X) (x : X) → 0 < length (xs ++ x ∷ [])
one_more xs x = omega (arith, length-append xs (x ∷ []))

closed_has : (lines : ℕ) (list : Option FlowList) (doc : Option OpenDoc) (reading : Reading) → IfOk (closed lines list doc reading) HasDoc
closed_has lines (Some list) doc reading = tt
closed_has lines None None reading = tt
closed_has lines None (Some doc) reading = one_more reading.docs _

finished_has : (lines : ℕ) (reading : Reading) → IfOk (finished lines reading) HasDoc
unfolding finished
finished_has lines reading = closed_has lines (flow_in reading.last) reading.last reading

read_has : (texts : List (List ℕ)) (lines : ℕ) (reading : Reading) → IfOk (read_on lines reading texts) HasDoc
read_has [] lines reading = finished_has lines reading
read_has (text ∷ texts) lines reading =
    either HasDoc (ends text reading) (finished (lines + 1) reading) (with_next (lines + 1) text reading >>= λ next. read_on (lines + 1) next texts)
    (finished_has (lines + 1) reading)
    (then_holds (λ (next : Reading). Unit {0}) HasDoc (with_next (lines + 1) text reading) (λ next. read_on (lines + 1) next texts) (any (with_next (lines + 1) text reading)) (λ next _. read_has texts (lines + 1) next))
  where
    any : (r : Result Reading YamlFault) → IfOk r (λ (next : Reading). Unit {0})
    any (Ok next) = tt
    any (Err e) = tt

file_has : (bytes : List ℕ) → IfOk (file_of bytes) HasDoc
unfolding file_of
file_has bytes = read_has (lines_of bytes) 0 new_reading

-- the first document has a target

first_for : (fields : List KeyedNode) (target : Option (List ℕ)) → IfOk (stub_for 0 fields target) (λ stub. IsSome stub)
first_for fields None = tt
first_for fields (Some target) = either (λ (stub : Option Stub). IsSome stub) (is_well_formed fields) (Ok (Some (stub_of target fields))) _ refl tt

first_at : (tag : List ℕ) (fields : List KeyedNode) → IfOk (stub_at 0 tag fields) (λ stub. IsSome stub)
unfolding stub_at
first_at tag fields = either (λ (stub : Option Stub). IsSome stub) (is_tbd4 tag fields) (stub_for 0 fields (target_of fields)) _ (first_for fields (target_of fields)) tt

with_one : (stub : Option Stub) (stubs : List Stub) → IsSome stub → 0 < length (with_stub stub stubs)
with_one (Some stub) stubs is = omega arith
with_one None stubs is = absurd (cc)

rest_has : (stub : Option Stub) (rest : Result (List Stub) StubFault) → IsSome stub → IfOk (rest >>= λ stubs. Ok (with_stub stub stubs)) (λ stubs. 0 < length stubs)
rest_has stub (Ok stubs) is = with_one stub stubs is
rest_has stub (Err e) is = tt

stubs_have : (docs : List YamlDoc) → 0 < length docs → IfOk (stubs_from 0 docs) (λ stubs. 0 < length stubs)
stubs_have [] some = absurd (omega arith)
stubs_have (doc ∷ docs) some =
    then_holds (λ (stub : Option Stub). IsSome stub) (λ (stubs : List Stub). 0 < length stubs) (stub_at 0 doc.tag (fields_of (tree_of doc.events))) (λ stub. stubs_from (0 + 1) docs >>= λ stubs. Ok (with_stub stub stubs))
    (first_at doc.tag (fields_of (tree_of doc.events))) (λ stub is. rest_has stub (stubs_from (0 + 1) docs) is)

abbrev pub HasDocument : StubFile → Type 0
HasDocument file = 0 < length file.docs

file_stubs : (file : YamlFile) → HasDoc file → IfOk (stub_file_of file) HasDocument
unfolding stub_file_of
file_stubs file some = then_holds (λ (stubs : List Stub). 0 < length stubs) HasDocument (stubs_from 0 file.docs) (λ stubs. Ok (record { docs = stubs })) (stubs_have file.docs some) (λ stubs has. has)

text_has : (bytes : List ℕ) → IfOk (stub_text bytes) HasDocument
unfolding stub_text
text_has bytes =
    then_holds HasDoc HasDocument (text_of bytes) stubs_of (told_holds HasDoc _ (file_of bytes) (file_has bytes))
    (λ file some. told_holds HasDocument _ (stub_file_of file) (file_stubs file some))

kind_has : (bytes : List ℕ) (kind : Kind) → IfOk (by_kind bytes kind) HasDocument
kind_has bytes kind.Stub = text_has bytes
kind_has bytes kind.MachO = tt
kind_has bytes kind.Archive = tt
kind_has bytes kind.Universal = tt
kind_has bytes kind.NotAnInput = tt
kind_has bytes (kind.Refused feature) = tt

-- what is read of a re-exported file has a document
pub reexported_has : (bytes : List ℕ) → IfOk (reexported bytes) HasDocument
unfolding reexported
reexported_has bytes = either HasDocument (nat_le (2 ^ 30) (length bytes)) _ (by_kind bytes (kind_of bytes)) tt (kind_has bytes (kind_of bytes))
