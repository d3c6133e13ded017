-- A text has hardly more documents than bytes.
use Rattle.std.proofs.Common.{◌≡◌, ℕ, suc, ◌+◌, ◌<◌, ◌≤◌, ◌==◌, ◌∷◌, [], List, length, Bool, true, false, Option, Some, None, Result, Ok, Err, IfOk, refl, subst, arith, length-append}
use Rattle.std.specs.Prelude.{if◌then◌else◌, ◌^◌, map}
use Rattle.std.specs.List.{slice_split, count_by}
use Rattle.std.specs.Str.{is_utf8}
use Rattle.std.proofs.lemmas.List.{length-map}
use Rattle.std.proofs.lemmas.List.Splits.{length-slice_split}
use Rattle.std.proofs.lemmas.List.Sums.{count_by-le-length}
use Rattle.mo_types.specs.Gives.{◌>>=◌}
use Rattle.yaml_text.specs.Lines.{is_bare, is_empty, lines_of, tag_of, whole_lines, without_return}
use Rattle.yaml_text.specs.declared.fault.YamlFault.{YamlFault}
use Rattle.yaml_text.specs.declared.file.YamlDoc.{YamlDoc}
use Rattle.yaml_text.specs.declared.file.YamlFile.{YamlFile}
use Rattle.tbd_yaml.specs.Blocks.{with_flow, with_line}
use Rattle.tbd_yaml.specs.File.{closed, docs_with, ends, file_of, finished, flow_in, new_reading, read_on, with_any_line, with_block_line, with_body, with_flow_line, with_mark, with_next, with_text}
use Rattle.tbd_yaml.specs.declared.body.FlowList.{FlowList}
use Rattle.tbd_yaml.specs.declared.reading.OpenDoc.{OpenDoc}
use Rattle.tbd_yaml.specs.declared.reading.Reading.{Reading}
use Rattle.tbd_doc.specs.Nodes.{fields_of, tree_of}
use Rattle.tbd_doc.specs.Stubs.{stub_at, stub_file_of, stubs_from, with_stub}
use Rattle.tbd_doc.specs.declared.stub.Stub.{Stub}
use Rattle.tbd_doc.specs.declared.stub.StubFile.{StubFile}
use Rattle.mo_types.specs.declared.object_fault.ObjFault.{ObjFault}
use Rattle.lib_bind.specs.Reexported.{stub_text, stubs_of, text_of}
use Rattle.lib_bind.proofs.TextLemmas.{either, then_holds, told_holds}

-- ---- lines

whole_few : (lines : List (List ℕ)) → length (whole_lines lines) ≤ length lines
whole_few [] = omega arith
whole_few (line ∷ []) = by (is_empty line)
  where
    by : (test : Bool) → length (if test then [] else line ∷ []) ≤ 1
    by true = omega arith
    by false = omega arith
whole_few (line ∷ next ∷ lines) = let rest : length (whole_lines (next ∷ lines)) ≤ length (next ∷ lines) = whole_few (next ∷ lines) in omega (arith, rest)

abbrev is_newline : ℕ → Bool
is_newline byte = byte == 0x0a

lines_few : (bytes : List ℕ) → length (lines_of bytes) ≤ length bytes + 1
unfolding lines_of
lines_few bytes =
    let one : length (map without_return (whole_lines (slice_split is_newline bytes))) ≡ length (whole_lines (slice_split is_newline bytes)) = length-map (whole_lines (slice_split is_newline bytes)) without_return in
    let two : length (whole_lines (slice_split is_newline bytes)) ≤ length (slice_split is_newline bytes) = whole_few (slice_split is_newline bytes) in
    let three : length (slice_split is_newline bytes) ≡ count_by is_newline bytes + 1 = length-slice_split is_newline bytes in
    let four : count_by is_newline bytes ≤ length bytes = count_by-le-length is_newline bytes in
    omega (arith, one, two, three, four)

-- ---- documents

-- how many documents were begun
abbrev begun_in : List YamlDoc → Option OpenDoc → ℕ
begun_in docs None = length docs
begun_in docs (Some doc) = length docs + 1

abbrev count_in : Reading → ℕ
count_in reading = begun_in reading.docs reading.last

docs_begun : (docs : List YamlDoc) (last : Option OpenDoc) → length (docs_with docs last) ≡ begun_in docs last
docs_begun docs None = refl
docs_begun docs (Some doc) = length-append docs _

docs_most : (docs : List YamlDoc) (last : Option OpenDoc) → length docs ≤ begun_in docs last
docs_most docs None = omega arith
docs_most docs (Some doc) = omega arith

made : {A B E : Type 0} (Q : B → Type 0) (r : Result A E) (f : A → Result B E) → ((x : A) → IfOk (f x) Q) → IfOk (r >>= f) Q
made Q (Ok x) f holds = holds x
made Q (Err e) f holds = tt

weaker : {A E : Type 0} (P Q : A → Type 0) (r : Result A E) → ((x : A) → P x → Q x) → IfOk r P → IfOk r Q
weaker P Q (Ok x) so holds = so x holds
weaker P Q (Err e) so holds = tt

abbrev IsNext : Reading → Reading → Type 0
IsNext reading new = count_in new ≤ count_in reading + 1

body_next : (reading : Reading) (doc : OpenDoc) → length reading.docs + 1 ≤ count_in reading + 1
body_next reading doc = let most : length reading.docs ≤ begun_in reading.docs reading.last = docs_most reading.docs reading.last in omega (arith, most)

text_next : (line : ℕ) (text : List ℕ) (last : Option OpenDoc) (reading : Reading) → IfOk (with_text line text last reading) (IsNext reading)
text_next line text None reading = tt
text_next line text (Some doc) reading = made (IsNext reading) (with_line line text doc.body) (λ body. Ok (with_body reading doc body)) (λ body. body_next reading doc)

mark_next : (line : ℕ) (text : List ℕ) (tag : Option (List ℕ)) (reading : Reading) → IfOk (with_mark line text tag reading) (IsNext reading)
mark_next line text (Some tag) reading = let count : length (docs_with reading.docs reading.last) ≡ begun_in reading.docs reading.last = docs_begun reading.docs reading.last in omega (arith, count)
mark_next line text None reading = text_next line text reading.last reading

block_next : (line : ℕ) (text : List ℕ) (reading : Reading) → IfOk (with_block_line line text reading) (IsNext reading)
unfolding with_block_line
block_next line text reading = either (IsNext reading) (is_bare text) (Ok reading) (with_mark line text (tag_of text) reading) (omega arith) (mark_next line text (tag_of text) reading)

flow_next : (line : ℕ) (text : List ℕ) (list : FlowList) (last : Option OpenDoc) (reading : Reading) → IfOk (with_flow_line line text list last reading) (IsNext reading)
flow_next line text list None reading = omega arith
flow_next line text list (Some doc) reading =
    made (IsNext reading) (with_flow (record { opened = list.opened; line = line }) list.wants true text doc.body) (λ body. Ok (with_body reading doc body)) (λ body. body_next reading doc)

any_next : (line : ℕ) (text : List ℕ) (list : Option FlowList) (reading : Reading) → IfOk (with_any_line line text list reading) (IsNext reading)
any_next line text None reading = block_next line text reading
any_next line text (Some list) reading = flow_next line text list reading.last reading

next_few : (line : ℕ) (text : List ℕ) (reading : Reading) → IfOk (with_next line text reading) (IsNext reading)
unfolding with_next
next_few line text reading = either (IsNext reading) (is_utf8 text) (with_any_line line text (flow_in reading.last) reading) _ (any_next line text (flow_in reading.last) reading) tt

abbrev IsFew : ℕ → YamlFile → Type 0
IsFew most file = length file.docs ≤ most

closed_few : (lines : ℕ) (list : Option FlowList) (doc : Option OpenDoc) (reading : Reading) → IfOk (closed lines list doc reading) (IsFew (begun_in reading.docs doc))
closed_few lines (Some list) doc reading = tt
closed_few lines None None reading = tt
closed_few lines None (Some doc) reading = let count : length (docs_with reading.docs (Some doc)) ≡ length reading.docs + 1 = docs_begun reading.docs (Some doc) in omega (arith, count)

finished_few : (lines : ℕ) (reading : Reading) → IfOk (finished lines reading) (IsFew (count_in reading))
unfolding finished
finished_few lines reading = closed_few lines (flow_in reading.last) reading.last reading

read_few : (texts : List (List ℕ)) (lines : ℕ) (reading : Reading) → IfOk (read_on lines reading texts) (IsFew (count_in reading + length texts))
read_few [] lines reading = weaker (IsFew (count_in reading)) (IsFew (count_in reading + 0)) (finished lines reading) (λ file few. omega (arith, few)) (finished_few lines reading)
read_few (text ∷ texts) lines reading =
    either (IsFew (count_in reading + length (text ∷ texts))) (ends text reading) (finished (lines + 1) reading) (with_next (lines + 1) text reading >>= λ next. read_on (lines + 1) next texts)
    (weaker (IsFew (count_in reading)) (IsFew (count_in reading + length (text ∷ texts))) (finished (lines + 1) reading) (λ file few. omega (arith, few)) (finished_few (lines + 1) reading))
    (then_holds (IsNext reading) (IsFew (count_in reading + length (text ∷ texts))) (with_next (lines + 1) text reading) (λ next. read_on (lines + 1) next texts) (next_few (lines + 1) text reading)
    (λ next is.
    weaker (IsFew (count_in next + length texts)) (IsFew (count_in reading + length (text ∷ texts))) (read_on (lines + 1) next texts) (λ file few. omega (arith, few, is)) (read_few texts (lines + 1) next)))

-- a text of fewer than 2^30 bytes has fewer than 2^32 documents
pub few_docs : (bytes : List ℕ) (file : YamlFile) → file_of bytes ≡ Ok file → length bytes < 2 ^ 30 → length file.docs < 2 ^ 32
unfolding file_of
few_docs bytes file is small =
    let few : length file.docs ≤ 0 + length (lines_of bytes) = subst (λ (r : Result YamlFile YamlFault). IfOk r (IsFew (0 + length (lines_of bytes)))) is (read_few (lines_of bytes) 0 new_reading) in
    let lines : length (lines_of bytes) ≤ length bytes + 1 = lines_few bytes in
    omega (arith, few, lines, small)

-- ---- stub libraries

with_few : (stub : Option Stub) (stubs : List Stub) (most : ℕ) → length stubs ≤ most → length (with_stub stub stubs) ≤ suc most
with_few (Some stub) stubs most few = omega (arith, few)
with_few None stubs most few = omega (arith, few)

stubs_few : (number : ℕ) (docs : List YamlDoc) → IfOk (stubs_from number docs) (λ stubs. length stubs ≤ length docs)
stubs_few number [] = omega arith
stubs_few number (doc ∷ docs) =
    made (λ (stubs : List Stub). length stubs ≤ length (doc ∷ docs)) (stub_at number doc.tag (fields_of (tree_of doc.events))) (λ stub. stubs_from (number + 1) docs >>= λ stubs. Ok (with_stub stub stubs))
    (λ stub. then_holds (λ (stubs : List Stub). length stubs ≤ length docs) (λ (stubs : List Stub). length stubs ≤ length (doc ∷ docs)) (stubs_from (number + 1) docs) (λ stubs. Ok (with_stub stub stubs))
    (stubs_few (number + 1) docs) (λ stubs few. with_few stub stubs (length docs) few))

abbrev IsFewStubs : StubFile → Type 0
IsFewStubs file = length file.docs < 2 ^ 32

file_few : (file : YamlFile) → length file.docs < 2 ^ 32 → IfOk (stub_file_of file) IsFewStubs
unfolding stub_file_of
file_few file small =
    then_holds (λ (stubs : List Stub). length stubs ≤ length file.docs) IsFewStubs (stubs_from 0 file.docs) (λ stubs. Ok (record { docs = stubs })) (stubs_few 0 file.docs) (λ stubs few. omega (arith, few, small))

text_few : (bytes : List ℕ) → length bytes < 2 ^ 30 → IfOk (file_of bytes) (λ file. length file.docs < 2 ^ 32)
text_few bytes small = by (file_of bytes) refl
  where
    by : (r : Result YamlFile YamlFault) → file_of bytes ≡ r → IfOk r (λ file. length file.docs < 2 ^ 32)
    by (Ok file) is = few_docs bytes file is small
    by (Err why) is = tt

pub few_stubs : (bytes : List ℕ) (file : StubFile) → stub_text bytes ≡ Ok file → length bytes < 2 ^ 30 → length file.docs < 2 ^ 32
unfolding stub_text
few_stubs bytes file is small =
    subst (λ (r : Result StubFile ObjFault). IfOk r IsFewStubs) is
    (then_holds (λ (text : YamlFile). length text.docs < 2 ^ 32) IsFewStubs (text_of bytes) stubs_of (told_holds (λ (text : YamlFile). length text.docs < 2 ^ 32) _ (file_of bytes) (text_few bytes small))
    (λ text few. told_holds IsFewStubs _ (stub_file_of text) (file_few text few)))
