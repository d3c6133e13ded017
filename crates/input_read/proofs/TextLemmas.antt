-- No text of a stub library lacks memory.
use Rattle.std.proofs.Common.{ℕ, ◌+◌, ◌++◌, Bool, true, false, nat_lt, List, [], ◌∷◌, Option, Some, None, Result, Ok, IfErr}
use Rattle.std.specs.Prelude.{◌==◌, ◌&&◌, not, drop, slice_index}
use Rattle.std.specs.Str.{is_utf8}
use Rattle.tbd_yaml.specs.Blocks.{answered, begins_block, closed_to, closing, goes_on, has_key, is_map, key_added, placed, with_entry, with_flow, with_item, with_item_of, with_key, with_line, with_line_at, with_pair, with_rest, with_value}
use Rattle.yaml_text.specs.Characters.{is_forbidden, is_quote}
use Rattle.tbd_yaml.specs.File.{closed, ends, file_of, finished, flow_in, new_reading, read_on, with_any_line, with_block_line, with_flow_line, with_mark, with_next, with_text}
use Rattle.yaml_text.specs.FaultText.{IsYamlFault}
use Rattle.yaml_text.specs.Flow.{flow_of, new_state, settled, tokens_from, with_token, with_tokens}
use Rattle.yaml_text.specs.Lines.{begins_with, blanks, is_bare, is_empty, is_ended, is_item, lines_of, spaces, tag_of, without_blanks}
use Rattle.yaml_text.specs.Scalars.{Keyed, Quoted, is_key_end, key_of, plain_alone, plain_size, quoted_alone, quoted_of, scalar_begun, scalar_of}
use Rattle.tbd_yaml.specs.declared.block.Block.{Block}
use Rattle.tbd_yaml.specs.declared.body.Body.{Body}
use Rattle.tbd_yaml.specs.declared.body.FlowList.{FlowList}
use Rattle.yaml_text.specs.declared.fault.YamlFault.{YamlFault}
use Rattle.yaml_text.specs.declared.file.YamlDoc.{YamlDoc}
use Rattle.yaml_text.specs.declared.file.YamlEvent.{YamlEvent}
use Rattle.yaml_text.specs.declared.file.YamlEvent.TheVariants as event
use Rattle.yaml_text.specs.declared.file.YamlFile.{YamlFile}
use Rattle.yaml_text.specs.declared.flow.FlowPlace.{FlowPlace}
use Rattle.yaml_text.specs.declared.flow.FlowState.{FlowState}
use Rattle.tbd_yaml.specs.declared.reading.OpenDoc.{OpenDoc}
use Rattle.tbd_yaml.specs.declared.reading.Reading.{Reading}
use Rattle.yaml_text.specs.declared.token.Token.{Token}
use Rattle.yaml_text.specs.declared.token.Token.TheVariants as token
use Rattle.tbd_doc.specs.Forms.{is_well_formed}
use Rattle.tbd_doc.specs.Nodes.{KeyedNode, fields_of, tree_of}
use Rattle.tbd_doc.specs.Stubs.{IsStubFault, is_tbd4, stub_at, stub_file_of, stub_for, stubs_from, target_of}
use Rattle.input_read.proofs.FaultLemmas.{either, then_real}

abbrev Real : {A : Type 0} → Result A YamlFault → Type 0
Real r = IfErr r IsYamlFault

-- ---- scalars

quoted_faulty : (line : ℕ) (quoted : Option Quoted) → Real (quoted_alone line quoted)
quoted_faulty line None = tt
quoted_faulty line (Some quoted) = either IsYamlFault (not (is_ended quoted.rest)) _ _ tt (either IsYamlFault (not quoted.known) _ (Ok quoted.text) tt tt)

plain_faulty : (line size : ℕ) (text : List ℕ) → Real (plain_alone line size text)
plain_faulty line size text = either IsYamlFault (is_key_end (drop size text)) _ _ tt tt

begun_faulty : (line byte : ℕ) (text : List ℕ) → Real (scalar_begun line byte text)
begun_faulty line byte text =
    either IsYamlFault (is_quote byte) _ _ (quoted_faulty line (quoted_of byte (drop 1 text)))
    (either IsYamlFault (is_forbidden byte) _ _ tt (plain_faulty line (plain_size false text) text))

scalar_faulty : (line : ℕ) (text : List ℕ) → Real (scalar_of line text)
unfolding scalar_of
scalar_faulty line text = either IsYamlFault (is_empty text) _ _ tt (begun_faulty line (slice_index text 0) text)

-- ---- flow lists

token_faulty : (place : FlowPlace) (one : Token) (state : FlowState) → Real (with_token place one state)
token_faulty place token.Comma state = either IsYamlFault state.wants _ _ tt tt
token_faulty place (token.Close ended) state = either IsYamlFault ended _ _ tt tt
token_faulty place token.Colon state = tt
token_faulty place (token.Scalar text) state = either IsYamlFault state.wants _ _ tt tt
token_faulty place token.Escaped state = either IsYamlFault state.wants _ _ tt tt
token_faulty place token.Forbidden state = either IsYamlFault state.wants _ _ tt tt
token_faulty place token.Unclosed state = either IsYamlFault state.wants _ _ tt tt

settled_faulty : (place : FlowPlace) (state : FlowState) → Real (settled place state)
settled_faulty place state = either IsYamlFault state.escaped _ _ tt (either IsYamlFault state.spoiled _ (Ok state) tt tt)

tokens_faulty : (place : FlowPlace) (state : FlowState) (tokens : List Token) → Real (with_tokens place state tokens)
tokens_faulty place state [] = settled_faulty place state
tokens_faulty place state (one ∷ tokens) =
    then_real IsYamlFault (with_token place one state) _ (token_faulty place one state) (λ next.
    either IsYamlFault next.closed _ _ (settled_faulty place next) (tokens_faulty place next tokens))

flow_faulty : (place : FlowPlace) (wants spaced : Bool) (events : List YamlEvent) (text : List ℕ) → Real (flow_of place wants spaced events text)
unfolding flow_of
flow_faulty place wants spaced events text = tokens_faulty place (new_state wants events) (tokens_from 0 spaced text)

list_faulty : (place : FlowPlace) (wants spaced : Bool) (text : List ℕ) (body : Body) → Real (with_flow place wants spaced text body)
list_faulty place wants spaced text body = then_real IsYamlFault (flow_of place wants spaced body.events text) _ (flow_faulty place wants spaced body.events text) (λ after. tt)

-- ---- blocks

blocks_faulty : (line column : ℕ) (item : Bool) (blocks : List Block) (events : List YamlEvent) → Real (closed_to line column item blocks events)
blocks_faulty line column item [] events = tt
blocks_faulty line column item (block ∷ outer) events =
    either IsYamlFault (nat_lt block.column column) _ _ tt
    (either IsYamlFault (goes_on column item block) _ _ tt (blocks_faulty line column item outer (events ++ event.End ∷ [])))

closing_faulty : (line column : ℕ) (item : Bool) (body : Body) → Real (closing line column item body)
closing_faulty line column item body = then_real IsYamlFault (closed_to line column item body.blocks body.events) _ (blocks_faulty line column item body.blocks body.events) (λ left. tt)

placed_faulty : (line column : ℕ) (item : Bool) (body : Body) → Real (placed line column item body)
unfolding placed
placed_faulty line column item body = either IsYamlFault (body.awaits && begins_block column item body.blocks) _ _ tt (closing_faulty line column item (answered body))

added_faulty : (line : ℕ) (name : List ℕ) (blocks : List Block) (body : Body) → Real (key_added line name blocks body)
added_faulty line name [] body = tt
added_faulty line name (block ∷ outer) body = either IsYamlFault (has_key name block.keys) _ _ tt tt

key_faulty : (line : ℕ) (name : List ℕ) (body : Body) → Real (with_key line name body)
unfolding with_key
key_faulty line name body = added_faulty line name body.blocks body

value_faulty : (line : ℕ) (text : List ℕ) (body : Body) → Real (with_value line text body)
unfolding with_value
value_faulty line text body =
    either IsYamlFault (begins_with 0x5b text) _ _
    (list_faulty (record { opened = line; line = line }) true false (drop 1 text) (record body { events = body.events ++ event.BeginList ∷ [] }))
    (then_real IsYamlFault (scalar_of line text) _ (scalar_faulty line text) (λ scalar. tt))

rest_faulty : (line : ℕ) (rest : List ℕ) (body : Body) → Real (with_rest line rest body)
rest_faulty line rest body = either IsYamlFault (is_bare rest) _ _ tt (value_faulty line (without_blanks rest) body)

pair_faulty : (line : ℕ) (keyed : Option Keyed) (body : Body) → Real (with_pair line keyed body)
pair_faulty line None body = tt
pair_faulty line (Some keyed) body = then_real IsYamlFault (with_key line keyed.name body) _ (key_faulty line keyed.name body) (λ next. rest_faulty line keyed.rest next)

item_of_faulty : (line column : ℕ) (text : List ℕ) (keyed : Option Keyed) (body : Body) → Real (with_item_of line column text keyed body)
item_of_faulty line column text None body = value_faulty line text body
item_of_faulty line column text (Some keyed) body = pair_faulty line (Some keyed) _

item_faulty : (line column : ℕ) (text : List ℕ) (body : Body) → Real (with_item line column text body)
unfolding with_item
item_faulty line column text body =
    either IsYamlFault (is_bare (drop 2 text)) _ _ tt
    (item_of_faulty line (column + 2 + blanks (drop 2 text)) (without_blanks (drop 2 text)) (key_of (without_blanks (drop 2 text))) body)

entry_faulty : (line column : ℕ) (text : List ℕ) (body : Body) → Real (with_entry line column text body)
unfolding with_entry
entry_faulty line column text body =
    either IsYamlFault (is_map body.blocks) _ _
    (either IsYamlFault (is_item text) _ _ tt (pair_faulty line (key_of text) body))
    (either IsYamlFault (is_item text) _ _ (item_faulty line column text body) tt)

line_at_faulty : (line column : ℕ) (text : List ℕ) (body : Body) → Real (with_line_at line column text body)
line_at_faulty line column text body =
    either IsYamlFault (begins_with 0x09 text) _ _ tt
    (then_real IsYamlFault (placed line column (is_item text) body) _ (placed_faulty line column (is_item text) body) (λ next. entry_faulty line column text next))

line_faulty : (line : ℕ) (text : List ℕ) (body : Body) → Real (with_line line text body)
unfolding with_line
line_faulty line text body = line_at_faulty line (spaces text) (drop (spaces text) text) body

-- ---- documents

text_faulty : (line : ℕ) (text : List ℕ) (doc : Option OpenDoc) (reading : Reading) → Real (with_text line text doc reading)
text_faulty line text None reading = tt
text_faulty line text (Some doc) reading = then_real IsYamlFault (with_line line text doc.body) _ (line_faulty line text doc.body) (λ body. tt)

mark_faulty : (line : ℕ) (text : List ℕ) (tag : Option (List ℕ)) (reading : Reading) → Real (with_mark line text tag reading)
mark_faulty line text (Some tag) reading = tt
mark_faulty line text None reading = text_faulty line text reading.last reading

block_line_faulty : (line : ℕ) (text : List ℕ) (reading : Reading) → Real (with_block_line line text reading)
unfolding with_block_line
block_line_faulty line text reading = either IsYamlFault (is_bare text) (Ok reading) _ tt (mark_faulty line text (tag_of text) reading)

flow_line_faulty : (line : ℕ) (text : List ℕ) (list : FlowList) (doc : Option OpenDoc) (reading : Reading) → Real (with_flow_line line text list doc reading)
flow_line_faulty line text list None reading = tt
flow_line_faulty line text list (Some doc) reading =
    then_real IsYamlFault (with_flow (record { opened = list.opened; line = line }) list.wants true text doc.body) _
    (list_faulty (record { opened = list.opened; line = line }) list.wants true text doc.body) (λ body. tt)

any_line_faulty : (line : ℕ) (text : List ℕ) (list : Option FlowList) (reading : Reading) → Real (with_any_line line text list reading)
any_line_faulty line text None reading = block_line_faulty line text reading
any_line_faulty line text (Some list) reading = flow_line_faulty line text list reading.last reading

next_faulty : (line : ℕ) (text : List ℕ) (reading : Reading) → Real (with_next line text reading)
unfolding with_next
next_faulty line text reading = either IsYamlFault (is_utf8 text) _ _ (any_line_faulty line text (flow_in reading.last) reading) tt

closed_faulty : (lines : ℕ) (list : Option FlowList) (doc : Option OpenDoc) (reading : Reading) → Real (closed lines list doc reading)
closed_faulty lines (Some list) doc reading = tt
closed_faulty lines None None reading = tt
closed_faulty lines None (Some doc) reading = tt

finished_faulty : (lines : ℕ) (reading : Reading) → Real (finished lines reading)
unfolding finished
finished_faulty lines reading = closed_faulty lines (flow_in reading.last) reading.last reading

read_faulty : (texts : List (List ℕ)) (lines : ℕ) (reading : Reading) → Real (read_on lines reading texts)
read_faulty [] lines reading = finished_faulty lines reading
read_faulty (text ∷ texts) lines reading =
    either IsYamlFault (ends text reading) _ _ (finished_faulty (lines + 1) reading)
    (then_real IsYamlFault (with_next (lines + 1) text reading) _ (next_faulty (lines + 1) text reading) (λ next. read_faulty texts (lines + 1) next))

pub file_faulty : (bytes : List ℕ) → IfErr (file_of bytes) IsYamlFault
unfolding file_of
file_faulty bytes = read_faulty (lines_of bytes) 0 new_reading

-- ---- what documents say

for_faulty : (doc : ℕ) (fields : List KeyedNode) (target : Option (List ℕ)) → IfErr (stub_for doc fields target) IsStubFault
for_faulty doc fields None = either IsStubFault (doc == 0) _ _ tt tt
for_faulty doc fields (Some target) = either IsStubFault (is_well_formed fields) _ _ tt tt

at_faulty : (doc : ℕ) (tag : List ℕ) (fields : List KeyedNode) → IfErr (stub_at doc tag fields) IsStubFault
unfolding stub_at
at_faulty doc tag fields = either IsStubFault (is_tbd4 tag fields) _ _ (for_faulty doc fields (target_of fields)) tt

from_faulty : (number : ℕ) (docs : List YamlDoc) → IfErr (stubs_from number docs) IsStubFault
from_faulty number [] = tt
from_faulty number (doc ∷ docs) =
    then_real IsStubFault (stub_at number doc.tag (fields_of (tree_of doc.events))) _ (at_faulty number doc.tag (fields_of (tree_of doc.events))) (λ stub.
    then_real IsStubFault (stubs_from (number + 1) docs) _ (from_faulty (number + 1) docs) (λ stubs. tt))

pub stubs_faulty : (file : YamlFile) → IfErr (stub_file_of file) IsStubFault
unfolding stub_file_of
stubs_faulty file = then_real IsStubFault (stubs_from 0 file.docs) _ (from_faulty 0 file.docs) (λ stubs. tt)
