-- The documents of a text (YAML 1.2, 9): the fault of the first line that has one, and on it of the first rule.
use Rattle.std.specs.Prelude.{ℕ, ◌+◌, ◌&&◌, max, Bool, true, is_none, List, [], ◌∷◌, ◌++◌, Option, Some, None, Result, Ok, Err, if◌then◌else◌}
use Rattle.std.specs.Str.{is_utf8}
use Rattle.mo_types.specs.Gives.{◌>>=◌}
use Rattle.mo_types.specs.declared.cause.Rule.TheVariants as rule
use Rattle.yaml_text.specs.declared.fault.YamlFault.{YamlFault}
use Rattle.yaml_text.specs.declared.fault.YamlFault.TheVariants.{At}
use Rattle.yaml_text.specs.declared.file.YamlFile.{YamlFile}
use Rattle.yaml_text.specs.declared.file.YamlDoc.{YamlDoc}
use Rattle.tbd_yaml.specs.declared.body.Body.{Body}
use Rattle.tbd_yaml.specs.declared.body.FlowList.{FlowList}
use Rattle.tbd_yaml.specs.declared.reading.Reading.{Reading}
use Rattle.tbd_yaml.specs.declared.reading.OpenDoc.{OpenDoc}
use Rattle.yaml_text.specs.Lines.{lines_of, is_bare, tag_of, is_end}
use Rattle.tbd_yaml.specs.Blocks.{with_line, with_flow, whole_events, new_body}

-- the documents of a text up to a place, of which the last one is open
abbrev pub docs_with : List YamlDoc → Option OpenDoc → List YamlDoc
docs_with docs None = docs
docs_with docs (Some doc) = docs ++ record { tag = doc.tag; events = whole_events doc.body } ∷ []

-- a document begins, and the one before it ends
abbrev pub with_doc : List ℕ → Reading → Reading
with_doc tag reading = record { docs = docs_with reading.docs reading.last; last = Some (record { tag = tag; body = new_body }) }

abbrev pub with_body : Reading → OpenDoc → Body → Reading
with_body reading doc body = record { docs = reading.docs; last = Some (record { tag = doc.tag; body = body }) }

-- a line of the open document, or of none
abbrev pub with_text : ℕ → List ℕ → Option OpenDoc → Reading → Result Reading YamlFault
with_text line text None reading = Err (At line rule.Open)
with_text line text (Some doc) reading = with_line line text doc.body >>= λ body. Ok (with_body reading doc body)

abbrev pub with_mark : ℕ → List ℕ → Option (List ℕ) → Reading → Result Reading YamlFault
with_mark line text (Some tag) reading = Ok (with_doc tag reading)
with_mark line text None reading = with_text line text reading.last reading

-- a line outside flow lists: a blank one, a mark, or one of the open document
unfoldable pub with_block_line : ℕ → List ℕ → Reading → Result Reading YamlFault
with_block_line line text reading = if is_bare text then Ok reading else with_mark line text (tag_of text) reading

-- the flow list that is open
abbrev pub flow_in : Option OpenDoc → Option FlowList
flow_in None = None
flow_in (Some doc) = doc.body.flow

abbrev pub with_flow_line : ℕ → List ℕ → FlowList → Option OpenDoc → Reading → Result Reading YamlFault
with_flow_line line text list None reading = Ok reading
with_flow_line line text list (Some doc) reading =
    with_flow (record { opened = list.opened; line = line }) list.wants true text doc.body >>= λ body. Ok (with_body reading doc body)

abbrev pub with_any_line : ℕ → List ℕ → Option FlowList → Reading → Result Reading YamlFault
with_any_line line text None reading = with_block_line line text reading
with_any_line line text (Some list) reading = with_flow_line line text list reading.last reading

-- the reading behind a line
unfoldable pub with_next : ℕ → List ℕ → Reading → Result Reading YamlFault
with_next line text reading =
    if is_utf8 text then with_any_line line text (flow_in reading.last) reading else Err (At line rule.Utf8)

-- a line that ends the reading
unfoldable pub ends : List ℕ → Reading → Bool
ends text reading = is_end text && is_utf8 text && is_none (flow_in reading.last)

-- What was read up to some line: a flow list that isn't closed is told at the line that opened it, and a text without
-- a document at its last line.
abbrev pub closed : ℕ → Option FlowList → Option OpenDoc → Reading → Result YamlFile YamlFault
closed lines (Some list) doc reading = Err (At list.opened rule.Flow)
closed lines None None reading = Err (At (max 1 lines) rule.Open)
closed lines None (Some doc) reading = Ok (record { docs = docs_with reading.docs (Some doc) })

unfoldable pub finished : ℕ → Reading → Result YamlFile YamlFault
finished lines reading = closed lines (flow_in reading.last) reading.last reading

-- the file whose lines are read up to one
abbrev pub read_on : ℕ → Reading → List (List ℕ) → Result YamlFile YamlFault
read_on lines reading [] = finished lines reading
read_on lines reading (text ∷ texts) =
    if ends text reading then finished (lines + 1) reading
    else with_next (lines + 1) text reading >>= λ reading. read_on (lines + 1) reading texts

abbrev pub new_reading : Reading
new_reading = record { docs = []; last = None }

-- the file that a text is, or its first fault
unfoldable pub file_of : List ℕ → Result YamlFile YamlFault
file_of text = read_on 0 new_reading (lines_of text)
