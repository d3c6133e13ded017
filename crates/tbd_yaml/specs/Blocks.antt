-- Block maps and lists (YAML 1.2, 8.2): which block a line belongs to, and what it adds.
use Rattle.std.specs.Prelude.{ℕ, ◌+◌, ◌==◌, ◌&&◌, ◌||◌, nat_lt, Bool, true, false, not, List, [], ◌∷◌, ◌++◌, map, drop, Option, Some, None, Result, Ok, Err, if◌then◌else◌}
use Rattle.std.specs.List.{list_any}
use Rattle.std.specs.Str.{bytes_eq}
use Rattle.mo_types.specs.Gives.{◌>>=◌}
use Rattle.mo_types.specs.declared.cause.Rule.TheVariants as rule
use Rattle.yaml_text.specs.declared.fault.YamlFault.{YamlFault}
use Rattle.yaml_text.specs.declared.fault.YamlFault.TheVariants.{At}
use Rattle.yaml_text.specs.declared.file.YamlEvent.{YamlEvent}
use Rattle.yaml_text.specs.declared.file.YamlEvent.TheVariants as event
use Rattle.tbd_yaml.specs.declared.block.Block.{Block}
use Rattle.tbd_yaml.specs.declared.block.Form.{Form}
use Rattle.tbd_yaml.specs.declared.block.Form.TheVariants as form
use Rattle.yaml_text.specs.declared.flow.FlowPlace.{FlowPlace}
use Rattle.yaml_text.specs.declared.flow.FlowState.{FlowState}
use Rattle.tbd_yaml.specs.declared.body.Body.{Body}
use Rattle.yaml_text.specs.Lines.{spaces, blanks, without_blanks, begins_with, is_bare, is_item}
use Rattle.yaml_text.specs.Scalars.{Keyed, key_of, scalar_of}
use Rattle.yaml_text.specs.Flow.{flow_of}

-- Which block a line belongs to. The innermost open block stands first.

abbrev pub is_key_list : Form → Bool
is_key_list form.KeyList = true
is_key_list _ = false

-- A line goes on with a block of its indentation. A list that stands at the indentation of its key goes on with items
-- alone, so that the map's next key ends it.
abbrev pub goes_on : ℕ → Bool → Block → Bool
goes_on column item block = block.column == column && (item || not (is_key_list block.form))

-- the blocks that are open at a line of some indentation, the others being ended; there are none where no open block
-- has the line's indentation
abbrev pub closed_to : ℕ → ℕ → Bool → List Block → List YamlEvent → Result (List Block × List YamlEvent) YamlFault
closed_to line column item [] events = Err (At line rule.Indent)
closed_to line column item (block ∷ outer) events =
    if nat_lt block.column column then Err (At line rule.Indent)
    else if goes_on column item block then Ok (block ∷ outer, events)
    else closed_to line column item outer (events ++ event.End ∷ [])

-- a line begins the block that a key or the document waits for: it is more indented than the key, or it is an item at
-- the key's own indentation
abbrev pub begins_block : ℕ → Bool → List Block → Bool
begins_block column item [] = true
begins_block column item (block ∷ outer) = nat_lt block.column column || (block.column == column && item)

abbrev pub list_form : ℕ → List Block → Form
list_form column [] = form.List
list_form column (block ∷ outer) = if block.column == column then form.KeyList else form.List

abbrev pub opening : Form → YamlEvent
opening form.Map = event.BeginMap
opening _ = event.BeginList

-- a body in which a block has begun
abbrev pub with_block : ℕ → Form → Body → Body
with_block column form body = record body {
  events = body.events ++ opening form ∷ [];
  blocks = record { column = column; form = form; keys = [] } ∷ body.blocks;
  awaits = false;
}

-- a body in which a value that didn't come is the empty scalar
abbrev pub answered : Body → Body
answered body = record body { events = if body.awaits then body.events ++ event.Scalar [] ∷ [] else body.events; awaits = false }

abbrev pub closing : ℕ → ℕ → Bool → Body → Result Body YamlFault
closing line column item body =
    closed_to line column item body.blocks body.events >>= λ left. Ok (record body { blocks = left.0; events = left.1 })

-- the body in which the block of a line is the innermost one
unfoldable pub placed : ℕ → ℕ → Bool → Body → Result Body YamlFault
placed line column item body =
    if body.awaits && begins_block column item body.blocks
    then Ok (with_block column (if item then list_form column body.blocks else form.Map) body)
    else closing line column item (answered body)

-- What a line adds

abbrev pub has_key : List ℕ → List (List ℕ) → Bool
has_key name keys = list_any (bytes_eq name) keys

-- a key is added to the innermost map, which has it once
abbrev pub key_added : ℕ → List ℕ → List Block → Body → Result Body YamlFault
key_added line name [] body = Err (At line rule.Indent)
key_added line name (block ∷ outer) body =
    if has_key name block.keys then Err (At line rule.Key)
    else Ok (record body { events = body.events ++ event.Key name ∷ []; blocks = record block { keys = block.keys ++ name ∷ [] } ∷ outer })

unfoldable pub with_key : ℕ → List ℕ → Body → Result Body YamlFault
with_key line name body = key_added line name body.blocks body

-- a flow list goes on over the next line, or is closed
abbrev pub after_flow : ℕ → Body → FlowState → Body
after_flow opened body after = record body {
  events = after.events;
  flow = if after.closed then None else Some (record { opened = opened; wants = after.wants });
}

-- a flow list, over the rest of a line
abbrev pub with_flow : FlowPlace → Bool → Bool → List ℕ → Body → Result Body YamlFault
with_flow place wants spaced text body = flow_of place wants spaced body.events text >>= λ after. Ok (after_flow place.opened body after)

-- a value at the end of a line: a flow list or a scalar
unfoldable pub with_value : ℕ → List ℕ → Body → Result Body YamlFault
with_value line text body =
    if begins_with 0x5b text
    then with_flow (record { opened = line; line = line }) true false (drop 1 text) (record body { events = body.events ++ event.BeginList ∷ [] })
    else (scalar_of line text >>= λ scalar. Ok (record body { events = body.events ++ event.Scalar scalar ∷ [] }))

-- what follows a key's colon: its value, or nothing where the next lines have it
abbrev pub with_rest : ℕ → List ℕ → Body → Result Body YamlFault
with_rest line rest body = if is_bare rest then Ok (record body { awaits = true }) else with_value line (without_blanks rest) body

-- a key and its value
abbrev pub with_pair : ℕ → Option Keyed → Body → Result Body YamlFault
with_pair line None body = Err (At line rule.Key)
with_pair line (Some keyed) body = with_key line keyed.name body >>= λ body. with_rest line keyed.rest body

-- an item: a value, or a map whose first key stands here and which goes on at its column
abbrev pub with_item_of : ℕ → ℕ → List ℕ → Option Keyed → Body → Result Body YamlFault
with_item_of line column text None body = with_value line text body
with_item_of line column text (Some keyed) body = with_pair line (Some keyed) (with_block column form.Map body)

-- an item's line from its `- ` on, which stands at a column
unfoldable pub with_item : ℕ → ℕ → List ℕ → Body → Result Body YamlFault
with_item line column text body =
    if is_bare (drop 2 text) then Err (At line rule.Key)
    else with_item_of line (column + 2 + blanks (drop 2 text)) (without_blanks (drop 2 text)) (key_of (without_blanks (drop 2 text))) body

abbrev pub is_map_form : Form → Bool
is_map_form form.Map = true
is_map_form _ = false

-- the innermost block is a map
abbrev pub is_map : List Block → Bool
is_map [] = false
is_map (block ∷ outer) = is_map_form block.form

-- a line of the innermost block: a key of a map, an item of a list
unfoldable pub with_entry : ℕ → ℕ → List ℕ → Body → Result Body YamlFault
with_entry line column text body =
    if is_map body.blocks
    then (if is_item text then Err (At line rule.Key) else with_pair line (key_of text) body)
    else (if is_item text then with_item line column text body else Err (At line rule.Key))

-- a line that is neither blank nor a mark, by its indentation
abbrev pub with_line_at : ℕ → ℕ → List ℕ → Body → Result Body YamlFault
with_line_at line column text body =
    if begins_with 0x09 text then Err (At line rule.Tab)
    else placed line column (is_item text) body >>= λ body. with_entry line column text body

unfoldable pub with_line : ℕ → List ℕ → Body → Result Body YamlFault
with_line line text body = with_line_at line (spaces text) (drop (spaces text) text) body

-- what a body has where it ends: an open value is the empty scalar, and open blocks end
unfoldable pub whole_events : Body → List YamlEvent
whole_events body = (answered body).events ++ map (λ _. event.End) body.blocks

-- the body of a document that has just begun
abbrev pub new_body : Body
new_body = record { events = []; blocks = []; awaits = true; flow = None }
