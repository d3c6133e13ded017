-- Each line leaves a document that is the walk through a tree so far.
use Rattle.std.proofs.Common.{◌≡◌, ℕ, ◌+◌, ◌≤◌, List, [], ◌∷◌, ◌++◌, length, drop, map, Bool, true, false, ◌&&◌, Option, Some, None, Result, Ok, Err, refl, sym, ap, subst, arith, append_assoc}
use Rattle.std.specs.Prelude.{nat_lt, if◌then◌else◌}
use Rattle.std.specs.Str.{is_utf8}
use Rattle.std.specs.List.{AllByRecursion}
use Rattle.mo_types.specs.Gives.{◌>>=◌}
use Rattle.mo_types.specs.declared.cause.Rule.TheVariants as rule
use Rattle.yaml_text.specs.declared.fault.YamlFault.{YamlFault}
use Rattle.yaml_text.specs.declared.fault.YamlFault.TheVariants.{At}
use Rattle.yaml_text.specs.declared.file.YamlEvent.{YamlEvent}
use Rattle.yaml_text.specs.declared.file.YamlEvent.TheVariants as event
use Rattle.yaml_text.specs.declared.file.YamlDoc.{YamlDoc}
use Rattle.yaml_text.specs.declared.file.YamlFile.{YamlFile}
use Rattle.tbd_yaml.specs.declared.block.Block.{Block}
use Rattle.tbd_yaml.specs.declared.block.Form.{Form}
use Rattle.tbd_yaml.specs.declared.block.Form.TheVariants as form
use Rattle.tbd_yaml.specs.declared.body.Body.{Body}
use Rattle.tbd_yaml.specs.declared.body.FlowList.{FlowList}
use Rattle.yaml_text.specs.declared.flow.FlowPlace.{FlowPlace}
use Rattle.yaml_text.specs.declared.flow.FlowState.{FlowState}
use Rattle.yaml_text.specs.declared.token.Token.{Token}
use Rattle.yaml_text.specs.declared.token.Token.TheVariants as token
use Rattle.tbd_yaml.specs.declared.reading.Reading.{Reading}
use Rattle.tbd_yaml.specs.declared.reading.OpenDoc.{OpenDoc}
use Rattle.yaml_text.specs.Lines.{lines_of, spaces, blanks, without_blanks, begins_with, is_bare, is_item, tag_of}
use Rattle.yaml_text.specs.Scalars.{Keyed, key_of, scalar_of}
use Rattle.yaml_text.specs.Flow.{with_token, settled, with_tokens, new_state, tokens_from, flow_of}
use Rattle.tbd_yaml.specs.Blocks.{goes_on, closed_to, begins_block, list_form, opening, with_block, answered, closing, placed, has_key, key_added, with_key, after_flow, with_flow, with_value, with_rest, with_pair, with_item_of, with_item, is_map_form, is_map, with_entry, with_line_at, with_line, whole_events}
use Rattle.tbd_yaml.specs.File.{docs_with, with_doc, with_body, with_text, with_mark, with_block_line, flow_in, with_flow_line, with_any_line, with_next, ends, closed, finished, read_on, file_of}
use Rattle.tbd_yaml.specs.Tree.{IsWalk, HasTree}
use Rattle.tbd_yaml.proofs.TreeLemmas.{IsPartial, partial_new, partial_scalar, partial_list, partial_map, partial_key, partial_item, partial_end}

-- What an answer came from

pub bind_ok : {A B : Type 0} (r : Result A YamlFault) (f : A → Result B YamlFault) (y : B) → (r >>= f) ≡ Ok y → (x : A) × (r ≡ Ok x) × (f x ≡ Ok y)
bind_ok (Ok x) f y is = (x, refl, is)
bind_ok (Err e) f y is = absurd (cc)

pub unless_ok : {A : Type 0} (test : Bool) (fault : YamlFault) (r : Result A YamlFault) (y : A) → (if test then Err fault else r) ≡ Ok y → (test ≡ false) × (r ≡ Ok y)
unless_ok true fault r y is = absurd (cc)
unless_ok false fault r y is = (refl, is)

pub when_ok : {A : Type 0} (test : Bool) (fault : YamlFault) (r : Result A YamlFault) (y : A) → (if test then r else Err fault) ≡ Ok y → (test ≡ true) × (r ≡ Ok y)
when_ok true fault r y is = (refl, is)
when_ok false fault r y is = absurd (cc)

pub never_ok : {A : Type 0} (test : Bool) (one other : YamlFault) (y : A) → (if test then Err one else Err other) ≡ Ok y → ⊥
never_ok true one other y is = cc
never_ok false one other y is = cc

pub ok_same : {A : Type 0} (x y : A) → ◌≡◌ {A = Result A YamlFault} (Ok x) (Ok y) → x ≡ y
ok_same x y is = cc

pub by_test : {A P : Type 0} (test : Bool) (x y z : A) → (if test then x else y) ≡ z → (test ≡ true → x ≡ z → P) → (test ≡ false → y ≡ z → P) → P
by_test true x y z is one other = one refl is
by_test false x y z is one other = other refl is

pub both_true : (a b : Bool) → (a && b) ≡ true → a ≡ true
both_true true b is = refl
both_true false b is = absurd (cc)

-- Flow lists

abbrev FlowBy : List Bool → Bool → List YamlEvent → Type 0
FlowBy maps true events = IsPartial false maps events
FlowBy maps false events = IsPartial false (false ∷ maps) events

-- the list is closed, or it is the innermost block
abbrev FlowIs : List Bool → FlowState → Type 0
FlowIs maps state = FlowBy maps state.closed state.events

open_flow : (maps : List Bool) (closed : Bool) (events : List YamlEvent) → closed ≡ false → IsPartial false (false ∷ maps) events → FlowBy maps closed events
open_flow maps closed events is partial = subst (λ (closed : Bool). FlowBy maps closed events) (sym is) partial

token_ok : (place : FlowPlace) (given : Token) (state next : FlowState) (maps : List Bool) → IsPartial false (false ∷ maps) state.events → state.closed ≡ false → with_token place given state ≡ Ok next → FlowIs maps next
token_ok place token.Comma state next maps partial is_open is =
    let found = unless_ok state.wants (At place.opened rule.Flow) (Ok (record state { wants = true })) next is in
    subst (FlowIs maps) (ok_same (record state { wants = true }) next found.1) (open_flow maps state.closed state.events is_open partial)
token_ok place (token.Close ended) state next maps partial is_open is =
    let found = when_ok ended (At place.opened rule.Flow) (Ok (record state { events = state.events ++ event.End ∷ []; closed = true })) next is in
    subst (FlowIs maps) (ok_same (record state { events = state.events ++ event.End ∷ []; closed = true }) next found.1) (partial_end false maps state.events partial)
token_ok place token.Colon state next maps partial is_open is = absurd (cc)
token_ok place (token.Scalar text) state next maps partial is_open is =
    let found = when_ok state.wants (At place.opened rule.Flow) (Ok (record state { events = state.events ++ event.Scalar text ∷ []; wants = false })) next is in
    subst (FlowIs maps) (ok_same (record state { events = state.events ++ event.Scalar text ∷ []; wants = false }) next found.1)
    (open_flow maps state.closed (state.events ++ event.Scalar text ∷ []) is_open (partial_scalar (false ∷ maps) state.events text (partial_item maps state.events partial)))
token_ok place token.Escaped state next maps partial is_open is =
    let found = when_ok state.wants (At place.opened rule.Flow) (Ok (record state { escaped = true; wants = false })) next is in
    subst (FlowIs maps) (ok_same (record state { escaped = true; wants = false }) next found.1) (open_flow maps state.closed state.events is_open partial)
token_ok place token.Forbidden state next maps partial is_open is =
    let found = when_ok state.wants (At place.opened rule.Flow) (Ok (record state { spoiled = true; wants = false })) next is in
    subst (FlowIs maps) (ok_same (record state { spoiled = true; wants = false }) next found.1) (open_flow maps state.closed state.events is_open partial)
token_ok place token.Unclosed state next maps partial is_open is = absurd (never_ok state.wants (At place.line rule.Quote) (At place.opened rule.Flow) next is)

pub settled_ok : (place : FlowPlace) (state after : FlowState) → settled place state ≡ Ok after → state ≡ after
settled_ok place state after is =
    let one = unless_ok state.escaped (At place.line rule.Escape) (if state.spoiled then Err (At place.line rule.Scalar) else Ok state) after is in
    let two = unless_ok state.spoiled (At place.line rule.Scalar) (Ok state) after one.1 in
    ok_same state after two.1

one_token : (is_closed : Bool) (place : FlowPlace) (next after : FlowState) (tokens : List Token) (maps : List Bool)
    → ((state : FlowState) → IsPartial false (false ∷ maps) state.events → state.closed ≡ false → with_tokens place state tokens ≡ Ok after → FlowIs maps after)
    → next.closed ≡ is_closed → FlowIs maps next → (if next.closed then settled place next else with_tokens place next tokens) ≡ Ok after → FlowIs maps after
one_token true place next after tokens maps others e flow is =
    let at_end : settled place next ≡ Ok after = subst (λ (c : Bool). (if c then settled place next else with_tokens place next tokens) ≡ Ok after) e is in
    subst (FlowIs maps) (settled_ok place next after at_end) flow
one_token false place next after tokens maps others e flow is =
    others next (subst (λ (c : Bool). FlowBy maps c next.events) e flow) e (subst (λ (c : Bool). (if c then settled place next else with_tokens place next tokens) ≡ Ok after) e is)

tokens_ok : (tokens : List Token) (place : FlowPlace) (state after : FlowState) (maps : List Bool) → IsPartial false (false ∷ maps) state.events → state.closed ≡ false → with_tokens place state tokens ≡ Ok after → FlowIs maps after
tokens_ok [] place state after maps partial is_open is = subst (FlowIs maps) (settled_ok place state after is) (open_flow maps state.closed state.events is_open partial)
tokens_ok (given ∷ tokens) place state after maps partial is_open is =
    let step = bind_ok (with_token place given state) (λ next. if next.closed then settled place next else with_tokens place next tokens) after is in
    one_token step.0.closed place step.0 after tokens maps (λ state partial is_open is. tokens_ok tokens place state after maps partial is_open is) refl
    (token_ok place given state step.0 maps partial is_open step.1) step.2

-- Bodies

abbrev maps_of : List Block → List Bool
maps_of blocks = map (λ block. is_map_form block.form) blocks

abbrev pub BodyBy : Option FlowList → Body → Type 0
BodyBy None body = IsPartial body.awaits (maps_of body.blocks) body.events
BodyBy (Some list) body = IsPartial false (false ∷ maps_of body.blocks) body.events × (body.awaits ≡ false)

-- the body is the walk through a tree so far; an open flow list is its innermost block
abbrev pub IsBody : Body → Type 0
IsBody body = BodyBy body.flow body

-- a body between two lines of which no flow list is open, and none awaits its value
record IsSettled (awaits : Bool) (body : Body) : Type 0 where
  pub partial : IsPartial awaits (maps_of body.blocks) body.events
  pub awaits_none : body.awaits ≡ false
  pub flow : body.flow ≡ None

plain_body : (body : Body) → body.flow ≡ None → IsPartial body.awaits (maps_of body.blocks) body.events → IsBody body
plain_body body none partial = subst (λ (flow : Option FlowList). BodyBy flow body) (sym none) partial

settled_body : (body : Body) → IsSettled false body → IsBody body
settled_body body body_is = plain_body body body_is.flow (subst (λ (awaits : Bool). IsPartial awaits (maps_of body.blocks) body.events) (sym body_is.awaits_none) body_is.partial)

flow_body : (is_closed : Bool) (opened : ℕ) (body : Body) (after : FlowState) → after.closed ≡ is_closed → body.awaits ≡ false → FlowIs (maps_of body.blocks) after → IsBody (after_flow opened body after)
flow_body true opened body after e none flow =
    let partial : IsPartial false (maps_of body.blocks) after.events = subst (λ (c : Bool). FlowBy (maps_of body.blocks) c after.events) e flow in
    plain_body (after_flow opened body after) (ap (λ (c : Bool). if c then None else Some (record { opened = opened; wants = after.wants })) e)
    (subst (λ (awaits : Bool). IsPartial awaits (maps_of body.blocks) after.events) (sym none) partial)
flow_body false opened body after e none flow =
    let partial : IsPartial false (false ∷ maps_of body.blocks) after.events = subst (λ (c : Bool). FlowBy (maps_of body.blocks) c after.events) e flow in
    let still : (after_flow opened body after).flow ≡ Some (record { opened = opened; wants = after.wants }) = ap (λ (c : Bool). if c then None else Some (record { opened = opened; wants = after.wants })) e in
    subst (λ (flow : Option FlowList). BodyBy flow (after_flow opened body after)) (sym still) (partial, none)

flow_ok : (place : FlowPlace) (wants spaced : Bool) (text : List ℕ) (body next : Body) → IsPartial false (false ∷ maps_of body.blocks) body.events → body.awaits ≡ false → with_flow place wants spaced text body ≡ Ok next → IsBody next
unfolding flow_of
flow_ok place wants spaced text body next partial none is =
    let step = bind_ok (flow_of place wants spaced body.events text) (λ after. Ok (after_flow place.opened body after)) next is in
    let flow : FlowIs (maps_of body.blocks) step.0 = tokens_ok (tokens_from 0 spaced text) place (new_state wants body.events) step.0 (maps_of body.blocks) partial refl step.1 in
    subst IsBody (ok_same (after_flow place.opened body step.0) next step.2) (flow_body step.0.closed place.opened body step.0 refl none flow)

value_ok : (line : ℕ) (text : List ℕ) (body next : Body) → IsSettled true body → with_value line text body ≡ Ok next → IsBody next
unfolding with_value
value_ok line text body next body_is is =
    by_test (begins_with 0x5b text) (with_flow (record { opened = line; line = line }) true false (drop 1 text) (record body { events = body.events ++ event.BeginList ∷ [] }))
    (scalar_of line text >>= λ scalar. Ok (record body { events = body.events ++ event.Scalar scalar ∷ [] })) (Ok next) is
    (λ _ e. flow_ok (record { opened = line; line = line }) true false (drop 1 text) (record body { events = body.events ++ event.BeginList ∷ [] }) next (partial_list (maps_of body.blocks) body.events body_is.partial) body_is.awaits_none e)
    (λ _ e.
    let step = bind_ok (scalar_of line text) (λ scalar. Ok (record body { events = body.events ++ event.Scalar scalar ∷ [] })) next e in
    subst IsBody (ok_same (record body { events = body.events ++ event.Scalar step.0 ∷ [] }) next step.2)
    (settled_body (record body { events = body.events ++ event.Scalar step.0 ∷ [] }) (record {
      partial = partial_scalar (maps_of body.blocks) body.events step.0 body_is.partial;
      awaits_none = body_is.awaits_none;
      flow = body_is.flow;
    })))

rest_ok : (line : ℕ) (rest : List ℕ) (body next : Body) → IsSettled true body → with_rest line rest body ≡ Ok next → IsBody next
rest_ok line rest body next body_is is =
    by_test (is_bare rest) (Ok (record body { awaits = true })) (with_value line (without_blanks rest) body) (Ok next) is
    (λ _ e. subst IsBody (ok_same (record body { awaits = true }) next e) (plain_body (record body { awaits = true }) body_is.flow body_is.partial))
    (λ _ e. value_ok line (without_blanks rest) body next body_is e)

key_added_ok : (blocks : List Block) (line : ℕ) (name : List ℕ) (body next : Body) → is_map blocks ≡ true → IsPartial false (maps_of blocks) body.events → body.awaits ≡ false → body.flow ≡ None
    → key_added line name blocks body ≡ Ok next → IsSettled true next
key_added_ok [] line name body next is_map_is partial none flow is = absurd (cc)
key_added_ok (block ∷ outer) line name body next is_map_is partial none flow is =
    let longer : Body = record body { events = body.events ++ event.Key name ∷ []; blocks = record block { keys = block.keys ++ name ∷ [] } ∷ outer } in
    let found = unless_ok (has_key name block.keys) (At line rule.Key) (Ok longer) next is in
    subst (IsSettled true) (ok_same longer next found.1) (record {
      partial =
          subst (λ (is_map : Bool). IsPartial true (is_map ∷ maps_of outer) (body.events ++ event.Key name ∷ [])) (sym is_map_is)
          (partial_key (maps_of outer) body.events name (subst (λ (is_map : Bool). IsPartial false (is_map ∷ maps_of outer) body.events) is_map_is partial));
      awaits_none = none;
      flow = flow;
    })

pair_ok : (line : ℕ) (key : Option Keyed) (body next : Body) → is_map body.blocks ≡ true → IsSettled false body → with_pair line key body ≡ Ok next → IsBody next
unfolding with_key
pair_ok line None body next is_map_is body_is is = absurd (cc)
pair_ok line (Some keyed) body next is_map_is body_is is =
    let step = bind_ok (with_key line keyed.name body) (λ body. with_rest line keyed.rest body) next is in
    rest_ok line keyed.rest step.0 next (key_added_ok body.blocks line keyed.name body step.0 is_map_is body_is.partial body_is.awaits_none body_is.flow step.1) step.2

item_of_ok : (line column : ℕ) (text : List ℕ) (key : Option Keyed) (body next : Body) → IsSettled true body → with_item_of line column text key body ≡ Ok next → IsBody next
item_of_ok line column text None body next body_is is = value_ok line text body next body_is is
item_of_ok line column text (Some keyed) body next body_is is =
    pair_ok line (Some keyed) (with_block column form.Map body) next refl (record {
      partial = partial_map (maps_of body.blocks) body.events body_is.partial;
      awaits_none = refl;
      flow = body_is.flow;
    }) is

item_ok : (line column : ℕ) (text : List ℕ) (body next : Body) → IsSettled true body → with_item line column text body ≡ Ok next → IsBody next
unfolding with_item
item_ok line column text body next body_is is =
    let inner : List ℕ = without_blanks (drop 2 text) in
    let found = unless_ok (is_bare (drop 2 text)) (At line rule.Key) (with_item_of line (column + 2 + blanks (drop 2 text)) (without_blanks (drop 2 text)) (key_of (without_blanks (drop 2 text))) body) next is in
    item_of_ok line (column + 2 + blanks (drop 2 text)) (without_blanks (drop 2 text)) (key_of (without_blanks (drop 2 text))) body next body_is found.1

as_item : (blocks : List Block) (events : List YamlEvent) → 1 ≤ length blocks → is_map blocks ≡ false → IsPartial false (maps_of blocks) events → IsPartial true (maps_of blocks) events
as_item [] events some is partial = absurd (omega arith)
as_item (block ∷ outer) events some is partial =
    subst (λ (is_map : Bool). IsPartial true (is_map ∷ maps_of outer) events) (sym is) (partial_item (maps_of outer) events (subst (λ (is_map : Bool). IsPartial false (is_map ∷ maps_of outer) events) is partial))

entry_ok : (line column : ℕ) (text : List ℕ) (body next : Body) → 1 ≤ length body.blocks → IsSettled false body → with_entry line column text body ≡ Ok next → IsBody next
unfolding with_entry
entry_ok line column text body next some body_is is =
    by_test (is_map body.blocks) (if is_item text then Err (At line rule.Key) else with_pair line (key_of text) body) (if is_item text then with_item line column text body else Err (At line rule.Key)) (Ok next) is
    (λ is_map_is e. pair_ok line (key_of text) body next is_map_is body_is (unless_ok (is_item text) (At line rule.Key) (with_pair line (key_of text) body) next e).1)
    (λ is_map_is e. item_ok line column text body next (record {
      partial = as_item body.blocks body.events some is_map_is body_is.partial;
      awaits_none = body_is.awaits_none;
      flow = body_is.flow;
    }) (when_ok (is_item text) (At line rule.Key) (with_item line column text body) next e).1)

-- Places

record IsLeft (left : List Block × List YamlEvent) : Type 0 where
  pub partial : IsPartial false (maps_of left.0) left.1
  pub some : 1 ≤ length left.0

closed_ok : (blocks : List Block) (line column : ℕ) (item : Bool) (events : List YamlEvent) (left : List Block × List YamlEvent) → IsPartial false (maps_of blocks) events
    → closed_to line column item blocks events ≡ Ok left → IsLeft left
closed_ok [] line column item events left partial is = absurd (cc)
closed_ok (block ∷ outer) line column item events left partial is =
    let found = unless_ok (nat_lt block.column column) (At line rule.Indent) (if goes_on column item block then Ok (block ∷ outer, events) else closed_to line column item outer (events ++ event.End ∷ [])) left is in
    by_test (goes_on column item block) (Ok (block ∷ outer, events)) (closed_to line column item outer (events ++ event.End ∷ [])) (Ok left) found.1
    (λ _ e. subst IsLeft (ok_same (block ∷ outer, events) left e) (record { partial = partial; some = omega arith }))
    (λ _ e. closed_ok outer line column item (events ++ event.End ∷ []) left (partial_end (is_map_form block.form) (maps_of outer) events partial) e)

begun : (given : Form) (maps : List Bool) (events : List YamlEvent) → IsPartial true maps events → IsPartial false (is_map_form given ∷ maps) (events ++ opening given ∷ [])
begun form.Map maps events partial = partial_map maps events partial
begun form.List maps events partial = partial_list maps events partial
begun form.KeyList maps events partial = partial_list maps events partial

answered_ok : (awaits : Bool) (body : Body) → body.awaits ≡ awaits → IsPartial body.awaits (maps_of body.blocks) body.events → IsPartial false (maps_of body.blocks) (answered body).events
answered_ok true body e partial =
    subst (λ (awaits : Bool). IsPartial false (maps_of body.blocks) (if awaits then body.events ++ event.Scalar [] ∷ [] else body.events)) (sym e)
    (partial_scalar (maps_of body.blocks) body.events [] (subst (λ (awaits : Bool). IsPartial awaits (maps_of body.blocks) body.events) e partial))
answered_ok false body e partial =
    subst (λ (awaits : Bool). IsPartial false (maps_of body.blocks) (if awaits then body.events ++ event.Scalar [] ∷ [] else body.events)) (sym e)
    (subst (λ (awaits : Bool). IsPartial awaits (maps_of body.blocks) body.events) e partial)

record IsPlaced (body : Body) : Type 0 where
  pub settled : IsSettled false body
  pub some : 1 ≤ length body.blocks

placed_ok : (line column : ℕ) (item : Bool) (body next : Body) → body.flow ≡ None → IsPartial body.awaits (maps_of body.blocks) body.events → placed line column item body ≡ Ok next → IsPlaced next
unfolding placed
placed_ok line column item body next none partial is =
    let given : Form = if item then list_form column body.blocks else form.Map in
    by_test (body.awaits && begins_block column item body.blocks) (Ok (with_block column (if item then list_form column body.blocks else form.Map) body)) (closing line column item (answered body)) (Ok next) is
    (λ begins e. subst IsPlaced (ok_same (with_block column (if item then list_form column body.blocks else form.Map) body) next e) (record {
      settled = record {
        partial = begun (if item then list_form column body.blocks else form.Map) (maps_of body.blocks) body.events
            (subst (λ (awaits : Bool). IsPartial awaits (maps_of body.blocks) body.events) (both_true body.awaits (begins_block column item body.blocks) begins) partial);
        awaits_none = refl;
        flow = none;
      };
      some = omega arith;
    }))
    (λ _ e.
    let step = bind_ok (closed_to line column item body.blocks (answered body).events) (λ left. Ok (record (answered body) { blocks = left.0; events = left.1 })) next e in
    let left = closed_ok body.blocks line column item (answered body).events step.0 (answered_ok body.awaits body refl partial) step.1 in
    subst IsPlaced (ok_same (record (answered body) { blocks = step.0.0; events = step.0.1 }) next step.2) (record {
      settled = record { partial = left.partial; awaits_none = refl; flow = none };
      some = left.some;
    }))

line_at_ok : (line column : ℕ) (text : List ℕ) (body next : Body) → body.flow ≡ None → IsPartial body.awaits (maps_of body.blocks) body.events → with_line_at line column text body ≡ Ok next → IsBody next
line_at_ok line column text body next none partial is =
    let found = unless_ok (begins_with 0x09 text) (At line rule.Tab) (placed line column (is_item text) body >>= λ body. with_entry line column text body) next is in
    let step = bind_ok (placed line column (is_item text) body) (λ body. with_entry line column text body) next found.1 in
    let place = placed_ok line column (is_item text) body step.0 none partial step.1 in
    entry_ok line column text step.0 next place.some place.settled step.2

line_ok : (line : ℕ) (text : List ℕ) (body next : Body) → body.flow ≡ None → IsPartial body.awaits (maps_of body.blocks) body.events → with_line line text body ≡ Ok next → IsBody next
unfolding with_line
line_ok line text body next none partial is = line_at_ok line (spaces text) (drop (spaces text) text) body next none partial is

-- Whole documents

ends_ok : (blocks : List Block) (events : List YamlEvent) → IsPartial false (maps_of blocks) events → IsWalk (events ++ map (λ _. event.End) blocks)
ends_ok [] events partial = partial.whole [] refl
ends_ok (block ∷ outer) events partial =
    subst IsWalk (append_assoc events (event.End ∷ []) (map (λ _. event.End) outer)) (ends_ok outer (events ++ event.End ∷ []) (partial_end (is_map_form block.form) (maps_of outer) events partial))

whole_ok : (body : Body) → IsPartial body.awaits (maps_of body.blocks) body.events → IsWalk (whole_events body)
unfolding whole_events
whole_ok body partial = ends_ok body.blocks (answered body).events (answered_ok body.awaits body refl partial)

-- Texts

abbrev pub OpenIs : Option OpenDoc → Type 0
OpenIs None = Unit {0}
OpenIs (Some doc) = IsBody doc.body

pub record IsSound (reading : Reading) : Type 0 where
  pub docs : AllByRecursion HasTree reading.docs
  pub last : OpenIs reading.last

one_more : (docs : List YamlDoc) (doc : YamlDoc) → AllByRecursion HasTree docs → HasTree doc → AllByRecursion HasTree (docs ++ doc ∷ [])
one_more [] doc all has = (has, tt)
one_more (first ∷ docs) doc all has = (all.0, one_more docs doc all.1 has)

body_partial : (body : Body) → body.flow ≡ None → IsBody body → IsPartial body.awaits (maps_of body.blocks) body.events
body_partial body none is = subst (λ (flow : Option FlowList). BodyBy flow body) none is

docs_ok : (docs : List YamlDoc) (last : Option OpenDoc) → AllByRecursion HasTree docs → OpenIs last → flow_in last ≡ None → AllByRecursion HasTree (docs_with docs last)
docs_ok docs None all is none = all
docs_ok docs (Some doc) all is none = one_more docs (record { tag = doc.tag; events = whole_events doc.body }) all (whole_ok doc.body (body_partial doc.body none is))

new_body_ok : (tag : List ℕ) (reading : Reading) → IsSound reading → flow_in reading.last ≡ None → IsSound (with_doc tag reading)
new_body_ok tag reading sound none = record { docs = docs_ok reading.docs reading.last sound.docs sound.last none; last = partial_new }

text_ok : (line : ℕ) (text : List ℕ) (last : Option OpenDoc) (reading next : Reading) → AllByRecursion HasTree reading.docs → OpenIs last → flow_in last ≡ None → with_text line text last reading ≡ Ok next → IsSound next
text_ok line text None reading next all last_is none is = absurd (cc)
text_ok line text (Some doc) reading next all last_is none is =
    let step = bind_ok (with_line line text doc.body) (λ body. Ok (with_body reading doc body)) next is in
    subst IsSound (ok_same (with_body reading doc step.0) next step.2) (record { docs = all; last = line_ok line text doc.body step.0 none (body_partial doc.body none last_is) step.1 })

mark_ok : (line : ℕ) (text : List ℕ) (tag : Option (List ℕ)) (reading next : Reading) → IsSound reading → flow_in reading.last ≡ None → with_mark line text tag reading ≡ Ok next → IsSound next
mark_ok line text (Some tag) reading next sound none is = subst IsSound (ok_same (with_doc tag reading) next is) (new_body_ok tag reading sound none)
mark_ok line text None reading next sound none is = text_ok line text reading.last reading next sound.docs sound.last none is

block_line_ok : (line : ℕ) (text : List ℕ) (reading next : Reading) → IsSound reading → flow_in reading.last ≡ None → with_block_line line text reading ≡ Ok next → IsSound next
unfolding with_block_line
block_line_ok line text reading next sound none is =
    by_test (is_bare text) (Ok reading) (with_mark line text (tag_of text) reading) (Ok next) is
    (λ _ e. subst IsSound (ok_same reading next e) sound)
    (λ _ e. mark_ok line text (tag_of text) reading next sound none e)

flow_line_ok : (line : ℕ) (text : List ℕ) (list : FlowList) (last : Option OpenDoc) (reading next : Reading) → IsSound reading → OpenIs last → flow_in last ≡ Some list → with_flow_line line text list last reading ≡ Ok next → IsSound next
flow_line_ok line text list None reading next sound last_is some is = absurd (cc)
flow_line_ok line text list (Some doc) reading next sound last_is some is =
    let step = bind_ok (with_flow (record { opened = list.opened; line = line }) list.wants true text doc.body) (λ body. Ok (with_body reading doc body)) next is in
    let flow = subst (λ (flow : Option FlowList). BodyBy flow doc.body) some last_is in
    subst IsSound (ok_same (with_body reading doc step.0) next step.2) (record {
      docs = sound.docs;
      last = flow_ok (record { opened = list.opened; line = line }) list.wants true text doc.body step.0 flow.0 flow.1 step.1;
    })

any_line_ok : (line : ℕ) (text : List ℕ) (list : Option FlowList) (reading next : Reading) → IsSound reading → flow_in reading.last ≡ list → with_any_line line text list reading ≡ Ok next → IsSound next
any_line_ok line text None reading next sound flow is = block_line_ok line text reading next sound flow is
any_line_ok line text (Some list) reading next sound flow is = flow_line_ok line text list reading.last reading next sound sound.last flow is

pub next_ok : (line : ℕ) (text : List ℕ) (reading next : Reading) → IsSound reading → with_next line text reading ≡ Ok next → IsSound next
unfolding with_next
next_ok line text reading next sound is =
    any_line_ok line text (flow_in reading.last) reading next sound refl (when_ok (is_utf8 text) (At line rule.Utf8) (with_any_line line text (flow_in reading.last) reading) next is).1

closed_file_ok : (lines : ℕ) (list : Option FlowList) (last : Option OpenDoc) (reading : Reading) (file : YamlFile) → AllByRecursion HasTree reading.docs → OpenIs last → flow_in last ≡ list → closed lines list last reading ≡ Ok file → AllByRecursion HasTree file.docs
closed_file_ok lines (Some list) last reading file all last_is flow is = absurd (cc)
closed_file_ok lines None None reading file all last_is flow is = absurd (cc)
closed_file_ok lines None (Some doc) reading file all last_is flow is =
    subst (λ (file : YamlFile). AllByRecursion HasTree file.docs) (ok_same (record { docs = docs_with reading.docs (Some doc) }) file is) (docs_ok reading.docs (Some doc) all last_is flow)

finished_ok : (lines : ℕ) (reading : Reading) (file : YamlFile) → IsSound reading → finished lines reading ≡ Ok file → AllByRecursion HasTree file.docs
unfolding finished
finished_ok lines reading file sound is = closed_file_ok lines (flow_in reading.last) reading.last reading file sound.docs sound.last refl is

read_on_ok : (texts : List (List ℕ)) (lines : ℕ) (reading : Reading) (file : YamlFile) → IsSound reading → read_on lines reading texts ≡ Ok file → AllByRecursion HasTree file.docs
read_on_ok [] lines reading file sound is = finished_ok lines reading file sound is
read_on_ok (text ∷ texts) lines reading file sound is =
    by_test (ends text reading) (finished (lines + 1) reading) (with_next (lines + 1) text reading >>= λ reading. read_on (lines + 1) reading texts) (Ok file) is
    (λ _ e. finished_ok (lines + 1) reading file sound e)
    (λ _ e.
    let step = bind_ok (with_next (lines + 1) text reading) (λ reading. read_on (lines + 1) reading texts) file e in
    read_on_ok texts (lines + 1) step.0 file (next_ok (lines + 1) text reading step.0 sound step.1) step.2)

pub file_ok : (text : List ℕ) (file : YamlFile) → file_of text ≡ Ok file → AllByRecursion HasTree file.docs
unfolding file_of
file_ok text file is = read_on_ok (lines_of text) 0 (record { docs = []; last = None }) file (record { docs = tt; last = tt }) is
