-- What is read is in the grammar: with what may follow a line, the line stands in the grammar's place for it.
use Rattle.std.proofs.Common.{◌≡◌, ℕ, ◌+◌, ◌≤◌, List, [], ◌∷◌, ◌++◌, length, drop, map, Bool, true, false, ◌&&◌, ◌||◌, ◌==◌, not, Option, Some, None, Ok, Err, refl, sym, ap, ◌∙◌, subst, arith, append_assoc, append-nil}
use Rattle.std.proofs.lemmas.Bool.{eqb-true}
use Rattle.std.specs.Prelude.{nat_lt, is_none, if◌then◌else◌}
use Rattle.std.specs.Str.{is_utf8}
use Rattle.mo_types.specs.Gives.{◌>>=◌}
use Rattle.mo_types.specs.declared.cause.Rule.TheVariants as rule
use Rattle.yaml_text.specs.declared.fault.YamlFault.TheVariants.{At}
use Rattle.yaml_text.specs.declared.file.YamlEvent.{YamlEvent}
use Rattle.yaml_text.specs.declared.file.YamlEvent.TheVariants as event
use Rattle.yaml_text.specs.declared.file.YamlDoc.{YamlDoc}
use Rattle.yaml_text.specs.declared.file.YamlFile.{YamlFile}
use Rattle.tbd_yaml.specs.declared.block.Block.{Block}
use Rattle.tbd_yaml.specs.declared.block.Form.{Form}
use Rattle.tbd_yaml.specs.declared.block.Form.TheVariants as form
use Rattle.tbd_yaml.specs.declared.body.Body.{Body}
use Rattle.tbd_yaml.specs.declared.body.FlowList.{FlowList}
use Rattle.yaml_text.specs.declared.flow.FlowPlace.{FlowPlace}
use Rattle.yaml_text.specs.declared.flow.FlowState.{FlowState}
use Rattle.yaml_text.specs.declared.token.Token.{Token}
use Rattle.yaml_text.specs.declared.token.Token.TheVariants as token
use Rattle.tbd_yaml.specs.declared.reading.Reading.{Reading}
use Rattle.tbd_yaml.specs.declared.reading.OpenDoc.{OpenDoc}
use Rattle.yaml_text.specs.Lines.{lines_of, spaces, blanks, without_blanks, begins_with, is_bare, is_item, is_end, tag_of}
use Rattle.yaml_text.specs.Scalars.{Keyed, key_of, scalar_of}
use Rattle.yaml_text.specs.Flow.{with_token, settled, with_tokens, new_state, tokens_from, flow_of}
use Rattle.tbd_yaml.specs.Blocks.{is_key_list, goes_on, closed_to, begins_block, list_form, opening, with_block, answered, closing, placed, has_key, key_added, with_key, after_flow, with_flow, with_value, with_rest, with_pair, with_item_of, with_item, is_map_form, is_map, with_entry, with_line_at, with_line, whole_events, new_body}
use Rattle.tbd_yaml.specs.File.{docs_with, with_doc, with_body, with_text, with_mark, with_block_line, flow_in, with_flow_line, with_any_line, with_next, ends, closed, finished, read_on, file_of}
use Rattle.tbd_yaml.specs.Tree.{Tree, scalar, list, map as a_map_of, Trees, no_trees, tree, Pairs, no_pairs, pair, events_of, tree_events, pair_events}
use Rattle.tbd_yaml.specs.Grammar.{IsPassed, IsBlockLine, content, stands_below, IsItems, next_line, a_comma, an_item, a_bracket, IsValue, a_scalar, a_flow_list, IsBelow, nothing, pass_below, a_block, a_map, a_list, IsPairs, a_pair, IsPairValue, value_here, value_below, IsMorePairs, no_more_pairs, pass_pairs, more_pairs, IsEntries, an_entry, IsEntry, entry_value, entry_map, IsMoreEntries, no_more_entries, pass_entries, more_entries, Document, AreDocuments, the_last_line, the_end, pass_line, a_document, doc_of, AreDocumentsOf}
use Rattle.tbd_yaml.proofs.SoundLemmas.{bind_ok, unless_ok, when_ok, never_ok, ok_same, by_test, both_true, settled_ok, IsSound, OpenIs, BodyBy, next_ok}

abbrev pub Lines : Type 0
Lines = List (List ℕ)

-- all events of a document are those so far and a rest with a property
abbrev Leads : List YamlEvent → List YamlEvent → (List YamlEvent → Type 0) → Type 0
Leads total events next = (tail : List YamlEvent) × (total ≡ events ++ tail) × next tail

step_back : (total events tail : List YamlEvent) (step : YamlEvent) → total ≡ (events ++ step ∷ []) ++ tail → total ≡ events ++ step ∷ tail
step_back total events tail step is = is ∙ append_assoc events (step ∷ []) tail

-- What may follow: in each open block, the innermost first, more of it

abbrev MapRest : ℕ → Lines → (List YamlEvent → Lines → Type 0) → List YamlEvent → Lines → Type 0
MapRest column keys outer tail lines = (pairs : Pairs) × (later : List YamlEvent) × (after : Lines) × (tail ≡ pair_events pairs ++ later) × IsMorePairs column keys lines after pairs × outer later after

abbrev ListRest : ℕ → (List YamlEvent → Lines → Type 0) → List YamlEvent → Lines → Type 0
ListRest column outer tail lines = (trees : Trees) × (later : List YamlEvent) × (after : Lines) × (tail ≡ tree_events trees ++ later) × IsMoreEntries column lines after trees × outer later after

abbrev RestBy : Form → ℕ → Lines → (List YamlEvent → Lines → Type 0) → List YamlEvent → Lines → Type 0
RestBy form.Map column keys outer tail lines = MapRest column keys outer tail lines
RestBy form.List column keys outer tail lines = ListRest column outer tail lines
RestBy form.KeyList column keys outer tail lines = ListRest column outer tail lines

-- lines that count for nothing, up to some
data Passes : Lines → Lines → Type 0 where
  passes_none : {left : Lines} → Passes left left
  passes_one : {line : List ℕ} {lines left : Lines} → IsPassed line → Passes lines left → Passes (line ∷ lines) left

abbrev Rest : Lines → List Block → List YamlEvent → Lines → Type 0
Rest left [] tail lines = (tail ≡ []) × Passes lines left
Rest left (block ∷ outer) tail lines = RestBy block.form block.column block.keys (λ tail lines. Rest left outer tail lines) tail lines

abbrev pub parent : List Block → Option ℕ
parent [] = None
parent (block ∷ outer) = Some block.column

abbrev NodeNext : Lines → List Block → List YamlEvent → Lines → Type 0
NodeNext left blocks tail lines = (node : Tree) × (later : List YamlEvent) × (after : Lines) × (tail ≡ events_of node ++ later) × IsBelow (parent blocks) lines after node × Rest left blocks later after

abbrev FlowNext : Bool → List Token → Lines → List Block → List YamlEvent → Lines → Type 0
FlowNext wants tokens left blocks tail lines = (trees : Trees) × (later : List YamlEvent) × (after : Lines) × (tail ≡ tree_events trees ++ later) × IsItems wants tokens lines after trees × Rest left blocks later after

abbrev AwaitsNext : Bool → Lines → List Block → List YamlEvent → Lines → Type 0
AwaitsNext true left blocks tail lines = NodeNext left blocks tail lines
AwaitsNext false left blocks tail lines = Rest left blocks tail lines

abbrev BodyNext : Option FlowList → Bool → Lines → List Block → List YamlEvent → Lines → Type 0
BodyNext None awaits left blocks tail lines = AwaitsNext awaits left blocks tail lines
BodyNext (Some given) awaits left blocks tail lines = FlowNext given.wants [] left blocks tail lines

-- all events of a document follow from a body and the lines behind it
abbrev BodyLeads : Lines → List YamlEvent → Lines → Body → Type 0
BodyLeads left total lines body = Leads total body.events (λ tail. BodyNext body.flow body.awaits left body.blocks tail lines)

-- Flow lists

abbrev FlowLeadsBy : Bool → Lines → List Block → List YamlEvent → Lines → List Token → FlowState → Type 0
FlowLeadsBy true left blocks total lines tokens state = Leads total state.events (λ tail. Rest left blocks tail lines)
FlowLeadsBy false left blocks total lines tokens state = Leads total state.events (λ tail. FlowNext state.wants tokens left blocks tail lines)

record IsClean (state : FlowState) : Type 0 where
  pub escaped : state.escaped ≡ false
  pub spoiled : state.spoiled ≡ false

token_clean : (place : FlowPlace) (given : Token) (state next : FlowState) → with_token place given state ≡ Ok next → IsClean next → IsClean state
token_clean place token.Comma state next is clean =
    let found = unless_ok state.wants (At place.opened rule.Flow) (Ok (record state { wants = true })) next is in
    let e : record state { wants = true } ≡ next = ok_same (record state { wants = true }) next found.1 in
    record { escaped = ap (λ (s : FlowState). s.escaped) e ∙ clean.escaped; spoiled = ap (λ (s : FlowState). s.spoiled) e ∙ clean.spoiled }
token_clean place (token.Close ended) state next is clean =
    let found = when_ok ended (At place.opened rule.Flow) (Ok (record state { events = state.events ++ event.End ∷ []; closed = true })) next is in
    let e : record state { events = state.events ++ event.End ∷ []; closed = true } ≡ next = ok_same (record state { events = state.events ++ event.End ∷ []; closed = true }) next found.1 in
    record { escaped = ap (λ (s : FlowState). s.escaped) e ∙ clean.escaped; spoiled = ap (λ (s : FlowState). s.spoiled) e ∙ clean.spoiled }
token_clean place token.Colon state next is clean = absurd (cc)
token_clean place (token.Scalar text) state next is clean =
    let found = when_ok state.wants (At place.opened rule.Flow) (Ok (record state { events = state.events ++ event.Scalar text ∷ []; wants = false })) next is in
    let e : record state { events = state.events ++ event.Scalar text ∷ []; wants = false } ≡ next = ok_same (record state { events = state.events ++ event.Scalar text ∷ []; wants = false }) next found.1 in
    record { escaped = ap (λ (s : FlowState). s.escaped) e ∙ clean.escaped; spoiled = ap (λ (s : FlowState). s.spoiled) e ∙ clean.spoiled }
token_clean place token.Escaped state next is clean =
    let found = when_ok state.wants (At place.opened rule.Flow) (Ok (record state { escaped = true; wants = false })) next is in
    let e : true ≡ next.escaped = ap (λ (s : FlowState). s.escaped) (ok_same (record state { escaped = true; wants = false }) next found.1) in
    absurd (never (e ∙ clean.escaped))
  where
    never : true ≡ false → ⊥
    never e = cc
token_clean place token.Forbidden state next is clean =
    let found = when_ok state.wants (At place.opened rule.Flow) (Ok (record state { spoiled = true; wants = false })) next is in
    let e : true ≡ next.spoiled = ap (λ (s : FlowState). s.spoiled) (ok_same (record state { spoiled = true; wants = false }) next found.1) in
    absurd (never (e ∙ clean.spoiled))
  where
    never : true ≡ false → ⊥
    never e = cc
token_clean place token.Unclosed state next is clean = absurd (never_ok state.wants (At place.line rule.Quote) (At place.opened rule.Flow) next is)

settled_clean : (place : FlowPlace) (state after : FlowState) → settled place state ≡ Ok after → IsClean state
settled_clean place state after is =
    let one = unless_ok state.escaped (At place.line rule.Escape) (if state.spoiled then Err (At place.line rule.Scalar) else Ok state) after is in
    let two = unless_ok state.spoiled (At place.line rule.Scalar) (Ok state) after one.1 in
    record { escaped = one.0; spoiled = two.0 }

tokens_clean : (tokens : List Token) (place : FlowPlace) (state after : FlowState) → with_tokens place state tokens ≡ Ok after → IsClean state
tokens_clean [] place state after is = settled_clean place state after is
tokens_clean (given ∷ tokens) place state after is =
    let step = bind_ok (with_token place given state) (λ next. if next.closed then settled place next else with_tokens place next tokens) after is in
    token_clean place given state step.0 step.1
    (by_test step.0.closed (settled place step.0) (with_tokens place step.0 tokens) (Ok after) step.2 (λ _ e. settled_clean place step.0 after e) (λ _ e. tokens_clean tokens place step.0 after e))

-- a list that is open leads on by its tokens
by_closed : (left : Lines) (blocks : List Block) (total : List YamlEvent) (lines : Lines) (tokens : List Token) (state : FlowState) → state.closed ≡ false → FlowLeadsBy state.closed left blocks total lines tokens state
    → Leads total state.events (λ tail. FlowNext state.wants tokens left blocks tail lines)
by_closed left blocks total lines tokens state is leads = subst (λ (c : Bool). FlowLeadsBy c left blocks total lines tokens state) is leads

token_back : (place : FlowPlace) (given : Token) (tokens : List Token) (state next : FlowState) (left : Lines) (blocks : List Block) (total : List YamlEvent) (lines : Lines) → state.closed ≡ false → IsClean next
    → with_token place given state ≡ Ok next → FlowLeadsBy next.closed left blocks total lines tokens next → Leads total state.events (λ tail. FlowNext state.wants (given ∷ tokens) left blocks tail lines)
token_back place token.Comma tokens state next left blocks total lines is_open clean is leads =
    let found = unless_ok state.wants (At place.opened rule.Flow) (Ok (record state { wants = true })) next is in
    let on = by_closed left blocks total lines tokens (record state { wants = true }) is_open
    (subst (λ (s : FlowState). FlowLeadsBy s.closed left blocks total lines tokens s) (sym (ok_same (record state { wants = true }) next found.1)) leads) in
    subst (λ (wants : Bool). Leads total state.events (λ tail. FlowNext wants (token.Comma ∷ tokens) left blocks tail lines)) (sym found.0)
    (on.0, on.1, (on.2.0, on.2.1, on.2.2, on.2.3, a_comma on.2.4, on.2.5))
token_back place (token.Close ended) tokens state next left blocks total lines is_open clean is leads =
    let found = when_ok ended (At place.opened rule.Flow) (Ok (record state { events = state.events ++ event.End ∷ []; closed = true })) next is in
    let on = subst (λ (s : FlowState). FlowLeadsBy s.closed left blocks total lines tokens s) (sym (ok_same (record state { events = state.events ++ event.End ∷ []; closed = true }) next found.1)) leads in
    subst (λ (ended : Bool). Leads total state.events (λ tail. FlowNext state.wants (token.Close ended ∷ tokens) left blocks tail lines)) (sym found.0)
    (event.End ∷ on.0, step_back total state.events on.0 event.End on.1, (no_trees, on.0, lines, refl, a_bracket, on.2))
token_back place token.Colon tokens state next left blocks total lines is_open clean is leads = absurd (cc)
token_back place (token.Scalar text) tokens state next left blocks total lines is_open clean is leads =
    let found = when_ok state.wants (At place.opened rule.Flow) (Ok (record state { events = state.events ++ event.Scalar text ∷ []; wants = false })) next is in
    let on = by_closed left blocks total lines tokens (record state { events = state.events ++ event.Scalar text ∷ []; wants = false }) is_open
    (subst (λ (s : FlowState). FlowLeadsBy s.closed left blocks total lines tokens s) (sym (ok_same (record state { events = state.events ++ event.Scalar text ∷ []; wants = false }) next found.1)) leads) in
    subst (λ (wants : Bool). Leads total state.events (λ tail. FlowNext wants (token.Scalar text ∷ tokens) left blocks tail lines)) (sym found.0)
    (event.Scalar text ∷ on.0, step_back total state.events on.0 (event.Scalar text) on.1, (tree (scalar text) on.2.0, on.2.1, on.2.2, ap (λ tail. event.Scalar text ∷ tail) on.2.3, an_item on.2.4, on.2.5))
token_back place token.Escaped tokens state next left blocks total lines is_open clean is leads =
    let found = when_ok state.wants (At place.opened rule.Flow) (Ok (record state { escaped = true; wants = false })) next is in
    let e : true ≡ next.escaped = ap (λ (s : FlowState). s.escaped) (ok_same (record state { escaped = true; wants = false }) next found.1) in
    absurd (apart (e ∙ clean.escaped))
  where
    apart : true ≡ false → ⊥
    apart e = cc
token_back place token.Forbidden tokens state next left blocks total lines is_open clean is leads =
    let found = when_ok state.wants (At place.opened rule.Flow) (Ok (record state { spoiled = true; wants = false })) next is in
    let e : true ≡ next.spoiled = ap (λ (s : FlowState). s.spoiled) (ok_same (record state { spoiled = true; wants = false }) next found.1) in
    absurd (apart (e ∙ clean.spoiled))
  where
    apart : true ≡ false → ⊥
    apart e = cc
token_back place token.Unclosed tokens state next left blocks total lines is_open clean is leads = absurd (never_ok state.wants (At place.line rule.Quote) (At place.opened rule.Flow) next is)

tokens_back : (tokens : List Token) (place : FlowPlace) (state after : FlowState) (left : Lines) (blocks : List Block) (total : List YamlEvent) (lines : Lines) → state.closed ≡ false → with_tokens place state tokens ≡ Ok after
    → FlowLeadsBy after.closed left blocks total lines [] after → Leads total state.events (λ tail. FlowNext state.wants tokens left blocks tail lines)
tokens_back [] place state after left blocks total lines is_open is leads =
    by_closed left blocks total lines [] state is_open (subst (λ (s : FlowState). FlowLeadsBy s.closed left blocks total lines [] s) (sym (settled_ok place state after is)) leads)
tokens_back (given ∷ tokens) place state after left blocks total lines is_open is leads =
    let step = bind_ok (with_token place given state) (λ next. if next.closed then settled place next else with_tokens place next tokens) after is in
    by_test step.0.closed (settled place step.0) (with_tokens place step.0 tokens) (Ok after) step.2
    (λ is_closed e. token_back place given tokens state step.0 left blocks total lines is_open (settled_clean place step.0 after e) step.1
    (at_end step.0 is_closed (subst (λ (s : FlowState). FlowLeadsBy s.closed left blocks total lines [] s) (sym (settled_ok place step.0 after e)) leads)))
    (λ still e. token_back place given tokens state step.0 left blocks total lines is_open (tokens_clean tokens place step.0 after e) step.1
    (subst (λ (c : Bool). FlowLeadsBy c left blocks total lines tokens step.0) (sym still) (tokens_back tokens place step.0 after left blocks total lines still e leads)))
  where
    at_end : (s : FlowState) → s.closed ≡ true → FlowLeadsBy s.closed left blocks total lines [] s → FlowLeadsBy s.closed left blocks total lines tokens s
    at_end s is leads = subst (λ (c : Bool). FlowLeadsBy c left blocks total lines tokens s) (sym is) (subst (λ (c : Bool). FlowLeadsBy c left blocks total lines [] s) is leads)

flow_end : (is_closed : Bool) (opened : ℕ) (body : Body) (after : FlowState) (left : Lines) (total : List YamlEvent) (lines : Lines) → after.closed ≡ is_closed → body.awaits ≡ false
    → BodyLeads left total lines (after_flow opened body after) → FlowLeadsBy after.closed left body.blocks total lines [] after
flow_end true opened body after left total lines e none leads =
    subst (λ (c : Bool). FlowLeadsBy c left body.blocks total lines [] after) (sym e)
    (subst (λ (awaits : Bool). Leads total after.events (λ tail. AwaitsNext awaits left body.blocks tail lines)) none
    (subst (λ (c : Bool). Leads total after.events (λ tail. BodyNext (if c then None else Some (record { opened = opened; wants = after.wants })) body.awaits left body.blocks tail lines)) e leads))
flow_end false opened body after left total lines e none leads =
    subst (λ (c : Bool). FlowLeadsBy c left body.blocks total lines [] after) (sym e)
    (subst (λ (c : Bool). Leads total after.events (λ tail. BodyNext (if c then None else Some (record { opened = opened; wants = after.wants })) body.awaits left body.blocks tail lines)) e leads)

flow_back : (place : FlowPlace) (wants spaced : Bool) (text : List ℕ) (body next : Body) (left : Lines) (total : List YamlEvent) (lines : Lines) → body.awaits ≡ false → with_flow place wants spaced text body ≡ Ok next
    → BodyLeads left total lines next → Leads total body.events (λ tail. FlowNext wants (tokens_from 0 spaced text) left body.blocks tail lines)
unfolding flow_of
flow_back place wants spaced text body next left total lines none is leads =
    let step = bind_ok (flow_of place wants spaced body.events text) (λ after. Ok (after_flow place.opened body after)) next is in
    tokens_back (tokens_from 0 spaced text) place (new_state wants body.events) step.0 left body.blocks total lines refl step.1
    (flow_end step.0.closed place.opened body step.0 left total lines refl none (subst (BodyLeads left total lines) (sym (ok_same (after_flow place.opened body step.0) next step.2)) leads))

-- Values

-- between two lines no flow list is open, and no value is awaited
record IsQuiet (body : Body) : Type 0 where
  pub awaits : body.awaits ≡ false
  pub flow : body.flow ≡ None

quiet_leads : (body : Body) (left : Lines) (total : List YamlEvent) (lines : Lines) → IsQuiet body → BodyLeads left total lines body → Leads total body.events (λ tail. Rest left body.blocks tail lines)
quiet_leads body left total lines quiet leads =
    subst (λ (awaits : Bool). Leads total body.events (λ tail. AwaitsNext awaits left body.blocks tail lines)) quiet.awaits
    (subst (λ (flow : Option FlowList). Leads total body.events (λ tail. BodyNext flow body.awaits left body.blocks tail lines)) quiet.flow leads)

abbrev ValueNext : List ℕ → Lines → List Block → List YamlEvent → Lines → Type 0
ValueNext text left blocks tail lines = (node : Tree) × (later : List YamlEvent) × (after : Lines) × (tail ≡ events_of node ++ later) × IsValue text lines after node × Rest left blocks later after

value_back : (line : ℕ) (text : List ℕ) (body next : Body) (left : Lines) (total : List YamlEvent) (lines : Lines) → IsQuiet body → with_value line text body ≡ Ok next → BodyLeads left total lines next
    → Leads total body.events (λ tail. ValueNext text left body.blocks tail lines)
unfolding with_value
value_back line text body next left total lines quiet is leads =
    by_test (begins_with 0x5b text) (with_flow (record { opened = line; line = line }) true false (drop 1 text) (record body { events = body.events ++ event.BeginList ∷ [] }))
    (scalar_of line text >>= λ value. Ok (record body { events = body.events ++ event.Scalar value ∷ [] })) (Ok next) is
    (λ begins e.
    let on = flow_back (record { opened = line; line = line }) true false (drop 1 text) (record body { events = body.events ++ event.BeginList ∷ [] }) next left total lines quiet.awaits e leads in
    (event.BeginList ∷ on.0, step_back total body.events on.0 event.BeginList on.1, (list on.2.0, on.2.1, on.2.2, ap (λ tail. event.BeginList ∷ tail) on.2.3, a_flow_list begins on.2.4, on.2.5)))
    (λ other e.
    let step = bind_ok (scalar_of line text) (λ value. Ok (record body { events = body.events ++ event.Scalar value ∷ [] })) next e in
    let on = quiet_leads (record body { events = body.events ++ event.Scalar step.0 ∷ [] }) left total lines (record { awaits = quiet.awaits; flow = quiet.flow })
    (subst (BodyLeads left total lines) (sym (ok_same (record body { events = body.events ++ event.Scalar step.0 ∷ [] }) next step.2)) leads) in
    (event.Scalar step.0 ∷ on.0, step_back total body.events on.0 (event.Scalar step.0) on.1, (scalar step.0, on.0, lines, refl, a_scalar line other step.1, on.2)))

abbrev PairValueNext : ℕ → List ℕ → Lines → List Block → List YamlEvent → Lines → Type 0
PairValueNext column rest left blocks tail lines = (node : Tree) × (later : List YamlEvent) × (after : Lines) × (tail ≡ events_of node ++ later) × IsPairValue column rest lines after node × Rest left blocks later after

rest_back : (line : ℕ) (rest : List ℕ) (block : Block) (outer : List Block) (body next : Body) (left : Lines) (total : List YamlEvent) (lines : Lines) → IsQuiet body → body.blocks ≡ block ∷ outer → with_rest line rest body ≡ Ok next
    → BodyLeads left total lines next → Leads total body.events (λ tail. PairValueNext block.column rest left (block ∷ outer) tail lines)
rest_back line rest block outer body next left total lines quiet top is leads =
    by_test (is_bare rest) (Ok (record body { awaits = true })) (with_value line (without_blanks rest) body) (Ok next) is
    (λ bare e.
    let on = subst (λ (flow : Option FlowList). Leads total body.events (λ tail. BodyNext flow true left body.blocks tail lines)) quiet.flow
    (subst (BodyLeads left total lines) (sym (ok_same (record body { awaits = true }) next e)) leads) in
    let here = subst (λ (blocks : List Block). Leads total body.events (λ tail. NodeNext left blocks tail lines)) top on in
    (here.0, here.1, (here.2.0, here.2.1, here.2.2, here.2.3, value_below bare here.2.4, here.2.5)))
    (λ some e.
    let on = value_back line (without_blanks rest) body next left total lines quiet e leads in
    let here = subst (λ (blocks : List Block). Leads total body.events (λ tail. ValueNext (without_blanks rest) left blocks tail lines)) top on in
    (here.0, here.1, (here.2.0, here.2.1, here.2.2, here.2.3, value_here some here.2.4, here.2.5)))

-- Pairs and items

abbrev PairsNext : ℕ → Lines → List ℕ → Lines → List Block → List YamlEvent → Lines → Type 0
PairsNext column keys text left outer tail lines = (pairs : Pairs) × (later : List YamlEvent) × (after : Lines) × (tail ≡ pair_events pairs ++ later) × IsPairs column keys text lines after pairs × Rest left outer later after

map_rest : (given : Form) (column : ℕ) (keys : Lines) (outer : List YamlEvent → Lines → Type 0) (tail : List YamlEvent) (lines : Lines) → is_map_form given ≡ true → RestBy given column keys outer tail lines → MapRest column keys outer tail lines
map_rest form.Map column keys outer tail lines is rest = rest
map_rest form.List column keys outer tail lines is rest = absurd (cc)
map_rest form.KeyList column keys outer tail lines is rest = absurd (cc)

list_rest : (given : Form) (column : ℕ) (keys : Lines) (outer : List YamlEvent → Lines → Type 0) (tail : List YamlEvent) (lines : Lines) → is_map_form given ≡ false → RestBy given column keys outer tail lines → ListRest column outer tail lines
list_rest form.Map column keys outer tail lines is rest = absurd (cc)
list_rest form.List column keys outer tail lines is rest = rest
list_rest form.KeyList column keys outer tail lines is rest = rest

pair_back : (line : ℕ) (text : List ℕ) (keyed : Keyed) (block : Block) (outer : List Block) (body next : Body) (left : Lines) (total : List YamlEvent) (lines : Lines) → IsQuiet body → body.blocks ≡ block ∷ outer → is_map_form block.form ≡ true
    → key_of text ≡ Some keyed → with_pair line (Some keyed) body ≡ Ok next → BodyLeads left total lines next → Leads total body.events (λ tail. PairsNext block.column block.keys text left outer tail lines)
unfolding with_key
pair_back line text keyed block outer body next left total lines quiet top is_a_map key is leads =
    let step = bind_ok (with_key line keyed.name body) (λ body. with_rest line keyed.rest body) next is in
    let added : key_added line keyed.name (block ∷ outer) body ≡ Ok step.0 = ap (λ (blocks : List Block). key_added line keyed.name blocks body) (sym top) ∙ step.1 in
    let found = unless_ok (has_key keyed.name block.keys) (At line rule.Key) (Ok (record body { events = body.events ++ event.Key keyed.name ∷ []; blocks = record block { keys = block.keys ++ keyed.name ∷ [] } ∷ outer })) step.0 added in
    let same : record body { events = body.events ++ event.Key keyed.name ∷ []; blocks = record block { keys = block.keys ++ keyed.name ∷ [] } ∷ outer } ≡ step.0 =
    ok_same (record body { events = body.events ++ event.Key keyed.name ∷ []; blocks = record block { keys = block.keys ++ keyed.name ∷ [] } ∷ outer }) step.0 found.1 in
    let goes : with_rest line keyed.rest (record body { events = body.events ++ event.Key keyed.name ∷ []; blocks = record block { keys = block.keys ++ keyed.name ∷ [] } ∷ outer }) ≡ Ok next =
    ap (with_rest line keyed.rest) same ∙ step.2 in
    let on = rest_back line keyed.rest (record block { keys = block.keys ++ keyed.name ∷ [] }) outer
    (record body { events = body.events ++ event.Key keyed.name ∷ []; blocks = record block { keys = block.keys ++ keyed.name ∷ [] } ∷ outer }) next left total lines (record { awaits = quiet.awaits; flow = quiet.flow }) refl goes leads in
    let rest = map_rest block.form block.column (block.keys ++ keyed.name ∷ []) (λ tail lines. Rest left outer tail lines) on.2.1 on.2.2 is_a_map on.2.5 in (
      event.Key keyed.name ∷ on.0,
      step_back total body.events on.0 (event.Key keyed.name) on.1,
      (
        pair keyed.name on.2.0 rest.0,
        rest.1,
        rest.2,
        ap (λ tail. event.Key keyed.name ∷ tail) (on.2.3 ∙ ap (λ later. events_of on.2.0 ++ later) rest.3 ∙ sym (append_assoc (events_of on.2.0) (pair_events rest.0) rest.1)),
        a_pair key found.0 on.2.4 rest.4,
        rest.5,
      ),
    )

key_pair_back : (line : ℕ) (text : List ℕ) (key : Option Keyed) (block : Block) (outer : List Block) (body next : Body) (left : Lines) (total : List YamlEvent) (lines : Lines) → IsQuiet body → body.blocks ≡ block ∷ outer
    → is_map_form block.form ≡ true → key_of text ≡ key → with_pair line key body ≡ Ok next → BodyLeads left total lines next → Leads total body.events (λ tail. PairsNext block.column block.keys text left outer tail lines)
key_pair_back line text None block outer body next left total lines quiet top is_a_map key is leads = absurd (cc)
key_pair_back line text (Some keyed) block outer body next left total lines quiet top is_a_map key is leads = pair_back line text keyed block outer body next left total lines quiet top is_a_map key is leads

abbrev EntryNext : ℕ → List ℕ → Lines → List Block → List YamlEvent → Lines → Type 0
EntryNext column text left blocks tail lines = (node : Tree) × (later : List YamlEvent) × (after : Lines) × (tail ≡ events_of node ++ later) × IsEntry column text lines after node × Rest left blocks later after

item_of_back : (line column : ℕ) (text : List ℕ) (key : Option Keyed) (body next : Body) (left : Lines) (total : List YamlEvent) (lines : Lines) → IsQuiet body → key_of text ≡ key → with_item_of line column text key body ≡ Ok next
    → BodyLeads left total lines next → Leads total body.events (λ tail. EntryNext column text left body.blocks tail lines)
item_of_back line column text None body next left total lines quiet key is leads =
    let on = value_back line text body next left total lines quiet is leads in
    (on.0, on.1, (on.2.0, on.2.1, on.2.2, on.2.3, entry_value key on.2.4, on.2.5))
item_of_back line column text (Some keyed) body next left total lines quiet key is leads =
    let on = pair_back line text keyed (record { column = column; form = form.Map; keys = [] }) body.blocks (with_block column form.Map body) next left total lines (record { awaits = refl; flow = quiet.flow }) refl refl key is leads in
    (event.BeginMap ∷ on.0, step_back total body.events on.0 event.BeginMap on.1, (a_map_of on.2.0, on.2.1, on.2.2, ap (λ tail. event.BeginMap ∷ tail) on.2.3, entry_map on.2.4, on.2.5))

abbrev EntriesNext : ℕ → List ℕ → Lines → List Block → List YamlEvent → Lines → Type 0
EntriesNext column text left outer tail lines = (trees : Trees) × (later : List YamlEvent) × (after : Lines) × (tail ≡ tree_events trees ++ later) × IsEntries column text lines after trees × Rest left outer later after

item_back : (line : ℕ) (text : List ℕ) (block : Block) (outer : List Block) (body next : Body) (left : Lines) (total : List YamlEvent) (lines : Lines) → IsQuiet body → body.blocks ≡ block ∷ outer → is_map_form block.form ≡ false
    → with_item line block.column text body ≡ Ok next → BodyLeads left total lines next → Leads total body.events (λ tail. EntriesNext block.column text left outer tail lines)
unfolding with_item
item_back line text block outer body next left total lines quiet top is_a_list is leads =
    let found = unless_ok (is_bare (drop 2 text)) (At line rule.Key)
    (with_item_of line (block.column + 2 + blanks (drop 2 text)) (without_blanks (drop 2 text)) (key_of (without_blanks (drop 2 text))) body) next is in
    let on = item_of_back line (block.column + 2 + blanks (drop 2 text)) (without_blanks (drop 2 text)) (key_of (without_blanks (drop 2 text))) body next left total lines quiet refl found.1 leads in
    let here = subst (λ (blocks : List Block). Leads total body.events (λ tail. EntryNext (block.column + 2 + blanks (drop 2 text)) (without_blanks (drop 2 text)) left blocks tail lines)) top on in
    let rest = list_rest block.form block.column block.keys (λ tail lines. Rest left outer tail lines) here.2.1 here.2.2 is_a_list here.2.5 in (
      here.0,
      here.1,
      (
        tree here.2.0 rest.0,
        rest.1,
        rest.2,
        here.2.3 ∙ ap (λ later. events_of here.2.0 ++ later) rest.3 ∙ sym (append_assoc (events_of here.2.0) (tree_events rest.0) rest.1),
        an_entry found.0 here.2.4 rest.4,
        rest.5,
      ),
    )

-- a line's text in the innermost block
abbrev TextNext : Bool → Block → List ℕ → Lines → List Block → List YamlEvent → Lines → Type 0
TextNext true block text left outer tail lines = (is_item text ≡ false) × PairsNext block.column block.keys text left outer tail lines
TextNext false block text left outer tail lines = (is_item text ≡ true) × EntriesNext block.column text left outer tail lines

entry_by : (is_a_map : Bool) (line : ℕ) (text : List ℕ) (block : Block) (outer : List Block) (body next : Body) (left : Lines) (total : List YamlEvent) (lines : Lines) → IsQuiet body → body.blocks ≡ block ∷ outer → is_map_form block.form ≡ is_a_map
    → (if is_a_map then (if is_item text then Err (At line rule.Key) else with_pair line (key_of text) body) else (if is_item text then with_item line block.column text body else Err (At line rule.Key))) ≡ Ok next
    → BodyLeads left total lines next → Leads total body.events (λ tail. TextNext is_a_map block text left outer tail lines)
entry_by true line text block outer body next left total lines quiet top is_form is leads =
    let found = unless_ok (is_item text) (At line rule.Key) (with_pair line (key_of text) body) next is in
    let on = key_pair_back line text (key_of text) block outer body next left total lines quiet top is_form refl found.1 leads in
    (on.0, on.1, (found.0, on.2))
entry_by false line text block outer body next left total lines quiet top is_form is leads =
    let found = when_ok (is_item text) (At line rule.Key) (with_item line block.column text body) next is in
    let on = item_back line text block outer body next left total lines quiet top is_form found.1 leads in
    (on.0, on.1, (found.0, on.2))

entry_back : (line : ℕ) (text : List ℕ) (block : Block) (outer : List Block) (body next : Body) (left : Lines) (total : List YamlEvent) (lines : Lines) → IsQuiet body → body.blocks ≡ block ∷ outer
    → with_entry line block.column text body ≡ Ok next → BodyLeads left total lines next → Leads total body.events (λ tail. TextNext (is_map_form block.form) block text left outer tail lines)
unfolding with_entry
entry_back line text block outer body next left total lines quiet top is leads =
    entry_by (is_map_form block.form) line text block outer body next left total lines quiet top refl
    (ap (λ (blocks : List Block). if is_map blocks then (if is_item text then Err (At line rule.Key) else with_pair line (key_of text) body) else (if is_item text then with_item line block.column text body else Err (At line rule.Key))) (sym top) ∙ is) leads

-- Lines

-- a text that goes on with the innermost block stands on a line of its own there
line_in_block : (given : Form) (line text : List ℕ) (block : Block) (left : Lines) (outer : List Block) (tail : List YamlEvent) (lines : Lines) → block.form ≡ given → IsBlockLine line → content line ≡ text → spaces line ≡ block.column
    → TextNext (is_map_form block.form) block text left outer tail lines → Rest left (block ∷ outer) tail (line ∷ lines)
line_in_block form.Map line text block left outer tail lines is_form block_line text_is column next =
    let on = subst (λ (given : Form). TextNext (is_map_form given) block text left outer tail lines) is_form next in
    subst (λ (given : Form). RestBy given block.column block.keys (λ tail lines. Rest left outer tail lines) tail (line ∷ lines)) (sym is_form)
    (on.1.0, on.1.1, on.1.2, on.1.3, more_pairs block_line column (ap is_item text_is ∙ on.0) (subst (λ (text : List ℕ). IsPairs block.column block.keys text lines on.1.2 on.1.0) (sym text_is) on.1.4), on.1.5)
line_in_block form.List line text block left outer tail lines is_form block_line text_is column next =
    let on = subst (λ (given : Form). TextNext (is_map_form given) block text left outer tail lines) is_form next in
    subst (λ (given : Form). RestBy given block.column block.keys (λ tail lines. Rest left outer tail lines) tail (line ∷ lines)) (sym is_form)
    (on.1.0, on.1.1, on.1.2, on.1.3, more_entries block_line column (ap is_item text_is ∙ on.0) (subst (λ (text : List ℕ). IsEntries block.column text lines on.1.2 on.1.0) (sym text_is) on.1.4), on.1.5)
line_in_block form.KeyList line text block left outer tail lines is_form block_line text_is column next =
    let on = subst (λ (given : Form). TextNext (is_map_form given) block text left outer tail lines) is_form next in
    subst (λ (given : Form). RestBy given block.column block.keys (λ tail lines. Rest left outer tail lines) tail (line ∷ lines)) (sym is_form)
    (on.1.0, on.1.1, on.1.2, on.1.3, more_entries block_line column (ap is_item text_is ∙ on.0) (subst (λ (text : List ℕ). IsEntries block.column text lines on.1.2 on.1.0) (sym text_is) on.1.4), on.1.5)

-- the blocks that a line leaves end before it
record IsTop (column : ℕ) (left : List Block × List YamlEvent) : Type 0 where
  pub block : Block
  pub outer : List Block
  pub top : left.0 ≡ block ∷ outer
  pub stands : block.column ≡ column

second_true : (a b : Bool) → (a && b) ≡ true → b ≡ true
second_true true b is = is
second_true false b is = absurd (cc)

closed_top : (blocks : List Block) (line column : ℕ) (item : Bool) (events : List YamlEvent) (kept : List Block × List YamlEvent) → closed_to line column item blocks events ≡ Ok kept → IsTop column kept
closed_top [] line column item events kept is = absurd (cc)
closed_top (block ∷ outer) line column item events kept is =
    let found = unless_ok (nat_lt block.column column) (At line rule.Indent) (if goes_on column item block then Ok (block ∷ outer, events) else closed_to line column item outer (events ++ event.End ∷ [])) kept is in
    by_test (goes_on column item block) (Ok (block ∷ outer, events)) (closed_to line column item outer (events ++ event.End ∷ [])) (Ok kept) found.1
    (λ goes e. record {
      block = block;
      outer = outer;
      top = ap (λ (kept : List Block × List YamlEvent). kept.0) (sym (ok_same (block ∷ outer, events) kept e));
      stands = eqb-true block.column column (both_true (block.column == column) (item || not (is_key_list block.form)) goes);
    })
    (λ _ e. closed_top outer line column item (events ++ event.End ∷ []) kept e)

end_block : (given : Form) (column : ℕ) (keys : Lines) (outer : List YamlEvent → Lines → Type 0) (tail : List YamlEvent) (lines : Lines) → outer tail lines → RestBy given column keys outer (event.End ∷ tail) lines
end_block form.Map column keys outer tail lines rest = (no_pairs, tail, lines, refl, no_more_pairs, rest)
end_block form.List column keys outer tail lines rest = (no_trees, tail, lines, refl, no_more_entries, rest)
end_block form.KeyList column keys outer tail lines rest = (no_trees, tail, lines, refl, no_more_entries, rest)

closed_back : (blocks : List Block) (line column : ℕ) (item : Bool) (events : List YamlEvent) (kept : List Block × List YamlEvent) (left : Lines) (total : List YamlEvent) (lines : Lines) → closed_to line column item blocks events ≡ Ok kept
    → Leads total kept.1 (λ tail. Rest left kept.0 tail lines) → Leads total events (λ tail. Rest left blocks tail lines)
closed_back [] line column item events kept left total lines is leads = absurd (cc)
closed_back (block ∷ outer) line column item events kept left total lines is leads =
    let found = unless_ok (nat_lt block.column column) (At line rule.Indent) (if goes_on column item block then Ok (block ∷ outer, events) else closed_to line column item outer (events ++ event.End ∷ [])) kept is in
    by_test (goes_on column item block) (Ok (block ∷ outer, events)) (closed_to line column item outer (events ++ event.End ∷ [])) (Ok kept) found.1
    (λ _ e. subst (λ (kept : List Block × List YamlEvent). Leads total kept.1 (λ tail. Rest left kept.0 tail lines)) (sym (ok_same (block ∷ outer, events) kept e)) leads)
    (λ _ e.
    let on = closed_back outer line column item (events ++ event.End ∷ []) kept left total lines e leads in
    (event.End ∷ on.0, step_back total events on.0 event.End on.1, end_block block.form block.column block.keys (λ tail lines. Rest left outer tail lines) on.0 lines on.2))

answered_by : (awaits : Bool) (body : Body) (left : Lines) (total : List YamlEvent) (lines : Lines) → Leads total (if awaits then body.events ++ event.Scalar [] ∷ [] else body.events) (λ tail. Rest left body.blocks tail lines)
    → Leads total body.events (λ tail. AwaitsNext awaits left body.blocks tail lines)
answered_by true body left total lines leads = (event.Scalar [] ∷ leads.0, step_back total body.events leads.0 (event.Scalar []) leads.1, (scalar [], leads.0, lines, refl, nothing, leads.2))
answered_by false body left total lines leads = leads

pub same_stands : (blocks : List Block) (column : ℕ) (item : Bool) → begins_block column item blocks ≡ stands_below (parent blocks) column item
same_stands [] column item = refl
same_stands (block ∷ outer) column item = refl

begin_back : (given : Form) (line : List ℕ) (column : ℕ) (blocks : List Block) (left : Lines) (tail : List YamlEvent) (lines : Lines) → IsBlockLine line → spaces line ≡ column
    → stands_below (parent blocks) column (is_item (content line)) ≡ true → TextNext (is_map_form given) (record { column = column; form = given; keys = [] }) (content line) left blocks tail lines → NodeNext left blocks (opening given ∷ tail) (line ∷ lines)
begin_back form.Map line column blocks left tail lines block_line at stands next = (
  a_map_of next.1.0,
  next.1.1,
  next.1.2,
  ap (λ tail. event.BeginMap ∷ tail) next.1.3,
  a_block block_line (ap (λ (column : ℕ). stands_below (parent blocks) column (is_item (content line))) at ∙ stands)
      (a_map next.0 (subst (λ (column : ℕ). IsPairs column [] (content line) lines next.1.2 next.1.0) (sym at) next.1.4)),
  next.1.5,
)
begin_back form.List line column blocks left tail lines block_line at stands next = (
  list next.1.0,
  next.1.1,
  next.1.2,
  ap (λ tail. event.BeginList ∷ tail) next.1.3,
  a_block block_line (ap (λ (column : ℕ). stands_below (parent blocks) column (is_item (content line))) at ∙ stands)
      (a_list next.0 (subst (λ (column : ℕ). IsEntries column (content line) lines next.1.2 next.1.0) (sym at) next.1.4)),
  next.1.5,
)
begin_back form.KeyList line column blocks left tail lines block_line at stands next = (
  list next.1.0,
  next.1.1,
  next.1.2,
  ap (λ tail. event.BeginList ∷ tail) next.1.3,
  a_block block_line (ap (λ (column : ℕ). stands_below (parent blocks) column (is_item (content line))) at ∙ stands)
      (a_list next.0 (subst (λ (column : ℕ). IsEntries column (content line) lines next.1.2 next.1.0) (sym at) next.1.4)),
  next.1.5,
)

line_at_back : (number : ℕ) (line : List ℕ) (column : ℕ) (body next : Body) (left : Lines) (total : List YamlEvent) (lines : Lines) → body.flow ≡ None → is_utf8 line ≡ true → is_bare line ≡ false → tag_of line ≡ None → is_end line ≡ false
    → spaces line ≡ column → with_line_at number column (content line) body ≡ Ok next → BodyLeads left total lines next → Leads total body.events (λ tail. AwaitsNext body.awaits left body.blocks tail (line ∷ lines))
unfolding placed
line_at_back number line column body next left total lines none utf8 some no_mark no_end at is leads =
    let found = unless_ok (begins_with 0x09 (content line)) (At number rule.Tab) (placed number column (is_item (content line)) body >>= λ body. with_entry number column (content line) body) next is in
    let step = bind_ok (placed number column (is_item (content line)) body) (λ body. with_entry number column (content line) body) next found.1 in
    let block_line : IsBlockLine line = record { utf8 = utf8; some = some; no_mark = no_mark; no_end = no_end; no_tab = found.0 } in
    by_test (body.awaits && begins_block column (is_item (content line)) body.blocks) (Ok (with_block column (if is_item (content line) then list_form column body.blocks else form.Map) body))
    (closing number column (is_item (content line)) (answered body)) (Ok step.0) step.1
    (λ begins e.
    let same : with_block column (if is_item (content line) then list_form column body.blocks else form.Map) body ≡ step.0 = ok_same (with_block column (if is_item (content line) then list_form column body.blocks else form.Map) body) step.0 e in
    let entry : with_entry number column (content line) (with_block column (if is_item (content line) then list_form column body.blocks else form.Map) body) ≡ Ok next = ap (with_entry number column (content line)) same ∙ step.2 in
    let on = entry_back number (content line) (record { column = column; form = if is_item (content line) then list_form column body.blocks else form.Map; keys = [] }) body.blocks
    (with_block column (if is_item (content line) then list_form column body.blocks else form.Map) body) next left total lines (record { awaits = refl; flow = none }) refl entry leads in
    let stands : stands_below (parent body.blocks) column (is_item (content line)) ≡ true =
    sym (same_stands body.blocks column (is_item (content line))) ∙ second_true body.awaits (begins_block column (is_item (content line)) body.blocks) begins in
    subst (λ (awaits : Bool). Leads total body.events (λ tail. AwaitsNext awaits left body.blocks tail (line ∷ lines))) (sym (both_true body.awaits (begins_block column (is_item (content line)) body.blocks) begins)) (
      opening (if is_item (content line) then list_form column body.blocks else form.Map) ∷ on.0,
      step_back total body.events on.0 (opening (if is_item (content line) then list_form column body.blocks else form.Map)) on.1,
      begin_back (if is_item (content line) then list_form column body.blocks else form.Map) line column body.blocks left on.0 lines block_line at stands on.2,
    ))
    (λ _ e.
    let ended = bind_ok (closed_to number column (is_item (content line)) body.blocks (answered body).events) (λ left. Ok (record (answered body) { blocks = left.0; events = left.1 })) step.0 e in
    let same : record (answered body) { blocks = ended.0.0; events = ended.0.1 } ≡ step.0 = ok_same (record (answered body) { blocks = ended.0.0; events = ended.0.1 }) step.0 ended.2 in
    let top = closed_top body.blocks number column (is_item (content line)) (answered body).events ended.0 ended.1 in
    let entry : with_entry number top.block.column (content line) (record (answered body) { blocks = ended.0.0; events = ended.0.1 }) ≡ Ok next =
    ap (λ (column : ℕ). with_entry number column (content line) (record (answered body) { blocks = ended.0.0; events = ended.0.1 })) top.stands ∙ ap (with_entry number column (content line)) same ∙ step.2 in
    let on = entry_back number (content line) top.block top.outer (record (answered body) { blocks = ended.0.0; events = ended.0.1 }) next left total lines (record { awaits = refl; flow = none }) top.top entry leads in
    let rest = line_in_block top.block.form line (content line) top.block left top.outer on.0 lines refl block_line refl (at ∙ sym top.stands) on.2 in
    answered_by body.awaits body left total (line ∷ lines)
    (closed_back body.blocks number column (is_item (content line)) (answered body).events ended.0 left total (line ∷ lines) ended.1
    (on.0, on.1, subst (λ (blocks : List Block). Rest left blocks on.0 (line ∷ lines)) (sym top.top) rest)))

line_back : (number : ℕ) (line : List ℕ) (body next : Body) (left : Lines) (total : List YamlEvent) (lines : Lines) → body.flow ≡ None → is_utf8 line ≡ true → is_bare line ≡ false → tag_of line ≡ None → is_end line ≡ false
    → with_line number line body ≡ Ok next → BodyLeads left total lines next → Leads total body.events (λ tail. AwaitsNext body.awaits left body.blocks tail (line ∷ lines))
unfolding with_line
line_back number line body next left total lines none utf8 some no_mark no_end is leads = line_at_back number line (spaces line) body next left total lines none utf8 some no_mark no_end refl is leads

-- Lines that count for nothing

pass_block : (given : Form) (column : ℕ) (keys : Lines) (outer : List YamlEvent → Lines → Type 0) (tail : List YamlEvent) (line : List ℕ) (lines : Lines) → IsPassed line → RestBy given column keys outer tail lines → RestBy given column keys outer tail (line ∷ lines)
pass_block form.Map column keys outer tail line lines passed rest = (rest.0, rest.1, rest.2, rest.3, pass_pairs passed rest.4, rest.5)
pass_block form.List column keys outer tail line lines passed rest = (rest.0, rest.1, rest.2, rest.3, pass_entries passed rest.4, rest.5)
pass_block form.KeyList column keys outer tail line lines passed rest = (rest.0, rest.1, rest.2, rest.3, pass_entries passed rest.4, rest.5)

pass_rest : (left : Lines) (blocks : List Block) (tail : List YamlEvent) (line : List ℕ) (lines : Lines) → IsPassed line → Rest left blocks tail lines → Rest left blocks tail (line ∷ lines)
pass_rest left [] tail line lines passed rest = (rest.0, passes_one passed rest.1)
pass_rest left (block ∷ outer) tail line lines passed rest = pass_block block.form block.column block.keys (λ tail lines. Rest left outer tail lines) tail line lines passed rest

pass_awaits : (awaits : Bool) (left : Lines) (blocks : List Block) (tail : List YamlEvent) (line : List ℕ) (lines : Lines) → IsPassed line → AwaitsNext awaits left blocks tail lines → AwaitsNext awaits left blocks tail (line ∷ lines)
pass_awaits true left blocks tail line lines passed next = (next.0, next.1, next.2, next.3, pass_below passed next.4, next.5)
pass_awaits false left blocks tail line lines passed next = pass_rest left blocks tail line lines passed next

to_awaits : (left : Lines) (total : List YamlEvent) (lines : Lines) (body : Body) → body.flow ≡ None → BodyLeads left total lines body → Leads total body.events (λ tail. AwaitsNext body.awaits left body.blocks tail lines)
to_awaits left total lines body none leads = subst (λ (flow : Option FlowList). Leads total body.events (λ tail. BodyNext flow body.awaits left body.blocks tail lines)) none leads

from_awaits : (left : Lines) (total : List YamlEvent) (lines : Lines) (body : Body) → body.flow ≡ None → Leads total body.events (λ tail. AwaitsNext body.awaits left body.blocks tail lines) → BodyLeads left total lines body
from_awaits left total lines body none leads = subst (λ (flow : Option FlowList). Leads total body.events (λ tail. BodyNext flow body.awaits left body.blocks tail lines)) (sym none) leads

passes_docs : {lines left : Lines} (docs : List Document) → Passes lines left → AreDocuments left docs → AreDocuments lines docs
passes_docs docs passes_none are = are
passes_docs docs (passes_one passed passes) are = pass_line passed (passes_docs docs passes are)

-- Whole documents

ends_rest : (blocks : List Block) (left : Lines) → Rest left blocks (map (λ _. event.End) blocks) left
ends_rest [] left = (refl, passes_none)
ends_rest (block ∷ outer) left = end_block block.form block.column block.keys (λ tail lines. Rest left outer tail lines) (map (λ _. event.End) outer) left (ends_rest outer left)

whole_back : (body : Body) (left : Lines) → body.flow ≡ None → BodyLeads left (whole_events body) left body
unfolding whole_events
whole_back body left none = from_awaits left (whole_events body) left body none (answered_by body.awaits body left (whole_events body) left (map (λ _. event.End) body.blocks, refl, ends_rest body.blocks left))

-- Texts

-- documents, perhaps none, of some lines
abbrev DocumentsOf : Lines → List YamlDoc → Type 0
DocumentsOf lines docs = (documents : List Document) × AreDocuments lines documents × (docs ≡ map doc_of documents)

abbrev DocsFrom : Option OpenDoc → List YamlDoc → Lines → Type 0
DocsFrom None rest lines = DocumentsOf lines rest
DocsFrom (Some doc) rest lines = (left : Lines) × (total : List YamlEvent) × (others : List YamlDoc) × (rest ≡ record { tag = doc.tag; events = total } ∷ others) × BodyLeads left total lines doc.body × DocumentsOf left others

abbrev ReadingLeads : List YamlDoc → Lines → Reading → Type 0
ReadingLeads all lines reading = (rest : List YamlDoc) × (all ≡ reading.docs ++ rest) × DocsFrom reading.last rest lines

passed_from : (last : Option OpenDoc) (rest : List YamlDoc) (line : List ℕ) (lines : Lines) → flow_in last ≡ None → IsPassed line → DocsFrom last rest lines → DocsFrom last rest (line ∷ lines)
passed_from None rest line lines none passed from = (from.0, pass_line passed from.1, from.2)
passed_from (Some doc) rest line lines none passed from =
    let on = to_awaits from.0 from.1 lines doc.body none from.4 in
    (from.0, from.1, from.2, from.3, from_awaits from.0 from.1 (line ∷ lines) doc.body none (on.0, on.1, pass_awaits doc.body.awaits from.0 doc.body.blocks on.0 line lines passed on.2), from.5)

begun_docs : (tag line : List ℕ) (rest : List YamlDoc) (lines : Lines) → is_utf8 line ≡ true → is_bare line ≡ false → tag_of line ≡ Some tag → DocsFrom (Some (record { tag = tag; body = new_body })) rest lines → DocumentsOf (line ∷ lines) rest
begun_docs tag line rest lines utf8 some mark from =
    let on = from.4 in
    let whole : from.1 ≡ events_of on.2.0 = on.1 ∙ on.2.3 ∙ ap (λ later. events_of on.2.0 ++ later) on.2.5.0 ∙ append-nil (events_of on.2.0) in (
      record { tag = tag; body = on.2.0 } ∷ from.5.0,
      a_document utf8 some mark on.2.4 (passes_docs from.5.0 on.2.5.1 from.5.1),
      from.3 ∙ ap (λ events. record { tag = tag; events = events } ∷ from.2) whole ∙ ap (λ docs. record { tag = tag; events = events_of on.2.0 } ∷ docs) from.5.2,
    )

mark_back : (last : Option OpenDoc) (docs all : List YamlDoc) (line : List ℕ) (lines : Lines) (rest : List YamlDoc) → flow_in last ≡ None → all ≡ docs_with docs last ++ rest → DocumentsOf (line ∷ lines) rest
    → (rest : List YamlDoc) × (all ≡ docs ++ rest) × DocsFrom last rest (line ∷ lines)
mark_back None docs all line lines rest none is are = (rest, is, are)
mark_back (Some doc) docs all line lines rest none is are = (
  record { tag = doc.tag; events = whole_events doc.body } ∷ rest,
  is ∙ append_assoc docs (record { tag = doc.tag; events = whole_events doc.body } ∷ []) rest,
  (line ∷ lines, whole_events doc.body, rest, refl, whole_back doc.body (line ∷ lines) none, are),
)

text_back : (number : ℕ) (line : List ℕ) (last : Option OpenDoc) (reading next : Reading) (all : List YamlDoc) (lines : Lines) → flow_in last ≡ None → is_utf8 line ≡ true → is_bare line ≡ false → tag_of line ≡ None → is_end line ≡ false
    → with_text number line last reading ≡ Ok next → ReadingLeads all lines next → (rest : List YamlDoc) × (all ≡ reading.docs ++ rest) × DocsFrom last rest (line ∷ lines)
text_back number line None reading next all lines none utf8 some no_mark no_end is leads = absurd (cc)
text_back number line (Some doc) reading next all lines none utf8 some no_mark no_end is leads =
    let step = bind_ok (with_line number line doc.body) (λ body. Ok (with_body reading doc body)) next is in
    let on = subst (ReadingLeads all lines) (sym (ok_same (with_body reading doc step.0) next step.2)) leads in
    let from = on.2 in (
      on.0,
      on.1,
      (
        from.0,
        from.1,
        from.2,
        from.3,
        from_awaits from.0 from.1 (line ∷ lines) doc.body none (line_back number line doc.body step.0 from.0 from.1 lines none utf8 some no_mark no_end step.1 from.4),
        from.5,
      ),
    )

with_mark_back : (number : ℕ) (line : List ℕ) (tag : Option (List ℕ)) (reading next : Reading) (all : List YamlDoc) (lines : Lines) → flow_in reading.last ≡ None → is_utf8 line ≡ true → is_bare line ≡ false → tag_of line ≡ tag → is_end line ≡ false
    → with_mark number line tag reading ≡ Ok next → ReadingLeads all lines next → ReadingLeads all (line ∷ lines) reading
with_mark_back number line (Some tag) reading next all lines none utf8 some mark no_end is leads =
    let on = subst (ReadingLeads all lines) (sym (ok_same (with_doc tag reading) next is)) leads in
    mark_back reading.last reading.docs all line lines on.0 none on.1 (begun_docs tag line on.0 lines utf8 some mark on.2)
with_mark_back number line None reading next all lines none utf8 some mark no_end is leads = text_back number line reading.last reading next all lines none utf8 some mark no_end is leads

block_line_back : (number : ℕ) (line : List ℕ) (reading next : Reading) (all : List YamlDoc) (lines : Lines) → flow_in reading.last ≡ None → is_utf8 line ≡ true → is_end line ≡ false → with_block_line number line reading ≡ Ok next
    → ReadingLeads all lines next → ReadingLeads all (line ∷ lines) reading
unfolding with_block_line
block_line_back number line reading next all lines none utf8 no_end is leads =
    by_test (is_bare line) (Ok reading) (with_mark number line (tag_of line) reading) (Ok next) is
    (λ bare e.
    let on = subst (ReadingLeads all lines) (sym (ok_same reading next e)) leads in
    (on.0, on.1, passed_from reading.last on.0 line lines none (record { utf8 = utf8; bare = bare }) on.2))
    (λ some e. with_mark_back number line (tag_of line) reading next all lines none utf8 some refl no_end e leads)

flow_line_back : (number : ℕ) (line : List ℕ) (given : FlowList) (last : Option OpenDoc) (reading next : Reading) (all : List YamlDoc) (lines : Lines) → OpenIs last → flow_in last ≡ Some given → is_utf8 line ≡ true
    → with_flow_line number line given last reading ≡ Ok next → ReadingLeads all lines next → (rest : List YamlDoc) × (all ≡ reading.docs ++ rest) × DocsFrom last rest (line ∷ lines)
flow_line_back number line given None reading next all lines last_is some utf8 is leads = absurd (cc)
flow_line_back number line given (Some doc) reading next all lines last_is some utf8 is leads =
    let step = bind_ok (with_flow (record { opened = given.opened; line = number }) given.wants true line doc.body) (λ body. Ok (with_body reading doc body)) next is in
    let sound = subst (λ (flow : Option FlowList). BodyBy flow doc.body) some last_is in
    let on = subst (ReadingLeads all lines) (sym (ok_same (with_body reading doc step.0) next step.2)) leads in
    let from = on.2 in
    let here = flow_back (record { opened = given.opened; line = number }) given.wants true line doc.body step.0 from.0 from.1 lines sound.1 step.1 from.4 in (
      on.0,
      on.1,
      (
        from.0,
        from.1,
        from.2,
        from.3,
        subst (λ (flow : Option FlowList). Leads from.1 doc.body.events (λ tail. BodyNext flow doc.body.awaits from.0 doc.body.blocks tail (line ∷ lines))) (sym some)
            (here.0, here.1, (here.2.0, here.2.1, here.2.2, here.2.3, next_line utf8 here.2.4, here.2.5)),
        from.5,
      ),
    )

any_line_back : (number : ℕ) (line : List ℕ) (given : Option FlowList) (reading next : Reading) (all : List YamlDoc) (lines : Lines) → IsSound reading → flow_in reading.last ≡ given → is_utf8 line ≡ true → (is_none given ≡ true → is_end line ≡ false)
    → with_any_line number line given reading ≡ Ok next → ReadingLeads all lines next → ReadingLeads all (line ∷ lines) reading
any_line_back number line None reading next all lines sound flow utf8 no_end is leads = block_line_back number line reading next all lines flow utf8 (no_end refl) is leads
any_line_back number line (Some given) reading next all lines sound flow utf8 no_end is leads = flow_line_back number line given reading.last reading next all lines sound.last flow utf8 is leads

not_first : (a b c : Bool) → (a && b && c) ≡ false → b ≡ true → c ≡ true → a ≡ false
not_first false b c is two three = refl
not_first true b c is two three = absurd (apart (sym (ap (λ (b : Bool). b && c) two ∙ three) ∙ is))
  where
    apart : true ≡ false → ⊥
    apart e = cc

next_back : (number : ℕ) (line : List ℕ) (reading next : Reading) (all : List YamlDoc) (lines : Lines) → IsSound reading → ends line reading ≡ false → with_next number line reading ≡ Ok next → ReadingLeads all lines next → ReadingLeads all (line ∷ lines) reading
unfolding with_next ends
next_back number line reading next all lines sound more is leads =
    let found = when_ok (is_utf8 line) (At number rule.Utf8) (with_any_line number line (flow_in reading.last) reading) next is in
    any_line_back number line (flow_in reading.last) reading next all lines sound refl found.0 (λ none. not_first (is_end line) (is_utf8 line) (is_none (flow_in reading.last)) more found.0 none) found.1 leads

closed_file_back : (count : ℕ) (given : Option FlowList) (last : Option OpenDoc) (reading : Reading) (file : YamlFile) (lines : Lines) → flow_in last ≡ given → DocumentsOf lines [] → closed count given last reading ≡ Ok file
    → (rest : List YamlDoc) × (file.docs ≡ reading.docs ++ rest) × DocsFrom last rest lines
closed_file_back count (Some given) last reading file lines flow are is = absurd (cc)
closed_file_back count None None reading file lines flow are is = absurd (cc)
closed_file_back count None (Some doc) reading file lines flow are is = (
  record { tag = doc.tag; events = whole_events doc.body } ∷ [],
  ap (λ (file : YamlFile). file.docs) (sym (ok_same (record { docs = docs_with reading.docs (Some doc) }) file is)),
  (lines, whole_events doc.body, [], refl, whole_back doc.body lines flow, are),
)

end_back : (count : ℕ) (reading : Reading) (file : YamlFile) (lines : Lines) → DocumentsOf lines [] → finished count reading ≡ Ok file → ReadingLeads file.docs lines reading
unfolding finished
end_back count reading file lines are is = closed_file_back count (flow_in reading.last) reading.last reading file lines refl are is

ends_so : (line : List ℕ) (reading : Reading) (lines : Lines) → ends line reading ≡ true → DocumentsOf (line ∷ lines) []
unfolding ends
ends_so line reading lines is =
    let first : (is_end line && is_utf8 line) ≡ true = both_true (is_end line && is_utf8 line) (is_none (flow_in reading.last)) is in
    ([], the_end (second_true (is_end line) (is_utf8 line) first) (both_true (is_end line) (is_utf8 line) first), refl)

read_on_back : (lines : Lines) (count : ℕ) (reading : Reading) (file : YamlFile) → IsSound reading → read_on count reading lines ≡ Ok file → ReadingLeads file.docs lines reading
read_on_back [] count reading file sound is = end_back count reading file [] ([], the_last_line, refl) is
read_on_back (line ∷ lines) count reading file sound is =
    by_test (ends line reading) (finished (count + 1) reading) (with_next (count + 1) line reading >>= λ reading. read_on (count + 1) reading lines) (Ok file) is
    (λ stop e. end_back (count + 1) reading file (line ∷ lines) (ends_so line reading lines stop) e)
    (λ more e.
    let step = bind_ok (with_next (count + 1) line reading) (λ reading. read_on (count + 1) reading lines) file e in
    next_back (count + 1) line reading step.0 file.docs lines sound more step.1 (read_on_back lines (count + 1) step.0 file (next_ok (count + 1) line reading step.0 sound step.1) step.2))

-- a file has a document at least

some_end : (docs : List YamlDoc) (doc : YamlDoc) → 1 ≤ length (docs ++ doc ∷ [])
some_end [] doc = omega arith
some_end (first ∷ docs) doc = omega arith

closed_some : (count : ℕ) (given : Option FlowList) (last : Option OpenDoc) (reading : Reading) (file : YamlFile) → closed count given last reading ≡ Ok file → 1 ≤ length file.docs
closed_some count (Some given) last reading file is = absurd (cc)
closed_some count None None reading file is = absurd (cc)
closed_some count None (Some doc) reading file is =
    subst (λ (file : YamlFile). 1 ≤ length file.docs) (ok_same (record { docs = docs_with reading.docs (Some doc) }) file is) (some_end reading.docs (record { tag = doc.tag; events = whole_events doc.body }))

finished_some : (count : ℕ) (reading : Reading) (file : YamlFile) → finished count reading ≡ Ok file → 1 ≤ length file.docs
unfolding finished
finished_some count reading file is = closed_some count (flow_in reading.last) reading.last reading file is

read_some : (lines : Lines) (count : ℕ) (reading : Reading) (file : YamlFile) → read_on count reading lines ≡ Ok file → 1 ≤ length file.docs
read_some [] count reading file is = finished_some count reading file is
read_some (line ∷ lines) count reading file is =
    by_test (ends line reading) (finished (count + 1) reading) (with_next (count + 1) line reading >>= λ reading. read_on (count + 1) reading lines) (Ok file) is
    (λ _ e. finished_some (count + 1) reading file e)
    (λ _ e.
    let step = bind_ok (with_next (count + 1) line reading) (λ reading. read_on (count + 1) reading lines) file e in
    read_some lines (count + 1) step.0 file step.2)

some_documents : (docs : List YamlDoc) (documents : List Document) → docs ≡ map doc_of documents → 1 ≤ length docs → 1 ≤ length documents
some_documents docs [] is some = absurd (none (subst (λ (docs : List YamlDoc). 1 ≤ length docs) is some))
  where
    none : 1 ≤ length {A = YamlDoc} [] → ⊥
    none some = omega arith
some_documents docs (first ∷ documents) is some = omega arith

documents_grammar : (text : List ℕ) (file : YamlFile) → file_of text ≡ Ok file → DocumentsOf (lines_of text) file.docs
unfolding file_of
documents_grammar text file is =
    let on = read_on_back (lines_of text) 0 (record { docs = []; last = None }) file (record { docs = tt; last = tt }) is in
    subst (DocumentsOf (lines_of text)) (sym on.1) on.2

pub file_grammar : (text : List ℕ) (file : YamlFile) → file_of text ≡ Ok file → AreDocumentsOf (lines_of text) file.docs
unfolding file_of
file_grammar text file is =
    let found = documents_grammar text file is in
    (found.0, record { are = found.1; some = some_documents file.docs found.0 found.2 (read_some (lines_of text) 0 (record { docs = []; last = None }) file is) }, found.2)
