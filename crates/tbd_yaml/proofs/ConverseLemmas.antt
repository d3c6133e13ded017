-- What is in the grammar is read: a line in its place in the grammar is read there, where what follows it is.
use Rattle.std.proofs.Common.{◌≡◌, ℕ, ◌+◌, ◌≤◌, List, [], ◌∷◌, ◌++◌, length, drop, map, Bool, true, false, ◌&&◌, ◌||◌, ◌==◌, not, Option, Some, None, Result, Ok, Err, refl, sym, ap, ◌∙◌, subst, arith, tests, append_assoc, append-nil, take}
use Rattle.std.proofs.lemmas.Bool.{eq-eqb, eqb-true, and_right}
use Rattle.std.specs.Prelude.{nat_lt, slice_index, is_none, if◌then◌else◌}
use Rattle.std.specs.Str.{is_utf8}
use Rattle.mo_types.specs.Gives.{◌>>=◌}
use Rattle.mo_types.specs.declared.cause.Rule.TheVariants as rule
use Rattle.yaml_text.specs.declared.fault.YamlFault.{YamlFault}
use Rattle.yaml_text.specs.declared.fault.YamlFault.TheVariants.{At}
use Rattle.yaml_text.specs.declared.file.YamlEvent.{YamlEvent}
use Rattle.yaml_text.specs.declared.file.YamlEvent.TheVariants as event
use Rattle.yaml_text.specs.declared.file.YamlDoc.{YamlDoc}
use Rattle.yaml_text.specs.declared.file.YamlFile.{YamlFile}
use Rattle.tbd_yaml.specs.declared.block.Block.{Block}
use Rattle.tbd_yaml.specs.declared.block.Form.{Form}
use Rattle.tbd_yaml.specs.declared.block.Form.TheVariants as form
use Rattle.tbd_yaml.specs.declared.body.Body.{Body}
use Rattle.tbd_yaml.specs.declared.body.FlowList.{FlowList}
use Rattle.yaml_text.specs.declared.flow.FlowPlace.{FlowPlace}
use Rattle.yaml_text.specs.declared.token.Token.{Token}
use Rattle.tbd_yaml.specs.declared.reading.Reading.{Reading}
use Rattle.yaml_text.specs.Characters.{is_quote, is_forbidden}
use Rattle.yaml_text.specs.Lines.{lines_of, spaces, blanks, without_blanks, begins_with, is_bare, is_empty, is_ended, trimmed, is_item, is_end, tag_of}
use Rattle.yaml_text.specs.Scalars.{Quoted, Keyed, is_key_end, key_of, quoted_of, quoted_alone, plain_alone, plain_size, scalar_begun, scalar_of}
use Rattle.yaml_text.specs.Flow.{with_tokens, new_state, flow_of}
use Rattle.tbd_yaml.specs.Blocks.{is_key_list, goes_on, closed_to, begins_block, list_form, opening, with_block, answered, closing, placed, has_key, with_key, after_flow, with_flow, with_value, with_rest, with_pair, with_item_of, with_item, is_map_form, is_map, with_entry, with_line_at, with_line, whole_events, new_body}
use Rattle.tbd_yaml.specs.File.{with_doc, with_mark, with_block_line, flow_in, with_any_line, with_next, ends, finished, new_reading, read_on, file_of}
use Rattle.tbd_yaml.specs.Tree.{Tree, Trees, Pairs, events_of, tree_events, pair_events}
use Rattle.tbd_yaml.specs.Grammar.{IsPassed, IsBlockLine, content, stands_below, IsItems, next_line, a_comma, an_item, a_bracket, IsValue, a_scalar, a_flow_list, IsBelow, nothing, pass_below, a_block, IsBlock, a_map, a_list, IsPairs, a_pair, IsPairValue, value_here, value_below, IsMorePairs, no_more_pairs, pass_pairs, more_pairs, IsEntries, an_entry, IsEntry, entry_value, entry_map, IsMoreEntries, no_more_entries, pass_entries, more_entries, Document, AreDocuments, the_last_line, the_end, pass_line, a_document, doc_of, HasDocuments, AreDocumentsOf}
use Rattle.tbd_yaml.proofs.SoundLemmas.{bind_ok, unless_ok, when_ok, ok_same, by_test, both_true}
use Rattle.tbd_yaml.proofs.GrammarLemmas.{Lines, parent, same_stands}
use Rattle.tbd_yaml.proofs.TreeLemmas.{one_tree}

-- Answers of tests

by_true : {A : Type 0} (test : Bool) (x y z : A) → test ≡ true → x ≡ z → (if test then x else y) ≡ z
by_true true x y z is e = e
by_true false x y z is e = absurd (cc)

by_false : {A : Type 0} (test : Bool) (x y z : A) → test ≡ false → y ≡ z → (if test then x else y) ≡ z
by_false true x y z is e = absurd (cc)
by_false false x y z is e = e

on_ok : {A B : Type 0} (r : Result A YamlFault) (f : A → Result B YamlFault) (x : A) (y : B) → r ≡ Ok x → f x ≡ Ok y → (r >>= f) ≡ Ok y
on_ok {A = A} r f x y is e = ap (λ (r : Result A YamlFault). r >>= f) is ∙ e

on_both : {A B C : Type 0} (r : Result A YamlFault) (f : A → B) (g : B → Result C YamlFault) (y : C) → (r >>= λ x. g (f x)) ≡ Ok y → ((r >>= λ x. Ok (f x)) >>= g) ≡ Ok y
on_both (Ok x) f g y is = is
on_both (Err e) f g y is = absurd (cc)

-- Readings of lines

-- what stays while a document is read: the documents before it, its tag, and the file that is read in the end
record Whole : Type 0 where
  pub docs : List YamlDoc
  pub tag : List ℕ
  pub file : YamlFile

-- a body with no flow list open
abbrev body_of : Bool → List Block → List YamlEvent → Body
body_of awaits blocks events = record { events = events; blocks = blocks; awaits = awaits; flow = None }

abbrev reading_of : Whole → Body → Reading
reading_of whole body = record { docs = whole.docs; last = Some (record { tag = whole.tag; body = body }) }

-- lines that are read from a body on
abbrev Reads : Whole → Body → Lines → Type 0
Reads whole body lines = (count : ℕ) → read_on count (reading_of whole body) lines ≡ Ok whole.file

-- lines that are read from what a line makes of a body
abbrev ReadsFrom : Whole → ℕ → Result Body YamlFault → Lines → Type 0
ReadsFrom whole count made lines = (made >>= λ body. read_on count (reading_of whole body) lines) ≡ Ok whole.file

same_reads : (whole : Whole) (awaits : Bool) (blocks : List Block) (events others : List YamlEvent) (lines : Lines) → events ≡ others → Reads whole (body_of awaits blocks events) lines → Reads whole (body_of awaits blocks others) lines
same_reads whole awaits blocks events others lines is reads = subst (λ (events : List YamlEvent). Reads whole (body_of awaits blocks events) lines) is reads

-- what follows a step follows the events with it
past_step : (whole : Whole) (awaits : Bool) (blocks : List Block) (events : List YamlEvent) (step : YamlEvent) (tail : List YamlEvent) (lines : Lines) → Reads whole (body_of awaits blocks (events ++ step ∷ tail)) lines
    → Reads whole (body_of awaits blocks ((events ++ step ∷ []) ++ tail)) lines
past_step whole awaits blocks events step tail lines reads = same_reads whole awaits blocks (events ++ step ∷ tail) ((events ++ step ∷ []) ++ tail) lines (sym (append_assoc events (step ∷ []) tail)) reads

-- Lines by their kinds

dot_first : (byte : ℕ) (bytes : List ℕ) → is_end (byte ∷ bytes) ≡ true → byte ≡ 0x2e
unfolding is_end
dot_first byte bytes is = let e : (0x2e == byte) ≡ true = both_true (0x2e == byte) _ (both_true _ _ is) in sym (eqb-true 0x2e byte e)

empty_no_end : is_end [] ≡ true → ⊥
unfolding is_end
empty_no_end is = cc

dot_not_bare : (bytes : List ℕ) → is_bare (0x2e ∷ bytes) ≡ true → ⊥
dot_not_bare bytes is = cc

dot_no_mark : (bytes tag : List ℕ) → tag_of (0x2e ∷ bytes) ≡ Some tag → ⊥
unfolding tag_of
dot_no_mark bytes tag is = cc

bare_by : (found : Bool) (line : List ℕ) → is_end line ≡ found → is_bare line ≡ true → found ≡ false
bare_by false line is bare = refl
bare_by true [] is bare = absurd (empty_no_end is)
bare_by true (byte ∷ bytes) is bare = absurd (dot_not_bare bytes (subst (λ (byte : ℕ). is_bare (byte ∷ bytes) ≡ true) (dot_first byte bytes is) bare))

bare_no_end : (line : List ℕ) → is_bare line ≡ true → is_end line ≡ false
bare_no_end line bare = bare_by (is_end line) line refl bare

mark_by : (found : Bool) (line tag : List ℕ) → is_end line ≡ found → tag_of line ≡ Some tag → found ≡ false
mark_by false line tag is mark = refl
mark_by true [] tag is mark = absurd (empty_no_end is)
mark_by true (byte ∷ bytes) tag is mark = absurd (dot_no_mark bytes tag (subst (λ (byte : ℕ). tag_of (byte ∷ bytes) ≡ Some tag) (dot_first byte bytes is) mark))

mark_no_end : (line tag : List ℕ) → tag_of line ≡ Some tag → is_end line ≡ false
mark_no_end line tag mark = mark_by (is_end line) line tag refl mark

no_end_goes_on : (line : List ℕ) (reading : Reading) → is_end line ≡ false → ends line reading ≡ false
unfolding ends
no_end_goes_on line reading is = ap (λ (end : Bool). (end && is_utf8 line) && is_none (flow_in reading.last)) is

-- a line that doesn't end the reading
goes_to : (line : List ℕ) (lines : Lines) (count : ℕ) (reading : Reading) (file : YamlFile) → ends line reading ≡ false → is_utf8 line ≡ true
    → (with_any_line (count + 1) line (flow_in reading.last) reading >>= λ reading. read_on (count + 1) reading lines) ≡ Ok file → read_on count reading (line ∷ lines) ≡ Ok file
unfolding with_next
goes_to line lines count reading file more utf8 is =
    by_false (ends line reading) (finished (count + 1) reading) (with_next (count + 1) line reading >>= λ reading. read_on (count + 1) reading lines) (Ok file) more
    (ap (λ (test : Bool). (if test then with_any_line (count + 1) line (flow_in reading.last) reading else Err (At (count + 1) rule.Utf8)) >>= λ reading. read_on (count + 1) reading lines) utf8 ∙ is)

-- a line that counts for nothing
passed_reads : (reading : Reading) (line : List ℕ) (lines : Lines) (count : ℕ) (file : YamlFile) → flow_in reading.last ≡ None → IsPassed line → read_on (count + 1) reading lines ≡ Ok file → read_on count reading (line ∷ lines) ≡ Ok file
unfolding with_block_line
passed_reads reading line lines count file none passed is =
    goes_to line lines count reading file (no_end_goes_on line reading (bare_no_end line passed.bare)) passed.utf8
    (ap (λ (flow : Option FlowList). with_any_line (count + 1) line flow reading >>= λ reading. read_on (count + 1) reading lines) none
    ∙ ap (λ (bare : Bool). (if bare then Ok reading else with_mark (count + 1) line (tag_of line) reading) >>= λ reading. read_on (count + 1) reading lines) passed.bare ∙ is)

pass_reads : (whole : Whole) (awaits : Bool) (blocks : List Block) (events : List YamlEvent) (line : List ℕ) (lines : Lines) → IsPassed line → Reads whole (body_of awaits blocks events) lines → Reads whole (body_of awaits blocks events) (line ∷ lines)
pass_reads whole awaits blocks events line lines passed reads = λ count. passed_reads (reading_of whole (body_of awaits blocks events)) line lines count whole.file refl passed (reads (count + 1))

-- a line of a block
block_line_reads : (whole : Whole) (awaits : Bool) (blocks : List Block) (events : List YamlEvent) (line : List ℕ) (lines : Lines) → IsBlockLine line
    → ((count : ℕ) → ReadsFrom whole (count + 1) (placed (count + 1) (spaces line) (is_item (content line)) (body_of awaits blocks events) >>= λ body. with_entry (count + 1) (spaces line) (content line) body) lines)
    → Reads whole (body_of awaits blocks events) (line ∷ lines)
unfolding with_block_line with_line
block_line_reads whole awaits blocks events line lines is reads = λ count.
    let body = body_of awaits blocks events in
    let reading = reading_of whole body in
    goes_to line lines count reading whole.file (no_end_goes_on line reading is.no_end) is.utf8
    (ap (λ (bare : Bool). (if bare then Ok reading else with_mark (count + 1) line (tag_of line) reading) >>= λ reading. read_on (count + 1) reading lines) is.some
    ∙ ap (λ (tag : Option (List ℕ)). with_mark (count + 1) line tag reading >>= λ reading. read_on (count + 1) reading lines) is.no_mark
    ∙ on_both (with_line_at (count + 1) (spaces line) (content line) body) (λ body. reading_of whole body) (λ reading. read_on (count + 1) reading lines) whole.file
    (ap (λ (tab : Bool). (if tab then Err (At (count + 1) rule.Tab) else placed (count + 1) (spaces line) (is_item (content line)) body >>= λ body. with_entry (count + 1) (spaces line) (content line) body)
    >>= λ body. read_on (count + 1) (reading_of whole body) lines) is.no_tab ∙ reads count))

-- Bodies from which the same is read

record IsLike (one other : Body) : Type 0 where
  pub ended : whole_events one ≡ whole_events other
  pub same : (number column : ℕ) (text : List ℕ) (next : Body) → with_line_at number column text one ≡ Ok next → with_line_at number column text other ≡ Ok next

finished_like : (whole : Whole) (a b : Bool) (blocks others : List Block) (events more : List YamlEvent) (count : ℕ) → IsLike (body_of a blocks events) (body_of b others more)
    → finished count (reading_of whole (body_of a blocks events)) ≡ Ok whole.file → finished count (reading_of whole (body_of b others more)) ≡ Ok whole.file
unfolding finished
finished_like whole a b blocks others events more count like is =
    ap (λ (events : List YamlEvent). Ok (record { docs = whole.docs ++ record { tag = whole.tag; events = events } ∷ [] })) (sym like.ended) ∙ is

mark_like : (whole : Whole) (a b : Bool) (blocks others : List Block) (events more : List YamlEvent) (number : ℕ) (line : List ℕ) (tag : Option (List ℕ)) (lines : Lines) → IsLike (body_of a blocks events) (body_of b others more)
    → ((count : ℕ) → read_on count (reading_of whole (body_of a blocks events)) lines ≡ Ok whole.file → read_on count (reading_of whole (body_of b others more)) lines ≡ Ok whole.file)
    → (with_mark number line tag (reading_of whole (body_of a blocks events)) >>= λ reading. read_on number reading lines) ≡ Ok whole.file
    → (with_mark number line tag (reading_of whole (body_of b others more)) >>= λ reading. read_on number reading lines) ≡ Ok whole.file
unfolding with_line
mark_like whole a b blocks others events more number line (Some tag) lines like goes is =
    ap (λ (events : List YamlEvent). read_on number (record { docs = whole.docs ++ record { tag = whole.tag; events = events } ∷ []; last = Some (record { tag = tag; body = new_body }) }) lines) (sym like.ended) ∙ is
mark_like whole a b blocks others events more number line None lines like goes is =
    let one = body_of a blocks events in
    let other = body_of b others more in
    let step = bind_ok (with_line_at number (spaces line) (content line) one >>= λ body. Ok (reading_of whole body)) (λ reading. read_on number reading lines) whole.file is in
    let made = bind_ok (with_line_at number (spaces line) (content line) one) (λ body. Ok (reading_of whole body)) step.0 step.1 in
    on_both (with_line_at number (spaces line) (content line) other) (λ body. reading_of whole body) (λ reading. read_on number reading lines) whole.file
    (on_ok (with_line_at number (spaces line) (content line) other) (λ body. read_on number (reading_of whole body) lines) made.0 whole.file (like.same number (spaces line) (content line) made.0 made.1)
    (ap (λ reading. read_on number reading lines) (ok_same (reading_of whole made.0) step.0 made.2) ∙ step.2))

either : {A B : Type 0} (test : Bool) (one two three four : Result A YamlFault) (next : A → Result B YamlFault) (y : B) → ((one >>= next) ≡ Ok y → (three >>= next) ≡ Ok y) → ((two >>= next) ≡ Ok y → (four >>= next) ≡ Ok y)
    → ((if test then one else two) >>= next) ≡ Ok y → ((if test then three else four) >>= next) ≡ Ok y
either true one two three four next y first second is = first is
either false one two three four next y first second is = second is

like_reads : (whole : Whole) (a b : Bool) (blocks others : List Block) (events more : List YamlEvent) (lines : Lines) → IsLike (body_of a blocks events) (body_of b others more) → (count : ℕ)
    → read_on count (reading_of whole (body_of a blocks events)) lines ≡ Ok whole.file → read_on count (reading_of whole (body_of b others more)) lines ≡ Ok whole.file
unfolding ends with_next with_block_line
like_reads whole a b blocks others events more [] like count is = finished_like whole a b blocks others events more count like is
like_reads whole a b blocks others events more (line ∷ lines) like count is =
    let one = reading_of whole (body_of a blocks events) in
    let other = reading_of whole (body_of b others more) in
    by_test (ends line one) (finished (count + 1) one) (with_next (count + 1) line one >>= λ reading. read_on (count + 1) reading lines) (Ok whole.file) is
    (λ stop e. by_true (ends line other) (finished (count + 1) other) (with_next (count + 1) line other >>= λ reading. read_on (count + 1) reading lines) (Ok whole.file) stop (finished_like whole a b blocks others events more (count + 1) like e))
    (λ more_lines e.
    let step = bind_ok (with_next (count + 1) line one) (λ reading. read_on (count + 1) reading lines) whole.file e in
    let found = when_ok (is_utf8 line) (At (count + 1) rule.Utf8) (with_block_line (count + 1) line one) step.0 step.1 in
    let rest : (with_block_line (count + 1) line one >>= λ reading. read_on (count + 1) reading lines) ≡ Ok whole.file = on_ok (with_block_line (count + 1) line one) (λ reading. read_on (count + 1) reading lines) step.0 whole.file found.1 step.2 in
    goes_to line lines count other whole.file more_lines found.0
    (either (is_bare line) (Ok one) (with_mark (count + 1) line (tag_of line) one) (Ok other) (with_mark (count + 1) line (tag_of line) other) (λ reading. read_on (count + 1) reading lines) whole.file
    (λ same. like_reads whole a b blocks others events more lines like (count + 1) same)
    (λ same. mark_like whole a b blocks others events more (count + 1) line (tag_of line) lines like (λ count same. like_reads whole a b blocks others events more lines like count same) same) rest))

-- A block that ends

-- a block stands above the ones around it: it is more indented, or it is a list at its key's own indentation
data IsAbove : ℕ → Bool → Block → Type 0 where
  higher : {column : ℕ} {key_list : Bool} {outer : Block} → nat_lt outer.column column ≡ true → IsAbove column key_list outer
  level : {column : ℕ} {key_list : Bool} {outer : Block} → outer.column ≡ column → key_list ≡ true → is_map_form outer.form ≡ true → IsAbove column key_list outer

abbrev Above : ℕ → Bool → List Block → Type 0
Above column key_list [] = Unit {0}
Above column key_list (block ∷ outer) = IsAbove column key_list block

no_item : (in_map item : Bool) (fault : YamlFault) (one other : Result Body YamlFault) (next : Body) → in_map ≡ true → (if in_map then (if item then Err fault else one) else other) ≡ Ok next → item ≡ false
no_item true item fault one other next is entry = (unless_ok item fault one next entry).0
no_item false item fault one other next is entry = absurd (cc)

-- a map takes no item at its column
refuses_by : (item : Bool) (block : Block) (outer : List Block) (number column : ℕ) (text : List ℕ) (events : List YamlEvent) (kept : List Block × List YamlEvent) (next : Body) → is_item text ≡ item → is_map_form block.form ≡ true
    → block.column ≡ column → closed_to number column item (block ∷ outer) events ≡ Ok kept → with_entry number column text (record { events = kept.1; blocks = kept.0; awaits = false; flow = None }) ≡ Ok next → item ≡ false
unfolding with_entry
refuses_by false block outer number column text events kept next item is_a_map at is entry = refl
refuses_by true block outer number column text events kept next item is_a_map at is entry =
    let found = unless_ok (nat_lt block.column column) (At number rule.Indent) (if goes_on column true block then Ok (block ∷ outer, events) else closed_to number column true outer (events ++ event.End ∷ [])) kept is in
    let goes : goes_on column true block ≡ true = ap (λ (test : Bool). test && true) (eq-eqb block.column column at) in
    let stays : Ok (block ∷ outer, events) ≡ Ok kept =
    sym (by_true (goes_on column true block) (Ok (block ∷ outer, events)) (closed_to number column true outer (events ++ event.End ∷ [])) (Ok (block ∷ outer, events)) goes refl) ∙ found.1 in
    let top : is_map kept.0 ≡ true = ap (λ (kept : List Block × List YamlEvent). is_map kept.0) (sym (ok_same (block ∷ outer, events) kept stays)) ∙ is_a_map in
    sym item
    ∙ no_item (is_map kept.0) (is_item text) (At number rule.Key) (with_pair number (key_of text) (record { events = kept.1; blocks = kept.0; awaits = false; flow = None }))
    (if is_item text then with_item number column text (record { events = kept.1; blocks = kept.0; awaits = false; flow = None }) else Err (At number rule.Key)) next top entry

map_refuses : (block : Block) (outer : List Block) (number column : ℕ) (text : List ℕ) (events : List YamlEvent) (kept : List Block × List YamlEvent) (next : Body) → is_map_form block.form ≡ true → block.column ≡ column
    → closed_to number column (is_item text) (block ∷ outer) events ≡ Ok kept → with_entry number column text (record { events = kept.1; blocks = kept.0; awaits = false; flow = None }) ≡ Ok next → is_item text ≡ false
map_refuses block outer number column text events kept next is_a_map at is entry = refuses_by (is_item text) block outer number column text events kept next refl is_a_map at is entry

record IsLeft (stands column : ℕ) (item key_list : Bool) : Type 0 where
  pub above : nat_lt stands column ≡ false
  pub apart : (stands == column && (item || not key_list)) ≡ false

not_below : (outer stands column : ℕ) → nat_lt outer stands ≡ true → nat_lt outer column ≡ false → nat_lt stands column ≡ false
not_below outer stands column lower is = grind (arith, tests)

not_at : (outer stands column : ℕ) → nat_lt outer stands ≡ true → nat_lt outer column ≡ false → (stands == column) ≡ false
not_at outer stands column lower is = grind (arith, tests)

level_left : (same item key_list : Bool) → key_list ≡ true → (same ≡ true → item ≡ false) → (same && (item || not key_list)) ≡ false
level_left false item key_list key refused = refl
level_left true item key_list key refused = ap (λ (item : Bool). item || not key_list) (refused refl) ∙ ap not key

closes : {stands : ℕ} {key_list : Bool} {block : Block} → IsAbove stands key_list block → (outer : List Block) (number column : ℕ) (text : List ℕ) (events : List YamlEvent) (kept : List Block × List YamlEvent) (next : Body)
    → closed_to number column (is_item text) (block ∷ outer) events ≡ Ok kept → with_entry number column text (record { events = kept.1; blocks = kept.0; awaits = false; flow = None }) ≡ Ok next → IsLeft stands column (is_item text) key_list
closes (higher {column = stands} {key_list = key_list} {outer = block} lower) outer number column text events kept next is entry =
    let found = unless_ok (nat_lt block.column column) (At number rule.Indent) (if goes_on column (is_item text) block then Ok (block ∷ outer, events) else closed_to number column (is_item text) outer (events ++ event.End ∷ [])) kept is in
    record {
      above = not_below block.column stands column lower found.0;
      apart = ap (λ (at : Bool). at && (is_item text || not key_list)) (not_at block.column stands column lower found.0);
    }
closes (level {column = stands} {key_list = key_list} {outer = block} at key is_a_map) outer number column text events kept next is entry =
    let found = unless_ok (nat_lt block.column column) (At number rule.Indent) (if goes_on column (is_item text) block then Ok (block ∷ outer, events) else closed_to number column (is_item text) outer (events ++ event.End ∷ [])) kept is in
    record {
      above = ap (λ (stands : ℕ). nat_lt stands column) (sym at) ∙ found.0;
      apart = level_left (stands == column) (is_item text) key_list key
          (λ same. map_refuses block outer number column text events kept next is_a_map (at ∙ eqb-true stands column same) is entry);
    }

closes_any : (outer : List Block) (stands : ℕ) (key_list : Bool) (number column : ℕ) (text : List ℕ) (events : List YamlEvent) (kept : List Block × List YamlEvent) (next : Body) → Above stands key_list outer
    → closed_to number column (is_item text) outer events ≡ Ok kept → with_entry number column text (record { events = kept.1; blocks = kept.0; awaits = false; flow = None }) ≡ Ok next → IsLeft stands column (is_item text) key_list
closes_any [] stands key_list number column text events kept next above is entry = absurd (cc)
closes_any (block ∷ outer) stands key_list number column text events kept next above is entry = closes above outer number column text events kept next is entry

-- what a line makes of a body between two lines came from the blocks that it leaves
record IsEntered (number column : ℕ) (text : List ℕ) (blocks : List Block) (events : List YamlEvent) (next : Body) : Type 0 where
  pub no_tab : begins_with 0x09 text ≡ false
  pub kept : List Block × List YamlEvent
  pub closed : closed_to number column (is_item text) blocks events ≡ Ok kept
  pub entry : with_entry number column text (record { events = kept.1; blocks = kept.0; awaits = false; flow = None }) ≡ Ok next

entered : (number column : ℕ) (text : List ℕ) (blocks : List Block) (events : List YamlEvent) (next : Body) → with_line_at number column text (body_of false blocks events) ≡ Ok next → IsEntered number column text blocks events next
unfolding placed
entered number column text blocks events next is =
    let body = body_of false blocks events in
    let found = unless_ok (begins_with 0x09 text) (At number rule.Tab) (placed number column (is_item text) body >>= λ body. with_entry number column text body) next is in
    let step = bind_ok (placed number column (is_item text) body) (λ body. with_entry number column text body) next found.1 in
    let kept = bind_ok (closed_to number column (is_item text) blocks events) (λ left. Ok (record { events = left.1; blocks = left.0; awaits = false; flow = None })) step.0 step.1 in
    record {
      no_tab = found.0;
      kept = kept.0;
      closed = kept.1;
      entry = ap (with_entry number column text) (ok_same (record { events = kept.0.1; blocks = kept.0.0; awaits = false; flow = None }) step.0 kept.2) ∙ step.2;
    }

like_closed : (block : Block) (outer : List Block) (events : List YamlEvent) → Above block.column (is_key_list block.form) outer → IsLike (body_of false outer (events ++ event.End ∷ [])) (body_of false (block ∷ outer) events)
unfolding whole_events placed
like_closed block outer events above = record {
  ended = append_assoc events (event.End ∷ []) (map (λ _. event.End) outer);
  same = λ number column text next is.
      let body = body_of false (block ∷ outer) events in
      let from = entered number column text outer (events ++ event.End ∷ []) next is in
      let left = closes_any outer block.column (is_key_list block.form) number column text (events ++ event.End ∷ []) from.kept next above from.closed from.entry in
      by_false (begins_with 0x09 text) (Err (At number rule.Tab)) (placed number column (is_item text) body >>= λ body. with_entry number column text body) (Ok next) from.no_tab
      (on_ok (placed number column (is_item text) body) (with_entry number column text) (record { events = from.kept.1; blocks = from.kept.0; awaits = false; flow = None }) next
      (on_ok (closed_to number column (is_item text) (block ∷ outer) events) (λ left. Ok (record { events = left.1; blocks = left.0; awaits = false; flow = None })) from.kept (record { events = from.kept.1; blocks = from.kept.0; awaits = false; flow = None })
      (by_false (nat_lt block.column column) (Err (At number rule.Indent)) (if goes_on column (is_item text) block then Ok (block ∷ outer, events) else closed_to number column (is_item text) outer (events ++ event.End ∷ [])) (Ok from.kept) left.above
      (by_false (goes_on column (is_item text) block) (Ok (block ∷ outer, events)) (closed_to number column (is_item text) outer (events ++ event.End ∷ [])) (Ok from.kept) left.apart from.closed)) refl) from.entry);
}

close_reads : (whole : Whole) (block : Block) (outer : List Block) (events : List YamlEvent) (lines : Lines) → Above block.column (is_key_list block.form) outer → Reads whole (body_of false outer (events ++ event.End ∷ [])) lines → Reads whole (body_of false (block ∷ outer) events) lines
close_reads whole block outer events lines above reads = λ count. like_reads whole false false outer (block ∷ outer) (events ++ event.End ∷ []) events lines (like_closed block outer events above) count (reads count)

-- A value that doesn't come

abbrev MapTop : List Block → Type 0
MapTop [] = Unit {0}
MapTop (block ∷ outer) = is_map_form block.form ≡ true

neither : (below same item : Bool) → below ≡ false → (same ≡ true → item ≡ false) → (below || (same && item)) ≡ false
neither true same item is refused = absurd (cc)
neither false false item is refused = refl
neither false true item is refused = refused refl

not_begun : (blocks : List Block) (number column : ℕ) (text : List ℕ) (events : List YamlEvent) (kept : List Block × List YamlEvent) (next : Body) → MapTop blocks → closed_to number column (is_item text) blocks events ≡ Ok kept
    → with_entry number column text (record { events = kept.1; blocks = kept.0; awaits = false; flow = None }) ≡ Ok next → begins_block column (is_item text) blocks ≡ false
not_begun [] number column text events kept next top is entry = absurd (cc)
not_begun (block ∷ outer) number column text events kept next top is entry =
    let found = unless_ok (nat_lt block.column column) (At number rule.Indent) (if goes_on column (is_item text) block then Ok (block ∷ outer, events) else closed_to number column (is_item text) outer (events ++ event.End ∷ [])) kept is in
    neither (nat_lt block.column column) (block.column == column) (is_item text) found.0 (λ same. map_refuses block outer number column text events kept next top (eqb-true block.column column same) is entry)

like_nothing : (blocks : List Block) (events : List YamlEvent) → MapTop blocks → IsLike (body_of false blocks (events ++ event.Scalar [] ∷ [])) (body_of true blocks events)
unfolding whole_events placed
like_nothing blocks events top = record {
  ended = refl;
  same = λ number column text next is.
      let body = body_of true blocks events in
      let from = entered number column text blocks (events ++ event.Scalar [] ∷ []) next is in
      let begun = not_begun blocks number column text (events ++ event.Scalar [] ∷ []) from.kept next top from.closed from.entry in
      by_false (begins_with 0x09 text) (Err (At number rule.Tab)) (placed number column (is_item text) body >>= λ body. with_entry number column text body) (Ok next) from.no_tab
      (on_ok (placed number column (is_item text) body) (with_entry number column text) (record { events = from.kept.1; blocks = from.kept.0; awaits = false; flow = None }) next
      (by_false (begins_block column (is_item text) blocks) (Ok (with_block column (if is_item text then list_form column blocks else form.Map) body)) (closing number column (is_item text) (answered body))
      (Ok (record { events = from.kept.1; blocks = from.kept.0; awaits = false; flow = None })) begun
      (on_ok (closed_to number column (is_item text) blocks (events ++ event.Scalar [] ∷ [])) (λ left. Ok (record { events = left.1; blocks = left.0; awaits = false; flow = None })) from.kept (record { events = from.kept.1; blocks = from.kept.0; awaits = false; flow = None }) from.closed refl)) from.entry);
}

nothing_reads : (whole : Whole) (blocks : List Block) (events : List YamlEvent) (lines : Lines) → MapTop blocks → Reads whole (body_of false blocks (events ++ event.Scalar [] ∷ [])) lines → Reads whole (body_of true blocks events) lines
nothing_reads whole blocks events lines top reads = λ count. like_reads whole false true blocks blocks (events ++ event.Scalar [] ∷ []) events lines (like_nothing blocks events top) count (reads count)

-- Flow lists

abbrev flow_body : List Block → List YamlEvent → Option FlowList → Body
flow_body blocks events flow = record { events = events; blocks = blocks; awaits = false; flow = flow }

-- lines that are read from what some tokens make of a flow list
abbrev ReadsItems : Whole → FlowPlace → Bool → List Token → List Block → List YamlEvent → Body → ℕ → Lines → Type 0
ReadsItems whole place wants tokens blocks events body count lines =
    ((with_tokens place (new_state wants events) tokens >>= λ after. Ok (after_flow place.opened body after)) >>= λ body. read_on count (reading_of whole body) lines) ≡ Ok whole.file

items_read : {wants : Bool} {tokens : List Token} {lines after : Lines} {trees : Trees} → IsItems wants tokens lines after trees → (whole : Whole) (blocks : List Block) (events : List YamlEvent)
    → Reads whole (body_of false blocks (events ++ tree_events trees)) after → (place : FlowPlace) (others : List YamlEvent) (flow : Option FlowList) (count : ℕ) → ReadsItems whole place wants tokens blocks events (flow_body blocks others flow) count lines
unfolding ends with_next flow_of
items_read (next_line {wants = wants} {line = line} {lines = lines} utf8 items) whole blocks events reads place others flow count =
    let given : FlowList = record { opened = place.opened; wants = wants } in
    let body = flow_body blocks events (Some given) in
    goes_to line lines count (reading_of whole body) whole.file (and_right (is_end line && is_utf8 line) false refl) utf8
    (on_both (with_flow (record { opened = place.opened; line = count + 1 }) wants true line body) (λ body. reading_of whole body) (λ reading. read_on (count + 1) reading lines) whole.file
    (items_read items whole blocks events reads (record { opened = place.opened; line = count + 1 }) events (Some given) (count + 1)))
items_read (a_comma items) whole blocks events reads place others flow count = items_read items whole blocks events reads place others flow count
items_read (an_item {text = text} {after = after} {trees = trees} items) whole blocks events reads place others flow count =
    items_read items whole blocks (events ++ event.Scalar text ∷ []) (past_step whole false blocks events (event.Scalar text) (tree_events trees) after reads) place others flow count
items_read a_bracket whole blocks events reads place others flow count = reads count

-- Values

alone_same : (line other : ℕ) (quoted : Option Quoted) (value : List ℕ) → quoted_alone line quoted ≡ Ok value → quoted_alone other quoted ≡ Ok value
alone_same line other None value is = absurd (cc)
alone_same line other (Some quoted) value is =
    let ended = unless_ok (not (is_ended quoted.rest)) (At line rule.Key) (if not quoted.known then Err (At line rule.Escape) else Ok quoted.text) value is in
    let known = unless_ok (not quoted.known) (At line rule.Escape) (Ok quoted.text) value ended.1 in
    by_false (not (is_ended quoted.rest)) (Err (At other rule.Key)) (if not quoted.known then Err (At other rule.Escape) else Ok quoted.text) (Ok value) ended.0
    (by_false (not quoted.known) (Err (At other rule.Escape)) (Ok quoted.text) (Ok value) known.0 known.1)

plain_same : (line other size : ℕ) (text value : List ℕ) → plain_alone line size text ≡ Ok value → plain_alone other size text ≡ Ok value
plain_same line other size text value is =
    let found = unless_ok (is_key_end (drop size text)) (At line rule.Key) (Ok (trimmed (take size text))) value is in
    by_false (is_key_end (drop size text)) (Err (At other rule.Key)) (Ok (trimmed (take size text))) (Ok value) found.0 found.1

begun_same : (line other byte : ℕ) (text value : List ℕ) → scalar_begun line byte text ≡ Ok value → scalar_begun other byte text ≡ Ok value
begun_same line other byte text value is =
    by_test (is_quote byte) (quoted_alone line (quoted_of byte (drop 1 text))) (if is_forbidden byte then Err (At line rule.Scalar) else plain_alone line (plain_size false text) text) (Ok value) is
    (λ test e. by_true (is_quote byte) (quoted_alone other (quoted_of byte (drop 1 text))) (if is_forbidden byte then Err (At other rule.Scalar) else plain_alone other (plain_size false text) text) (Ok value) test
    (alone_same line other (quoted_of byte (drop 1 text)) value e))
    (λ test e.
    let found = unless_ok (is_forbidden byte) (At line rule.Scalar) (plain_alone line (plain_size false text) text) value e in
    by_false (is_quote byte) (quoted_alone other (quoted_of byte (drop 1 text))) (if is_forbidden byte then Err (At other rule.Scalar) else plain_alone other (plain_size false text) text) (Ok value) test
    (by_false (is_forbidden byte) (Err (At other rule.Scalar)) (plain_alone other (plain_size false text) text) (Ok value) found.0 (plain_same line other (plain_size false text) text value found.1)))

-- a scalar is the same on any line
scalar_same : (line other : ℕ) (text value : List ℕ) → scalar_of line text ≡ Ok value → scalar_of other text ≡ Ok value
unfolding scalar_of
scalar_same line other text value is =
    by_test (is_empty text) (Ok []) (scalar_begun line (slice_index text 0) text) (Ok value) is
    (λ test e. by_true (is_empty text) (Ok []) (scalar_begun other (slice_index text 0) text) (Ok value) test e)
    (λ test e. by_false (is_empty text) (Ok []) (scalar_begun other (slice_index text 0) text) (Ok value) test (begun_same line other (slice_index text 0) text value e))

value_reads : {text : List ℕ} {lines after : Lines} {node : Tree} → IsValue text lines after node → (whole : Whole) (blocks : List Block) (events : List YamlEvent) → Reads whole (body_of false blocks (events ++ events_of node)) after
    → (number count : ℕ) → ReadsFrom whole count (with_value number text (body_of false blocks events)) lines
unfolding with_value flow_of
value_reads (a_scalar {text = text} {value = value} {after = after} line no_list is) whole blocks events reads number count =
    let body = body_of false blocks events in
    ap (λ (test : Bool). (if test then with_flow (record { opened = number; line = number }) true false (drop 1 text) (record body { events = events ++ event.BeginList ∷ [] }) else
    (scalar_of number text >>= λ scalar. Ok (record body { events = events ++ event.Scalar scalar ∷ [] }))) >>= λ body. read_on count (reading_of whole body) after) no_list
    ∙ ap (λ (scalar : Result (List ℕ) YamlFault). (scalar >>= λ scalar. Ok (record body { events = events ++ event.Scalar scalar ∷ [] })) >>= λ body. read_on count (reading_of whole body) after) (scalar_same line number text value is)
    ∙ reads count
value_reads (a_flow_list {text = text} {lines = lines} {after = after} {trees = trees} is_list items) whole blocks events reads number count =
    let body = body_of false blocks events in
    ap (λ (test : Bool). (if test then with_flow (record { opened = number; line = number }) true false (drop 1 text) (record body { events = events ++ event.BeginList ∷ [] }) else
    (scalar_of number text >>= λ scalar. Ok (record body { events = events ++ event.Scalar scalar ∷ [] }))) >>= λ body. read_on count (reading_of whole body) lines) is_list
    ∙ items_read items whole blocks (events ++ event.BeginList ∷ []) (past_step whole false blocks events event.BeginList (tree_events trees) after reads) (record { opened = number; line = number }) (events ++ event.BeginList ∷ []) None count

-- Blocks, line by line

abbrev map_block : ℕ → Lines → Block
map_block column keys = record { column = column; form = form.Map; keys = keys }

abbrev list_block : ℕ → Form → Block
list_block column given = record { column = column; form = given; keys = [] }

past_node : (whole : Whole) (blocks : List Block) (events node tail : List YamlEvent) (lines : Lines) → Reads whole (body_of false blocks (events ++ (node ++ tail))) lines → Reads whole (body_of false blocks ((events ++ node) ++ tail)) lines
past_node whole blocks events node tail lines reads = same_reads whole false blocks (events ++ (node ++ tail)) ((events ++ node) ++ tail) lines (sym (append_assoc events node tail)) reads

key_reads : (whole : Whole) (outer : List Block) (events : List YamlEvent) (column : ℕ) (keys : Lines) (keyed : Keyed) (number count : ℕ) (lines : Lines) → has_key keyed.name keys ≡ false
    → ReadsFrom whole count (with_rest number keyed.rest (body_of false (map_block column (keys ++ keyed.name ∷ []) ∷ outer) (events ++ event.Key keyed.name ∷ []))) lines
    → ReadsFrom whole count (with_pair number (Some keyed) (body_of false (map_block column keys ∷ outer) events)) lines
unfolding with_key
key_reads whole outer events column keys keyed number count lines is_new reads =
    ap (λ (test : Bool). ((if test then Err (At number rule.Key) else Ok (body_of false (map_block column (keys ++ keyed.name ∷ []) ∷ outer) (events ++ event.Key keyed.name ∷ []))) >>= λ body. with_rest number keyed.rest body)
    >>= λ body. read_on count (reading_of whole body) lines) is_new ∙ reads

pair_reads : (whole : Whole) (column : ℕ) (text : List ℕ) (body : Body) (keyed : Keyed) (number count : ℕ) (lines : Lines) → key_of text ≡ Some keyed → ReadsFrom whole count (with_pair number (Some keyed) body) lines
    → ReadsFrom whole count (with_pair number (key_of text) body) lines
pair_reads whole column text body keyed number count lines key reads = ap (λ (key : Option Keyed). with_pair number key body >>= λ body. read_on count (reading_of whole body) lines) key ∙ reads

map_entry_reads : (whole : Whole) (outer : List Block) (events : List YamlEvent) (at column : ℕ) (keys : Lines) (text : List ℕ) (number count : ℕ) (lines : Lines) → is_item text ≡ false
    → ReadsFrom whole count (with_pair number (key_of text) (body_of false (map_block column keys ∷ outer) events)) lines → ReadsFrom whole count (with_entry number at text (body_of false (map_block column keys ∷ outer) events)) lines
unfolding with_entry
map_entry_reads whole outer events at column keys text number count lines no_item reads =
    ap (λ (item : Bool). (if item then Err (At number rule.Key) else with_pair number (key_of text) (body_of false (map_block column keys ∷ outer) events)) >>= λ body. read_on count (reading_of whole body) lines) no_item ∙ reads

list_entry_reads : (whole : Whole) (outer : List Block) (events : List YamlEvent) (column : ℕ) (given : Form) (text : List ℕ) (number count : ℕ) (lines : Lines) → is_map_form given ≡ false → is_item text ≡ true
    → ReadsFrom whole count (with_item number column text (body_of false (list_block column given ∷ outer) events)) lines → ReadsFrom whole count (with_entry number column text (body_of false (list_block column given ∷ outer) events)) lines
unfolding with_entry
list_entry_reads whole outer events column given text number count lines no_map item reads =
    let body = body_of false (list_block column given ∷ outer) events in
    ap (λ (in_map : Bool). (if in_map then (if is_item text then Err (At number rule.Key) else with_pair number (key_of text) body) else (if is_item text then with_item number column text body else Err (At number rule.Key)))
    >>= λ body. read_on count (reading_of whole body) lines) no_map
    ∙ ap (λ (item : Bool). (if item then with_item number column text body else Err (At number rule.Key)) >>= λ body. read_on count (reading_of whole body) lines) item ∙ reads

item_reads : (whole : Whole) (column : ℕ) (text : List ℕ) (body : Body) (number count : ℕ) (lines : Lines) → is_bare (drop 2 text) ≡ false
    → ReadsFrom whole count (with_item_of number (column + 2 + blanks (drop 2 text)) (without_blanks (drop 2 text)) (key_of (without_blanks (drop 2 text))) body) lines → ReadsFrom whole count (with_item number column text body) lines
unfolding with_item
item_reads whole column text body number count lines some reads =
    ap (λ (bare : Bool). (if bare then Err (At number rule.Key) else with_item_of number (column + 2 + blanks (drop 2 text)) (without_blanks (drop 2 text)) (key_of (without_blanks (drop 2 text))) body)
    >>= λ body. read_on count (reading_of whole body) lines) some ∙ reads

not_less : (x y : ℕ) → x ≡ y → nat_lt y x ≡ false
not_less x y is = grind (arith, tests)

-- a line of the innermost block
stay_reads : (whole : Whole) (block : Block) (outer : List Block) (events : List YamlEvent) (line : List ℕ) (lines : Lines) → IsBlockLine line → spaces line ≡ block.column → (is_item (content line) || not (is_key_list block.form)) ≡ true
    → ((count : ℕ) → ReadsFrom whole (count + 1) (with_entry (count + 1) block.column (content line) (body_of false (block ∷ outer) events)) lines) → Reads whole (body_of false (block ∷ outer) events) (line ∷ lines)
unfolding placed
stay_reads whole block outer events line lines is at goes reads =
    let body = body_of false (block ∷ outer) events in
    block_line_reads whole false (block ∷ outer) events line lines is (λ count.
    let stays : placed (count + 1) (spaces line) (is_item (content line)) body ≡ Ok body =
    on_ok (closed_to (count + 1) (spaces line) (is_item (content line)) (block ∷ outer) events) (λ left. Ok (record { events = left.1; blocks = left.0; awaits = false; flow = None })) (block ∷ outer, events) body
    (by_false (nat_lt block.column (spaces line)) (Err (At (count + 1) rule.Indent)) (if goes_on (spaces line) (is_item (content line)) block then Ok (block ∷ outer, events) else closed_to (count + 1) (spaces line) (is_item (content line)) outer (events ++ event.End ∷ []))
    (Ok (block ∷ outer, events)) (not_less (spaces line) block.column at)
    (by_true (goes_on (spaces line) (is_item (content line)) block) (Ok (block ∷ outer, events)) (closed_to (count + 1) (spaces line) (is_item (content line)) outer (events ++ event.End ∷ [])) (Ok (block ∷ outer, events))
    (ap (λ (same : Bool). same && (is_item (content line) || not (is_key_list block.form))) (eq-eqb block.column (spaces line) (sym at)) ∙ goes) refl)) refl in
    ap (λ (made : Result Body YamlFault). (made >>= λ body. with_entry (count + 1) (spaces line) (content line) body) >>= λ body. read_on (count + 1) (reading_of whole body) lines) stays
    ∙ ap (λ (column : ℕ). with_entry (count + 1) column (content line) body >>= λ body. read_on (count + 1) (reading_of whole body) lines) at ∙ reads count)

-- the first line of a block
begin_reads : (whole : Whole) (blocks : List Block) (events : List YamlEvent) (line : List ℕ) (lines : Lines) → IsBlockLine line → stands_below (parent blocks) (spaces line) (is_item (content line)) ≡ true
    → ((count : ℕ) → ReadsFrom whole (count + 1) (with_entry (count + 1) (spaces line) (content line) (with_block (spaces line) (if is_item (content line) then list_form (spaces line) blocks else form.Map) (body_of true blocks events))) lines)
    → Reads whole (body_of true blocks events) (line ∷ lines)
unfolding placed
begin_reads whole blocks events line lines is stands reads =
    let body = body_of true blocks events in
    let begun = with_block (spaces line) (if is_item (content line) then list_form (spaces line) blocks else form.Map) body in
    block_line_reads whole true blocks events line lines is (λ count.
    ap (λ (made : Result Body YamlFault). (made >>= λ body. with_entry (count + 1) (spaces line) (content line) body) >>= λ body. read_on (count + 1) (reading_of whole body) lines)
    (by_true (begins_block (spaces line) (is_item (content line)) blocks) (Ok begun) (closing (count + 1) (spaces line) (is_item (content line)) (answered body)) (Ok begun) (same_stands blocks (spaces line) (is_item (content line)) ∙ stands) refl)
    ∙ reads count)

list_opening : (column : ℕ) (blocks : List Block) → opening (list_form column blocks) ≡ event.BeginList
list_opening column [] = refl
list_opening column (block ∷ outer) = by_same (block.column == column)
  where
    by_same : (same : Bool) → opening (if same then form.KeyList else form.List) ≡ event.BeginList
    by_same true = refl
    by_same false = refl

list_is : (column : ℕ) (blocks : List Block) → is_map_form (list_form column blocks) ≡ false
list_is column [] = refl
list_is column (block ∷ outer) = by_same (block.column == column)
  where
    by_same : (same : Bool) → is_map_form (if same then form.KeyList else form.List) ≡ false
    by_same true = refl
    by_same false = refl

lower_by : (lower same : Bool) → (lower || (same && false)) ≡ true → lower ≡ true
lower_by true same is = refl
lower_by false true is = absurd (cc)
lower_by false false is = absurd (cc)

above_map : (blocks : List Block) (column : ℕ) → stands_below (parent blocks) column false ≡ true → Above column false blocks
above_map [] column stands = tt
above_map (block ∷ outer) column stands = higher (lower_by (nat_lt block.column column) (block.column == column) stands)

above_by : (same : Bool) (block : Block) (column : ℕ) → (block.column == column) ≡ same → is_map_form block.form ≡ true → (nat_lt block.column column || (same && true)) ≡ true → IsAbove column (is_key_list (if same then form.KeyList else form.List)) block
above_by true block column is top stands = level (eqb-true block.column column is) refl top
above_by false block column is top stands = higher (lower_by (nat_lt block.column column) true stands)

above_list : (blocks : List Block) (column : ℕ) → MapTop blocks → stands_below (parent blocks) column true ≡ true → Above column (is_key_list (list_form column blocks)) blocks
above_list [] column top stands = tt
above_list (block ∷ outer) column top stands = above_by (block.column == column) block column refl top stands

map_begins : (whole : Whole) (blocks : List Block) (events : List YamlEvent) (column : ℕ) (text : List ℕ) (number count : ℕ) (lines : Lines) → is_item text ≡ false
    → ReadsFrom whole count (with_pair number (key_of text) (body_of false (map_block column [] ∷ blocks) (events ++ event.BeginMap ∷ []))) lines
    → ReadsFrom whole count (with_entry number column text (with_block column (if is_item text then list_form column blocks else form.Map) (body_of true blocks events))) lines
map_begins whole blocks events column text number count lines no_item reads =
    ap (λ (item : Bool). with_entry number column text (with_block column (if item then list_form column blocks else form.Map) (body_of true blocks events)) >>= λ body. read_on count (reading_of whole body) lines) no_item
    ∙ map_entry_reads whole blocks (events ++ event.BeginMap ∷ []) column column [] text number count lines no_item reads

list_begins : (whole : Whole) (blocks : List Block) (events : List YamlEvent) (column : ℕ) (text : List ℕ) (number count : ℕ) (lines : Lines) → is_item text ≡ true
    → ReadsFrom whole count (with_item number column text (body_of false (list_block column (list_form column blocks) ∷ blocks) (events ++ event.BeginList ∷ []))) lines
    → ReadsFrom whole count (with_entry number column text (with_block column (if is_item text then list_form column blocks else form.Map) (body_of true blocks events))) lines
list_begins whole blocks events column text number count lines item reads =
    ap (λ (item : Bool). with_entry number column text (with_block column (if item then list_form column blocks else form.Map) (body_of true blocks events)) >>= λ body. read_on count (reading_of whole body) lines) item
    ∙ ap (λ (step : YamlEvent). with_entry number column text (body_of false (list_block column (list_form column blocks) ∷ blocks) (events ++ step ∷ [])) >>= λ body. read_on count (reading_of whole body) lines) (list_opening column blocks)
    ∙ list_entry_reads whole blocks (events ++ event.BeginList ∷ []) column (list_form column blocks) text number count lines (list_is column blocks) item reads

first_key : {column : ℕ} {keys : Lines} {text : List ℕ} {lines after : Lines} {pairs : Pairs} → IsPairs column keys text lines after pairs → (keyed : Keyed) × (key_of text ≡ Some keyed)
first_key (a_pair {keyed = keyed} key is_new value more) = (keyed, key)

map_item_reads : (whole : Whole) (blocks : List Block) (events : List YamlEvent) (column : ℕ) (text : List ℕ) (keyed : Keyed) (number count : ℕ) (lines : Lines) → key_of text ≡ Some keyed
    → ReadsFrom whole count (with_pair number (key_of text) (body_of false (map_block column [] ∷ blocks) (events ++ event.BeginMap ∷ []))) lines
    → ReadsFrom whole count (with_item_of number column text (key_of text) (body_of false blocks events)) lines
map_item_reads whole blocks events column text keyed number count lines key reads =
    ap (λ (key : Option Keyed). with_item_of number column text key (body_of false blocks events) >>= λ body. read_on count (reading_of whole body) lines) key
    ∙ ap (λ (key : Option Keyed). with_pair number key (body_of false (map_block column [] ∷ blocks) (events ++ event.BeginMap ∷ [])) >>= λ body. read_on count (reading_of whole body) lines) (sym key) ∙ reads

further : (column more : ℕ) → nat_lt column (column + 2 + more) ≡ true
further column more = grind (arith, tests)

or_true : (a : Bool) → (a || true) ≡ true
or_true true = refl
or_true false = refl

mutual
  below_reads : {key : Option ℕ} {lines after : Lines} {node : Tree} → IsBelow key lines after node → (whole : Whole) (blocks : List Block) (events : List YamlEvent) → parent blocks ≡ key → MapTop blocks
      → Reads whole (body_of false blocks (events ++ events_of node)) after → Reads whole (body_of true blocks events) lines
  below_reads (nothing {after = after}) whole blocks events is top reads = nothing_reads whole blocks events after top reads
  below_reads (pass_below {line = line} {lines = lines} passed below) whole blocks events is top reads = pass_reads whole true blocks events line lines passed (below_reads below whole blocks events is top reads)
  below_reads (a_block {line = line} {lines = lines} block_line stands block) whole blocks events is top reads =
      let here = ap (λ (key : Option ℕ). stands_below key (spaces line) (is_item (content line))) is ∙ stands in
      begin_reads whole blocks events line lines block_line here (λ count. block_reads block whole blocks events top here reads (count + 1) (count + 1))

  block_reads : {column : ℕ} {text : List ℕ} {lines after : Lines} {node : Tree} → IsBlock column text lines after node → (whole : Whole) (blocks : List Block) (events : List YamlEvent) → MapTop blocks
      → stands_below (parent blocks) column (is_item text) ≡ true → Reads whole (body_of false blocks (events ++ events_of node)) after → (number count : ℕ)
      → ReadsFrom whole count (with_entry number column text (with_block column (if is_item text then list_form column blocks else form.Map) (body_of true blocks events))) lines
  block_reads (a_map {column = column} {text = text} {lines = lines} {after = after} {pairs = pairs} no_item are) whole blocks events top stands reads number count =
      map_begins whole blocks events column text number count lines no_item
      (pairs_read are whole blocks (events ++ event.BeginMap ∷ []) (above_map blocks column (ap (stands_below (parent blocks) column) (sym no_item) ∙ stands))
      (past_step whole false blocks events event.BeginMap (pair_events pairs) after reads) number count)
  block_reads (a_list {column = column} {text = text} {lines = lines} {after = after} {trees = trees} item are) whole blocks events top stands reads number count =
      list_begins whole blocks events column text number count lines item
      (entries_read are whole (list_form column blocks) blocks (events ++ event.BeginList ∷ []) (list_is column blocks) (above_list blocks column top (ap (stands_below (parent blocks) column) (sym item) ∙ stands))
      (past_step whole false blocks events event.BeginList (tree_events trees) after reads) number count)

  pairs_read : {column : ℕ} {keys : Lines} {text : List ℕ} {lines after : Lines} {pairs : Pairs} → IsPairs column keys text lines after pairs → (whole : Whole) (outer : List Block) (events : List YamlEvent) → Above column false outer
      → Reads whole (body_of false outer (events ++ pair_events pairs)) after → (number count : ℕ) → ReadsFrom whole count (with_pair number (key_of text) (body_of false (map_block column keys ∷ outer) events)) lines
  pairs_read (a_pair {column = column} {keys = keys} {text = text} {keyed = keyed} {lines = lines} {between = between} {after = after} {node = node} {pairs = pairs} key is_new value more) whole outer events above reads number count =
      let begun = events ++ event.Key keyed.name ∷ [] in
      pair_reads whole column text (body_of false (map_block column keys ∷ outer) events) keyed number count lines key
      (key_reads whole outer events column keys keyed number count lines is_new
      (pair_value_reads value whole outer begun (keys ++ keyed.name ∷ [])
      (more_pairs_read more whole outer (begun ++ events_of node) above
      (past_node whole outer begun (events_of node) (pair_events pairs) after (past_step whole false outer events (event.Key keyed.name) (events_of node ++ pair_events pairs) after reads))) number count))

  pair_value_reads : {column : ℕ} {rest : List ℕ} {lines after : Lines} {node : Tree} → IsPairValue column rest lines after node → (whole : Whole) (outer : List Block) (events : List YamlEvent) (keys : Lines)
      → Reads whole (body_of false (map_block column keys ∷ outer) (events ++ events_of node)) after → (number count : ℕ) → ReadsFrom whole count (with_rest number rest (body_of false (map_block column keys ∷ outer) events)) lines
  pair_value_reads (value_here {column = column} {rest = rest} {lines = lines} some value) whole outer events keys reads number count =
      let body = body_of false (map_block column keys ∷ outer) events in
      ap (λ (bare : Bool). (if bare then Ok (record body { awaits = true }) else with_value number (without_blanks rest) body) >>= λ body. read_on count (reading_of whole body) lines) some
      ∙ value_reads value whole (map_block column keys ∷ outer) events reads number count
  pair_value_reads (value_below {column = column} {rest = rest} {lines = lines} bare below) whole outer events keys reads number count =
      let body = body_of false (map_block column keys ∷ outer) events in
      ap (λ (bare : Bool). (if bare then Ok (record body { awaits = true }) else with_value number (without_blanks rest) body) >>= λ body. read_on count (reading_of whole body) lines) bare
      ∙ below_reads below whole (map_block column keys ∷ outer) events refl refl reads count

  more_pairs_read : {column : ℕ} {keys lines after : Lines} {pairs : Pairs} → IsMorePairs column keys lines after pairs → (whole : Whole) (outer : List Block) (events : List YamlEvent) → Above column false outer
      → Reads whole (body_of false outer (events ++ pair_events pairs)) after → Reads whole (body_of false (map_block column keys ∷ outer) events) lines
  more_pairs_read (no_more_pairs {column = column} {keys = keys} {after = after}) whole outer events above reads = close_reads whole (map_block column keys) outer events after above reads
  more_pairs_read (pass_pairs {column = column} {keys = keys} {line = line} {lines = lines} passed more) whole outer events above reads =
      pass_reads whole false (map_block column keys ∷ outer) events line lines passed (more_pairs_read more whole outer events above reads)
  more_pairs_read (more_pairs {column = column} {keys = keys} {line = line} {lines = lines} block_line at no_item are) whole outer events above reads =
      stay_reads whole (map_block column keys) outer events line lines block_line at (or_true (is_item (content line)))
      (λ count. map_entry_reads whole outer events column column keys (content line) (count + 1) (count + 1) lines no_item (pairs_read are whole outer events above reads (count + 1) (count + 1)))

  entries_read : {column : ℕ} {text : List ℕ} {lines after : Lines} {trees : Trees} → IsEntries column text lines after trees → (whole : Whole) (given : Form) (outer : List Block) (events : List YamlEvent) → is_map_form given ≡ false
      → Above column (is_key_list given) outer → Reads whole (body_of false outer (events ++ tree_events trees)) after → (number count : ℕ)
      → ReadsFrom whole count (with_item number column text (body_of false (list_block column given ∷ outer) events)) lines
  entries_read (an_entry {column = column} {text = text} {lines = lines} {between = between} {after = after} {node = node} {trees = trees} some entry more) whole given outer events no_map above reads number count =
      item_reads whole column text (body_of false (list_block column given ∷ outer) events) number count lines some
      (entry_reads entry whole (list_block column given ∷ outer) events (higher (further column (blanks (drop 2 text))))
      (more_entries_read more whole given outer (events ++ events_of node) no_map above (past_node whole outer events (events_of node) (tree_events trees) after reads)) number count)

  entry_reads : {column : ℕ} {text : List ℕ} {lines after : Lines} {node : Tree} → IsEntry column text lines after node → (whole : Whole) (blocks : List Block) (events : List YamlEvent) → Above column false blocks
      → Reads whole (body_of false blocks (events ++ events_of node)) after → (number count : ℕ) → ReadsFrom whole count (with_item_of number column text (key_of text) (body_of false blocks events)) lines
  entry_reads (entry_value {column = column} {text = text} {lines = lines} no_key value) whole blocks events above reads number count =
      ap (λ (key : Option Keyed). with_item_of number column text key (body_of false blocks events) >>= λ body. read_on count (reading_of whole body) lines) no_key ∙ value_reads value whole blocks events reads number count
  entry_reads (entry_map {column = column} {text = text} {lines = lines} {after = after} {pairs = pairs} are) whole blocks events above reads number count =
      let first = first_key are in
      map_item_reads whole blocks events column text first.0 number count lines first.1
      (pairs_read are whole blocks (events ++ event.BeginMap ∷ []) above (past_step whole false blocks events event.BeginMap (pair_events pairs) after reads) number count)

  more_entries_read : {column : ℕ} {lines after : Lines} {trees : Trees} → IsMoreEntries column lines after trees → (whole : Whole) (given : Form) (outer : List Block) (events : List YamlEvent) → is_map_form given ≡ false
      → Above column (is_key_list given) outer → Reads whole (body_of false outer (events ++ tree_events trees)) after → Reads whole (body_of false (list_block column given ∷ outer) events) lines
  more_entries_read (no_more_entries {column = column} {after = after}) whole given outer events no_map above reads = close_reads whole (list_block column given) outer events after above reads
  more_entries_read (pass_entries {column = column} {line = line} {lines = lines} passed more) whole given outer events no_map above reads =
      pass_reads whole false (list_block column given ∷ outer) events line lines passed (more_entries_read more whole given outer events no_map above reads)
  more_entries_read (more_entries {column = column} {line = line} {lines = lines} block_line at item are) whole given outer events no_map above reads =
      stay_reads whole (list_block column given) outer events line lines block_line at (ap (λ (item : Bool). item || not (is_key_list given)) item)
      (λ count. list_entry_reads whole outer events column given (content line) (count + 1) (count + 1) lines no_map item (entries_read are whole given outer events no_map above reads (count + 1) (count + 1)))

-- Documents

abbrev whole_of : List YamlDoc → List ℕ → List YamlEvent → List Document → Whole
whole_of before tag events documents = record { docs = before; tag = tag; file = record { docs = before ++ record { tag = tag; events = events } ∷ map doc_of documents } }

end_reads : (before : List YamlDoc) (tag : List ℕ) (events : List YamlEvent) (count : ℕ) → finished count (reading_of (whole_of before tag events []) (body_of false [] events)) ≡ Ok (whole_of before tag events []).file
unfolding finished whole_events
end_reads before tag events count = ap (λ (events : List YamlEvent). Ok (record { docs = before ++ record { tag = tag; events = events } ∷ [] })) (append-nil events)

ends_here : (line : List ℕ) (reading : Reading) → flow_in reading.last ≡ None → is_utf8 line ≡ true → is_end line ≡ true → ends line reading ≡ true
unfolding ends
ends_here line reading none utf8 is = ap (λ (end : Bool). (end && is_utf8 line) && is_none (flow_in reading.last)) is ∙ ap (λ (utf8 : Bool). utf8 && is_none (flow_in reading.last)) utf8 ∙ ap is_none none

mark_reads : (reading : Reading) (line tag : List ℕ) (lines : Lines) (count : ℕ) (file : YamlFile) → flow_in reading.last ≡ None → is_utf8 line ≡ true → is_bare line ≡ false → tag_of line ≡ Some tag
    → read_on (count + 1) (with_doc tag reading) lines ≡ Ok file → read_on count reading (line ∷ lines) ≡ Ok file
unfolding with_block_line
mark_reads reading line tag lines count file none utf8 some mark reads =
    goes_to line lines count reading file (no_end_goes_on line reading (mark_no_end line tag mark)) utf8
    (ap (λ (flow : Option FlowList). with_any_line (count + 1) line flow reading >>= λ reading. read_on (count + 1) reading lines) none
    ∙ ap (λ (bare : Bool). (if bare then Ok reading else with_mark (count + 1) line (tag_of line) reading) >>= λ reading. read_on (count + 1) reading lines) some
    ∙ ap (λ (tag : Option (List ℕ)). with_mark (count + 1) line tag reading >>= λ reading. read_on (count + 1) reading lines) mark ∙ reads)

next_docs : (before : List YamlDoc) (tag : List ℕ) (events : List YamlEvent) (lines : Lines) (file : YamlFile) (next : List ℕ) (count : ℕ)
    → read_on count (reading_of (record { docs = before ++ record { tag = tag; events = events } ∷ []; tag = next; file = file }) new_body) lines ≡ Ok file
    → read_on count (with_doc next (reading_of (record { docs = before; tag = tag; file = file }) (body_of false [] events))) lines ≡ Ok file
unfolding whole_events
next_docs before tag events lines file next count reads =
    ap (λ (events : List YamlEvent). read_on count (record { docs = before ++ record { tag = tag; events = events } ∷ []; last = Some (record { tag = next; body = new_body }) }) lines) (append-nil events) ∙ reads

docs_read : {lines : Lines} {documents : List Document} → AreDocuments lines documents → (before : List YamlDoc) (tag : List ℕ) (events : List YamlEvent) → Reads (whole_of before tag events documents) (body_of false [] events) lines
docs_read the_last_line before tag events = λ count. end_reads before tag events count
docs_read (the_end {line = line} {lines = lines} utf8 is) before tag events = λ count.
    let reading = reading_of (whole_of before tag events []) (body_of false [] events) in
    by_true (ends line reading) (finished (count + 1) reading) (with_next (count + 1) line reading >>= λ reading. read_on (count + 1) reading lines) (Ok (whole_of before tag events []).file)
    (ends_here line reading refl utf8 is) (end_reads before tag events (count + 1))
docs_read (pass_line {line = line} {lines = lines} {docs = documents} passed are) before tag events = pass_reads (whole_of before tag events documents) false [] events line lines passed (docs_read are before tag events)
docs_read (a_document {line = line} {tag = next} {lines = lines} {between = between} {node = node} {docs = documents} utf8 some mark below are) before tag events = λ count.
    let earlier = before ++ record { tag = tag; events = events } ∷ [] in
    let file = (whole_of before tag events (record { tag = next; body = node } ∷ documents)).file in
    let same : earlier ++ record { tag = next; events = events_of node } ∷ map doc_of documents ≡ before ++ record { tag = tag; events = events } ∷ record { tag = next; events = events_of node } ∷ map doc_of documents =
    append_assoc before (record { tag = tag; events = events } ∷ []) (record { tag = next; events = events_of node } ∷ map doc_of documents) in
    let rest : Reads (record { docs = earlier; tag = next; file = file }) (body_of false [] (events_of node)) between =
    subst (λ (docs : List YamlDoc). Reads (record { docs = earlier; tag = next; file = record { docs = docs } }) (body_of false [] (events_of node)) between) same (docs_read are earlier next (events_of node)) in
    mark_reads (reading_of (whole_of before tag events (record { tag = next; body = node } ∷ documents)) (body_of false [] events)) line next lines count file refl utf8 some mark
    (next_docs before tag events lines file next (count + 1) (below_reads below (record { docs = earlier; tag = next; file = file }) [] [] refl tt rest (count + 1)))

text_reads : {lines : Lines} {documents : List Document} → AreDocuments lines documents → 1 ≤ length documents → (count : ℕ) → read_on count new_reading lines ≡ Ok (record { docs = map doc_of documents })
text_reads the_last_line some count = absurd (omega arith)
text_reads (the_end utf8 is) some count = absurd (omega arith)
text_reads (pass_line {line = line} {lines = lines} {docs = documents} passed are) some count = passed_reads new_reading line lines count (record { docs = map doc_of documents }) refl passed (text_reads are some (count + 1))
text_reads (a_document {line = line} {tag = tag} {lines = lines} {between = between} {node = node} {docs = documents} utf8 some mark below are) more count =
    let file = (whole_of [] tag (events_of node) documents).file in
    mark_reads new_reading line tag lines count file refl utf8 some mark
    (below_reads below (record { docs = []; tag = tag; file = file }) [] [] refl tt (docs_read are [] tag (events_of node)) (count + 1))

-- what stands in the grammar is read
pub grammar_file : (text : List ℕ) (docs : List YamlDoc) → AreDocumentsOf (lines_of text) docs → file_of text ≡ Ok (record { docs = docs })
unfolding file_of
grammar_file text docs are = text_reads are.1.are are.1.some 0 ∙ ap (λ (docs : List YamlDoc). Ok (record { docs = docs })) (sym are.2)

-- no documents stand in the grammar for a text that is refused
pub grammar_refused : (text : List ℕ) (fault : YamlFault) → file_of text ≡ Err fault → (docs : List YamlDoc) → AreDocumentsOf (lines_of text) docs → ⊥
grammar_refused text fault is docs are = never (sym is ∙ grammar_file text docs are)
  where
    never : ◌≡◌ {A = Result YamlFile YamlFault} (Err fault) (Ok (record { docs = docs })) → ⊥
    never e = cc

-- at most one list of documents stands in the grammar for a text
same_docs : (one other : List Document) → map doc_of one ≡ map doc_of other → one ≡ other
same_docs [] [] is = refl
same_docs [] (document ∷ others) is = absurd (cc)
same_docs (document ∷ others) [] is = absurd (cc)
same_docs (a ∷ one) (b ∷ other) is =
    let first : doc_of a ≡ doc_of b = cc in
    let tags : a.tag ≡ b.tag = ap (λ (doc : YamlDoc). doc.tag) first in
    let walks : events_of a.body ≡ events_of b.body = ap (λ (doc : YamlDoc). doc.events) first in
    let rests : map doc_of one ≡ map doc_of other = cc in
    ap (λ (tag : List ℕ). record { tag = tag; body = a.body } ∷ one) tags ∙ ap (λ (body : Tree). record { tag = b.tag; body = body } ∷ one) (one_tree a.body b.body walks) ∙ ap (λ (rest : List Document). b ∷ rest) (same_docs one other rests)

pub grammar_one : (text : List ℕ) (one other : List Document) → HasDocuments (lines_of text) one → HasDocuments (lines_of text) other → one ≡ other
grammar_one text one other is_one is_other =
    let both : ◌≡◌ {A = Result YamlFile YamlFault} (Ok (record { docs = map doc_of one })) (Ok (record { docs = map doc_of other })) = sym (grammar_file text (map doc_of one) (one, is_one, refl)) ∙ grammar_file text (map doc_of other) (other, is_other, refl) in
    same_docs one other (ap (λ (file : YamlFile). file.docs) (ok_same (record { docs = map doc_of one }) (record { docs = map doc_of other }) both))
