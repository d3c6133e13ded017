-- The searches through a walk.
use Rattle.std.proofs.Common.{◌≡◌, ℕ, zero, suc, ◌+◌, ◌-◌, ◌<◌, ◌≤◌, List, [], ◌∷◌, ◌++◌, Bool, true, false, length, get_or, drop, map, Some, None, refl, sym, ap, ◌∙◌, append_assoc, append-nil, arith}
use Rattle.std.specs.Prelude.{All, ◌==◌, ◌&&◌, ◌||◌, if◌then◌else◌, slice_get}
use Rattle.std.specs.Str.{bytes_eq}
use Rattle.std.proofs.lemmas.Bool.{false≢true}
use Rattle.std.proofs.lemmas.List.{drop_all, drop_more}
use Rattle.std.proofs.lemmas.Option.{get_or_from_slice_get}
use Rattle.yaml_text.specs.declared.file.YamlEvent.{YamlEvent}
use Rattle.yaml_text.specs.declared.file.YamlEvent.TheVariants as event
use Rattle.tbd_yaml.specs.Tree.{Tree, scalar, list, map as map_of, events_of}
use Rattle.tbd_doc.specs.Nodes.{KeyedNode, items_of, fields_of, value_of}
use Rattle.tbd_doc.specs.Forms.{is_list, is_map}
use Rattle.tbd_doc.specs.inner.Places.{tree_at, IsNode, field_at, key_of, key_in, nodes_from, depth_after, is_end, is_node, first_event}
use Rattle.tbd_doc.proofs.WalkLemmas.{items_found, fields_found, nodes_found}

-- A search for the nodes of a block.

-- some places, and those from a place on at a depth, are those of the whole block
pub record IsSearching (events : List YamlEvent) (start depth next : ℕ) (places : List ℕ) : Type 0 where
  pub same : places ++ nodes_from depth next (drop next events) ≡ nodes_from 0 start (drop start events)

pub search_starts : (events : List YamlEvent) (start : ℕ) → IsSearching events start 0 start []
search_starts events start = record { same = refl }

here : (events : List YamlEvent) (depth next : ℕ) (e : YamlEvent) → next < length events → e ≡ get_or events next e → nodes_from depth next (drop next events) ≡ nodes_from depth next (e ∷ drop (next + 1) events)
here events depth next e within is = ap (nodes_from depth next) (drop_more events next e within ∙ ap (λ x. x ∷ drop (next + 1) events) (sym is))

pub search_ends : (events : List YamlEvent) (start depth next : ℕ) (places : List ℕ) (e : YamlEvent) → IsSearching events start depth next places → next < length events → e ≡ get_or events next e
    → (depth == 0 && is_end e) ≡ true → places ≡ nodes_from 0 start (drop start events)
search_ends events start depth next places e search within is stops =
    let stop : nodes_from depth next (e ∷ drop (next + 1) events) ≡ [] = rw stops refl in
    sym (append-nil places) ∙ ap (λ more. places ++ more) (sym (here events depth next e within is ∙ stop)) ∙ search.same

pub search_past : (events : List YamlEvent) (start depth next : ℕ) (places : List ℕ) → IsSearching events start depth next places → length events ≤ next → places ≡ nodes_from 0 start (drop start events)
search_past events start depth next places search past =
    sym (append-nil places) ∙ ap (λ steps. places ++ nodes_from depth next steps) (sym (drop_all next events past)) ∙ search.same

found_at : (test : Bool) (places more rest : List ℕ) (next : ℕ) → more ≡ (if test then places ++ next ∷ [] else places) → more ++ rest ≡ places ++ (if test then next ∷ rest else rest)
found_at true places more rest next is = ap (λ xs. xs ++ rest) is ∙ append_assoc places (next ∷ []) rest
found_at false places more rest next is = ap (λ xs. xs ++ rest) is

pub search_goes_on : (events : List YamlEvent) (start depth next after : ℕ) (places more : List ℕ) (e : YamlEvent) → IsSearching events start depth next places → next < length events → e ≡ get_or events next e
    → (depth == 0 && is_end e) ≡ false → more ≡ (if depth == 0 && is_node e then places ++ next ∷ [] else places) → after ≡ depth_after depth e → IsSearching events start after (next + 1) more
search_goes_on events start depth next after places more e search within is stops grown deep =
    let rest : List ℕ = nodes_from (depth_after depth e) (next + 1) (drop (next + 1) events) in
    let step : nodes_from depth next (e ∷ drop (next + 1) events) ≡ (if depth == 0 && is_node e then next ∷ rest else rest) = rw stops refl in
    record {
      same = ap (λ (d : ℕ). more ++ nodes_from d (next + 1) (drop (next + 1) events)) deep
          ∙ found_at (depth == 0 && is_node e) places more rest next grown
          ∙ ap (λ xs. places ++ xs) (sym (here events depth next e within is ∙ step)) ∙ search.same;
    }

pub ruleset searching = (search_starts, search_ends, search_past, search_goes_on)

-- The first event of a node.

first : (t : Tree) (more rest : List YamlEvent) (e : YamlEvent) → e ∷ rest ≡ events_of t ++ more → e ≡ first_event t
first (scalar text) more rest e is = cc
first (list items) more rest e is = cc
first (map_of pairs) more rest e is = cc

some : (t : Tree) (more : List YamlEvent) → events_of t ++ more ≡ first_event t ∷ drop 1 (events_of t ++ more)
some (scalar text) more = refl
some (list items) more = refl
some (map_of pairs) more = refl

within_some : (events : List YamlEvent) (at : ℕ) (e : YamlEvent) (rest : List YamlEvent) → drop at events ≡ e ∷ rest → at < length events
within_some [] zero e rest is = absurd (cc)
within_some [] (suc at) e rest is = absurd (cc)
within_some (x ∷ xs) zero e rest is = omega arith
within_some (x ∷ xs) (suc at) e rest is = omega (arith, within_some xs at e rest is)

pub node_within : (events : List YamlEvent) (at : ℕ) → IsNode events at → at < length events
node_within events at node =
    within_some events at (first_event (tree_at events at)) (drop 1 (events_of (tree_at events at) ++ node.more)) (node.is ∙ some (tree_at events at) node.more)

pub begins : (events : List YamlEvent) (at : ℕ) (e : YamlEvent) → IsNode events at → Some e ≡ slice_get events at → e ≡ first_event (tree_at events at)
begins events at e node is =
    let here : e ≡ get_or events at e = sym (get_or_from_slice_get events at e e (sym is)) in
    first (tree_at events at) node.more (drop (at + 1) events) e
    (ap (λ x. x ∷ drop (at + 1) events) here ∙ sym (drop_more events at e (node_within events at node)) ∙ node.is)

pub list_begins : (t : Tree) → first_event t ≡ event.BeginList → is_list t ≡ true
list_begins (list items) is = refl
list_begins (scalar text) is = absurd (cc)
list_begins (map_of pairs) is = absurd (cc)

-- The nodes that are found.

pub no_items : (t : Tree) → is_list t ≡ false → [] ≡ items_of t
no_items (scalar text) test = refl
no_items (map_of pairs) test = refl
no_items (list items) test = absurd (false≢true (sym test))

pub no_fields : (t : Tree) → is_map t ≡ false → [] ≡ fields_of t
no_fields (scalar text) test = refl
no_fields (list items) test = refl
no_fields (map_of pairs) test = absurd (false≢true (sym test))

either : (b c : Bool) → b ≡ true → (b || c) ≡ true
either b c e = rw e refl

or_else : (b c : Bool) → c ≡ true → (b || c) ≡ true
or_else true c e = refl
or_else false c e = e

pub items_are : (events : List YamlEvent) (at : ℕ) (places : List ℕ) → IsNode events at → is_list (tree_at events at) ≡ true → places ≡ nodes_from 0 (at + 1) (drop (at + 1) events) → map (tree_at events) places ≡ items_of (tree_at events at)
items_are events at places node test is = ap (map (tree_at events)) is ∙ items_found events at node test

pub fields_are : (events : List YamlEvent) (at : ℕ) (places : List ℕ) → IsNode events at → is_map (tree_at events at) ≡ true → places ≡ nodes_from 0 (at + 1) (drop (at + 1) events) → map (field_at events) places ≡ fields_of (tree_at events at)
fields_are events at places node test is = ap (map (field_at events)) is ∙ fields_found events at node test

pub list_nodes : (events : List YamlEvent) (at : ℕ) (places : List ℕ) → IsNode events at → is_list (tree_at events at) ≡ true → places ≡ nodes_from 0 (at + 1) (drop (at + 1) events) → All (IsNode events) places
list_nodes events at places node test is = rw is (nodes_found events at node (either (is_list (tree_at events at)) (is_map (tree_at events at)) test))

pub map_nodes : (events : List YamlEvent) (at : ℕ) (places : List ℕ) → IsNode events at → is_map (tree_at events at) ≡ true → places ≡ nodes_from 0 (at + 1) (drop (at + 1) events) → All (IsNode events) places
map_nodes events at places node test is = rw is (nodes_found events at node (or_else (is_list (tree_at events at)) (is_map (tree_at events at)) test))

pub ruleset found = (node_within, items_are, fields_are, list_nodes, map_nodes, no_items, no_fields)

-- The value under a key.

pub key_there : (events : List YamlEvent) (at : ℕ) (e : YamlEvent) → slice_get events at ≡ Some e → key_of e ≡ key_in (drop at events)
key_there [] at e is = absurd (cc)
key_there (x ∷ xs) zero e is = let same : x ≡ e = cc in sym (ap key_of same)
key_there (x ∷ xs) (suc at) e is = key_there xs at e is

pub no_key : (events : List YamlEvent) (at : ℕ) → slice_get events at ≡ None → ◌≡◌ {A = List ℕ} [] (key_in (drop at events))
no_key [] zero is = refl
no_key [] (suc at) is = refl
no_key (x ∷ xs) zero is = absurd (cc)
no_key (x ∷ xs) (suc at) is = no_key xs at is

pub ruleset keys = (key_there, no_key)

-- no value stood under the key among the fields below a place
pub record IsLooking (events : List YamlEvent) (key : List ℕ) (fields : List ℕ) (at : ℕ) : Type 0 where
  pub same : value_of key (map (field_at events) (drop at fields)) ≡ value_of key (map (field_at events) fields)

pub look_starts : (events : List YamlEvent) (key : List ℕ) (fields : List ℕ) → IsLooking events key fields 0
look_starts events key fields = record { same = refl }

field_here : (events : List YamlEvent) (fields : List ℕ) (at place : ℕ) → at < length fields → place ≡ get_or fields at 0 → map (field_at events) (drop at fields) ≡ field_at events place ∷ map (field_at events) (drop (at + 1) fields)
field_here events fields at place within is = ap (map (field_at events)) (drop_more fields at 0 within ∙ ap (λ (p : ℕ). p ∷ drop (at + 1) fields) (sym is))

value_here : (key : List ℕ) (field : KeyedNode) (others : List KeyedNode) → bytes_eq field.key key ≡ true → value_of key (field ∷ others) ≡ Some field.value
unfolding value_of
value_here key field others same = rw same refl

value_later : (key : List ℕ) (field : KeyedNode) (others : List KeyedNode) → bytes_eq field.key key ≡ false → value_of key (field ∷ others) ≡ value_of key others
unfolding value_of
value_later key field others other = rw other refl

pub look_goes_on : (events : List YamlEvent) (key : List ℕ) (fields : List ℕ) (at place : ℕ) → IsLooking events key fields at → at < length fields → place ≡ get_or fields at 0
    → bytes_eq (key_in (drop (place - 1) events)) key ≡ false → IsLooking events key fields (at + 1)
look_goes_on events key fields at place looking within is other = record {
  same = sym (ap (value_of key) (field_here events fields at place within is) ∙ value_later key (field_at events place) (map (field_at events) (drop (at + 1) fields)) other) ∙ looking.same;
}

pub look_finds : (events : List YamlEvent) (key : List ℕ) (fields : List ℕ) (at place : ℕ) → IsLooking events key fields at → at < length fields → place ≡ get_or fields at 0
    → bytes_eq (key_in (drop (place - 1) events)) key ≡ true → Some (tree_at events place) ≡ value_of key (map (field_at events) fields)
look_finds events key fields at place looking within is same =
    sym (ap (value_of key) (field_here events fields at place within is) ∙ value_here key (field_at events place) (map (field_at events) (drop (at + 1) fields)) same) ∙ looking.same

pub look_ends : (events : List YamlEvent) (key : List ℕ) (fields : List ℕ) (at : ℕ) → IsLooking events key fields at → length fields ≤ at → None ≡ value_of key (map (field_at events) fields)
unfolding value_of
look_ends events key fields at looking past = sym (ap (λ places. value_of key (map (field_at events) places)) (drop_all at fields past)) ∙ looking.same

pub ruleset values = (look_starts, look_goes_on, look_finds, look_ends)
