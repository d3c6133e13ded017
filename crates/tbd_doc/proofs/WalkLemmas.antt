-- A walk is put together to its tree, and the nodes of a block stand at the places that a search for them finds.
use Rattle.std.proofs.Common.{◌≡◌, ℕ, suc, ◌+◌, ◌-◌, List, [], ◌∷◌, ◌++◌, true, false, length, drop, map as each, refl, sym, ap, ◌∙◌, subst, append_assoc, append-nil, arith, length-append, eqb}
use Rattle.std.specs.List.{AllByRecursion}
use Rattle.std.specs.Prelude.{All, ◌||◌}
use Rattle.std.proofs.Math.Seq.{drop-append_seam}
use Rattle.std.proofs.lemmas.Bool.{false≢true}
use Rattle.std.proofs.lemmas.Grind.{common_steps}
use Rattle.std.proofs.lemmas.List.{drop-drop}
use Rattle.std.proofs.lemmas.List.Elements.{All-from_recursion}
use Rattle.yaml_text.specs.declared.file.YamlEvent.{YamlEvent}
use Rattle.yaml_text.specs.declared.file.YamlEvent.TheVariants as event
use Rattle.tbd_yaml.specs.Tree.{Tree, scalar, list, map, Trees, no_trees, tree, Pairs, no_pairs, pair, events_of, tree_events, pair_events}
use Rattle.tbd_doc.specs.Nodes.{KeyedNode, Opened, with_node, with_event, blocks_of, first_node, tree_of, items_in, fields_in, items_of, fields_of}
use Rattle.tbd_doc.specs.Forms.{is_list, is_map}
use Rattle.tbd_doc.specs.inner.Places.{tree_at, IsNode, field_at, key_in, nodes_from}

-- An event, and what stands behind it.

mutual
  node_blocks : (t : Tree) (more : List YamlEvent) → blocks_of (events_of t ++ more) ≡ with_node t (blocks_of more)
  node_blocks (scalar text) more = refl
  node_blocks (list items) more = ap (with_event event.BeginList) (tree_blocks items more)
  node_blocks (map pairs) more = ap (with_event event.BeginMap) (pair_blocks pairs more)

  tree_blocks : (items : Trees) (more : List YamlEvent) → blocks_of (tree_events items ++ more) ≡ record { items = items; pairs = no_pairs } ∷ blocks_of more
  tree_blocks no_trees more = refl
  tree_blocks (tree t items) more =
      ap blocks_of (append_assoc (events_of t) (tree_events items) more) ∙ node_blocks t (tree_events items ++ more)
      ∙ ap (with_node t) (tree_blocks items more)

  pair_blocks : (pairs : Pairs) (more : List YamlEvent) → blocks_of (pair_events pairs ++ more) ≡ record { items = no_trees; pairs = pairs } ∷ blocks_of more
  pair_blocks no_pairs more = refl
  pair_blocks (pair key t pairs) more =
      ap (λ steps. with_event (event.Key key) (blocks_of steps)) (append_assoc (events_of t) (pair_events pairs) more)
      ∙ ap (with_event (event.Key key)) (node_blocks t (pair_events pairs ++ more) ∙ ap (with_node t) (pair_blocks pairs more))

first_with : (t : Tree) (blocks : List Opened) → first_node (with_node t blocks) ≡ t
first_with t [] = refl
first_with t (block ∷ blocks) = refl

pub tree_of_walk : (t : Tree) (more : List YamlEvent) → tree_of (events_of t ++ more) ≡ t
unfolding tree_of
tree_of_walk t more = ap first_node (node_blocks t more) ∙ first_with t (blocks_of more)

pub tree_of_events : (t : Tree) → tree_of (events_of t) ≡ t
tree_of_events t = ap tree_of (sym (append-nil (events_of t))) ∙ tree_of_walk t []

-- The nodes of a block.

deeper : (depth : ℕ) → eqb (depth + 1) 0 ≡ false
deeper depth = grind (arith, common_steps)

moved : (depth at size : ℕ) (more : List YamlEvent) → nodes_from depth (at + 1 + size) more ≡ nodes_from depth (at + suc size) more
moved depth at size more = let e : at + 1 + size ≡ at + suc size = omega arith in ap (λ (a : ℕ). nodes_from depth a more) e

back : (depth : ℕ) → depth + 1 - 1 ≡ depth
back depth = omega arith

joined : (at : ℕ) (front rest : List YamlEvent) → at + length front + length rest ≡ at + length (front ++ rest)
joined at front rest = let e = length-append front rest in omega (arith, e)

mutual
  past_node : (t : Tree) (more : List YamlEvent) (depth at : ℕ) → nodes_from (depth + 1) at (events_of t ++ more) ≡ nodes_from (depth + 1) (at + length (events_of t)) more
  past_node (scalar text) more depth at = rw (deeper depth) refl
  past_node (list items) more depth at =
      rw (deeper depth) (past_trees items more (depth + 1) (at + 1) ∙ moved (depth + 1) at (length (tree_events items)) more)
  past_node (map pairs) more depth at =
      rw (deeper depth) (past_pairs pairs more (depth + 1) (at + 1) ∙ moved (depth + 1) at (length (pair_events pairs)) more)

  past_trees : (items : Trees) (more : List YamlEvent) (depth at : ℕ) → nodes_from (depth + 1) at (tree_events items ++ more) ≡ nodes_from depth (at + length (tree_events items)) more
  past_trees no_trees more depth at = rw (deeper depth) (ap (λ (d : ℕ). nodes_from d (at + 1) more) (back depth))
  past_trees (tree t items) more depth at =
      ap (nodes_from (depth + 1) at) (append_assoc (events_of t) (tree_events items) more)
      ∙ past_node t (tree_events items ++ more) depth at
      ∙ past_trees items more depth (at + length (events_of t))
      ∙ ap (λ (a : ℕ). nodes_from depth a more) (joined at (events_of t) (tree_events items))

  past_pairs : (pairs : Pairs) (more : List YamlEvent) (depth at : ℕ) → nodes_from (depth + 1) at (pair_events pairs ++ more) ≡ nodes_from depth (at + length (pair_events pairs)) more
  past_pairs no_pairs more depth at = rw (deeper depth) (ap (λ (d : ℕ). nodes_from d (at + 1) more) (back depth))
  past_pairs (pair key t pairs) more depth at =
      rw (deeper depth) (
      ap (nodes_from (depth + 1) (at + 1)) (append_assoc (events_of t) (pair_events pairs) more)
      ∙ past_node t (pair_events pairs ++ more) depth (at + 1)
      ∙ past_pairs pairs more depth (at + 1 + length (events_of t))
      ∙ ap (λ (a : ℕ). nodes_from depth a more) (joined (at + 1) (events_of t) (pair_events pairs))
      ∙ moved depth at (length (events_of t ++ pair_events pairs)) more
      )

first_found : (t : Tree) (more : List YamlEvent) (at : ℕ) → nodes_from 0 at (events_of t ++ more) ≡ at ∷ nodes_from 0 (at + length (events_of t)) more
first_found (scalar text) more at = refl
first_found (list items) more at = ap (λ places. at ∷ places) (past_trees items more 0 (at + 1) ∙ moved 0 at (length (tree_events items)) more)
first_found (map pairs) more at = ap (λ places. at ∷ places) (past_pairs pairs more 0 (at + 1) ∙ moved 0 at (length (pair_events pairs)) more)

drop_from : (events : List YamlEvent) (at size : ℕ) → drop (at + size) events ≡ drop size (drop at events)
drop_from events at size = sym (drop-drop size at events)

-- what stands behind a node
behind : (events front more : List YamlEvent) (at : ℕ) → drop at events ≡ front ++ more → drop (at + length front) events ≡ more
behind events front more at is = drop_from events at (length front) ∙ ap (drop (length front)) is ∙ drop-append_seam front more

pub tree_here : (events : List YamlEvent) (at : ℕ) (t : Tree) (more : List YamlEvent) → drop at events ≡ events_of t ++ more → tree_at events at ≡ t
tree_here events at t more is = ap tree_of is ∙ tree_of_walk t more

pub node_here : (events : List YamlEvent) (at : ℕ) (t : Tree) (more : List YamlEvent) → drop at events ≡ events_of t ++ more → IsNode events at
node_here events at t more is = record { more = more; is = is ∙ ap (λ t. events_of t ++ more) (sym (tree_here events at t more is)) }

-- the nodes of a list are its items
trees_found : (items : Trees) (events more : List YamlEvent) (at : ℕ) → drop at events ≡ tree_events items ++ more → each (tree_at events) (nodes_from 0 at (tree_events items ++ more)) ≡ items_in items
trees_found no_trees events more at is = refl
trees_found (tree t items) events more at is =
    let here : drop at events ≡ events_of t ++ (tree_events items ++ more) = is ∙ append_assoc (events_of t) (tree_events items) more in
    let next : drop (at + length (events_of t)) events ≡ tree_events items ++ more = behind events (events_of t) (tree_events items ++ more) at here in
    ap (λ steps. each (tree_at events) (nodes_from 0 at steps)) (append_assoc (events_of t) (tree_events items) more)
    ∙ ap (each (tree_at events)) (first_found t (tree_events items ++ more) at)
    ∙ ap (λ node. node ∷ each (tree_at events) (nodes_from 0 (at + length (events_of t)) (tree_events items ++ more))) (tree_here events at t (tree_events items ++ more) here)
    ∙ ap (λ rest. t ∷ rest) (trees_found items events more (at + length (events_of t)) next)

trees_are_nodes : (items : Trees) (events more : List YamlEvent) (at : ℕ) → drop at events ≡ tree_events items ++ more → AllByRecursion (IsNode events) (nodes_from 0 at (tree_events items ++ more))
trees_are_nodes no_trees events more at is = tt
trees_are_nodes (tree t items) events more at is =
    let here : drop at events ≡ events_of t ++ (tree_events items ++ more) = is ∙ append_assoc (events_of t) (tree_events items) more in
    let next : drop (at + length (events_of t)) events ≡ tree_events items ++ more = behind events (events_of t) (tree_events items ++ more) at here in
    let places : nodes_from 0 at ((events_of t ++ tree_events items) ++ more) ≡ at ∷ nodes_from 0 (at + length (events_of t)) (tree_events items ++ more) =
    ap (nodes_from 0 at) (append_assoc (events_of t) (tree_events items) more) ∙ first_found t (tree_events items ++ more) at in
    subst (AllByRecursion (IsNode events)) (sym places)
    (node_here events at t (tree_events items ++ more) here, trees_are_nodes items events more (at + length (events_of t)) next)

abbrev a_field : List ℕ → Tree → KeyedNode
a_field key value = record { key = key; value = value }

-- the nodes of a map are its values, each behind its key
pairs_found : (pairs : Pairs) (events more : List YamlEvent) (at : ℕ) → drop at events ≡ pair_events pairs ++ more → each (field_at events) (nodes_from 0 at (pair_events pairs ++ more)) ≡ fields_in pairs
pairs_found no_pairs events more at is = refl
pairs_found (pair key t pairs) events more at is =
    let steps : List YamlEvent = pair_events pairs ++ more in
    let whole : drop at events ≡ event.Key key ∷ (events_of t ++ steps) = is ∙ ap (λ rest. event.Key key ∷ rest) (append_assoc (events_of t) (pair_events pairs) more) in
    let here : drop (at + 1) events ≡ events_of t ++ steps = behind events (event.Key key ∷ []) (events_of t ++ steps) at whole in
    let next : drop (at + 1 + length (events_of t)) events ≡ steps = behind events (events_of t) steps (at + 1) here in
    let before : at + 1 - 1 ≡ at = back at in
    let named : key_in (drop (at + 1 - 1) events) ≡ key = ap (λ (a : ℕ). key_in (drop a events)) before ∙ ap key_in whole in
    let field : field_at events (at + 1) ≡ a_field key t = field_same (key_in (drop (at + 1 - 1) events)) key (tree_at events (at + 1)) t named (tree_here events (at + 1) t steps here) in
    ap (λ rest. each (field_at events) (nodes_from 0 (at + 1) rest)) (append_assoc (events_of t) (pair_events pairs) more)
    ∙ ap (each (field_at events)) (first_found t steps (at + 1))
    ∙ ap (λ f. f ∷ each (field_at events) (nodes_from 0 (at + 1 + length (events_of t)) steps)) field
    ∙ ap (λ rest. a_field key t ∷ rest) (pairs_found pairs events more (at + 1 + length (events_of t)) next)
  where
    field_same : (k l : List ℕ) (s t : Tree) → k ≡ l → s ≡ t → a_field k s ≡ a_field l t
    field_same k l s t e f = rw (e, f) refl

pairs_are_nodes : (pairs : Pairs) (events more : List YamlEvent) (at : ℕ) → drop at events ≡ pair_events pairs ++ more → AllByRecursion (IsNode events) (nodes_from 0 at (pair_events pairs ++ more))
pairs_are_nodes no_pairs events more at is = tt
pairs_are_nodes (pair key t pairs) events more at is =
    let steps : List YamlEvent = pair_events pairs ++ more in
    let whole : drop at events ≡ event.Key key ∷ (events_of t ++ steps) = is ∙ ap (λ rest. event.Key key ∷ rest) (append_assoc (events_of t) (pair_events pairs) more) in
    let here : drop (at + 1) events ≡ events_of t ++ steps = behind events (event.Key key ∷ []) (events_of t ++ steps) at whole in
    let next : drop (at + 1 + length (events_of t)) events ≡ steps = behind events (events_of t) steps (at + 1) here in
    let places : nodes_from 0 (at + 1) ((events_of t ++ pair_events pairs) ++ more) ≡ (at + 1) ∷ nodes_from 0 (at + 1 + length (events_of t)) steps =
    ap (nodes_from 0 (at + 1)) (append_assoc (events_of t) (pair_events pairs) more) ∙ first_found t steps (at + 1) in
    subst (AllByRecursion (IsNode events)) (sym places)
    (node_here events (at + 1) t steps here, pairs_are_nodes pairs events more (at + 1 + length (events_of t)) next)

-- The nodes of the block that begins at a place.

pub items_found : (events : List YamlEvent) (at : ℕ) → IsNode events at → is_list (tree_at events at) ≡ true
    → each (tree_at events) (nodes_from 0 (at + 1) (drop (at + 1) events)) ≡ items_of (tree_at events at)
items_found events at node test = found (tree_at events at) node.more node.is test
  where
    found : (t : Tree) (more : List YamlEvent) → drop at events ≡ events_of t ++ more → is_list t ≡ true → each (tree_at events) (nodes_from 0 (at + 1) (drop (at + 1) events)) ≡ items_of t
    found (scalar text) more is test = absurd (false≢true test)
    found (map pairs) more is test = absurd (false≢true test)
    found (list items) more is test =
        let next : drop (at + 1) events ≡ tree_events items ++ more = behind events (event.BeginList ∷ []) (tree_events items ++ more) at is in
        ap (λ steps. each (tree_at events) (nodes_from 0 (at + 1) steps)) next ∙ trees_found items events more (at + 1) next

pub fields_found : (events : List YamlEvent) (at : ℕ) → IsNode events at → is_map (tree_at events at) ≡ true
    → each (field_at events) (nodes_from 0 (at + 1) (drop (at + 1) events)) ≡ fields_of (tree_at events at)
fields_found events at node test = found (tree_at events at) node.more node.is test
  where
    found : (t : Tree) (more : List YamlEvent) → drop at events ≡ events_of t ++ more → is_map t ≡ true → each (field_at events) (nodes_from 0 (at + 1) (drop (at + 1) events)) ≡ fields_of t
    found (scalar text) more is test = absurd (false≢true test)
    found (list items) more is test = absurd (false≢true test)
    found (map pairs) more is test =
        let next : drop (at + 1) events ≡ pair_events pairs ++ more = behind events (event.BeginMap ∷ []) (pair_events pairs ++ more) at is in
        ap (λ steps. each (field_at events) (nodes_from 0 (at + 1) steps)) next ∙ pairs_found pairs events more (at + 1) next

pub nodes_found : (events : List YamlEvent) (at : ℕ) → IsNode events at → (is_list (tree_at events at) || is_map (tree_at events at)) ≡ true
    → All (IsNode events) (nodes_from 0 (at + 1) (drop (at + 1) events))
nodes_found events at node test = All-from_recursion (IsNode events) (nodes_from 0 (at + 1) (drop (at + 1) events)) (found (tree_at events at) node.more node.is test)
  where
    found : (t : Tree) (more : List YamlEvent) → drop at events ≡ events_of t ++ more → (is_list t || is_map t) ≡ true → AllByRecursion (IsNode events) (nodes_from 0 (at + 1) (drop (at + 1) events))
    found (scalar text) more is test = absurd (false≢true test)
    found (list items) more is test =
        let next : drop (at + 1) events ≡ tree_events items ++ more = behind events (event.BeginList ∷ []) (tree_events items ++ more) at is in
        rw next (trees_are_nodes items events more (at + 1) next)
    found (map pairs) more is test =
        let next : drop (at + 1) events ≡ pair_events pairs ++ more = behind events (event.BeginMap ∷ []) (pair_events pairs ++ more) at is in
        rw next (pairs_are_nodes pairs events more (at + 1) next)
