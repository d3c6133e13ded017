-- A walk is through one tree, and what is read of a document is the walk through a tree so far.
use Rattle.std.proofs.Common.{◌≡◌, ℕ, List, [], ◌∷◌, ◌++◌, Bool, true, false, refl, sym, ap, ◌∙◌, subst, append_assoc, append-nil}
use Rattle.yaml_text.specs.declared.file.YamlEvent.{YamlEvent}
use Rattle.yaml_text.specs.declared.file.YamlEvent.TheVariants as event
use Rattle.tbd_yaml.specs.Tree.{Tree, scalar, list, map, Trees, no_trees, tree, Pairs, no_pairs, pair, events_of, tree_events, pair_events, IsWalk}

-- No node begins with an end.

no_end : (b : Tree) (x y : List YamlEvent) → event.End ∷ x ≡ events_of b ++ y → ⊥
no_end (scalar text) x y e = cc
no_end (list trees) x y e = cc
no_end (map pairs) x y e = cc

mutual
  pub same_tree : (a b : Tree) (x y : List YamlEvent) → events_of a ++ x ≡ events_of b ++ y → (a ≡ b) × (x ≡ y)
  same_tree (scalar s) (scalar t) x y e = let texts : s ≡ t = cc in let rests : x ≡ y = cc in (ap scalar texts, rests)
  same_tree (scalar s) (list bs) x y e = absurd (cc)
  same_tree (scalar s) (map bs) x y e = absurd (cc)
  same_tree (list xs) (scalar t) x y e = absurd (cc)
  same_tree (list xs) (list bs) x y e =
      let inner : tree_events xs ++ x ≡ tree_events bs ++ y = cc in
      let both = same_trees xs bs x y inner in (ap list both.0, both.1)
  same_tree (list xs) (map bs) x y e = absurd (cc)
  same_tree (map xs) (scalar t) x y e = absurd (cc)
  same_tree (map xs) (list bs) x y e = absurd (cc)
  same_tree (map xs) (map bs) x y e =
      let inner : pair_events xs ++ x ≡ pair_events bs ++ y = cc in
      let both = same_pairs xs bs x y inner in (ap map both.0, both.1)

  same_trees : (xs bs : Trees) (x y : List YamlEvent) → tree_events xs ++ x ≡ tree_events bs ++ y → (xs ≡ bs) × (x ≡ y)
  same_trees no_trees no_trees x y e = let rests : x ≡ y = cc in (refl, rests)
  same_trees no_trees (tree b bs) x y e = absurd (no_end b x (tree_events bs ++ y) (e ∙ append_assoc (events_of b) (tree_events bs) y))
  same_trees (tree a xs) no_trees x y e = absurd (no_end a y (tree_events xs ++ x) (sym e ∙ append_assoc (events_of a) (tree_events xs) x))
  same_trees (tree a xs) (tree b bs) x y e =
      let first = same_tree a b (tree_events xs ++ x) (tree_events bs ++ y) (sym (append_assoc (events_of a) (tree_events xs) x) ∙ e ∙ append_assoc (events_of b) (tree_events bs) y) in
      let others = same_trees xs bs x y first.1 in (ap (λ t. tree t xs) first.0 ∙ ap (tree b) others.0, others.1)

  same_pairs : (xs bs : Pairs) (x y : List YamlEvent) → pair_events xs ++ x ≡ pair_events bs ++ y → (xs ≡ bs) × (x ≡ y)
  same_pairs no_pairs no_pairs x y e = let rests : x ≡ y = cc in (refl, rests)
  same_pairs no_pairs (pair l b bs) x y e = absurd (cc)
  same_pairs (pair k a xs) no_pairs x y e = absurd (cc)
  same_pairs (pair k a xs) (pair l b bs) x y e =
      let keys : k ≡ l = cc in
      let inner : (events_of a ++ pair_events xs) ++ x ≡ (events_of b ++ pair_events bs) ++ y = cc in
      let first = same_tree a b (pair_events xs ++ x) (pair_events bs ++ y) (sym (append_assoc (events_of a) (pair_events xs) x) ∙ inner ∙ append_assoc (events_of b) (pair_events bs) y) in
      let others = same_pairs xs bs x y first.1 in
      (ap (λ k. pair k a xs) keys ∙ ap (λ t. pair l t xs) first.0 ∙ ap (pair l b) others.0, others.1)

pub one_tree : (a b : Tree) → events_of a ≡ events_of b → a ≡ b
one_tree a b e = (same_tree a b [] [] (ap (λ events. events ++ []) e)).0

-- What may follow the steps of a walk so far: in each open block, the innermost first, what is left of it; before that
-- a node, where one is awaited. A block is a map or a list.
abbrev Rest : List Bool → List YamlEvent → Type 0
Rest [] tail = tail ≡ []
Rest (true ∷ maps) tail = (pairs : Pairs) × (more : List YamlEvent) × (tail ≡ pair_events pairs ++ more) × Rest maps more
Rest (false ∷ maps) tail = (trees : Trees) × (more : List YamlEvent) × (tail ≡ tree_events trees ++ more) × Rest maps more

abbrev Next : Bool → List Bool → List YamlEvent → Type 0
Next true maps tail = (node : Tree) × (more : List YamlEvent) × (tail ≡ events_of node ++ more) × Rest maps more
Next false maps tail = Rest maps tail

-- the events, with anything that may follow them, are the walk through a tree
pub record IsPartial (awaits : Bool) (maps : List Bool) (events : List YamlEvent) : Type 0 where
  pub whole : (tail : List YamlEvent) → Next awaits maps tail → IsWalk (events ++ tail)

pub partial_new : IsPartial true [] []
partial_new = record { whole = λ tail next. (next.0, next.2 ∙ ap (λ more. events_of next.0 ++ more) next.3 ∙ append-nil (events_of next.0)) }

joined : (events : List YamlEvent) (step : YamlEvent) (tail : List YamlEvent) → IsWalk (events ++ step ∷ tail) → IsWalk ((events ++ step ∷ []) ++ tail)
joined events step tail walk = subst IsWalk (sym (append_assoc events (step ∷ []) tail)) walk

pub partial_scalar : (maps : List Bool) (events : List YamlEvent) (text : List ℕ) → IsPartial true maps events → IsPartial false maps (events ++ event.Scalar text ∷ [])
partial_scalar maps events text partial = record { whole = λ tail rest. joined events (event.Scalar text) tail (partial.whole (event.Scalar text ∷ tail) (scalar text, tail, refl, rest)) }

pub partial_list : (maps : List Bool) (events : List YamlEvent) → IsPartial true maps events → IsPartial false (false ∷ maps) (events ++ event.BeginList ∷ [])
partial_list maps events partial = record {
  whole = λ tail rest. joined events event.BeginList tail (partial.whole (event.BeginList ∷ tail) (list rest.0, rest.1, ap (λ tail. event.BeginList ∷ tail) rest.2, rest.3));
}

pub partial_map : (maps : List Bool) (events : List YamlEvent) → IsPartial true maps events → IsPartial false (true ∷ maps) (events ++ event.BeginMap ∷ [])
partial_map maps events partial = record {
  whole = λ tail rest. joined events event.BeginMap tail (partial.whole (event.BeginMap ∷ tail) (map rest.0, rest.1, ap (λ tail. event.BeginMap ∷ tail) rest.2, rest.3));
}

pub partial_key : (maps : List Bool) (events : List YamlEvent) (key : List ℕ) → IsPartial false (true ∷ maps) events → IsPartial true (true ∷ maps) (events ++ event.Key key ∷ [])
partial_key maps events key partial = record {
  whole = λ tail next.
      let rest = next.3 in
      joined events (event.Key key) tail (partial.whole (event.Key key ∷ tail) (
        pair key next.0 rest.0,
        rest.1,
        ap (λ tail. event.Key key ∷ tail) (next.2 ∙ ap (λ more. events_of next.0 ++ more) rest.2 ∙ sym (append_assoc (events_of next.0) (pair_events rest.0) rest.1)),
        rest.3,
      ));
}

pub partial_item : (maps : List Bool) (events : List YamlEvent) → IsPartial false (false ∷ maps) events → IsPartial true (false ∷ maps) events
partial_item maps events partial = record {
  whole = λ tail next.
      let rest = next.3 in
      partial.whole tail (
        tree next.0 rest.0,
        rest.1,
        next.2 ∙ ap (λ more. events_of next.0 ++ more) rest.2 ∙ sym (append_assoc (events_of next.0) (tree_events rest.0) rest.1),
        rest.3,
      );
}

pub partial_end : (is_map : Bool) (maps : List Bool) (events : List YamlEvent) → IsPartial false (is_map ∷ maps) events → IsPartial false maps (events ++ event.End ∷ [])
partial_end true maps events partial = record { whole = λ tail rest. joined events event.End tail (partial.whole (event.End ∷ tail) (no_pairs, tail, refl, rest)) }
partial_end false maps events partial = record { whole = λ tail rest. joined events event.End tail (partial.whole (event.End ∷ tail) (no_trees, tail, refl, rest)) }
