-- Parents and children among strings in order.
use Rattle.std.proofs.Common.{◌≡◌, ◌≢◌, ℕ, zero, suc, ◌+◌, ◌<◌, ◌≤◌, ◌⊎◌, Bool, true, false, not, cond, ◌&&◌, List, [], ◌∷◌, ◌++◌, length, take, set, get_or, replicate, refl, sym, ◌∙◌, ap, subst, inl, inr, arith, append-nil}
use Rattle.std.specs.List.{filter, list_any, AllByRecursion}
use Rattle.std.proofs.lemmas.Bool.{cases_Bool, cases_order, cases_eq, and_from, and_left, and_parts, not-true, false_from_ne_true, true≢false}
use Rattle.std.proofs.lemmas.List.{take_all, get_or-set_same, get_or-set_other, length-set, map_push, get_or-replicate, length-replicate}
use Rattle.std.proofs.lemmas.List.Elements.{filter_more}
use Rattle.export_trie.specs.Strings.{begins, is_above}
use Rattle.export_trie.specs.Trie.{is_child, children}
use Rattle.export_trie.specs.Held.{IsParent, at_places, HoldsChildren}
use Rattle.list_lemmas.proofs.Members.{In, all_in, any_true, any_from_in}
use Rattle.export_trie.proofs.Strings.{begins_self, begins_shorter, above_parts, above_from, Below, below_irrefl, below_asym, above_below, between_begins, Rising}
use Rattle.export_trie.proofs.Building.{shorter_front, all_append}

-- ---- places

pub in_get : {X : Type 0} (xs : List X) (i : ℕ) (d : X) → i < length xs → In (get_or xs i d) xs
in_get [] i d h = absurd (omega arith)
in_get (x ∷ xs) zero d h = inl refl
in_get (x ∷ xs) (suc i) d h = inr (in_get xs i d (omega arith))

pub get_in : {X : Type 0} (xs : List X) (x d : X) → In x xs → (i : ℕ) × (i < length xs) × (get_or xs i d ≡ x)
get_in [] x d h = absurd h
get_in (y ∷ ys) x d (inl e) = (0, omega arith, e)
get_in (y ∷ ys) x d (inr h) = let rest = get_in ys x d h in (suc rest.0, omega (arith, rest.1), rest.2)

pub rising_at : (nodes : List (List ℕ)) (i j : ℕ) → Rising nodes → i < j → j < length nodes → Below (get_or nodes i []) (get_or nodes j [])
rising_at [] i j rise p q = absurd (omega arith)
rising_at (node ∷ nodes) i zero rise p q = absurd (omega arith)
rising_at (node ∷ nodes) zero (suc j) rise p q = all_in (Below node) nodes (get_or nodes j []) rise.0 (in_get nodes j [] (omega arith))
rising_at (node ∷ nodes) (suc i) (suc j) rise p q = rising_at nodes i j rise.1 (omega arith) (omega arith)

-- a string that stands before another has the lesser place
pub place_below : (nodes : List (List ℕ)) (i j : ℕ) → Rising nodes → i < length nodes → j < length nodes → Below (get_or nodes i []) (get_or nodes j []) → i < j
place_below nodes i j rise p q less =
    elim (cases_order i j) [
      | inl same ↦ absurd (below_irrefl (get_or nodes j []) (subst (λ (n : ℕ). Below (get_or nodes n []) (get_or nodes j [])) same less))
      | inr apart ↦ elim apart [
        | inl before ↦ before
        | inr past ↦ absurd (below_asym (get_or nodes i []) (get_or nodes j []) less (rising_at nodes j i rise past p))
      ]
    ]

below_nothing : (a : List ℕ) → Below a [] → ⊥
below_nothing [] h = h
below_nothing (x ∷ a) h = h

pub root_zero : (nodes : List (List ℕ)) → Rising nodes → In [] nodes → get_or nodes 0 [] ≡ []
root_zero [] rise h = refl
root_zero (node ∷ nodes) rise (inl e) = e
root_zero (node ∷ nodes) rise (inr h) = absurd (below_nothing node (all_in (Below node) nodes [] rise.0 h))

-- ---- the search for a parent

-- what the search keeps: no node after `above` and before this one begins it
pub record Seeks (nodes : List (List ℕ)) (place above : ℕ) : Type 0 where
  pub before : above < place
  pub last : (other : ℕ) → other < place → begins (get_or nodes other []) (get_or nodes place []) ≡ true → other ≤ above

pub seeks_some : (nodes : List (List ℕ)) (place above : ℕ) → Rising nodes → In [] nodes → begins (get_or nodes above []) (get_or nodes place []) ≡ false → 0 < above
seeks_some nodes place zero rise root away = absurd (true≢false (sym (rw (root_zero nodes rise root) refl) ∙ away))
seeks_some nodes place (suc above) rise root away = omega arith

pub seeks_more : (nodes : List (List ℕ)) (place above parent : ℕ) → Rising nodes → place < length nodes → Seeks nodes place above → begins (get_or nodes above []) (get_or nodes place []) ≡ false → IsParent nodes above parent → Seeks nodes place parent
seeks_more nodes place above parent rise within seeks away is = record {
  before = omega (arith, seeks.before, is.before);
  last = λ other low front. by other low front (cases_order other above);
}
  where
    by : (other : ℕ) → other < place → begins (get_or nodes other []) (get_or nodes place []) ≡ true → (other ≡ above) ⊎ ((other < above) ⊎ (above < other)) → other ≤ parent
    by other low front (inl same) = absurd (true≢false (sym (subst (λ (n : ℕ). begins (get_or nodes n []) (get_or nodes place []) ≡ true) same front) ∙ away))
    by other low front (inr (inl before)) =
        is.last other before
        (between_begins (get_or nodes other []) (get_or nodes other []) (get_or nodes above []) (get_or nodes place []) (begins_self (get_or nodes other [])) front
        (rising_at nodes other above rise before (omega (arith, seeks.before))) (rising_at nodes above place rise seeks.before within))
    by other low front (inr (inr past)) = absurd (omega (arith, seeks.last other low front))

pub seeks_found : (nodes : List (List ℕ)) (place above : ℕ) → Seeks nodes place above → begins (get_or nodes above []) (get_or nodes place []) ≡ true → IsParent nodes place above
seeks_found nodes place above seeks front = record { before = seeks.before; begin = front; last = seeks.last }

-- ---- a node is a child of its parent alone

begun_short : (a b : List ℕ) → begins a b ≡ true → Below a b → length a < length b
begun_short a b front less = shorter_front a b b front (begins_self b) less

pub child_of_parent : (nodes : List (List ℕ)) (place parent : ℕ) → Rising nodes → place < length nodes → IsParent nodes place parent → is_child nodes (get_or nodes parent []) (get_or nodes place []) ≡ true
child_of_parent nodes place parent rise within is =
    let less : Below (get_or nodes parent []) (get_or nodes place []) = rising_at nodes parent place rise is.before within in
    let above : is_above (get_or nodes parent []) (get_or nodes place []) ≡ true = above_from _ _ is.begin (begun_short _ _ is.begin less) in
    and_from _ _ above (ap not (false_from_ne_true _ (λ between. none (any_true _ nodes between))))
  where
    none : (other : List ℕ) × In other nodes × ((is_above (get_or nodes parent []) other && is_above other (get_or nodes place [])) ≡ true) → ⊥
    none (other, h, both) =
        let parts = and_parts' both in
        let at = get_in nodes other [] h in
        let over = above_parts (get_or nodes parent []) other parts.0 in
        let under = above_parts other (get_or nodes place []) parts.1 in
        let low : at.0 < place = place_below nodes at.0 place rise at.1 within (subst (λ (t : List ℕ). Below t (get_or nodes place [])) (sym at.2) (above_below other (get_or nodes place []) under.0 under.1)) in
        let high : parent < at.0 = place_below nodes parent at.0 rise (omega (arith, is.before)) at.1 (subst (Below (get_or nodes parent [])) (sym at.2) (above_below (get_or nodes parent []) other over.0 over.1)) in
        omega (arith, is.last at.0 low (subst (λ (t : List ℕ). begins t (get_or nodes place []) ≡ true) (sym at.2) under.0))
      where
        and_parts' : {a b : Bool} → (a && b) ≡ true → (a ≡ true) × (b ≡ true)
        and_parts' {a = a} {b = b} e = and_parts a b e

pub child_of_none : (nodes : List (List ℕ)) (place parent other : ℕ) → Rising nodes → place < length nodes → other < length nodes → IsParent nodes place parent → other ≢ parent → is_child nodes (get_or nodes other []) (get_or nodes place []) ≡ false
child_of_none nodes place parent other rise within here is apart =
    elim (cases_Bool (is_above (get_or nodes other []) (get_or nodes place []))) [
      | inr away ↦ and_left _ _ away
      | inl above ↦ false_from_ne_true _ (λ child. true≢false (sym (between above) ∙ not-true _ (and_parts _ _ child).1))
    ]
  where
    between : is_above (get_or nodes other []) (get_or nodes place []) ≡ true → list_any (λ middle. is_above (get_or nodes other []) middle && is_above middle (get_or nodes place [])) nodes ≡ true
    between above =
        let parts = above_parts (get_or nodes other []) (get_or nodes place []) above in
        let low : other < place = place_below nodes other place rise here within (above_below _ _ parts.0 parts.1) in
        let below : other < parent = omega (arith, is.last other low parts.0) in
        let parted : Below (get_or nodes other []) (get_or nodes parent []) = rising_at nodes other parent rise below (omega (arith, is.before)) in
        let shorter : length (get_or nodes other []) < length (get_or nodes parent []) = shorter_front _ _ (get_or nodes place []) parts.0 is.begin parted in
        let upper : is_above (get_or nodes other []) (get_or nodes parent []) ≡ true = above_from _ _ (begins_shorter _ _ (get_or nodes place []) parts.0 is.begin (omega arith)) shorter in
        let less : Below (get_or nodes parent []) (get_or nodes place []) = rising_at nodes parent place rise is.before within in
        let lower : is_above (get_or nodes parent []) (get_or nodes place []) ≡ true = above_from _ _ is.begin (begun_short _ _ is.begin less) in
        any_from_in _ nodes (get_or nodes parent []) (in_get nodes parent [] (omega (arith, is.before))) (and_from _ _ upper lower)

-- ---- the rows of children

-- the children below a place, for each node
pub record HoldsBelow (nodes rows : List (List ℕ)) (high : ℕ) : Type 0 where
  pub long : length rows ≡ length nodes
  pub each : (place : ℕ) → place < length nodes → at_places nodes (get_or rows place []) ≡ filter (is_child nodes (get_or nodes place [])) (take high nodes)
  pub within : (place : ℕ) → place < length nodes → AllByRecursion (λ child. child < length nodes) (get_or rows place [])

root_alone : (nodes : List (List ℕ)) (node : List ℕ) → Rising nodes → In [] nodes → [] ≡ filter (is_child nodes node) (take 1 nodes)
root_alone [] node rise h = refl
root_alone (first ∷ nodes) node rise h =
    let root : first ≡ [] = root_zero (first ∷ nodes) rise h in
    let away : is_child (first ∷ nodes) node first ≡ false =
    rw root (and_left (is_above node []) _ (false_from_ne_true (is_above node []) (λ above. omega (arith, (above_parts node [] above).1)))) in
    rw away refl

pub holds_none : (nodes rows : List (List ℕ)) → Rising nodes → In [] nodes → rows ≡ replicate (length nodes) [] → HoldsBelow nodes rows 1
holds_none nodes rows rise h e = record {
  long = ap length e ∙ length-replicate (length nodes) [];
  each = λ place low. rw (empty place low) (root_alone nodes (get_or nodes place []) rise h);
  within = λ place low. rw (empty place low) tt;
}
  where
    empty : (place : ℕ) → place < length nodes → get_or rows place [] ≡ []
    empty place low = ap (λ (rs : List (List ℕ)). get_or rs place []) e ∙ get_or-replicate (length nodes) place [] [] low

pub holds_more : (nodes rows new : List (List ℕ)) (place parent : ℕ) → Rising nodes → place < length nodes → IsParent nodes place parent → HoldsBelow nodes rows place → new ≡ set rows parent (get_or rows parent [] ++ place ∷ []) → HoldsBelow nodes new (place + 1)
holds_more nodes rows new place parent rise within is holds e = record {
  long = ap length e ∙ (length-set rows parent _ ∙ holds.long);
  each = λ node low. by node low (cases_eq node parent);
  within = λ node low. fit node low (cases_eq node parent);
}
  where
    parent_within : parent < length rows
    parent_within = omega (arith, is.before, holds.long)

    more : (node : ℕ) → filter (is_child nodes (get_or nodes node [])) (take (place + 1) nodes) ≡ filter (is_child nodes (get_or nodes node [])) (take place nodes) ++ cond (is_child nodes (get_or nodes node []) (get_or nodes place [])) (get_or nodes place [] ∷ []) []
    more node = filter_more (is_child nodes (get_or nodes node [])) nodes place [] within

    same : (node : ℕ) → node ≡ parent → get_or new node [] ≡ get_or rows parent [] ++ place ∷ []
    same node i = ap (λ (rs : List (List ℕ)). get_or rs node []) e ∙ (ap (λ (n : ℕ). get_or (set rows parent (get_or rows parent [] ++ place ∷ [])) n []) i ∙ get_or-set_same rows parent _ [] parent_within)

    other : (node : ℕ) → (node ≡ parent → ⊥) → get_or new node [] ≡ get_or rows node []
    other node apart = ap (λ (rs : List (List ℕ)). get_or rs node []) e ∙ get_or-set_other rows parent node _ [] apart

    by : (node : ℕ) → node < length nodes → (node ≡ parent) ⊎ (node ≡ parent → ⊥) → at_places nodes (get_or new node []) ≡ filter (is_child nodes (get_or nodes node [])) (take (place + 1) nodes)
    by node low (inl i) =
        rw (same node i, more node, i, child_of_parent nodes place parent rise within is)
        (map_push (λ (p : ℕ). get_or nodes p []) (get_or rows parent []) place ∙ ap (λ (ts : List (List ℕ)). ts ++ get_or nodes place [] ∷ []) (holds.each parent (omega (arith, is.before))))
    by node low (inr apart) =
        rw (other node apart, more node, child_of_none nodes place parent node rise within low is apart, append-nil (filter (is_child nodes (get_or nodes node [])) (take place nodes)))
        (holds.each node low)

    fit : (node : ℕ) → node < length nodes → (node ≡ parent) ⊎ (node ≡ parent → ⊥) → AllByRecursion (λ child. child < length nodes) (get_or new node [])
    fit node low (inl i) = rw (same node i) (all_append _ (get_or rows parent []) (place ∷ []) (holds.within parent (omega (arith, is.before))) (within, tt))
    fit node low (inr apart) = rw (other node apart) (holds.within node low)

pub holds_all : (nodes rows : List (List ℕ)) (high : ℕ) → length nodes ≤ high → HoldsBelow nodes rows high → HoldsChildren nodes rows
unfolding children
holds_all nodes rows high enough holds = record {
  long = holds.long;
  each = λ place low. holds.each place low ∙ ap (filter (is_child nodes (get_or nodes place []))) (take_all high nodes enough);
  within = holds.within;
}
