-- The bytes that the code writes are the trie of the exports.
use Rattle.std.proofs.Common.{◌≡◌, ◌≢◌, ℕ, zero, suc, ◌+◌, ◌-◌, ◌%◌, ◌^◌, ◌<◌, ◌≤◌, true, false, cond, eqb, List, [], ◌∷◌, ◌++◌, length, take, drop, map, get_or, replicate, refl, sym, ◌∙◌, ap, subst, inl, inr, arith, Option, Some, None, Contains, All, Vec, Global, IsPermutation, slice_get, length-append}
use Rattle.std.specs.List.{flat_map, AllByRecursion, AllPairs}
use Rattle.std.specs.List.Sorted.{IsSortedBy}
use Rattle.std.specs.Ordering.{nat_cmp, is_lt}
use Rattle.std.specs.Cmp.Lexicographic.{slice_cmp}
use Rattle.std.specs.Option.{option_map}
use Rattle.std.specs.Str.{bytes_eq}
use Rattle.std.specs.Borrow.{Bor}
use Rattle.std.proofs.lemmas.Bool.{eq-eqb, ne_eqb, true≢false, false_from_ne_true}
use Rattle.std.proofs.lemmas.List.{length-map, length-drop, length-take-le, get_or-map, ext_get_or, take_all, drop_more}
use Rattle.std.proofs.lemmas.List.Elements.{All-contains}
use Rattle.std.proofs.lemmas.List.Sorted.{IsPermutation-map, IsPermutation-sym, Contains-permutation}
use Rattle.std.proofs.lemmas.Slice.Eq.{bytes_eq-Decides}
use Rattle.mo_bytes.specs.Uleb.{uleb}
use Rattle.export_trie.specs.declared.export.ExportAddress.{ExportAddress}
use Rattle.export_trie.specs.declared.nodes.Node.{Node}
use Rattle.export_trie.specs.Lookup.{lookup}
use Rattle.export_trie.specs.Trie.{names, export_at, answer, IsNode, AreNodes, children, data_of, child_bytes, node_bytes, starts, Agrees, padded, IsTrie}
use Rattle.export_trie.specs.Held.{AreBytes, held, held_names, rows_of, text, texts, name_of, Fits, AreHeld, at_places, HoldsChildren, node_at}
use Rattle.export_trie.specs.Sizes.{IsBelow, AreBelow, AreLeast, export_held, IsSmall, child_len, children_len, node_len, node_lens, next_starts, held_child, row_bytes, held_node, held_bytes, sized}
use Rattle.list_lemmas.proofs.Members.{In, in_from_Contains, Contains_from_in, all_in, in_map, from_map, find_some, find_none}
use Rattle.export_trie.proofs.Strings.{Below, below_irrefl, Rising, rising_from_sorted}
use Rattle.export_trie.proofs.Reading.{text_read, length-texts}
use Rattle.export_trie.proofs.Building.{length-text}
use Rattle.export_trie.proofs.Parents.{in_get, get_in}
use Rattle.export_trie.proofs.Written.{order_rises, rows_below, few_kids}
use Rattle.export_trie.proofs.Answers.{answers}

-- ---- exports by their names

none_some : {X : Type 0} (x : X) → None ≡ Some x → ⊥
none_some x e = cc

some_same : {X : Type 0} (x y : X) → Some x ≡ Some y → x ≡ y
some_same x y e = cc

same_export : (exports : List ExportAddress) (a b : ExportAddress) → Rising (names exports) → In a exports → In b exports → a.name ≡ b.name → a ≡ b
same_export [] a b rise h i e = absurd h
same_export (x ∷ exports) a b rise (inl p) (inl q) e = sym p ∙ q
same_export (x ∷ exports) a b rise (inl p) (inr i) e =
    absurd (below_irrefl b.name (subst (λ (t : List ℕ). Below t b.name) (ap (λ (s : ExportAddress). s.name) p ∙ e) (all_in (Below x.name) (names exports) b.name rise.0 (in_map (λ (s : ExportAddress). s.name) exports b i))))
same_export (x ∷ exports) a b rise (inr h) (inl q) e =
    absurd (below_irrefl a.name (subst (λ (t : List ℕ). Below t a.name) (ap (λ (s : ExportAddress). s.name) q ∙ sym e) (all_in (Below x.name) (names exports) a.name rise.0 (in_map (λ (s : ExportAddress). s.name) exports a h))))
same_export (x ∷ exports) a b rise (inr h) (inr i) e = same_export exports a b rise.1 h i e

get_name : (exports : List ExportAddress) (i : ℕ) → slice_get (names exports) i ≡ option_map (λ export. export.name) (slice_get exports i)
get_name [] i = refl
get_name (x ∷ exports) zero = refl
get_name (x ∷ exports) (suc i) = get_name exports i

get_in_list : (exports : List ExportAddress) (i : ℕ) (e : ExportAddress) → slice_get exports i ≡ Some e → In e exports × (get_or (names exports) i [] ≡ e.name)
get_in_list [] i e is = absurd (none_some e is)
get_in_list (x ∷ exports) zero e is = let same : x ≡ e = some_same x e is in (inl same, ap (λ (s : ExportAddress). s.name) same)
get_in_list (x ∷ exports) (suc i) e is = let rest = get_in_list exports i e is in (inr rest.0, rest.1)

name_is : (exports : List ExportAddress) (t : List ℕ) (e : ExportAddress) → export_at exports t ≡ Some e → In e exports × (e.name ≡ t)
name_is exports t e is = let found = find_some (λ (export : ExportAddress). bytes_eq export.name t) exports e is in (found.0, (bytes_eq-Decides e.name t).0 found.1)

option_none : {X Y : Type 0} (f : X → Y) (o : Option X) (y : Y) → o ≡ None → option_map f o ≡ Some y → ⊥
option_none f None y e h = none_some y h
option_none f (Some x) y e h = none_some x (sym e)

-- the export that the code finds for a node
pub export_same : (exports : List ExportAddress) (nodes : List Node) (k : ℕ) (d : Node) → Rising (names exports) → AreHeld (names exports) nodes → k < length nodes → export_held exports (get_or nodes k d) ≡ export_at exports (text (names exports) (get_or nodes k d))
unfolding text
export_same exports nodes k d rise held within = by (export_at exports (take node.len (name_of (names exports) node))) refl (slice_get exports node.name) refl
  where
    node : Node
    node = get_or nodes k d

    long : length (take (get_or nodes k d).len (name_of (names exports) (get_or nodes k d))) ≡ (get_or nodes k d).len
    long = length-take-le (get_or nodes k d).len (name_of (names exports) (get_or nodes k d)) (held.fits k d within)

    by : (found : Option ExportAddress) → export_at exports (take (get_or nodes k d).len (name_of (names exports) (get_or nodes k d))) ≡ found → (there : Option ExportAddress) → slice_get exports (get_or nodes k d).name ≡ there → export_held exports (get_or nodes k d) ≡ found
    by None is None at = rw at refl
    by None is (Some e) at =
        let here = get_in_list exports (get_or nodes k d).name e at in
        let away : eqb (length e.name) (get_or nodes k d).len ≡ false = ne_eqb _ _ (λ (whole : length e.name ≡ (get_or nodes k d).len).
        let t : take (get_or nodes k d).len (name_of (names exports) (get_or nodes k d)) ≡ e.name =
        ap (take (get_or nodes k d).len) here.1 ∙ take_all (get_or nodes k d).len e.name (omega arith) in
        true≢false (sym ((bytes_eq-Decides e.name (take (get_or nodes k d).len (name_of (names exports) (get_or nodes k d)))).1 (sym t)) ∙ find_none (λ export. bytes_eq export.name (take (get_or nodes k d).len (name_of (names exports) (get_or nodes k d)))) exports e is here.0)) in
        rw (at, away) refl
    by (Some e) is None at =
        let name = name_is exports _ e is in
        let held' : Contains (names exports) (take (get_or nodes k d).len (name_of (names exports) (get_or nodes k d))) =
        Contains_from_in (names exports) _ (subst (λ (t : List ℕ). In t (names exports)) name.1 (in_map (λ (s : ExportAddress). s.name) exports e name.0)) in
        absurd (option_none (λ export. export.name) (slice_get exports (get_or nodes k d).name) _ at (sym (get_name exports (get_or nodes k d).name) ∙ held.whole k d within held'))
    by (Some e) is (Some other) at =
        let name = name_is exports _ e is in
        let held' : Contains (names exports) (take (get_or nodes k d).len (name_of (names exports) (get_or nodes k d))) =
        Contains_from_in (names exports) _ (subst (λ (t : List ℕ). In t (names exports)) name.1 (in_map (λ (s : ExportAddress). s.name) exports e name.0)) in
        let whole = held.whole k d within held' in
        let here = get_in_list exports (get_or nodes k d).name other at in
        let other_name : other.name ≡ take (get_or nodes k d).len (name_of (names exports) (get_or nodes k d)) =
        some_same _ _ (ap (option_map (λ export. export.name)) (sym at) ∙ (sym (get_name exports (get_or nodes k d).name) ∙ whole)) in
        let bytes : eqb (length other.name) (get_or nodes k d).len ≡ true = eq-eqb _ _ (ap length other_name ∙ long) in
        rw (at, bytes) (ap Some (same_export exports other e rise here.0 name.0 (other_name ∙ sym name.1)))

-- the order of the exports is nothing to their names
pub export_permuted : (exports order : List ExportAddress) (t : List ℕ) → Rising (names order) → IsPermutation exports order → export_at order t ≡ export_at exports t
export_permuted exports order t rise moves = by (export_at order t) refl (export_at exports t) refl
  where
    there : (e : ExportAddress) → In e exports → In e order
    there e h = in_from_Contains order e (Contains-permutation exports order e moves (Contains_from_in exports e h))

    back : (e : ExportAddress) → In e order → In e exports
    back e h = in_from_Contains exports e (Contains-permutation order exports e (IsPermutation-sym exports order moves) (Contains_from_in order e h))

    missed : (list : List ExportAddress) (e : ExportAddress) → export_at list t ≡ None → In e list → e.name ≡ t → ⊥
    missed list e is h same = true≢false (sym ((bytes_eq-Decides e.name t).1 same) ∙ find_none (λ export. bytes_eq export.name t) list e is h)

    by : (a : Option ExportAddress) → export_at order t ≡ a → (b : Option ExportAddress) → export_at exports t ≡ b → a ≡ b
    by None p None q = refl
    by None p (Some e) q = let name = name_is exports t e q in absurd (missed order e p (there e name.0) name.1)
    by (Some e) p None q = let name = name_is order t e p in absurd (missed exports e q (back e name.0) name.1)
    by (Some e) p (Some f) q =
        let first = name_is order t e p in
        let second = name_is exports t f q in
        ap Some (same_export order e f rise first.0 (there f second.0) (first.1 ∙ sym second.1))

pub nodes_permuted : (exports order : List ExportAddress) (nodes : List (List ℕ)) → IsPermutation exports order → AreNodes (names order) nodes → AreNodes (names exports) nodes
nodes_permuted exports order nodes moves all = record {
  rising = all.rising;
  only = λ node h. by (names order) (names exports) back node (all.only node h);
  all = λ node is. all.all node (by (names exports) (names order) there node is);
}
  where
    moved : IsPermutation (names exports) (names order)
    moved = IsPermutation-map (λ (e : ExportAddress). e.name) exports order moves

    there : (t : List ℕ) → Contains (names exports) t → Contains (names order) t
    there t h = Contains-permutation (names exports) (names order) t moved h

    back : (t : List ℕ) → Contains (names order) t → Contains (names exports) t
    back t h = Contains-permutation (names order) (names exports) t (IsPermutation-sym (names exports) (names order) moved) h

    by : (olds news : List (List ℕ)) → ((t : List ℕ) → Contains olds t → Contains news t) → (node : List ℕ) → IsNode olds node → IsNode news node
    by olds news move node (inl e) = inl e
    by olds news move node (inr (a, b, p, q, e)) = inr (a, b, move a p, move b q, e)

-- ---- places by strings

-- the place of a string among some with places
pub place_at : List (List ℕ) → List ℕ → List ℕ → ℕ
place_at [] places node = 0
place_at (first ∷ nodes) [] node = 0
place_at (first ∷ nodes) (place ∷ places) node = cond (bytes_eq first node) place (place_at nodes places node)

pub place_get : (nodes : List (List ℕ)) (places : List ℕ) (k : ℕ) → Rising nodes → length places ≡ length nodes → k < length nodes → place_at nodes places (get_or nodes k []) ≡ get_or places k 0
unfolding place_at
place_get [] places k rise long within = absurd (omega arith)
place_get (first ∷ nodes) [] k rise long within = absurd (omega arith)
place_get (first ∷ nodes) (place ∷ places) zero rise long within = rw ((bytes_eq-Decides first first).1 refl) refl
place_get (first ∷ nodes) (place ∷ places) (suc k) rise long within =
    let other : bytes_eq first (get_or nodes k []) ≡ false =
    false_from_ne_true _ (λ (same : bytes_eq first (get_or nodes k []) ≡ true).
    below_irrefl first (subst (Below first) (sym ((bytes_eq-Decides first (get_or nodes k [])).0 same)) (all_in (Below first) nodes (get_or nodes k []) rise.0 (in_get nodes k [] (omega arith))))) in
    rw other (place_get nodes places k rise.1 (omega arith) (omega arith))

pub map_places : (nodes : List (List ℕ)) (places : List ℕ) → Rising nodes → length places ≡ length nodes → map (place_at nodes places) nodes ≡ places
map_places nodes places rise long =
    ext_get_or 0 (map (place_at nodes places) nodes) places (length-map nodes (place_at nodes places) ∙ sym long)
    (λ k low. let within : k < length nodes = omega (arith, length-map nodes (place_at nodes places)) in
    get_or-map (place_at nodes places) nodes k [] 0 within ∙ place_get nodes places k rise long within)

-- ---- what is left of a list

drop_some : {X : Type 0} (xs : List X) (n : ℕ) (x : X) (rest : List X) → drop n xs ≡ x ∷ rest → n < length xs
drop_some xs n x rest e = omega (arith, length-drop n xs, ap length e)

drop_head : {X : Type 0} (xs : List X) (n : ℕ) (x d : X) (rest : List X) → drop n xs ≡ x ∷ rest → x ≡ get_or xs n d
drop_head xs n x d rest e =
    let within : n < length xs = drop_some xs n x rest e in
    heads x (get_or xs n d) rest (drop (n + 1) xs) (sym e ∙ drop_more xs n d within)
  where
    heads : {X : Type 0} (a b : X) (as' bs' : List X) → a ∷ as' ≡ b ∷ bs' → a ≡ b
    heads a b as' bs' e = cc

drop_tail : {X : Type 0} (xs : List X) (n : ℕ) (x : X) (rest : List X) → drop n xs ≡ x ∷ rest → rest ≡ drop (n + 1) xs
drop_tail xs n x rest e =
    let within : n < length xs = drop_some xs n x rest e in
    tails x (get_or xs n x) rest (drop (n + 1) xs) (sym e ∙ drop_more xs n x within)
  where
    tails : {X : Type 0} (a b : X) (as' bs' : List X) → a ∷ as' ≡ b ∷ bs' → as' ≡ bs'
    tails a b as' bs' e = cc

-- ---- the bytes of a node

-- what the code holds, and what it stands for
pub record IsTree (exports order : List ExportAddress) (nodes : List Node) (rows : List (List ℕ)) : Type 0 where
  pub rise : Rising (names order)
  pub moves : IsPermutation exports order
  pub held : AreHeld (names order) nodes
  pub holds : HoldsChildren (texts (names order) nodes) rows
  pub below : AreBelow nodes rows

module _ (exports order : List ExportAddress) (nodes : List Node) (rows : List (List ℕ)) (tree : IsTree exports order nodes rows) where
  abbrev strings : List (List ℕ)
  strings = names order

  abbrev ps : List (List ℕ)
  ps = texts (names order) nodes

  ps_long : length ps ≡ length nodes
  ps_long = length-texts (names order) nodes

  ps_rise : Rising ps
  ps_rise = rising_from_sorted ps tree.held.all.rising

  -- the places of the nodes are those of their strings
  abbrev SamePlaces : List ℕ → (List ℕ → ℕ) → Type 0
  SamePlaces places place = (k : ℕ) → k < length nodes → get_or places k 0 ≡ place (get_or ps k [])

  node_text : (k : ℕ) → k < length nodes → text strings (get_or nodes k (node_at 0 0)) ≡ get_or ps k []
  node_text k within = sym (text_read strings nodes k (node_at 0 0) within)

  node_fits : (k : ℕ) → k < length nodes → Fits strings (get_or nodes k (node_at 0 0))
  node_fits k within = tree.held.fits k (node_at 0 0) within

  row_text : (places : List ℕ) (place : List ℕ → ℕ) (node : List ℕ) (above : ℕ) (row : List ℕ) → SamePlaces places place → length node ≡ above → AllByRecursion (λ child. child < length nodes) row → row_bytes strings nodes places above row ≡ flat_map (child_bytes place node) (at_places ps row)
  unfolding row_bytes held_child child_bytes
  row_text places place node above [] same long within = refl
  row_text places place node above (child ∷ row) same long within =
      let edge : drop above (text strings (get_or nodes child (node_at 0 0))) ≡ drop (length node) (get_or ps child []) =
      ap (λ (n : ℕ). drop n (text strings (get_or nodes child (node_at 0 0)))) (sym long) ∙ ap (drop (length node)) (node_text child within.0) in
      let first : drop above (text strings (get_or nodes child (node_at 0 0))) ++ 0 ∷ uleb (get_or places child 0) ≡ drop (length node) (get_or ps child []) ++ 0 ∷ uleb (place (get_or ps child [])) =
      rw (edge, same child within.0) refl in
      ap (λ (bs : List ℕ). bs ++ row_bytes strings nodes places above row) first
      ∙ ap (λ (bs : List ℕ). (drop (length node) (get_or ps child []) ++ 0 ∷ uleb (place (get_or ps child []))) ++ bs) (row_text places place node above row same long within.1)

  row_size : (places : List ℕ) (above : ℕ) (row : List ℕ) → AllByRecursion (IsBelow nodes above) row → length (row_bytes strings nodes places above row) ≡ children_len nodes places above row
  unfolding row_bytes held_child children_len child_len
  row_size places above [] below = refl
  row_size places above (child ∷ row) below =
      let first : length (drop above (text strings (get_or nodes child (node_at 0 0))) ++ 0 ∷ uleb (get_or places child 0)) ≡ (get_or nodes child (node_at 0 0)).len - above + (1 + length (uleb (get_or places child 0))) =
      omega (arith, length-append (drop above (text strings (get_or nodes child (node_at 0 0)))) (0 ∷ uleb (get_or places child 0)), length-drop above (text strings (get_or nodes child (node_at 0 0))), length-text strings (get_or nodes child (node_at 0 0)) (node_fits child below.0.0)) in
      length-append (drop above (text strings (get_or nodes child (node_at 0 0))) ++ 0 ∷ uleb (get_or places child 0)) (row_bytes strings nodes places above row)
      ∙ omega (arith, first, row_size places above row below.1)

  node_size : (places : List ℕ) (node : Node) (row : List ℕ) → AllByRecursion (IsBelow nodes node.len) row → length (held_node order nodes places node row) ≡ node_len order nodes places node row
  unfolding held_node node_len
  node_size places node row below =
      omega (arith, length-append (sized (data_of (export_held order node))) (length row ∷ row_bytes strings nodes places node.len row), length-append (uleb (length (data_of (export_held order node)))) (data_of (export_held order node)), row_size places node.len row below)

  node_is : (places : List ℕ) (place : List ℕ → ℕ) (k : ℕ) → SamePlaces places place → k < length nodes → held_node order nodes places (get_or nodes k (node_at 0 0)) (get_or rows k []) ≡ node_bytes exports ps place (get_or ps k [])
  unfolding held_node node_bytes
  node_is places place k same within =
      let inside : k < length ps = omega (arith, ps_long) in
      let export : export_held order (get_or nodes k (node_at 0 0)) ≡ export_at exports (get_or ps k []) =
      export_same order nodes k (node_at 0 0) tree.rise tree.held within ∙ (export_permuted exports order _ tree.rise tree.moves ∙ ap (export_at exports) (node_text k within)) in
      let long : length (get_or ps k []) ≡ (get_or nodes k (node_at 0 0)).len = ap length (sym (node_text k within)) ∙ length-text strings (get_or nodes k (node_at 0 0)) (node_fits k within) in
      let row : at_places ps (get_or rows k []) ≡ children ps (get_or ps k []) = tree.holds.each k inside in
      let count : length (get_or rows k []) ≡ length (children ps (get_or ps k [])) = sym (length-map (get_or rows k []) (λ (place : ℕ). get_or ps place [])) ∙ ap length row in
      let within' : AllByRecursion (λ child. child < length nodes) (get_or rows k []) = subst (λ (n : ℕ). AllByRecursion (λ child. child < n) (get_or rows k [])) ps_long (tree.holds.within k inside) in
      let kids : row_bytes strings nodes places (get_or nodes k (node_at 0 0)).len (get_or rows k []) ≡ flat_map (child_bytes place (get_or ps k [])) (children ps (get_or ps k [])) =
      row_text places place (get_or ps k []) (get_or nodes k (node_at 0 0)).len (get_or rows k []) same long within' ∙ ap (flat_map (child_bytes place (get_or ps k []))) row in
      rw (export, count, kids) refl

  -- ---- all nodes

  -- the nodes from a place on
  sizes_are : (places : List ℕ) (place : List ℕ → ℕ) (rest : List Node) (row_list : List (List ℕ)) (from : ℕ) → SamePlaces places place → rest ≡ drop from nodes → row_list ≡ drop from rows → length row_list ≡ length rest → node_lens order nodes places rest row_list ≡ map (λ node. length (node_bytes exports ps place node)) (texts strings rest)
  unfolding node_lens
  sizes_are places place [] row_list from same n r long = refl
  sizes_are places place (node ∷ rest) [] from same n r long = absurd (omega arith)
  sizes_are places place (node ∷ rest) (row ∷ row_list) from same n r long =
      let within : from < length nodes = drop_some nodes from node rest (sym n) in
      let here : node ≡ get_or nodes from (node_at 0 0) = drop_head nodes from node (node_at 0 0) rest (sym n) in
      let row' : row ≡ get_or rows from [] = drop_head rows from row [] row_list (sym r) in
      let size : node_len order nodes places node row ≡ length (node_bytes exports ps place (text strings node)) =
      rw (here, row') (sym (node_size places (get_or nodes from (node_at 0 0)) (get_or rows from []) (tree.below from within)) ∙ (ap length (node_is places place from same within) ∙ ap (λ (t : List ℕ). length (node_bytes exports ps place t)) (sym (node_text from within)))) in
      let later = sizes_are places place rest row_list (from + 1) same (drop_tail nodes from node rest (sym n)) (drop_tail rows from row row_list (sym r)) (omega arith) in
      rw (size, later) refl

  bytes_are : (places : List ℕ) (place : List ℕ → ℕ) (rest : List Node) (row_list : List (List ℕ)) (from : ℕ) → SamePlaces places place → rest ≡ drop from nodes → row_list ≡ drop from rows → length row_list ≡ length rest → held_bytes order nodes places rest row_list ≡ flat_map (node_bytes exports ps place) (texts strings rest)
  unfolding held_bytes
  bytes_are places place [] row_list from same n r long = refl
  bytes_are places place (node ∷ rest) [] from same n r long = absurd (omega arith)
  bytes_are places place (node ∷ rest) (row ∷ row_list) from same n r long =
      let within : from < length nodes = drop_some nodes from node rest (sym n) in
      let here : node ≡ get_or nodes from (node_at 0 0) = drop_head nodes from node (node_at 0 0) rest (sym n) in
      let row' : row ≡ get_or rows from [] = drop_head rows from row [] row_list (sym r) in
      let bytes : held_node order nodes places node row ≡ node_bytes exports ps place (text strings node) =
      rw (here, row') (node_is places place from same within ∙ ap (node_bytes exports ps place) (sym (node_text from within))) in
      let later = bytes_are places place rest row_list (from + 1) same (drop_tail nodes from node rest (sym n)) (drop_tail rows from row row_list (sym r)) (omega arith) in
      rw (bytes, later) refl

  places_at : (places : List ℕ) → length places ≡ length nodes → SamePlaces places (place_at ps places)
  places_at places long k within = sym (place_get ps places k ps_rise (long ∙ sym ps_long) (omega (arith, ps_long)))

  rows_long : length rows ≡ length nodes
  rows_long = tree.holds.long ∙ ps_long

  sizes_all : (places : List ℕ) (place : List ℕ → ℕ) → SamePlaces places place → next_starts order nodes rows places ≡ starts 0 (map (λ node. length (node_bytes exports ps place node)) ps)
  sizes_all places place same = ap (starts 0) (sizes_are places place nodes rows 0 same refl refl rows_long)

  bytes_all' : (places : List ℕ) (place : List ℕ → ℕ) → SamePlaces places place → held_bytes order nodes places nodes rows ≡ flat_map (node_bytes exports ps place) ps
  bytes_all' places place same = bytes_are places place nodes rows 0 same refl refl rows_long

  agrees : (places : List ℕ) → AreLeast order nodes rows places → Agrees exports ps (place_at ps places)
  agrees places are =
      map_places ps places ps_rise (are.long ∙ sym ps_long) ∙ (are.agree ∙ sizes_all places (place_at ps places) (places_at places are.long))

  least : (places : List ℕ) → AreLeast order nodes rows places → (other : List ℕ → ℕ) → Agrees exports ps other → (node : List ℕ) → Contains ps node → place_at ps places node ≤ other node
  least places are other agree node h =
      let at = get_in ps node [] (in_from_Contains ps node h) in
      let long : length (map other ps) ≡ length nodes = length-map ps other ∙ ps_long in
      let same : SamePlaces (map other ps) other = λ k within. get_or-map other ps k [] 0 (omega (arith, ps_long)) in
      let next : map other ps ≡ next_starts order nodes rows (map other ps) = agree ∙ sym (sizes_all (map other ps) other same) in
      let few : get_or places at.0 0 ≤ get_or (map other ps) at.0 0 = are.least (map other ps) long next at.0 in
      let here : place_at ps places (get_or ps at.0 []) ≡ get_or places at.0 0 = place_get ps places at.0 ps_rise (are.long ∙ sym ps_long) at.1 in
      let there : get_or (map other ps) at.0 0 ≡ other (get_or ps at.0 []) = get_or-map other ps at.0 [] 0 at.1 in
      subst (λ (t : List ℕ). place_at ps places t ≤ other t) at.2 (omega arith)

  pub trie_is : (places bytes : List ℕ) → AreLeast order nodes rows places → bytes ≡ padded (held_bytes order nodes places nodes rows) → IsTrie exports bytes
  trie_is places bytes are e = record {
    nodes = ps;
    all = nodes_permuted exports order ps tree.moves tree.held.all;
    place = place_at ps places;
    agree = agrees places are;
    least = least places are;
    spelled = e ∙ ap padded (bytes_all' places (place_at ps places) (places_at places are.long));
  }

  pub trie_answers : (places bytes : List ℕ) → AreLeast order nodes rows places → bytes ≡ padded (held_bytes order nodes places nodes rows) → All (λ node. IsSmall (export_held order node)) nodes → All (λ export. Contains export.name 0 → ⊥) exports → length bytes < 2 ^ 64 → (name : List ℕ) → lookup bytes name ≡ answer exports name
  trie_answers places bytes are e small clean short =
      answers exports ps (place_at ps places) bytes (record {
        all = nodes_permuted exports order ps tree.moves tree.held.all;
        agree = agrees places are;
        tail = replicate ((8 - length (held_bytes order nodes places nodes rows) % 8) % 8) 0;
        spelled = e ∙ ap (λ (bs : List ℕ). bs ++ replicate ((8 - length (held_bytes order nodes places nodes rows) % 8) % 8) 0) (bytes_all' places (place_at ps places) (places_at places are.long));
        clean = λ export h nul. All-contains (λ export. Contains export.name 0 → ⊥) exports export clean (Contains_from_in exports export h) (Contains_from_in export.name 0 nul);
        small = λ node h export is. small_at node h export is;
        short = short;
      })
    where
      small_at : (node : List ℕ) → In node ps → (export : ExportAddress) → export_at exports node ≡ Some export → (export.flags < 2 ^ 64) × (export.address < 2 ^ 64)
      small_at node h export is =
          let at = get_in ps node [] h in
          let within : at.0 < length nodes = omega (arith, at.1, ps_long) in
          let same : export_held order (get_or nodes at.0 (node_at 0 0)) ≡ Some export =
          export_same order nodes at.0 (node_at 0 0) tree.rise tree.held within
          ∙ (export_permuted exports order _ tree.rise tree.moves ∙ (ap (export_at exports) (node_text at.0 within ∙ at.2) ∙ is)) in
          subst IsSmall same (small at.0 (node_at 0 0) within)

pub is_tree : (exports order : List ExportAddress) (nodes : List Node) (rows : List (List ℕ)) → AllPairs (λ (a : ExportAddress) (b : ExportAddress). a.name ≢ b.name) exports → IsPermutation exports order → IsSortedBy (λ (a : ExportAddress) (b : ExportAddress). is_lt (slice_cmp nat_cmp a.name b.name)) order → AreHeld (names order) nodes → HoldsChildren (texts (names order) nodes) rows → IsTree exports order nodes rows
is_tree exports order nodes rows distinct moves sorted held holds = record {
  rise = rising_from_sorted (names order) (order_rises exports order distinct moves sorted);
  moves = moves;
  held = held;
  holds = holds;
  below = rows_below (names order) nodes rows held holds;
}

-- no row of children is longer than a byte can say
pub rows_few : (exports order : List ExportAddress) (nodes : List Node) (rows : List (List ℕ)) (k : ℕ) → IsTree exports order nodes rows → All (λ export. Contains export.name 0 → ⊥) exports → All AreBytes (names order) → k < length rows → length (get_or rows k []) < 256
rows_few exports order nodes rows k tree clean bytes within =
    let inside : k < length (texts (names order) nodes) = omega (arith, tree.holds.long) in
    let count : length (get_or rows k []) ≡ length (children (texts (names order) nodes) (get_or (texts (names order) nodes) k [])) =
    sym (length-map (get_or rows k []) (λ (place : ℕ). get_or (texts (names order) nodes) place [])) ∙ ap length (tree.holds.each k inside) in
    let few = few_kids (names order) (texts (names order) nodes) tree.held.all (get_or (texts (names order) nodes) k []) (λ name h. (no_nul name h, All-contains AreBytes (names order) name bytes h)) in
    omega arith
  where
    no_nul : (name : List ℕ) → Contains (names order) name → In 0 name → ⊥
    no_nul name h nul =
        let found = from_map (λ (e : ExportAddress). e.name) order name (in_from_Contains (names order) name h) in
        let here : Contains exports found.0 = Contains-permutation order exports found.0 (IsPermutation-sym exports order tree.moves) (Contains_from_in order found.0 found.1) in
        All-contains (λ export. Contains export.name 0 → ⊥) exports found.0 clean here (Contains_from_in found.0.name 0 (subst (λ (t : List ℕ). In 0 t) (sym found.2) nul))

-- the same of the slices that the code passes on
pub tree_from : (exports sliced : List ExportAddress) (order order' : List (Bor ExportAddress)) (nodes nodes' : List Node) (rows rows' : List (Vec ℕ Global)) → sliced ≡ exports → order ≡ order' → nodes ≡ nodes' → rows ≡ rows' → AllPairs (λ (a : ExportAddress) (b : ExportAddress). a.name ≢ b.name) exports → IsPermutation sliced (held order') → IsSortedBy (λ (a : ExportAddress) (b : ExportAddress). is_lt (slice_cmp nat_cmp a.name b.name)) (held order') → AreHeld (held_names order) nodes' → HoldsChildren (texts (held_names order) nodes) (rows_of rows') → IsTree exports (held order) nodes (rows_of rows)
tree_from exports sliced order order' nodes nodes' rows rows' s o n r distinct moves sorted are holds =
    is_tree exports (held order) nodes (rows_of rows) distinct
    (subst (λ (refs : List (Bor ExportAddress)). IsPermutation exports (held refs)) (sym o) (subst (λ (es : List ExportAddress). IsPermutation es (held order')) s moves))
    (subst (λ (refs : List (Bor ExportAddress)). IsSortedBy (λ (a : ExportAddress) (b : ExportAddress). is_lt (slice_cmp nat_cmp a.name b.name)) (held refs)) (sym o) sorted)
    (subst (AreHeld (held_names order)) (sym n) are)
    (subst (λ (rs : List (Vec ℕ Global)). HoldsChildren (texts (held_names order) nodes) (rows_of rs)) (sym r) holds)
