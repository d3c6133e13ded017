-- A look-up in the trie of some exports finds each of them, and nothing else.
use Rattle.std.proofs.Common.{◌≡◌, ℕ, zero, suc, ◌+◌, ◌-◌, ◌^◌, ◌<◌, ◌≤◌, ◌⊎◌, true, false, not, ◌&&◌, eqb, List, [], ◌∷◌, ◌++◌, length, drop, refl, sym, ◌∙◌, ap, subst, inl, inr, arith, Option, Some, None, map, Contains, slice_get, length-append, append_assoc, append-nil}
use Rattle.std.specs.List.{find, flat_map, list_any, AllByRecursion}
use Rattle.std.specs.Option.{option_map_or}
use Rattle.std.proofs.lemmas.Bool.{cases_Bool, and_parts, and_from, lt-ltb, ne_eqb, false≢true, true≢false}
use Rattle.std.proofs.lemmas.List.{drop_at, drop-drop, drop-append-le, length-drop}
use Rattle.std.proofs.Math.Seq.{drop-append-add}
use Rattle.std.proofs.lemmas.Slice.Eq.{bytes_eq-Decides}
use Rattle.mo_bytes.specs.Uleb.{uleb, uleb_at}
use Rattle.mo_bytes.proofs.Ulebs.{uleb_stands, length-uleb_pos}
use Rattle.export_trie.specs.declared.export.ExportAddress.{ExportAddress}
use Rattle.export_trie.specs.declared.lookup.Found.TheVariants.{At, Absent}
use Rattle.export_trie.specs.declared.lookup.Step.{Step}
use Rattle.export_trie.specs.declared.lookup.Step.TheVariants.{Ends, Goes}
use Rattle.export_trie.specs.Strings.{begins, is_above, before_nul}
use Rattle.export_trie.specs.Lookup.{data_at, child_at, step, walk, lookup}
use Rattle.export_trie.specs.Trie.{names, export_at, answer, IsNode, AreNodes, is_child, children, data_of, child_bytes, node_bytes, starts, Agrees}
use Rattle.export_trie.proofs.Walks.{begins_split, walk_more, walk_ends, child_found, child_more}
use Rattle.list_lemmas.proofs.Members.{In, in_from_Contains, Contains_from_in, all_in, all_from_in, in_map, from_map, in_filter, from_filter, find_some, find_none, any_true}
use Rattle.export_trie.proofs.Strings.{begins_self, begins_append, begins_trans, begins_short, begins_edge, begins_parts, above_parts, above_from, common_self, common_left, Below, below_irrefl, below_asym, above_below, Rising, rising_from_sorted}

-- ---- edges hold no NUL

nul_front : (front text : List ℕ) → begins front text ≡ true → In 0 front → In 0 text
nul_front [] text h nul = absurd nul
nul_front (x ∷ front) [] h nul = absurd (false≢true h)
nul_front (x ∷ front) (y ∷ text) h (inl e) = inl (sym (begins_parts x y front text h).0 ∙ e)
nul_front (x ∷ front) (y ∷ text) h (inr nul) = inr (nul_front front text (begins_parts x y front text h).1 nul)

nul_drop : (n : ℕ) (text : List ℕ) → In 0 (drop n text) → In 0 text
nul_drop zero text nul = nul
nul_drop (suc n) [] nul = nul
nul_drop (suc n) (x ∷ text) nul = inr (nul_drop n text nul)

edge_is : (edge rest : List ℕ) → (In 0 edge → ⊥) → before_nul (edge ++ 0 ∷ rest) ≡ Some edge
edge_is [] rest clean = refl
edge_is (x ∷ edge) rest clean =
    let some : eqb x 0 ≡ false = ne_eqb x 0 (λ e. clean (inl e)) in
    rw (some, edge_is edge rest (λ h. clean (inr h))) refl

-- ---- the places of the nodes

-- the places from `at` on agree with the sizes of what is spelled
abbrev AgreesFrom : (List ℕ → List ℕ) → (List ℕ → ℕ) → ℕ → List (List ℕ) → Type 0
AgreesFrom spell place at nodes = map place nodes ≡ starts at (map (λ node. length (spell node)) nodes)

-- where the bytes of a node stand
record Stands (bytes : List ℕ) (at place : ℕ) (here : List ℕ) : Type 0 where
  rest : List ℕ
  from : at ≤ place
  read : drop (place - at) bytes ≡ here ++ rest

heads_agree : (a b : ℕ) (rest others : List ℕ) → a ∷ rest ≡ b ∷ others → (a ≡ b) × (rest ≡ others)
heads_agree a b rest others e = ((cc), (cc))

node_stands : (spell : List ℕ → List ℕ) (place : List ℕ → ℕ) (at : ℕ) (nodes : List (List ℕ)) (node : List ℕ) → AgreesFrom spell place at nodes → In node nodes → Stands (flat_map spell nodes) at (place node) (spell node)
node_stands spell place at [] node e h = absurd h
node_stands spell place at (first ∷ nodes) node e (inl same) =
    let parts = heads_agree (place first) at (map place nodes) _ e in
    let here : place node ≡ at = rw (← same) parts.0 in
    let none : place node - at ≡ 0 = omega arith in
    record { rest = flat_map spell nodes; from = omega arith; read = rw (none, same) refl }
node_stands spell place at (first ∷ nodes) node e (inr h) =
    let parts = heads_agree (place first) at (map place nodes) _ e in
    let later = node_stands spell place (at + length (spell first)) nodes node parts.1 h in
    record {
      rest = later.rest;
      from = omega (arith, later.from);
      read =
          let split : place node - at ≡ length (spell first) + (place node - (at + length (spell first))) = omega (arith, later.from) in
          rw (split) (sym (drop-drop (place node - (at + length (spell first))) (length (spell first)) (spell first ++ flat_map spell nodes))
          ∙ ap (drop (place node - (at + length (spell first)))) (drop_at (spell first) (flat_map spell nodes) (length (spell first)) refl) ∙ later.read);
    }

-- nodes in order have rising places
later_place : (spell : List ℕ → List ℕ) (place : List ℕ → ℕ) (at : ℕ) (nodes : List (List ℕ)) (a b : List ℕ) → ((node : List ℕ) → 0 < length (spell node)) → AgreesFrom spell place at nodes → Rising nodes → In a nodes → In b nodes → Below a b → place a < place b
later_place spell place at [] a b some e rise p q less = absurd p
later_place spell place at (first ∷ nodes) a b some e rise p q less =
    let parts = heads_agree (place first) at (map place nodes) _ e in
    ordered p q parts.0 parts.1 (λ h i. later_place spell place (at + length (spell first)) nodes a b some parts.1 rise.1 h i less)
  where
    ordered : (first ≡ a) ⊎ In a nodes → (first ≡ b) ⊎ In b nodes → place first ≡ at → AgreesFrom spell place (at + length (spell first)) nodes → (In a nodes → In b nodes → place a < place b) → place a < place b
    ordered (inl p) (inl q) here more rest = absurd (below_irrefl b (subst (λ (text : List ℕ). Below text b) (sym p ∙ q) less))
    ordered (inl p) (inr q) here more rest =
        let later = node_stands spell place (at + length (spell first)) nodes b more q in
        let start : place a ≡ at = rw (← p) here in
        omega (arith, later.from, some first)
    ordered (inr p) (inl q) here more rest =
        absurd (below_asym a first (subst (Below a) (sym q) less) (all_in (Below first) nodes a rise.0 p))
    ordered (inr p) (inr q) here more rest = rest p q

-- ---- a node's children

-- a child as the walk needs it
record IsKid (place : List ℕ → ℕ) (node : List ℕ) (kid : List ℕ) : Type 0 where
  below : begins node kid ≡ true
  clean : In 0 kid → ⊥
  later : place node < place kid
  small : place kid < 2 ^ 64

-- the step to a child, if one was found
abbrev chosen : (List ℕ → ℕ) → List ℕ → Option (List ℕ) → Step
chosen place node None = Ends Absent
chosen place node (Some kid) = Goes (place kid) (length (drop (length node) kid))

-- what stands behind the edge of the first child
record EdgeReads (bytes edge more : List ℕ) (at child : ℕ) : Type 0 where
  edge' : before_nul (drop at bytes) ≡ Some edge
  number : uleb_at bytes (at + length edge + 1) ≡ Some (child, at + length edge + 1 + length (uleb child))
  next : drop (at + length edge + 1 + length (uleb child)) bytes ≡ more

edge_reads : (bytes edge more : List ℕ) (at child : ℕ) → (In 0 edge → ⊥) → child < 2 ^ 64 → drop at bytes ≡ (edge ++ 0 ∷ uleb child) ++ more → EdgeReads bytes edge more at child
edge_reads bytes edge more at child clean small e =
    let text : drop at bytes ≡ edge ++ (0 ∷ (uleb child ++ more)) = e ∙ append_assoc edge (0 ∷ uleb child) more in
    let behind : drop (at + length edge + 1) bytes ≡ uleb child ++ more =
    let split : at + length edge + 1 ≡ at + (length edge + 1) = omega arith in
    rw split (sym (drop-drop (length edge + 1) at bytes) ∙ ap (drop (length edge + 1)) text ∙ past edge (uleb child ++ more)) in
    record {
      edge' = ap before_nul text ∙ edge_is edge (uleb child ++ more) clean;
      number = uleb_stands bytes more (at + length edge + 1) child small behind;
      next = sym (drop-drop (length (uleb child)) (at + length edge + 1) bytes) ∙ ap (drop (length (uleb child))) behind ∙ drop_at (uleb child) more (length (uleb child)) refl;
    }
  where
    past : (edge rest : List ℕ) → drop (length edge + 1) (edge ++ 0 ∷ rest) ≡ rest
    past [] rest = refl
    past (x ∷ edge) rest = let one : suc (length edge) + 1 ≡ suc (length edge + 1) = omega arith in rw one (past edge rest)

child_scan : (bytes : List ℕ) (place : List ℕ → ℕ) (node : List ℕ) (kids : List (List ℕ)) (at : ℕ) (rest tail : List ℕ) → AllByRecursion (IsKid place node) kids → drop at bytes ≡ flat_map (child_bytes place node) kids ++ tail → child_at bytes (place node) (length kids) at rest ≡ chosen place node (find (λ kid. begins kid (node ++ rest)) kids)
unfolding child_at child_bytes
child_scan bytes place node [] at rest tail all e = refl
child_scan bytes place node (kid ∷ kids) at rest tail all e =
    let reads = edge_reads bytes (drop (length node) kid) (flat_map (child_bytes place node) kids ++ tail) at (place kid)
    (λ nul. all.0.clean (nul_drop (length node) kid nul)) all.0.small (e ∙ append_assoc (drop (length node) kid ++ 0 ∷ uleb (place kid)) _ tail) in
    let same : begins (drop (length node) kid) rest ≡ begins kid (node ++ rest) = begins_edge node kid rest all.0.below in
    elim (cases_Bool (begins kid (node ++ rest))) [
      | inl here ↦
          rw here (child_found bytes (place node) (suc (length kids)) at rest (drop (length node) kid) (place kid) _ (length kids) refl reads.edge' reads.number (same ∙ here)
          ∙ rw (lt-ltb (place node) (place kid) all.0.later) refl)
      | inr away ↦
          rw away (child_more bytes (place node) (suc (length kids)) at rest (drop (length node) kid) (place kid) _ (length kids) refl reads.edge' reads.number (same ∙ away)
          ∙ child_scan bytes place node kids _ rest tail all.1 reads.next)
    ]

-- ---- a node

get_at : (bytes : List ℕ) (at x : ℕ) (rest : List ℕ) → drop at bytes ≡ x ∷ rest → slice_get bytes at ≡ Some x
get_at [] zero x rest e = absurd (no_cons e)
  where
    no_cons : [] ≡ x ∷ rest → ⊥
    no_cons e = cc
get_at [] (suc at) x rest e = absurd (no_cons e)
  where
    no_cons : [] ≡ x ∷ rest → ⊥
    no_cons e = cc
get_at (b ∷ bytes) zero x rest e = ap Some (heads_agree b x bytes rest e).0
get_at (b ∷ bytes) (suc at) x rest e = get_at bytes at x rest e

-- a node as the walk reads it
record NodeReads (bytes : List ℕ) (at : ℕ) (info : List ℕ) (count : ℕ) (kids : List ℕ) : Type 0 where
  size : uleb_at bytes at ≡ Some (length info, at + length (uleb (length info)))
  tail : List ℕ
  data' : drop (at + length (uleb (length info))) bytes ≡ info ++ (count ∷ (kids ++ tail))
  count' : slice_get bytes (at + length (uleb (length info)) + length info) ≡ Some count
  first : drop (at + length (uleb (length info)) + length info + 1) bytes ≡ kids ++ tail

node_reads : (bytes info kids rest : List ℕ) (at count : ℕ) → length bytes < 2 ^ 64 → drop at bytes ≡ (uleb (length info) ++ info ++ count ∷ kids) ++ rest → NodeReads bytes at info count kids
node_reads bytes info kids rest at count short e =
    let size = uleb (length info) in
    let text : drop at bytes ≡ size ++ (info ++ (count ∷ (kids ++ rest))) =
    e ∙ append_assoc (size ++ info) (count ∷ kids) rest ∙ append_assoc size info (count ∷ (kids ++ rest)) in
    let lens : length (drop at bytes) ≡ length size + (length info + suc (length (kids ++ rest))) =
    ap length text ∙ length-append size (info ++ (count ∷ (kids ++ rest))) ∙ ap (λ (n : ℕ). length size + n) (length-append info (count ∷ (kids ++ rest))) in
    let few : length info < 2 ^ 64 = omega (arith, length-drop at bytes) in
    let behind : drop (at + length size) bytes ≡ info ++ (count ∷ (kids ++ rest)) =
    sym (drop-drop (length size) at bytes) ∙ ap (drop (length size)) text ∙ drop_at size _ (length size) refl in
    let counted : drop (at + length size + length info) bytes ≡ count ∷ (kids ++ rest) =
    sym (drop-drop (length info) (at + length size) bytes) ∙ ap (drop (length info)) behind ∙ drop_at info _ (length info) refl in
    record {
      size = uleb_stands bytes (info ++ (count ∷ (kids ++ rest))) at (length info) few text;
      tail = rest;
      data' = behind;
      count' = get_at bytes (at + length size + length info) count (kids ++ rest) counted;
      first = sym (drop-drop 1 (at + length size + length info) bytes) ∙ ap (drop 1) counted;
    }

-- the step from a node where something is left of the name
step_on : (bytes : List ℕ) (at : ℕ) (info : List ℕ) (count : ℕ) (kids : List ℕ) (x : ℕ) (rest : List ℕ) → NodeReads bytes at info count kids → step bytes at (x ∷ rest) ≡ child_at bytes at count (at + length (uleb (length info)) + length info + 1) (x ∷ rest)
unfolding step
step_on bytes at info count kids x rest reads =
    let more : eqb (suc (length rest)) 0 ≡ false = ne_eqb _ 0 (λ (none : suc (length rest) ≡ 0). omega arith) in
    rw (reads.size, more, reads.count') refl

-- and where nothing is
step_last : (bytes : List ℕ) (at : ℕ) (info : List ℕ) (count : ℕ) (kids : List ℕ) → NodeReads bytes at info count kids → step bytes at [] ≡ Ends (data_at bytes (length info) (at + length (uleb (length info))))
unfolding step
step_last bytes at info count kids reads = rw reads.size refl

data_none : (bytes : List ℕ) (at : ℕ) → data_at bytes 0 at ≡ Absent
unfolding data_at
data_none bytes at = refl

data_some : (bytes : List ℕ) (at flags address : ℕ) (rest : List ℕ) → flags < 2 ^ 64 → address < 2 ^ 64 → drop at bytes ≡ (uleb flags ++ uleb address) ++ rest → data_at bytes (length (uleb flags ++ uleb address)) at ≡ At flags address
unfolding data_at
data_some bytes at flags address rest f a e =
    let some : eqb (length (uleb flags ++ uleb address)) 0 ≡ false =
    ne_eqb _ 0 (λ (none : length (uleb flags ++ uleb address) ≡ 0). omega (arith, length-append (uleb flags) (uleb address), length-uleb_pos flags)) in
    let text : drop at bytes ≡ uleb flags ++ (uleb address ++ rest) = e ∙ append_assoc (uleb flags) (uleb address) rest in
    let behind : drop (at + length (uleb flags)) bytes ≡ uleb address ++ rest =
    sym (drop-drop (length (uleb flags)) at bytes) ∙ ap (drop (length (uleb flags))) text ∙ drop_at (uleb flags) _ (length (uleb flags)) refl in
    rw (some, uleb_stands bytes (uleb address ++ rest) at flags f text, uleb_stands bytes rest (at + length (uleb flags)) address a behind) refl

-- ---- the walk

-- bytes that begin with the nodes, where they have their places
pub record IsSpelled (exports : List ExportAddress) (nodes : List (List ℕ)) (place : List ℕ → ℕ) (bytes : List ℕ) : Type 0 where
  pub all : AreNodes (names exports) nodes
  pub agree : Agrees exports nodes place
  pub tail : List ℕ
  pub spelled : bytes ≡ flat_map (node_bytes exports nodes place) nodes ++ tail
  pub clean : (export : ExportAddress) → In export exports → In 0 export.name → ⊥
  pub small : (node : List ℕ) → In node nodes → (export : ExportAddress) → export_at exports node ≡ Some export → (export.flags < 2 ^ 64) × (export.address < 2 ^ 64)
  pub short : length bytes < 2 ^ 64

length-node_bytes_pos : (exports : List ExportAddress) (nodes : List (List ℕ)) (place : List ℕ → ℕ) (node : List ℕ) → 0 < length (node_bytes exports nodes place node)
unfolding node_bytes
length-node_bytes_pos exports nodes place node =
    let info = data_of (export_at exports node) in
    omega (arith, length-append (uleb (length info) ++ info) (length (children nodes node) ∷ flat_map (child_bytes place node) (children nodes node)))

drop_before : (n : ℕ) (text tail here rest : List ℕ) → 0 < length here → drop n text ≡ here ++ rest → drop n (text ++ tail) ≡ here ++ (rest ++ tail)
drop_before n text tail here rest some e =
    let lens : length (drop n text) ≡ length here + length rest = ap length e ∙ length-append here rest in
    let within : n ≤ length text = omega (arith, length-drop n text) in
    drop-append-le n text tail within ∙ (ap (λ (bs : List ℕ). bs ++ tail) e ∙ append_assoc here rest tail)

stands : (exports : List ExportAddress) (nodes : List (List ℕ)) (place : List ℕ → ℕ) (bytes : List ℕ) (node : List ℕ) → IsSpelled exports nodes place bytes → In node nodes → Stands bytes 0 (place node) (node_bytes exports nodes place node)
stands exports nodes place bytes node s h =
    let here = node_stands (node_bytes exports nodes place) place 0 nodes node s.agree h in
    record {
      rest = here.rest ++ s.tail;
      from = here.from;
      read = ap (drop (place node - 0)) s.spelled
          ∙ drop_before (place node - 0) (flat_map (node_bytes exports nodes place) nodes) s.tail (node_bytes exports nodes place node) here.rest (length-node_bytes_pos exports nodes place node) here.read;
    }

place_within : (exports : List ExportAddress) (nodes : List (List ℕ)) (place : List ℕ → ℕ) (bytes : List ℕ) (node : List ℕ) → IsSpelled exports nodes place bytes → In node nodes → place node < length bytes
place_within exports nodes place bytes node s h =
    let here = stands exports nodes place bytes node s h in
    let some : 0 < length (node_bytes exports nodes place node) = length-node_bytes_pos exports nodes place node in
    let lens : length (drop (place node - 0) bytes) ≡ length (node_bytes exports nodes place node) + length here.rest = ap length here.read ∙ length-append _ _ in
    omega (arith, length-drop (place node - 0) bytes)

reads : (exports : List ExportAddress) (nodes : List (List ℕ)) (place : List ℕ → ℕ) (bytes : List ℕ) (node : List ℕ) → IsSpelled exports nodes place bytes → In node nodes → NodeReads bytes (place node) (data_of (export_at exports node)) (length (children nodes node)) (flat_map (child_bytes place node) (children nodes node))
unfolding node_bytes
reads exports nodes place bytes node s h =
    let here = stands exports nodes place bytes node s h in
    let none : place node - 0 ≡ place node = omega arith in
    node_reads bytes (data_of (export_at exports node)) (flat_map (child_bytes place node) (children nodes node)) here.rest (place node) (length (children nodes node)) s.short (rw none at here.read)

-- a node begins a name, so it holds no NUL
node_clean : (exports : List ExportAddress) (nodes : List (List ℕ)) (place : List ℕ → ℕ) (bytes : List ℕ) (node : List ℕ) → IsSpelled exports nodes place bytes → In node nodes → In 0 node → ⊥
node_clean exports nodes place bytes node s h nul = begun (s.all.only node (Contains_from_in nodes node h))
  where
    begun : IsNode (names exports) node → ⊥
    begun (inl e) = subst (λ (text : List ℕ). In 0 text) e nul
    begun (inr (a, b, p, q, e)) =
        let name = from_map (λ (export : ExportAddress). export.name) exports a (in_from_Contains (names exports) a p) in
        let front : begins node a ≡ true = rw e (common_left a b) in
        let held : In 0 a = nul_front node a front nul in
        s.clean name.0 name.1 (rw name.2 held)

is_kid : (exports : List ExportAddress) (nodes : List (List ℕ)) (place : List ℕ → ℕ) (bytes : List ℕ) (node kid : List ℕ) → IsSpelled exports nodes place bytes → In node nodes → In kid (children nodes node) → IsKid place node kid
unfolding children
is_kid exports nodes place bytes node kid s h k =
    let found = from_filter (is_child nodes node) nodes kid k in
    let parts = and_parts (is_above node kid) _ found.1 in
    let above = above_parts node kid parts.0 in
    let within : place kid < length bytes = place_within exports nodes place bytes kid s found.0 in
    record {
      below = above.0;
      clean = node_clean exports nodes place bytes kid s found.0;
      later = later_place (node_bytes exports nodes place) place 0 nodes node kid (length-node_bytes_pos exports nodes place) s.agree (rising_from_sorted nodes s.all.rising) h found.0 (above_below node kid above.0 above.1);
      small = omega (arith, s.short);
    }

-- from a node towards a later one that begins a name there is a child that begins it
nearest : (most : ℕ) (nodes : List (List ℕ)) (node below name : List ℕ) → length below ≤ most → In below nodes → is_above node below ≡ true → begins below name ≡ true → (kid : List ℕ) × In kid (children nodes node) × (begins kid name ≡ true)
unfolding children
nearest zero nodes node below name few h above front = absurd (omega (arith, (above_parts node below above).1))
nearest (suc most) nodes node below name few h above front =
    elim (cases_Bool (list_any (λ other. is_above node other && is_above other below) nodes)) [
      | inl between ↦
          let other = any_true _ nodes between in
          let parts = and_parts (is_above node other.0) (is_above other.0 below) other.2 in
          let nearer = above_parts other.0 below parts.1 in
          nearest most nodes node other.0 name (omega (arith, nearer.1)) other.1 parts.0 (begins_trans other.0 below name nearer.0 front)
      | inr none ↦ (below, in_filter (is_child nodes node) nodes below h (and_from (is_above node below) _ above (ap not none)), front)
    ]

found_there : (exports : List ExportAddress) (node : List ℕ) (bytes : List ℕ) (at : ℕ) (rest : List ℕ) → ((export : ExportAddress) → export_at exports node ≡ Some export → (export.flags < 2 ^ 64) × (export.address < 2 ^ 64)) → drop at bytes ≡ data_of (export_at exports node) ++ rest → data_at bytes (length (data_of (export_at exports node))) at ≡ answer exports node
found_there exports node bytes at rest small e = by (export_at exports node) refl e
  where
    by : (found : Option ExportAddress) → export_at exports node ≡ found → drop at bytes ≡ data_of found ++ rest → data_at bytes (length (data_of found)) at ≡ option_map_or (λ export. At export.flags export.address) found Absent
    by None is e = data_none bytes at
    by (Some export) is e =
        let fits = small export is in
        data_some bytes at export.flags export.address rest fits.0 fits.1 e

in_children : (nodes : List (List ℕ)) (node kid : List ℕ) → In kid (children nodes node) → In kid nodes
unfolding children
in_children nodes node kid k = (from_filter (is_child nodes node) nodes kid k).0

-- where no child's edge begins the rest, the name isn't exported
missing : (exports : List ExportAddress) (nodes : List (List ℕ)) (place : List ℕ → ℕ) (bytes node rest : List ℕ) → IsSpelled exports nodes place bytes → 0 < length rest → find (λ kid. begins kid (node ++ rest)) (children nodes node) ≡ None → Absent ≡ answer exports (node ++ rest)
missing exports nodes place bytes node rest s more none = by (export_at exports (node ++ rest)) refl
  where
    by : (found : Option ExportAddress) → export_at exports (node ++ rest) ≡ found → Absent ≡ option_map_or (λ export. At export.flags export.address) found Absent
    by None is = refl
    by (Some export) is =
        let held = find_some _ exports export is in
        let same : export.name ≡ node ++ rest = (bytes_eq-Decides export.name (node ++ rest)).0 held.1 in
        let name : Contains (names exports) (node ++ rest) =
        Contains_from_in (names exports) (node ++ rest) (subst (λ (text : List ℕ). In text (names exports)) same (in_map (λ (export : ExportAddress). export.name) exports export held.0)) in
        let placed : In (node ++ rest) nodes =
        in_from_Contains nodes (node ++ rest) (s.all.all (node ++ rest) (inr (node ++ rest, node ++ rest, name, name, sym (common_self (node ++ rest))))) in
        let above : is_above node (node ++ rest) ≡ true = above_from node (node ++ rest) (begins_append node rest) (omega (arith, length-append node rest)) in
        let kid = nearest (length (node ++ rest)) nodes node (node ++ rest) (node ++ rest) (omega arith) placed above (begins_self (node ++ rest)) in
        absurd (true≢false (sym kid.2 ∙ find_none _ (children nodes node) kid.0 none kid.1))

-- the rest of a name behind a child
behind_kid : (node kid rest : List ℕ) → begins node kid ≡ true → begins kid (node ++ rest) ≡ true → node ++ rest ≡ kid ++ drop (length (drop (length node) kid)) rest
behind_kid node kid rest below front =
    let split : node ++ rest ≡ kid ++ drop (length kid) (node ++ rest) = begins_split kid (node ++ rest) front in
    let lens : length kid ≡ length node + length (drop (length node) kid) = omega (arith, length-drop (length node) kid, begins_short node kid below) in
    let dropped : drop (length kid) (node ++ rest) ≡ drop (length (drop (length node) kid)) rest =
    ap (λ (n : ℕ). drop n (node ++ rest)) lens ∙ drop-append-add node rest (length (drop (length node) kid)) in
    split ∙ ap (λ (text : List ℕ). kid ++ text) dropped

walked : (left : ℕ) (exports : List ExportAddress) (nodes : List (List ℕ)) (place : List ℕ → ℕ) (bytes node rest : List ℕ) → IsSpelled exports nodes place bytes → In node nodes → length bytes ≤ place node + left → walk left bytes (place node) rest ≡ answer exports (node ++ rest)
walked zero exports nodes place bytes node rest s h enough = absurd (omega (arith, place_within exports nodes place bytes node s h))
walked (suc left) exports nodes place bytes node [] s h enough =
    let here = reads exports nodes place bytes node s h in
    walk_ends bytes (suc left) (place node) left [] _ refl (step_last bytes (place node) _ _ _ here)
    ∙ (found_there exports node bytes _ _ (s.small node h) here.data' ∙ ap (answer exports) (sym (append-nil node)))
walked (suc left) exports nodes place bytes node (x ∷ rest) s h enough =
    let here = reads exports nodes place bytes node s h in
    let kids : AllByRecursion (IsKid place node) (children nodes node) =
    all_from_in (IsKid place node) (children nodes node) (λ kid k. is_kid exports nodes place bytes node kid s h k) in
    let stepped : step bytes (place node) (x ∷ rest) ≡ chosen place node (find (λ kid. begins kid (node ++ x ∷ rest)) (children nodes node)) =
    step_on bytes (place node) _ _ _ x rest here ∙ child_scan bytes place node (children nodes node) _ (x ∷ rest) here.tail kids here.first in
    by (find (λ kid. begins kid (node ++ x ∷ rest)) (children nodes node)) refl stepped kids
    (λ kid rest k near. walked left exports nodes place bytes kid rest s (in_nodes kid k) near)
  where
    in_nodes : (kid : List ℕ) → In kid (children nodes node) → In kid nodes
    in_nodes kid k = in_children nodes node kid k

    by : (found : Option (List ℕ)) → find (λ kid. begins kid (node ++ x ∷ rest)) (children nodes node) ≡ found → step bytes (place node) (x ∷ rest) ≡ chosen place node found → AllByRecursion (IsKid place node) (children nodes node) → ((kid rest : List ℕ) → In kid (children nodes node) → length bytes ≤ place kid + left → walk left bytes (place kid) rest ≡ answer exports (kid ++ rest)) → walk (suc left) bytes (place node) (x ∷ rest) ≡ answer exports (node ++ x ∷ rest)
    by None is stepped kids further =
        walk_ends bytes (suc left) (place node) left (x ∷ rest) Absent refl stepped ∙ missing exports nodes place bytes node (x ∷ rest) s (omega arith) is
    by (Some kid) is stepped kids further =
        let held = find_some _ (children nodes node) kid is in
        let good = all_in (IsKid place node) (children nodes node) kid kids held.0 in
        walk_more bytes (suc left) (place node) (place kid) (length (drop (length node) kid)) left (x ∷ rest) refl stepped
        ∙ (further kid (drop (length (drop (length node) kid)) (x ∷ rest)) held.0 (omega (arith, good.later))
        ∙ ap (answer exports) (sym (behind_kid node kid (x ∷ rest) good.below held.1)))

below_nil : (a : List ℕ) → Below a [] → ⊥
below_nil [] h = h
below_nil (x ∷ a) h = h

root_first : (spell : List ℕ → List ℕ) (place : List ℕ → ℕ) (nodes : List (List ℕ)) → Rising nodes → AgreesFrom spell place 0 nodes → In [] nodes → place [] ≡ 0
root_first spell place [] rise e h = absurd h
root_first spell place (first ∷ nodes) rise e (inl same) = rw (← same) (heads_agree (place first) 0 (map place nodes) _ e).0
root_first spell place (first ∷ nodes) rise e (inr h) = absurd (below_nil first (all_in (Below first) nodes [] rise.0 h))

-- a look-up finds each export, and nothing else
pub answers : (exports : List ExportAddress) (nodes : List (List ℕ)) (place : List ℕ → ℕ) (bytes : List ℕ) → IsSpelled exports nodes place bytes → (name : List ℕ) → lookup bytes name ≡ answer exports name
unfolding lookup
answers exports nodes place bytes s name =
    let root : In [] nodes = in_from_Contains nodes [] (s.all.all [] (inl refl)) in
    let start : place [] ≡ 0 = root_first (node_bytes exports nodes place) place nodes (rising_from_sorted nodes s.all.rising) s.agree root in
    let begun : walk (length bytes) bytes (place []) name ≡ answer exports name = walked (length bytes) exports nodes place bytes [] name s root (omega arith) in
    rw start at begun
