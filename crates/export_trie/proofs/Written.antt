-- What the code has written is the trie of the exports.
use Rattle.std.proofs.Common.{◌≡◌, ◌≢◌, ℕ, zero, suc, ◌+◌, ◌<◌, ◌≤◌, ◌⊎◌, Bool, true, false, ◌&&◌, List, [], ◌∷◌, length, get_or, refl, sym, ◌∙◌, ap, subst, inl, inr, arith, Contains, IsPermutation}
use Rattle.std.specs.List.{filter, list_any, AllByRecursion, AllPairs}
use Rattle.std.specs.List.Sorted.{IsSortedBy, IsStrictlySortedBy}
use Rattle.std.specs.Ordering.{nat_cmp, is_lt}
use Rattle.std.specs.Cmp.Lexicographic.{slice_cmp}
use Rattle.std.specs.List as lists
use Rattle.std.proofs.lemmas.Bool.{cases_Bool, cases_order, cases_lt, cases_eq, and_parts, and_from, not-true, false_from_ne_true, eq-eqb, ne_eqb, true≢false, false≢true}
use Rattle.std.proofs.lemmas.List.{length-map, get_or-take}
use Rattle.std.proofs.lemmas.List.Edits.{Swapped, swapped_from_swap, length-swap}
use Rattle.std.proofs.lemmas.List.Sorted.{IsPermutation-keeps}
use Rattle.export_trie.specs.declared.export.ExportAddress.{ExportAddress}
use Rattle.export_trie.specs.declared.nodes.Node.{Node}
use Rattle.export_trie.specs.Strings.{begins, is_above, common}
use Rattle.export_trie.specs.Trie.{names, IsNode, AreNodes, is_child, children}
use Rattle.export_trie.specs.Sizes.{IsBelow, AreBelow}
use Rattle.export_trie.specs.Held.{AreBytes, texts, AreHeld, at_places, HoldsChildren, node_at}
use Rattle.list_lemmas.proofs.Members.{In, in_from_Contains, Contains_from_in, all_in, all_from_in, in_map, from_filter, any_from_in}
use Rattle.export_trie.proofs.Strings.{Below, below_trans, above_parts, above_from, begins_parts, begins_self, begins_short, begins_shorter, common_left, common_right, cmp_from_below, Rising, rising_from_sorted, sorted_from_rising}
use Rattle.export_trie.proofs.Entering.{order_cases, not_begun}
use Rattle.export_trie.proofs.Reading.{text_read, length-texts}
use Rattle.export_trie.proofs.Building.{same_front, shorter_front, length-text, front_take}
use Rattle.export_trie.proofs.Parents.{in_get}

-- ---- the order of the exports

-- exports at different places have different names
abbrev Distinct : List ExportAddress → Type 0
Distinct exports = (i j : ℕ) (d : ExportAddress) → i < length exports → j < length exports → (get_or exports i d).name ≡ (get_or exports j d).name → i ≡ j

distinct_from_pairs : (exports : List ExportAddress) → AllPairs (λ (a : ExportAddress) (b : ExportAddress). a.name ≢ b.name) exports → Distinct exports
distinct_from_pairs exports apart = λ i j d p q same. by i j d p q same (cases_order i j)
  where
    by : (i j : ℕ) (d : ExportAddress) → i < length exports → j < length exports → (get_or exports i d).name ≡ (get_or exports j d).name → (i ≡ j) ⊎ ((i < j) ⊎ (j < i)) → i ≡ j
    by i j d p q same (inl e) = e
    by i j d p q same (inr (inl less)) = absurd (apart i j d less q same)
    by i j d p q same (inr (inr more)) = absurd (apart j i d more p (sym same))

-- where an element of the swapped list stood
record Moved (exports : List ExportAddress) (a b : ℕ) (d : ExportAddress) (m : ℕ) : Type 0 where
  from : ℕ
  within : from < length exports
  same : get_or (lists.swap exports a b) m d ≡ get_or exports from d
  place : ((m ≡ a) × (from ≡ b)) ⊎ (((m ≡ b) × (from ≡ a)) ⊎ ((m ≡ a → ⊥) × (m ≡ b → ⊥) × (from ≡ m)))

moved : (exports : List ExportAddress) (a b : ℕ) (d : ExportAddress) (m : ℕ) → a < length exports → b < length exports → m < length exports → Moved exports a b d m
moved exports a b d m p q within = by (swapped_from_swap exports (lists.swap exports a b) a b d p q refl) (cases_eq m a) (cases_eq m b)
  where
    by : Swapped (λ (i : ℕ). get_or exports i d) (λ (i : ℕ). get_or (lists.swap exports a b) i d) a b → (m ≡ a) ⊎ (m ≡ a → ⊥) → (m ≡ b) ⊎ (m ≡ b → ⊥) → Moved exports a b d m
    by s (inl e) other = record { from = b; within = q; same = ap (λ (i : ℕ). get_or (lists.swap exports a b) i d) e ∙ s.0; place = inl (e, refl) }
    by s (inr x) (inl e) = record { from = a; within = p; same = ap (λ (i : ℕ). get_or (lists.swap exports a b) i d) e ∙ s.1; place = inr (inl (e, refl)) }
    by s (inr x) (inr y) = record { from = m; within = within; same = s.2 m x y; place = inr (inr (x, y, refl)) }

one_to_one : (a b i j k l : ℕ) → k ≡ l → ((i ≡ a) × (k ≡ b)) ⊎ (((i ≡ b) × (k ≡ a)) ⊎ ((i ≡ a → ⊥) × (i ≡ b → ⊥) × (k ≡ i))) → ((j ≡ a) × (l ≡ b)) ⊎ (((j ≡ b) × (l ≡ a)) ⊎ ((j ≡ a → ⊥) × (j ≡ b → ⊥) × (l ≡ j))) → i ≡ j
one_to_one a b i j k l e (inl p) (inl q) = omega (arith, p.0, q.0)
one_to_one a b i j k l e (inl p) (inr (inl q)) = omega (arith, p.0, p.1, q.0, q.1)
one_to_one a b i j k l e (inl p) (inr (inr q)) = absurd (q.1 (omega (arith, p.1, q.2)))
one_to_one a b i j k l e (inr (inl p)) (inl q) = omega (arith, p.0, p.1, q.0, q.1)
one_to_one a b i j k l e (inr (inl p)) (inr (inl q)) = omega (arith, p.0, q.0)
one_to_one a b i j k l e (inr (inl p)) (inr (inr q)) = absurd (q.0 (omega (arith, p.1, q.2)))
one_to_one a b i j k l e (inr (inr p)) (inl q) = absurd (p.1 (omega (arith, q.1, p.2)))
one_to_one a b i j k l e (inr (inr p)) (inr (inl q)) = absurd (p.0 (omega (arith, q.1, p.2)))
one_to_one a b i j k l e (inr (inr p)) (inr (inr q)) = omega (arith, p.2, q.2)

distinct_swap : (exports : List ExportAddress) (a b : ℕ) → a < length exports → b < length exports → Distinct exports → Distinct (lists.swap exports a b)
distinct_swap exports a b p q apart = λ i j d low high same.
    let long : length (lists.swap exports a b) ≡ length exports = length-swap exports a b in
    let first = moved exports a b d i p q (omega arith) in
    let second = moved exports a b d j p q (omega arith) in
    let froms : first.from ≡ second.from =
    apart first.from second.from d first.within second.within
    (ap (λ (e : ExportAddress). e.name) (sym first.same) ∙ (same ∙ ap (λ (e : ExportAddress). e.name) second.same)) in
    one_to_one a b i j first.from second.from froms first.place second.place

distinct_permuted : (exports order : List ExportAddress) → Distinct exports → IsPermutation exports order → Distinct order
distinct_permuted exports order apart moves =
    IsPermutation-keeps exports Distinct apart (λ l i j p q d. distinct_swap l i j p q d) order moves

-- neighbours in order make a list in order
rising_neighbours : (strings : List (List ℕ)) → ((k : ℕ) → k + 1 < length strings → Below (get_or strings k []) (get_or strings (k + 1) [])) → Rising strings
rising_neighbours [] h = tt
rising_neighbours (a ∷ []) h = (tt, tt)
rising_neighbours (a ∷ b ∷ strings) h =
    let rest : Rising (b ∷ strings) = rising_neighbours (b ∷ strings) (λ k low. let one : suc k + 1 ≡ suc (k + 1) = omega arith in subst (λ (n : ℕ). Below (get_or (b ∷ strings) k []) (get_or (a ∷ b ∷ strings) n [])) one (h (suc k) (omega arith))) in
    let first : Below a b = h 0 (omega arith) in
    ((first, all_from_in (Below a) strings (λ c i. below_trans a b c first (all_in (Below b) strings c rest.0 i))), rest)

names_read : (exports : List ExportAddress) (k : ℕ) (d : ExportAddress) → k < length exports → get_or (names exports) k [] ≡ (get_or exports k d).name
names_read [] k d within = absurd (omega arith)
names_read (e ∷ exports) zero d within = refl
names_read (e ∷ exports) (suc k) d within = names_read exports k d (omega arith)

-- the names in order, each once
pub order_rises : (exports order : List ExportAddress) → AllPairs (λ (a : ExportAddress) (b : ExportAddress). a.name ≢ b.name) exports → IsPermutation exports order → IsSortedBy (λ (a : ExportAddress) (b : ExportAddress). is_lt (slice_cmp nat_cmp a.name b.name)) order → IsStrictlySortedBy (slice_cmp nat_cmp) (names order)
order_rises exports [] apart moves sorted = sorted_from_rising [] tt
order_rises exports (first ∷ order) apart moves sorted =
    sorted_from_rising (names (first ∷ order)) (rising_neighbours (names (first ∷ order)) (λ k low. neighbour k low))
  where
    distinct : Distinct (first ∷ order)
    distinct = distinct_permuted exports (first ∷ order) (distinct_from_pairs exports apart) moves

    neighbour : (k : ℕ) → k + 1 < length (names (first ∷ order)) → Below (get_or (names (first ∷ order)) k []) (get_or (names (first ∷ order)) (k + 1) [])
    neighbour k low = by (order_cases (get_or (names (first ∷ order)) k []) (get_or (names (first ∷ order)) (k + 1) []))
      where
        within : k + 1 < length (first ∷ order)
        within = omega (arith, length-map (first ∷ order) (λ (e : ExportAddress). e.name))

        here : get_or (names (first ∷ order)) k [] ≡ (get_or (first ∷ order) k first).name
        here = names_read (first ∷ order) k first (omega (arith, within))

        next : get_or (names (first ∷ order)) (k + 1) [] ≡ (get_or (first ∷ order) (k + 1) first).name
        next = names_read (first ∷ order) (k + 1) first within

        by : Below (get_or (names (first ∷ order)) k []) (get_or (names (first ∷ order)) (k + 1) []) ⊎ ((get_or (names (first ∷ order)) k [] ≡ get_or (names (first ∷ order)) (k + 1) []) ⊎ Below (get_or (names (first ∷ order)) (k + 1) []) (get_or (names (first ∷ order)) k [])) → Below (get_or (names (first ∷ order)) k []) (get_or (names (first ∷ order)) (k + 1) [])
        by (inl less) = less
        by (inr (inl same)) = absurd (omega (arith, distinct k (k + 1) first (omega (arith, within)) within (sym here ∙ (same ∙ next))))
        by (inr (inr more)) =
            let less : is_lt (slice_cmp nat_cmp (get_or (names (first ∷ order)) (k + 1) []) (get_or (names (first ∷ order)) k [])) ≡ true = ap is_lt (cmp_from_below _ _ more) in
            let least : is_lt (slice_cmp nat_cmp (get_or (names (first ∷ order)) (k + 1) []) (get_or (names (first ∷ order)) k [])) ≡ false =
            rw (here, next) (sorted k first (omega arith) within) in
            absurd (true≢false (sym less ∙ least))

-- ---- what holds of the rows

all_places : (P : ℕ → Type 0) (row : List ℕ) → ((child : ℕ) → In child row → P child) → AllByRecursion P row
all_places P row each = all_from_in P row each

-- each child has a place and a longer string
pub rows_below : (strings : List (List ℕ)) (nodes : List Node) (rows : List (List ℕ)) → AreHeld strings nodes → HoldsChildren (texts strings nodes) rows → AreBelow nodes rows
unfolding children
rows_below strings nodes rows held holds = λ place low.
    let within : place < length (texts strings nodes) = omega (arith, length-texts strings nodes) in
    let long : length (texts strings nodes) ≡ length nodes = length-texts strings nodes in
    all_from_in (IsBelow nodes (get_or nodes place (node_at 0 0)).len) (get_or rows place []) (λ child h.
    let inside : child < length (texts strings nodes) = all_in (λ (c : ℕ). c < length (texts strings nodes)) (get_or rows place []) child (holds.within place within) h in
    let kid : In (get_or (texts strings nodes) child []) (at_places (texts strings nodes) (get_or rows place [])) = in_map (λ (c : ℕ). get_or (texts strings nodes) c []) (get_or rows place []) child h in
    let found = from_filter (is_child (texts strings nodes) (get_or (texts strings nodes) place [])) (texts strings nodes) _ (subst (In (get_or (texts strings nodes) child [])) (holds.each place within) kid) in
    let parts = above_parts (get_or (texts strings nodes) place []) (get_or (texts strings nodes) child []) (and_parts _ _ found.1).0 in
    let upper : length (get_or (texts strings nodes) place []) ≡ (get_or nodes place (node_at 0 0)).len =
    ap length (text_read strings nodes place (node_at 0 0) low) ∙ length-text strings (get_or nodes place (node_at 0 0)) (held.fits place (node_at 0 0) low) in
    let lower : length (get_or (texts strings nodes) child []) ≡ (get_or nodes child (node_at 0 0)).len =
    ap length (text_read strings nodes child (node_at 0 0) (omega arith)) ∙ length-text strings (get_or nodes child (node_at 0 0)) (held.fits child (node_at 0 0) (omega arith)) in
    (omega arith, omega arith))

-- R holds of each element and each later one
abbrev AllByPairs : {X : Type 0} → (X → X → Type 0) → List X → Type 0
AllByPairs R [] = Unit {0}
AllByPairs R (x ∷ xs) = AllByRecursion (R x) xs × AllByPairs R xs

-- ---- a node has fewer than 256 children, since their edges begin with different bytes other than NUL

-- a list whose numbers rise within bounds
few_rising : {X : Type 0} (f : X → ℕ) (xs : List X) (low high : ℕ) → low ≤ high → ((x : X) → In x xs → (low ≤ f x) × (f x < high)) → AllByPairs (λ x y. f x < f y) xs → length xs + low ≤ high
few_rising f [] low high le each rise = omega arith
few_rising f (x ∷ xs) low high le each rise =
    let first = each x (inl refl) in
    let rest : length xs + (f x + 1) ≤ high =
    few_rising f xs (f x + 1) high (omega (arith, first.1)) (λ y h. (omega (arith, all_in (λ z. f x < f z) xs y rise.0 h), (each y (inr h)).1)) rise.1 in
    omega (arith, first.0)

pairs_from : {X : Type 0} (R S : X → X → Type 0) (xs : List X) → ((x y : X) → In x xs → In y xs → R x y → S x y) → AllByPairs R xs → AllByPairs S xs
pairs_from R S [] each rise = tt
pairs_from R S (x ∷ xs) each rise =
    (all_from_in (S x) xs (λ y h. each x y (inl refl) (inr h) (all_in (R x) xs y rise.0 h)), pairs_from R S xs (λ a b p q. each a b (inr p) (inr q)) rise.1)

pairs_of_rising : (strings : List (List ℕ)) → Rising strings → AllByPairs Below strings
pairs_of_rising [] rise = tt
pairs_of_rising (a ∷ strings) rise = (rise.0, pairs_of_rising strings rise.1)

rising_filter : (t : List ℕ → Bool) (strings : List (List ℕ)) → Rising strings → Rising (filter t strings)
rising_filter t [] rise = tt
rising_filter t (a ∷ strings) rise =
    elim (cases_Bool (t a)) [
      | inl here ↦ rw here (all_from_in (Below a) (filter t strings) (λ b h. all_in (Below a) strings b rise.0 (from_filter t strings b h).0), rising_filter t strings rise.1)
      | inr away ↦ rw away (rising_filter t strings rise.1)
    ]

-- the first byte of an edge
abbrev next_byte : List ℕ → List ℕ → ℕ
next_byte node kid = get_or kid (length node) 0

-- two strings that a third begins, in order: the next byte rises or is the same, and then they share more
next_order : (node a b : List ℕ) → begins node a ≡ true → begins node b ≡ true → length node < length a → Below a b → (next_byte node a < next_byte node b) ⊎ (length node < length (common a b))
next_order [] [] b p q long less = absurd (omega arith)
next_order [] (x ∷ a) [] p q long less = absurd less
next_order [] (x ∷ a) (y ∷ b) p q long (inl less) = inl less
next_order [] (x ∷ a) (y ∷ b) p q long (inr less) = inr (rw (eq-eqb x y less.0) (omega arith))
next_order (z ∷ node) [] b p q long less = absurd (omega arith)
next_order (z ∷ node) (x ∷ a) [] p q long less = absurd less
next_order (z ∷ node) (x ∷ a) (y ∷ b) p q long less =
    let left = begins_parts z x node a p in
    let right = begins_parts z y node b q in
    let same : x ≡ y = sym left.0 ∙ right.0 in
    by same (next_order node a b left.1 right.1 (omega arith) (rest same less))
  where
    rest : x ≡ y → (x < y) ⊎ ((x ≡ y) × Below a b) → Below a b
    rest same (inl less) = absurd (omega arith)
    rest same (inr less) = less.1

    by : x ≡ y → (next_byte node a < next_byte node b) ⊎ (length node < length (common a b)) → (next_byte (z ∷ node) (x ∷ a) < next_byte (z ∷ node) (y ∷ b)) ⊎ (length (z ∷ node) < length (common (x ∷ a) (y ∷ b)))
    by same (inl less) = inl less
    by same (inr more) = inr (rw (eq-eqb x y same) (omega arith))

-- what strings begun by two that don't begin one another share is what the two share
common_begun : (a b c d : List ℕ) → begins a c ≡ true → begins b d ≡ true → begins a b ≡ false → begins b a ≡ false → common c d ≡ common a b
common_begun [] b c d p q r s = absurd (true≢false r)
common_begun (x ∷ a) [] c d p q r s = absurd (true≢false s)
common_begun (x ∷ a) (y ∷ b) [] d p q r s = absurd (false≢true p)
common_begun (x ∷ a) (y ∷ b) (z ∷ c) [] p q r s = absurd (false≢true q)
common_begun (x ∷ a) (y ∷ b) (z ∷ c) (w ∷ d) p q r s =
    let left = begins_parts x z a c p in
    let right = begins_parts y w b d q in
    by left.0 right.0 (cases_eq x y) (λ e. common_begun a b c d left.1 right.1 (rest x y a b e r) (rest y x b a (sym e) s))
  where
    rest : (x y : ℕ) (a b : List ℕ) → x ≡ y → begins (x ∷ a) (y ∷ b) ≡ false → begins a b ≡ false
    rest x y a b e r = rw (eq-eqb x y e) at r

    by : x ≡ z → y ≡ w → (x ≡ y) ⊎ (x ≡ y → ⊥) → (x ≡ y → common c d ≡ common a b) → common (z ∷ c) (w ∷ d) ≡ common (x ∷ a) (y ∷ b)
    by e f (inl same) more = rw (eq-eqb z w (sym e ∙ (same ∙ f)), eq-eqb x y same, more same, e) refl
    by e f (inr apart) more = rw (ne_eqb z w (λ (same : z ≡ w). apart (e ∙ (same ∙ sym f))), ne_eqb x y apart) refl

module _ (strings nodes : List (List ℕ)) (all : AreNodes strings nodes) (node : List ℕ) where
  kid_parts : (kid : List ℕ) → In kid (children nodes node) → In kid nodes × (begins node kid ≡ true) × (length node < length kid) × (list_any (λ other. is_above node other && is_above other kid) nodes ≡ false)
  unfolding children
  kid_parts kid h =
      let found = from_filter (is_child nodes node) nodes kid h in
      let parts = and_parts _ _ found.1 in
      let above = above_parts node kid parts.0 in
      (found.0, above.0, above.1, not-true _ parts.1)

  between_none : (kid other : List ℕ) → In kid (children nodes node) → In other nodes → is_above node other ≡ true → is_above other kid ≡ true → ⊥
  between_none kid other h i p q = true≢false (sym (any_from_in _ nodes other i (and_from _ _ p q)) ∙ (kid_parts kid h).3)

  begun_by : (kid : List ℕ) → 0 < length kid → In kid nodes → (name : List ℕ) × Contains strings name × (begins kid name ≡ true)
  begun_by kid some h = by (all.only kid (Contains_from_in nodes kid h))
    where
      by : IsNode strings kid → (name : List ℕ) × Contains strings name × (begins kid name ≡ true)
      by (inl e) = absurd (omega (arith, ap length e))
      by (inr (a, b, p, q, e)) = (a, p, rw e (common_left a b))

  next_rises : (a b : List ℕ) → In a (children nodes node) → In b (children nodes node) → Below a b → next_byte node a < next_byte node b
  next_rises a b h i less = by (next_order node a b p.1 q.1 p.2 less)
    where
      p : In a nodes × (begins node a ≡ true) × (length node < length a) × (list_any (λ other. is_above node other && is_above other a) nodes ≡ false)
      p = kid_parts a h

      q : In b nodes × (begins node b ≡ true) × (length node < length b) × (list_any (λ other. is_above node other && is_above other b) nodes ≡ false)
      q = kid_parts b i

      apart : begins a b ≡ false
      apart = false_from_ne_true (begins a b) (λ front. between_none b a i p.0 (above_from node a p.1 p.2) (above_from a b front (shorter_front a b b front (begins_self b) less)))

      shared : In (common a b) nodes
      shared =
          let x = begun_by a (omega (arith, p.2)) p.0 in
          let y = begun_by b (omega (arith, q.2)) q.0 in
          subst (λ (t : List ℕ). In t nodes) (common_begun a b x.0 y.0 x.2 y.2 apart (not_begun a b less))
          (in_from_Contains nodes (common x.0 y.0) (all.all (common x.0 y.0) (inr (x.0, y.0, x.1, y.1, refl))))

      by : (next_byte node a < next_byte node b) ⊎ (length node < length (common a b)) → next_byte node a < next_byte node b
      by (inl rises) = rises
      by (inr more) =
          let short : length (common a b) < length b =
          elim (cases_lt (length (common a b)) (length b)) [
            | inl below ↦ below
            | inr long ↦ absurd (true≢false (sym (subst (λ (t : List ℕ). begins t a ≡ true) (same_front (common a b) b b (common_right a b) (begins_self b) (omega (arith, begins_short (common a b) b (common_right a b)))) (common_left a b)) ∙ not_begun a b less))
          ] in
          absurd (between_none b (common a b) i shared
          (above_from node (common a b) (begins_shorter node (common a b) a p.1 (common_left a b) (omega arith)) more)
          (above_from (common a b) b (common_right a b) short))

  pub few_kids : ((name : List ℕ) → Contains strings name → (In 0 name → ⊥) × AreBytes name) → length (children nodes node) < 256
  unfolding children
  few_kids clean =
      let bound : length (children nodes node) + 1 ≤ 256 =
      few_rising (next_byte node) (children nodes node) 1 256 (omega arith) (λ kid h. range kid h)
      (pairs_from Below (λ a b. next_byte node a < next_byte node b) (children nodes node) next_rises (pairs_of_rising (children nodes node) rises)) in
      omega arith
    where
      rises : Rising (children nodes node)
      rises = rising_filter (is_child nodes node) nodes (rising_from_sorted nodes all.rising)

      range : (kid : List ℕ) → In kid (children nodes node) → (1 ≤ next_byte node kid) × (next_byte node kid < 256)
      range kid h =
          let parts = kid_parts kid h in
          let name = begun_by kid (omega (arith, parts.2)) parts.0 in
          let good = clean name.0 name.1 in
          let byte : get_or kid (length node) 0 ≡ get_or name.0 (length node) 0 =
          ap (λ (t : List ℕ). get_or t (length node) 0) (sym (front_take kid name.0 name.2)) ∙ get_or-take (length kid) name.0 (length node) 0 parts.2 in
          let within : length node < length name.0 = omega (arith, parts.2, begins_short kid name.0 name.2) in
          let held : In (get_or name.0 (length node) 0) name.0 = in_get name.0 (length node) 0 within in
          let some : (get_or name.0 (length node) 0 ≡ 0) → ⊥ = λ nul. good.0 (subst (λ (n : ℕ). In n name.0) nul held) in
          (omega (arith, byte, some), omega (arith, byte, good.1 (length node) 0 within))
