-- How the nodes of some names become those of these names and one more, which stands before them.
use Rattle.std.proofs.Common.{◌≡◌, ℕ, suc, ◌<◌, ◌≤◌, ◌⊎◌, true, false, eqb, List, [], ◌∷◌, ◌++◌, length, refl, sym, ◌∙◌, ap, subst, inl, inr, arith}
use Rattle.std.proofs.lemmas.Bool.{cases_Bool, cases_order, false_from_ne_true, eqb-true, eq-eqb, ne_eqb, false≢true, true≢false}
use Rattle.export_trie.specs.Strings.{begins, common}
use Rattle.list_lemmas.proofs.Members.{In, all_in, all_from_in, in_either, in_left, in_right}
use Rattle.export_trie.proofs.Strings.{begins_self, begins_trans, begins_short, begins_shorter, begins_parts, common_self, common_left, common_right, Below, below_irrefl, below_trans, below_asym, between_begins, Rising}

-- ---- byte order

pub order_cases : (a b : List ℕ) → Below a b ⊎ ((a ≡ b) ⊎ Below b a)
order_cases [] [] = inr (inl refl)
order_cases [] (y ∷ b) = inl tt
order_cases (x ∷ a) [] = inr (inr tt)
order_cases (x ∷ a) (y ∷ b) = heads (cases_order x y) (order_cases a b)
  where
    tails : x ≡ y → Below a b ⊎ ((a ≡ b) ⊎ Below b a) → Below (x ∷ a) (y ∷ b) ⊎ ((x ∷ a ≡ y ∷ b) ⊎ Below (y ∷ b) (x ∷ a))
    tails e (inl less) = inl (inr (e, less))
    tails e (inr (inl same)) = inr (inl (cc))
    tails e (inr (inr more)) = inr (inr (inr (sym e, more)))

    heads : (x ≡ y) ⊎ ((x < y) ⊎ (y < x)) → Below a b ⊎ ((a ≡ b) ⊎ Below b a) → Below (x ∷ a) (y ∷ b) ⊎ ((x ∷ a ≡ y ∷ b) ⊎ Below (y ∷ b) (x ∷ a))
    heads (inl e) rest = tails e rest
    heads (inr (inl less)) rest = inl (inl less)
    heads (inr (inr more)) rest = inr (inr (inl more))

-- a string that begins another is it or stands before it
pub begins_order : (a b : List ℕ) → begins a b ≡ true → (a ≡ b) ⊎ Below a b
begins_order [] [] h = inl refl
begins_order [] (y ∷ b) h = inr tt
begins_order (x ∷ a) [] h = absurd (false≢true h)
begins_order (x ∷ a) (y ∷ b) h =
    let parts = begins_parts x y a b h in
    longer parts.0 (begins_order a b parts.1)
  where
    longer : x ≡ y → (a ≡ b) ⊎ Below a b → (x ∷ a ≡ y ∷ b) ⊎ Below (x ∷ a) (y ∷ b)
    longer e (inl same) = inl (cc)
    longer e (inr less) = inr (inr (e, less))

-- what stands before a string isn't begun by it
pub not_begun : (a b : List ℕ) → Below a b → begins b a ≡ false
not_begun a b less = false_from_ne_true (begins b a) (λ h. apart (begins_order b a h))
  where
    apart : (b ≡ a) ⊎ Below b a → ⊥
    apart (inl same) = below_irrefl a (subst (Below a) same less)
    apart (inr more) = below_asym a b less more

pub common_comm : (a b : List ℕ) → common a b ≡ common b a
common_comm [] [] = refl
common_comm [] (y ∷ b) = refl
common_comm (x ∷ a) [] = refl
common_comm (x ∷ a) (y ∷ b) =
    elim (cases_Bool (eqb x y)) [
      | inl same ↦
          let e : x ≡ y = eqb-true x y same in
          rw (same, eq-eqb y x (sym e), e, common_comm a b) refl
      | inr apart ↦ rw (apart, ne_eqb y x (λ (e : y ≡ x). true≢false (sym (eq-eqb x y (sym e)) ∙ apart))) refl
    ]

pub common_nil : (a : List ℕ) → common a [] ≡ []
common_nil [] = refl
common_nil (x ∷ a) = refl

-- of three strings in order the outer two have in common what one of them has with the middle
pub common_three : (a b c : List ℕ) → Below a b → Below b c → (common a c ≡ common a b) ⊎ (common a c ≡ common b c)
common_three [] b c p q = inl refl
common_three (x ∷ a) [] c p q = absurd p
common_three (x ∷ a) (y ∷ b) [] p q = absurd q
common_three (x ∷ a) (y ∷ b) (z ∷ c) (inl p) q =
    let past : x < z = farther q in
    inl (rw (ne_eqb x z (λ (e : x ≡ z). omega arith), ne_eqb x y (λ (e : x ≡ y). omega arith)) refl)
  where
    farther : (y < z) ⊎ ((y ≡ z) × Below b c) → x < z
    farther (inl q) = omega arith
    farther (inr q) = omega (arith, q.0)
common_three (x ∷ a) (y ∷ b) (z ∷ c) (inr p) (inl q) =
    let same : x ≡ y = p.0 in
    inr (rw (ne_eqb x z (λ (e : x ≡ z). omega arith), ne_eqb y z (λ (e : y ≡ z). omega arith)) refl)
common_three (x ∷ a) (y ∷ b) (z ∷ c) (inr p) (inr q) = both (common_three a b c p.1 q.1)
  where
    both : (common a c ≡ common a b) ⊎ (common a c ≡ common b c) → (common (x ∷ a) (z ∷ c) ≡ common (x ∷ a) (y ∷ b)) ⊎ (common (x ∷ a) (z ∷ c) ≡ common (y ∷ b) (z ∷ c))
    both (inl e) = inl (rw (eq-eqb x z (p.0 ∙ q.0), eq-eqb x y p.0, e) refl)
    both (inr e) = inr (rw (eq-eqb x z (p.0 ∙ q.0), eq-eqb y z q.0, e, p.0) refl)

-- a string before another stands before what begins that one and is longer than what the two have in common
pub parted_below : (a b front : List ℕ) → Below a b → length (common a b) < length front → begins front b ≡ true → Below a front
parted_below a b [] less long h = absurd (omega arith)
parted_below [] b (z ∷ front) less long h = tt
parted_below (x ∷ a) [] (z ∷ front) less long h = absurd less
parted_below (x ∷ a) (y ∷ b) (z ∷ front) (inl less) long h = let parts = begins_parts z y front b h in inl (omega (arith, parts.0))
parted_below (x ∷ a) (y ∷ b) (z ∷ front) (inr less) long h =
    let parts = begins_parts z y front b h in
    let shorter : length (x ∷ common a b) < suc (length front) = rw (eq-eqb x y less.0) at long in
    inr (less.0 ∙ sym parts.0, parted_below a b front less.1 (omega arith) parts.1)

-- ---- lists of strings in order

pub rising_append : (fronts backs : List (List ℕ)) → Rising fronts → Rising backs → ((a b : List ℕ) → In a fronts → In b backs → Below a b) → Rising (fronts ++ backs)
rising_append [] backs p q cross = q
rising_append (a ∷ fronts) backs p q cross =
    (all_from_in (Below a) (fronts ++ backs) (λ x h. first x (in_either fronts backs x h)), rising_append fronts backs p.1 q (λ x y h i. cross x y (inr h) i))
  where
    first : (x : List ℕ) → In x fronts ⊎ In x backs → Below a x
    first x (inl h) = all_in (Below a) fronts x p.0 h
    first x (inr h) = cross a x (inl refl) h

pub rising_left : (fronts backs : List (List ℕ)) → Rising (fronts ++ backs) → Rising fronts
rising_left [] backs p = tt
rising_left (a ∷ fronts) backs p = (all_from_in (Below a) fronts (λ x h. all_in (Below a) (fronts ++ backs) x p.0 (in_left fronts backs x h)), rising_left fronts backs p.1)

pub rising_right : (fronts backs : List (List ℕ)) → Rising (fronts ++ backs) → Rising backs
rising_right [] backs p = p
rising_right (a ∷ fronts) backs p = rising_right fronts backs p.1

pub rising_cross : (fronts backs : List (List ℕ)) (a b : List ℕ) → Rising (fronts ++ backs) → In a fronts → In b backs → Below a b
rising_cross [] backs a b p h i = absurd h
rising_cross (x ∷ fronts) backs a b p (inl e) i = subst (λ (text : List ℕ). Below text b) e (all_in (Below x) (fronts ++ backs) b p.0 (in_right fronts backs b i))
rising_cross (x ∷ fronts) backs a b p (inr h) i = rising_cross fronts backs a b p.1 h i

-- ---- nodes

-- what is a node of some strings, and their nodes
abbrev pub IsNodeIn : List (List ℕ) → List ℕ → Type 0
IsNodeIn strings node = (node ≡ []) ⊎ ((a b : List ℕ) × In a strings × In b strings × (node ≡ common a b))

pub record NodesIn (strings nodes : List (List ℕ)) : Type 0 where
  pub rising : Rising nodes
  pub only : (node : List ℕ) → In node nodes → IsNodeIn strings node
  pub all : (node : List ℕ) → IsNodeIn strings node → In node nodes

-- the first string of those after the one that enters, or the empty one
abbrev pub first_of : List (List ℕ) → List ℕ
first_of [] = []
first_of (text ∷ strings) = text

-- The nodes are cut in two: those that begin the next string and aren't longer than what it shares with the one
-- that enters, and the others.
pub record Cut (name : List ℕ) (strings fronts backs : List (List ℕ)) : Type 0 where
  pub order : Rising (name ∷ strings)
  pub nodes : NodesIn strings (fronts ++ backs)
  pub begin : (node : List ℕ) → In node fronts → begins node (first_of strings) ≡ true
  pub short : (node : List ℕ) → In node fronts → length node ≤ length (common name (first_of strings))
  pub long : (node : List ℕ) → In node backs → begins node (first_of strings) ≡ true → length (common name (first_of strings)) < length node

-- what enters behind the first ones
pub record Enters (name : List ℕ) (strings fronts new : List (List ℕ)) : Type 0 where
  pub only : (node : List ℕ) → In node new → (node ≡ common name (first_of strings)) ⊎ (node ≡ name)
  pub shared : In (common name (first_of strings)) (fronts ++ new)
  pub whole : In name (fronts ++ new)
  pub rising : Rising (fronts ++ new)

first_below : (name : List ℕ) (strings : List (List ℕ)) (x : List ℕ) → Rising (name ∷ strings) → In x strings → (first_of strings ≡ x) ⊎ Below (first_of strings) x
first_below name [] x order h = absurd h
first_below name (later ∷ strings) x order (inl e) = inl e
first_below name (later ∷ strings) x order (inr h) = inr (all_in (Below later) strings x order.1.0 h)

-- the string that enters stands before the others' nodes that it isn't below
name_below : (name : List ℕ) (strings fronts backs : List (List ℕ)) (node : List ℕ) → Cut name strings fronts backs → In node backs → Below name node
name_below name strings fronts backs node cut h =
    elim (cases_Bool (begins node (first_of strings))) [
      | inl front ↦ before strings cut.order (cut.long node h front) front
      | inr apart ↦ away (cut.nodes.only node (in_right fronts backs node h)) apart
    ]
  where
    before : (strings : List (List ℕ)) → Rising (name ∷ strings) → length (common name (first_of strings)) < length node → begins node (first_of strings) ≡ true → Below name node
    before [] order long front = absurd (omega (arith, begins_short node [] front))
    before (later ∷ strings) order long front = parted_below name later node order.0.0 long front

    beside : (x : List ℕ) → In x strings → begins node x ≡ true → begins node (first_of strings) ≡ false → Below name node
    beside x i front apart = ordered (order_cases name node)
      where
        first_later : Below node name ⊎ (node ≡ name) → ⊥
        first_later side = reach (first_below name strings x cut.order i) (entered strings cut.order i) side
          where
            entered : (strings : List (List ℕ)) → Rising (name ∷ strings) → In x strings → Below name (first_of strings)
            entered [] order i = absurd i
            entered (later ∷ strings) order i = order.0.0

            reach : (first_of strings ≡ x) ⊎ Below (first_of strings) x → Below name (first_of strings) → Below node name ⊎ (node ≡ name) → ⊥
            reach (inl e) low side = true≢false (sym (subst (λ (text : List ℕ). begins node text ≡ true) (sym e) front) ∙ apart)
            reach (inr more) low (inl less) =
                true≢false (sym (between_begins node node (first_of strings) x (begins_self node) front (below_trans node name (first_of strings) less low) more) ∙ apart)
            reach (inr more) low (inr e) =
                true≢false (sym (between_begins node node (first_of strings) x (begins_self node) front (subst (λ (text : List ℕ). Below text (first_of strings)) (sym e) low) more) ∙ apart)

        ordered : Below name node ⊎ ((name ≡ node) ⊎ Below node name) → Below name node
        ordered (inl less) = less
        ordered (inr (inl e)) = absurd (first_later (inr (sym e)))
        ordered (inr (inr more)) = absurd (first_later (inl more))

    away : IsNodeIn strings node → begins node (first_of strings) ≡ false → Below name node
    away (inl e) apart = absurd (true≢false (sym (subst (λ (text : List ℕ). begins text (first_of strings) ≡ true) (sym e) refl) ∙ apart))
    away (inr (a, b, p, q, e)) apart = beside a p (rw e (common_left a b)) apart

wider : (name : List ℕ) (strings : List (List ℕ)) (node : List ℕ) → IsNodeIn strings node → IsNodeIn (name ∷ strings) node
wider name strings node (inl e) = inl e
wider name strings node (inr (a, b, p, q, e)) = inr (a, b, inr p, inr q, e)

shared_node : (name : List ℕ) (strings : List (List ℕ)) → IsNodeIn (name ∷ strings) (common name (first_of strings))
shared_node name [] = inl (common_nil name)
shared_node name (later ∷ strings) = inr (name, later, inl refl, inr (inl refl), refl)

-- the nodes of the strings and the one that entered
pub entered : (name : List ℕ) (strings fronts new backs : List (List ℕ)) → Cut name strings fronts backs → Enters name strings fronts new → NodesIn (name ∷ strings) ((fronts ++ new) ++ backs)
entered name strings fronts new backs cut enters = record {
  rising = rising_append (fronts ++ new) backs enters.rising (rising_right fronts backs cut.nodes.rising) (λ a b h i. cross a b (in_either fronts new a h) i);
  only = λ node h. outer node (in_either (fronts ++ new) backs node h);
  all = all;
}
  where
    shared_below : (node : List ℕ) → In node backs → Below (common name (first_of strings)) node
    shared_below node i = by (begins_order (common name (first_of strings)) name (common_left name (first_of strings)))
      where
        by : (common name (first_of strings) ≡ name) ⊎ Below (common name (first_of strings)) name → Below (common name (first_of strings)) node
        by (inl e) = subst (λ (text : List ℕ). Below text node) (sym e) (name_below name strings fronts backs node cut i)
        by (inr less) = below_trans (common name (first_of strings)) name node less (name_below name strings fronts backs node cut i)

    cross : (a b : List ℕ) → In a fronts ⊎ In a new → In b backs → Below a b
    cross a b (inl h) i = rising_cross fronts backs a b cut.nodes.rising h i
    cross a b (inr h) i = by (enters.only a h)
      where
        by : (a ≡ common name (first_of strings)) ⊎ (a ≡ name) → Below a b
        by (inl e) = subst (λ (text : List ℕ). Below text b) (sym e) (shared_below b i)
        by (inr e) = subst (λ (text : List ℕ). Below text b) (sym e) (name_below name strings fronts backs b cut i)

    inner : (node : List ℕ) → In node fronts ⊎ In node new → IsNodeIn (name ∷ strings) node
    inner node (inl h) = wider name strings node (cut.nodes.only node (in_left fronts backs node h))
    inner node (inr h) = by (enters.only node h)
      where
        by : (node ≡ common name (first_of strings)) ⊎ (node ≡ name) → IsNodeIn (name ∷ strings) node
        by (inl e) = subst (IsNodeIn (name ∷ strings)) (sym e) (shared_node name strings)
        by (inr e) = inr (name, name, inl refl, inl refl, e ∙ sym (common_self name))

    outer : (node : List ℕ) → In node (fronts ++ new) ⊎ In node backs → IsNodeIn (name ∷ strings) node
    outer node (inl h) = inner node (in_either fronts new node h)
    outer node (inr h) = wider name strings node (cut.nodes.only node (in_right fronts backs node h))

    kept : (node : List ℕ) → In node fronts ⊎ In node backs → In node ((fronts ++ new) ++ backs)
    kept node (inl h) = in_left (fronts ++ new) backs node (in_left fronts new node h)
    kept node (inr h) = in_right (fronts ++ new) backs node h

    old : (node : List ℕ) → IsNodeIn strings node → In node ((fronts ++ new) ++ backs)
    old node is = kept node (in_either fronts backs node (cut.nodes.all node is))

    has_shared : In (common name (first_of strings)) ((fronts ++ new) ++ backs)
    has_shared = in_left (fronts ++ new) backs (common name (first_of strings)) enters.shared

    -- what the string shares with a later one
    across : (strings' : List (List ℕ)) → strings' ≡ strings → Rising (name ∷ strings') → (b : List ℕ) → In b strings' → In (common name b) ((fronts ++ new) ++ backs)
    across [] same order b i = absurd i
    across (later ∷ rest) same order b (inl e) =
        let here : In (common name later) ((fronts ++ new) ++ backs) = subst (λ (texts : List (List ℕ)). In (common name (first_of texts)) ((fronts ++ new) ++ backs)) (sym same) has_shared in
        subst (λ (text : List ℕ). In (common name text) ((fronts ++ new) ++ backs)) e here
    across (later ∷ rest) same order b (inr i) =
        let here : In (common name later) ((fronts ++ new) ++ backs) = subst (λ (texts : List (List ℕ)). In (common name (first_of texts)) ((fronts ++ new) ++ backs)) (sym same) has_shared in
        let past : In (common later b) ((fronts ++ new) ++ backs) =
        old (common later b) (subst (λ (texts : List (List ℕ)). IsNodeIn texts (common later b)) same (inr (later, b, inl refl, inr i, refl))) in
        by (common_three name later b order.0.0 (all_in (Below later) rest b order.1.0 i)) here past
      where
        by : (common name b ≡ common name later) ⊎ (common name b ≡ common later b) → In (common name later) ((fronts ++ new) ++ backs) → In (common later b) ((fronts ++ new) ++ backs) → In (common name b) ((fronts ++ new) ++ backs)
        by (inl e) here past = subst (λ (text : List ℕ). In text ((fronts ++ new) ++ backs)) (sym e) here
        by (inr e) here past = subst (λ (text : List ℕ). In text ((fronts ++ new) ++ backs)) (sym e) past

    pairs : (a b : List ℕ) → (name ≡ a) ⊎ In a strings → (name ≡ b) ⊎ In b strings → In (common a b) ((fronts ++ new) ++ backs)
    pairs a b (inl p) (inl q) =
        let whole : In name ((fronts ++ new) ++ backs) = in_left (fronts ++ new) backs name enters.whole in
        subst (λ (text : List ℕ). In text ((fronts ++ new) ++ backs)) (sym (common_self name) ∙ (ap (λ (text : List ℕ). common name text) q ∙ ap (λ (text : List ℕ). common text b) p)) whole
    pairs a b (inl p) (inr q) = subst (λ (text : List ℕ). In (common text b) ((fronts ++ new) ++ backs)) p (across strings refl cut.order b q)
    pairs a b (inr p) (inl q) =
        subst (λ (text : List ℕ). In text ((fronts ++ new) ++ backs)) (common_comm name a ∙ ap (λ (text : List ℕ). common a text) q) (across strings refl cut.order a p)
    pairs a b (inr p) (inr q) = old (common a b) (inr (a, b, p, q, refl))

    all : (node : List ℕ) → IsNodeIn (name ∷ strings) node → In node ((fronts ++ new) ++ backs)
    all node (inl e) = old node (inl e)
    all node (inr (a, b, p, q, e)) = subst (λ (text : List ℕ). In text ((fronts ++ new) ++ backs)) (sym e) (pairs a b p q)

-- what is on the way to the string that entered, and what isn't
pub entered_begin : (name : List ℕ) (strings fronts new backs : List (List ℕ)) (node : List ℕ) → Cut name strings fronts backs → Enters name strings fronts new → In node (fronts ++ new) → begins node name ≡ true
entered_begin name strings fronts new backs node cut enters h = by (in_either fronts new node h)
  where
    only : (node ≡ common name (first_of strings)) ⊎ (node ≡ name) → begins node name ≡ true
    only (inl e) = subst (λ (text : List ℕ). begins text name ≡ true) (sym e) (common_left name (first_of strings))
    only (inr e) = subst (λ (text : List ℕ). begins text name ≡ true) (sym e) (begins_self name)

    by : In node fronts ⊎ In node new → begins node name ≡ true
    by (inl h) =
        begins_trans node (common name (first_of strings)) name
        (begins_shorter node (common name (first_of strings)) (first_of strings) (cut.begin node h) (common_right name (first_of strings)) (cut.short node h))
        (common_left name (first_of strings))
    by (inr h) = only (enters.only node h)

pub entered_apart : (name : List ℕ) (strings fronts backs : List (List ℕ)) (node : List ℕ) → Cut name strings fronts backs → In node backs → begins node name ≡ false
entered_apart name strings fronts backs node cut h = not_begun name node (name_below name strings fronts backs node cut h)
