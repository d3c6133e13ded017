-- Shapes that are the same.
use Rattle.std.proofs.Common.{◌≡◌, ℕ, Bool, true, false, List, [], ◌∷◌, ◌++◌, ◌&&◌, ◌==◌, refl, ap, Option, Some, None}
use Rattle.std.specs.List.{flat_map}
use Rattle.std.specs.Cmp.{IsEquivalence}
use Rattle.std.specs.Cmp.Lexicographic.{pointwise}
use Rattle.std.specs.Hash as fed
use Rattle.std.specs.Hash.{HashWrites}
use Rattle.std.specs.Ordering.{eq_by_cmp, int_eq}
use Rattle.std.specs.Str.{bytes_eq}
use Rattle.std.proofs.lemmas.Bool.{and_parts, eqb-true}
use Rattle.std.proofs.lemmas.Bool.Decides.{Decides-int_eq}
use Rattle.std.proofs.lemmas.Cmp.{and_equiv, int_eq_equiv, lists_equiv, nat_eq_equiv, nat_list_eq_equiv, on_equiv}
use Rattle.std.proofs.lemmas.Slice.Eq.{bytes_eq-Decides}
use Rattle.mo_types.proofs.Goals.{same_goals}
use Rattle.mo_types.specs.Goals.{compare_goals}
use Rattle.mo_types.specs.GoalOrder.{compare_goals_equal}
use Rattle.mo_types.specs.declared.goal.Goal.{Goal}
use Rattle.mo_types.specs.declared.key.AtomKey.{AtomKey}
use Rattle.fold_code.specs.declared.node.FoldGoal.{FoldGoal}
use Rattle.fold_code.specs.declared.node.FoldGoal.TheVariants.{Node, Other}
use Rattle.fold_code.specs.declared.node.Link.{Link}
use Rattle.fold_code.specs.declared.node.FoldUnwind.{FoldUnwind}
use Rattle.fold_code.specs.declared.node.FoldNode.{FoldNode}
use Rattle.fold_code.specs.declared.shape.Shape.{Shape}
use Rattle.fold_code.specs.inner.Shapes.{feed_goal, feed_link, feed_lsda, feed_optional, feed_shape, feed_unwind, kind_number, same_goal, same_key, same_link, same_lsda, same_optional, same_shape, same_unwind}

-- ---- the tests are equivalences

goals_equal : IsEquivalence same_goal
goals_equal = record { refl = itself; symm = turned; congr = others }
  where
    itself : (a : FoldGoal) → same_goal a a ≡ true
    itself (Node a at) = nat_eq_equiv.refl at
    itself (Other a) = compare_goals_equal.refl a

    turned : (a b : FoldGoal) → same_goal a b ≡ same_goal b a
    turned (Node a at) (Node b to) = nat_eq_equiv.symm at to
    turned (Node a at) (Other b) = refl
    turned (Other a) (Node b to) = refl
    turned (Other a) (Other b) = compare_goals_equal.symm a b

    others : (a b c : FoldGoal) → same_goal a b ≡ true → same_goal a c ≡ same_goal b c
    others (Node a at) (Node b to) (Node c on) e = nat_eq_equiv.congr at to on e
    others (Node a at) (Node b to) (Other c) e = refl
    others (Node a at) (Other b) c e = cc
    others (Other a) (Node b to) c e = cc
    others (Other a) (Other b) (Node c on) e = refl
    others (Other a) (Other b) (Other c) e = compare_goals_equal.congr a b c e

optionals_equal : IsEquivalence same_optional
optionals_equal = record { refl = itself; symm = turned; congr = others }
  where
    itself : (a : Option FoldGoal) → same_optional a a ≡ true
    itself None = refl
    itself (Some a) = goals_equal.refl a

    turned : (a b : Option FoldGoal) → same_optional a b ≡ same_optional b a
    turned None None = refl
    turned None (Some b) = refl
    turned (Some a) None = refl
    turned (Some a) (Some b) = goals_equal.symm a b

    others : (a b c : Option FoldGoal) → same_optional a b ≡ true → same_optional a c ≡ same_optional b c
    others None None c e = refl
    others None (Some b) c e = cc
    others (Some a) None c e = cc
    others (Some a) (Some b) None e = refl
    others (Some a) (Some b) (Some c) e = goals_equal.congr a b c e

keys_equal : IsEquivalence same_key
keys_equal =
    and_equiv
    (and_equiv (on_equiv (λ (k : AtomKey). k.file.position) nat_eq_equiv) (on_equiv (λ (k : AtomKey). k.file.member) nat_eq_equiv))
    (and_equiv (on_equiv (λ (k : AtomKey). k.section) nat_eq_equiv) (on_equiv (λ (k : AtomKey). k.offset) nat_eq_equiv))

lsdas_equal : IsEquivalence same_lsda
lsdas_equal = record { refl = itself; symm = turned; congr = others }
  where
    both : IsEquivalence (λ (a b : AtomKey × ℕ). same_key a.0 b.0 && a.1 == b.1)
    both = and_equiv (on_equiv (λ (p : AtomKey × ℕ). p.0) keys_equal) (on_equiv (λ (p : AtomKey × ℕ). p.1) nat_eq_equiv)

    itself : (a : Option (AtomKey × ℕ)) → same_lsda a a ≡ true
    itself None = refl
    itself (Some a) = both.refl a

    turned : (a b : Option (AtomKey × ℕ)) → same_lsda a b ≡ same_lsda b a
    turned None None = refl
    turned None (Some b) = refl
    turned (Some a) None = refl
    turned (Some a) (Some b) = both.symm a b

    others : (a b c : Option (AtomKey × ℕ)) → same_lsda a b ≡ true → same_lsda a c ≡ same_lsda b c
    others None None c e = refl
    others None (Some b) c e = cc
    others (Some a) None c e = cc
    others (Some a) (Some b) None e = refl
    others (Some a) (Some b) (Some c) e = both.congr a b c e

links_equal : IsEquivalence same_link
links_equal =
    and_equiv
    (and_equiv (and_equiv (and_equiv (on_equiv (λ (l : Link). l.place) nat_eq_equiv) (on_equiv (λ (l : Link). kind_number l.kind) nat_eq_equiv)) (on_equiv (λ (l : Link). l.addend) int_eq_equiv))
    (on_equiv (λ (l : Link). l.goal) goals_equal))
    (on_equiv (λ (l : Link). l.minus) optionals_equal)

unwinds_equal : IsEquivalence same_unwind
unwinds_equal =
    and_equiv
    (and_equiv (and_equiv (and_equiv (on_equiv (λ (u : FoldUnwind). u.offset) nat_eq_equiv) (on_equiv (λ (u : FoldUnwind). u.length) nat_eq_equiv)) (on_equiv (λ (u : FoldUnwind). u.encoding) nat_eq_equiv))
    (on_equiv (λ (u : FoldUnwind). u.personality) optionals_equal))
    (on_equiv (λ (u : FoldUnwind). u.lsda) lsdas_equal)

pub nodes_equal : IsEquivalence same_shape
unfolding same_shape
nodes_equal =
    and_equiv (and_equiv (on_equiv (λ (n : FoldNode). n.bytes) nat_list_eq_equiv) (on_equiv (λ (n : FoldNode). n.links) (lists_equiv links_equal)))
    (on_equiv (λ (n : FoldNode). n.unwinds) (lists_equiv unwinds_equal))

pub shapes_equal : IsEquivalence (λ (a b : Shape). same_shape a.node.now b.node.now)
shapes_equal = on_equiv (λ (s : Shape). s.node.now) nodes_equal

-- ---- what their tests mean

pub same_keys : (a b : AtomKey) → same_key a b ≡ true → a ≡ b
same_keys a b e =
    let p = and_parts (a.file.position == b.file.position && a.file.member == b.file.member) (a.section == b.section && a.offset == b.offset) e in
    let q = and_parts (a.file.position == b.file.position) (a.file.member == b.file.member) p.0 in
    let r = and_parts (a.section == b.section) (a.offset == b.offset) p.1 in
    let position = eqb-true a.file.position b.file.position q.0 in
    let member = eqb-true a.file.member b.file.member q.1 in
    let section = eqb-true a.section b.section r.0 in
    let offset = eqb-true a.offset b.offset r.1 in
    (λ i. record { file = record { position = position i; member = member i }; section = section i; offset = offset i })

pub same_others : (a b : Goal) → eq_by_cmp compare_goals a b ≡ true → a ≡ b
same_others a b e = (same_goals a b).0 e

pub five : (a b c d f : Bool) → (a && b && c && d && f) ≡ true → (a ≡ true) × (b ≡ true) × (c ≡ true) × (d ≡ true) × (f ≡ true)
five true true true true true e = (refl, refl, refl, refl, refl)
five true true true true false e = cc
five true true true false f e = cc
five true true false d f e = cc
five true false c d f e = cc
five false b c d f e = cc

-- ---- and they are hashed alike

goals_feed : (a b : FoldGoal) → same_goal a b ≡ true → feed_goal a ≡ feed_goal b
goals_feed (Node a at) (Node b to) e = ap fed.u64 (eqb-true at to e)
goals_feed (Node a at) (Other b) e = cc
goals_feed (Other a) (Node b to) e = cc
goals_feed (Other a) (Other b) e = ap (λ (g : Goal). feed_goal (Other g)) (same_others a b e)

optionals_feed : (a b : Option FoldGoal) → same_optional a b ≡ true → feed_optional a ≡ feed_optional b
optionals_feed None None e = refl
optionals_feed None (Some b) e = cc
optionals_feed (Some a) None e = cc
optionals_feed (Some a) (Some b) e = goals_feed a b e

lsdas_feed : (a b : Option (AtomKey × ℕ)) → same_lsda a b ≡ true → feed_lsda a ≡ feed_lsda b
lsdas_feed None None e = refl
lsdas_feed None (Some b) e = cc
lsdas_feed (Some a) None e = cc
lsdas_feed (Some a) (Some b) e =
    let p = and_parts (same_key a.0 b.0) (a.1 == b.1) e in
    let k = same_keys a.0 b.0 p.0 in
    let n = eqb-true a.1 b.1 p.1 in
    (λ i. feed_lsda (Some (k i, n i)))

links_feed : (a b : Link) → same_link a b ≡ true → feed_link a ≡ feed_link b
links_feed a b e =
    let p = five (a.place == b.place) (kind_number a.kind == kind_number b.kind) (int_eq a.addend b.addend) (same_goal a.goal b.goal) (same_optional a.minus b.minus) e in
    let place = eqb-true a.place b.place p.0 in
    let addend = (Decides-int_eq a.addend b.addend).0 p.2 in
    let goal = goals_feed a.goal b.goal p.3 in
    let minus = optionals_feed a.minus b.minus p.4 in
    (λ i. fed.u64 (place i) ++ fed.i64 (addend i) ++ goal i ++ minus i)

unwinds_feed : (a b : FoldUnwind) → same_unwind a b ≡ true → feed_unwind a ≡ feed_unwind b
unwinds_feed a b e =
    let p = five (a.offset == b.offset) (a.length == b.length) (a.encoding == b.encoding) (same_optional a.personality b.personality) (same_lsda a.lsda b.lsda) e in
    let offset = eqb-true a.offset b.offset p.0 in
    let long = eqb-true a.length b.length p.1 in
    let encoding = eqb-true a.encoding b.encoding p.2 in
    let personality = optionals_feed a.personality b.personality p.3 in
    let lsda = lsdas_feed a.lsda b.lsda p.4 in
    (λ i. fed.u64 (offset i) ++ fed.u32 (long i) ++ fed.u32 (encoding i) ++ personality i ++ lsda i)

lists_feed : {X : Type 0} (E : X → X → Bool) (F : X → HashWrites) → ((a b : X) → E a b ≡ true → F a ≡ F b) → (xs ys : List X) → pointwise E xs ys ≡ true → flat_map F xs ≡ flat_map F ys
lists_feed E F each [] [] e = refl
lists_feed E F each [] (y ∷ ys) e = cc
lists_feed E F each (x ∷ xs) [] e = cc
lists_feed E F each (x ∷ xs) (y ∷ ys) e =
    let p = and_parts (E x y) (pointwise E xs ys) e in
    let here = each x y p.0 in
    let rest = lists_feed E F each xs ys p.1 in
    (λ i. here i ++ rest i)

nodes_feed : (a b : FoldNode) → same_shape a b ≡ true → feed_shape a ≡ feed_shape b
unfolding same_shape feed_shape
nodes_feed a b e =
    let p = and_parts (bytes_eq a.bytes b.bytes && pointwise same_link a.links b.links) (pointwise same_unwind a.unwinds b.unwinds) e in
    let q = and_parts (bytes_eq a.bytes b.bytes) (pointwise same_link a.links b.links) p.0 in
    let bytes = (bytes_eq-Decides a.bytes b.bytes).0 q.0 in
    let links = lists_feed same_link feed_link links_feed a.links b.links q.1 in
    let unwinds = lists_feed same_unwind feed_unwind unwinds_feed a.unwinds b.unwinds p.1 in
    (λ i. fed.slice fed.u8 (bytes i) ++ links i ++ unwinds i)

pub shapes_feed : (a b : Shape) → same_shape a.node.now b.node.now ≡ true → feed_shape a.node.now ≡ feed_shape b.node.now
shapes_feed a b e = nodes_feed a.node.now b.node.now e
