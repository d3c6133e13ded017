-- The rounds of refining.
use Rattle.std.proofs.Common.{◌≡◌, ℕ, zero, suc, ◌-◌, ◌*◌, ◌<◌, ◌≤◌, true, false, List, [], ◌∷◌, length, map, get_or, All, refl, sym, ap, subst, ◌∙◌, arith, Option, Some, None, nat_eq, ◌⊎◌, ◌≢◌, inl, inr}
use Rattle.std.specs.Prelude.{slice_get}
use Rattle.std.specs.List.{flat_map, sum_by}
use Rattle.std.specs.Cmp.Lexicographic.{pointwise}
use Rattle.std.proofs.lemmas.Bool.{cases_eq, eq-eqb}
use Rattle.std.proofs.lemmas.Cmp.{nat_list_eq_equiv}
use Rattle.std.proofs.lemmas.List.{length-map}
use Rattle.std.proofs.lemmas.List.Elements.{All-append, All-cons, All-from_get_or, All-get_or, All-head, All-nil, All-tail}
use Rattle.std.proofs.lemmas.List.Sums.{sum_by-cons, sum_by-le}
use Rattle.std.proofs.lemmas.Option.{slice_get-get_or, slice_get_within}
use Rattle.std.proofs.lemmas.Slice.Eq.{bytes_eq-Decides}
use Rattle.fold_code.specs.declared.node.FoldGoal.{FoldGoal}
use Rattle.fold_code.specs.declared.node.FoldGoal.TheVariants.{Node, Other}
use Rattle.fold_code.specs.declared.node.FoldNode.{FoldNode}
use Rattle.fold_code.specs.Fold.{AreNodes, GoalIsWithin, IsAlike, IsFolded, IsRefined, IsWithin, LinkIsWithin, NodeIsWithin, Partition, UnwindIsWithin, partition_of}
use Rattle.fold_code.specs.inner.Firsts.{AreFirsts}
use Rattle.fold_code.specs.inner.Rounds.{AreBelow, AreFirstNumbers, AreRows, IsNext, IsRound, row_of}
use Rattle.fold_code.specs.inner.Shapes.{ends_of, ends_of_goal, ends_of_link, ends_of_optional, ends_of_unwind, same_shape}
use Rattle.fold_code.specs.inner.ShapeLaws.{nodes_equal}
use Rattle.fold_code.proofs.AlikeLemmas.{nodes_told}
use Rattle.fold_code.proofs.KeyLemmas.{at_within, equal_keys, numbers}

-- ---- the ends are nodes

goal_below : (n : ℕ) (goal : FoldGoal) → GoalIsWithin n goal → All (λ e. e < n) (ends_of_goal goal)
goal_below n (Node node at) h = All-cons (λ e. e < n) node [] h (All-nil (λ e. e < n))
goal_below n (Other goal) h = All-nil (λ e. e < n)

optional_below : (n : ℕ) (goal : Option FoldGoal) → IsWithin n goal → All (λ e. e < n) (ends_of_optional goal)
optional_below n None h = All-nil (λ e. e < n)
optional_below n (Some goal) h = goal_below n goal h

flat_below : {X : Type 0} (P : ℕ → Type 0) (f : X → List ℕ) (Q : X → Type 0) → ((x : X) → Q x → All P (f x)) → (xs : List X) → All Q xs → All P (flat_map f xs)
flat_below P f Q each [] h = All-nil P
flat_below P f Q each (x ∷ xs) h = All-append P (f x) (flat_map f xs) (each x (All-head Q x xs h)) (flat_below P f Q each xs (All-tail Q x xs h))

node_below : (n : ℕ) (node : FoldNode) → NodeIsWithin n node → All (λ e. e < n) (ends_of node)
unfolding ends_of
node_below n node h =
    All-append (λ e. e < n) (flat_map ends_of_link node.links) (flat_map ends_of_unwind node.unwinds)
    (flat_below (λ e. e < n) ends_of_link (LinkIsWithin n) (λ link k. All-append (λ e. e < n) (ends_of_goal link.goal) (ends_of_optional link.minus) (goal_below n link.goal k.0) (optional_below n link.minus k.1)) node.links h.links)
    (flat_below (λ e. e < n) ends_of_unwind (UnwindIsWithin n) (λ unwind k. optional_below n unwind.personality k) node.unwinds h.unwinds)

all_below : (n : ℕ) (nodes : List FoldNode) → All (NodeIsWithin n) nodes → AreBelow n (map ends_of nodes)
all_below n [] h = All-nil (All (λ e. e < n))
all_below n (x ∷ xs) h = All-cons (All (λ e. e < n)) (ends_of x) (map ends_of xs) (node_below n x (All-head (NodeIsWithin n) x xs h)) (all_below n xs (All-tail (NodeIsWithin n) x xs h))

pub below : (nodes : List FoldNode) (ends : List (List ℕ)) (n : ℕ) → AreNodes nodes → ends ≡ map ends_of nodes → n ≡ length nodes → AreBelow n ends
below nodes ends n are is long = subst (λ (m : ℕ). AreBelow m ends) (sym long) (subst (AreBelow (length nodes)) (sym is) (all_below (length nodes) nodes are.within))

-- ---- the first round

pub first_is_round : (nodes : List FoldNode) (firsts : List ℕ) → AreFirsts same_shape nodes firsts → IsRound nodes firsts
first_is_round nodes firsts first = record {
  numbers = numbers nodes_equal nodes firsts first;
  shaped = λ a b x y e f same. equal_keys nodes_equal nodes firsts first a b x y e f same;
  coarse = λ other alike. record {
    kept = λ a b low high same.
        let x = at_within nodes a low in
        let y = at_within nodes b high in
        first.same a b x.0 y.0 x.1 y.1 ((nodes_told other).test x.0 y.0 (alike.alike a b x.0 y.0 x.1 y.1 same));
  };
}

-- ---- the next one

row_there : (ends rows : List (List ℕ)) (a : ℕ) → length rows ≡ length ends → a < length ends → slice_get rows a ≡ Some (get_or rows a [])
row_there ends rows a long low = slice_get-get_or rows a [] (omega arith)

pub rows_are_next : (firsts : List ℕ) (ends rows : List (List ℕ)) (next : List ℕ) → AreRows firsts ends rows → AreFirsts (pointwise nat_eq) rows next → IsNext ends firsts next
rows_are_next firsts ends rows next are first = record {
  numbers = subst (λ (n : ℕ). AreFirstNumbers n next) are.each (numbers nat_list_eq_equiv rows next first);
  told = λ a b low high same.
      let equal : get_or rows a [] ≡ get_or rows b [] = (bytes_eq-Decides (get_or rows a []) (get_or rows b [])).0 (equal_keys nat_list_eq_equiv rows next first a b (get_or rows a []) (get_or rows b []) (row_there ends rows a are.each low) (row_there ends rows b are.each high) same) in
      sym (are.row a low) ∙ equal ∙ are.row b high;
  kept = λ a b low high same.
      let equal : get_or rows a [] ≡ get_or rows b [] = are.row a low ∙ same ∙ sym (are.row b high) in
      first.same a b (get_or rows a []) (get_or rows b []) (row_there ends rows a are.each low) (row_there ends rows b are.each high) ((bytes_eq-Decides (get_or rows a []) (get_or rows b [])).1 equal);
}

map_refined : (n : ℕ) (other class : Partition) → IsRefined n other class → (xs ys : List ℕ) → All (λ e. e < n) xs → All (λ e. e < n) ys → map other xs ≡ map other ys → map class xs ≡ map class ys
map_refined n other class refined [] [] h k e = refl
map_refined n other class refined [] (y ∷ ys) h k e = cc
map_refined n other class refined (x ∷ xs) [] h k e = cc
map_refined n other class refined (x ∷ xs) (y ∷ ys) h k e =
    let head : other x ≡ other y = cc in
    let tail : map other xs ≡ map other ys = cc in
    let here = refined.kept x y (All-head (λ e. e < n) x xs h) (All-head (λ e. e < n) y ys k) head in
    let rest = map_refined n other class refined xs ys (All-tail (λ e. e < n) x xs h) (All-tail (λ e. e < n) y ys k) tail in
    (λ i. here i ∷ rest i)

ends_at : (nodes : List FoldNode) (a : ℕ) (x : FoldNode) → slice_get nodes a ≡ Some x → get_or (map ends_of nodes) a [] ≡ ends_of x
ends_at [] a x e = cc
ends_at (y ∷ nodes) zero x e = let same : y ≡ x = cc in ap ends_of same
ends_at (y ∷ nodes) (suc a) x e = ends_at nodes a x e

row_parts : (class : Partition) (a b : ℕ) (xs ys : List ℕ) → row_of class a xs ≡ row_of class b ys → (class a ≡ class b) × (map class xs ≡ map class ys)
row_parts class a b xs ys e = let head : class a ≡ class b = cc in let tail : map class xs ≡ map class ys = cc in (head, tail)

next_coarse : (nodes : List FoldNode) (ends : List (List ℕ)) (firsts next : List ℕ) → AreBelow (length nodes) ends → ends ≡ map ends_of nodes → IsRound nodes firsts → length ends ≡ length nodes → IsNext ends firsts next
    → (other : Partition) → IsAlike nodes other → (a b : ℕ) → a < length nodes → b < length nodes → other a ≡ other b → partition_of next a ≡ partition_of next b
next_coarse nodes ends firsts next under is round long new other alike a b low high same =
    let x = at_within nodes a low in
    let y = at_within nodes b high in
    let refined = round.coarse other alike in
    let class : partition_of firsts a ≡ partition_of firsts b = refined.kept a b low high same in
    let of_a : get_or ends a [] ≡ ends_of x.0 = ap (λ (es : List (List ℕ)). get_or es a []) is ∙ ends_at nodes a x.0 x.1 in
    let of_b : get_or ends b [] ≡ ends_of y.0 = ap (λ (es : List (List ℕ)). get_or es b []) is ∙ ends_at nodes b y.0 y.1 in
    let others : map other (get_or ends a []) ≡ map other (get_or ends b []) = ap (map other) of_a ∙ (nodes_told other).same x.0 y.0 (alike.alike a b x.0 y.0 x.1 y.1 same) ∙ ap (map other) (sym of_b) in
    let tail = map_refined (length nodes) other (partition_of firsts) refined (get_or ends a []) (get_or ends b []) (All-get_or (All (λ e. e < length nodes)) ends a [] (omega arith) under)
    (All-get_or (All (λ e. e < length nodes)) ends b [] (omega arith) under) others in
    new.kept a b (omega arith) (omega arith) (λ i. class i ∷ tail i)

as_many : (nodes : List FoldNode) (ends : List (List ℕ)) → ends ≡ map ends_of nodes → length ends ≡ length nodes
as_many nodes ends is = ap length is ∙ length-map nodes ends_of

pub next_is_round : (nodes : List FoldNode) (ends : List (List ℕ)) (firsts next : List ℕ) → AreNodes nodes → ends ≡ map ends_of nodes → IsRound nodes firsts → IsNext ends firsts next → IsRound nodes next
next_is_round nodes ends firsts next are is round new =
    let long = as_many nodes ends is in
    record {
      numbers = subst (λ (n : ℕ). AreFirstNumbers n next) long new.numbers;
      shaped = λ a b x y e f same.
          let low : a < length nodes = slice_get_within nodes a x e in
          let high : b < length nodes = slice_get_within nodes b y f in
          round.shaped a b x y e f (row_parts (partition_of firsts) a b (get_or ends a []) (get_or ends b []) (new.told a b (omega arith) (omega arith) same)).0;
      coarse = λ other alike. record {
        kept = next_coarse nodes ends firsts next (below nodes ends (length nodes) are is refl) is round long new other alike;
      };
    }

-- ---- the last one

pub equal_lists : (xs ys : List ℕ) → pointwise nat_eq xs ys ≡ true → xs ≡ ys
equal_lists xs ys e = (bytes_eq-Decides xs ys).0 e

pub last_round : (nodes : List FoldNode) (ends : List (List ℕ)) (firsts next : List ℕ) → AreNodes nodes → ends ≡ map ends_of nodes → IsRound nodes firsts → IsNext ends firsts next → next ≡ firsts → IsFolded nodes firsts
last_round nodes ends firsts next are is round new same =
    let long = as_many nodes ends is in
    record {
      each = round.numbers.each;
      coarsest = record {
        alike = record {
          alike = λ a b x y e f one.
              let low : a < length nodes = slice_get_within nodes a x e in
              let high : b < length nodes = slice_get_within nodes b y f in
              let again : partition_of next a ≡ partition_of next b = (λ i. partition_of (same i) a) ∙ one ∙ (λ i. partition_of (sym same i) b) in
              let tail = (row_parts (partition_of firsts) a b (get_or ends a []) (get_or ends b []) (new.told a b (omega arith) (omega arith) again)).1 in
              let of_a : get_or ends a [] ≡ ends_of x = ap (λ (es : List (List ℕ)). get_or es a []) is ∙ ends_at nodes a x e in
              let of_b : get_or ends b [] ≡ ends_of y = ap (λ (es : List (List ℕ)). get_or es b []) is ∙ ends_at nodes b y f in
              (nodes_told (partition_of firsts)).from x y (round.shaped a b x y e f one) (ap (map (partition_of firsts)) (sym of_a) ∙ tail ∙ ap (map (partition_of firsts)) of_b);
        };
        coarsest = round.coarse;
      };
      within = round.numbers.itself;
      first = round.numbers.least;
    }

-- ---- there is an end

abbrev pub total : List ℕ → ℕ
total xs = sum_by (λ (x : ℕ). x) xs

step_up : (xs ys : List ℕ) → length xs ≡ length ys → ((a : ℕ) → a < length xs → get_or xs a 0 ≤ get_or ys a 0) → total xs ≤ total ys
step_up [] [] long up = omega arith
step_up [] (y ∷ ys) long up = absurd (omega arith)
step_up (x ∷ xs) [] long up = absurd (omega arith)
step_up (x ∷ xs) (y ∷ ys) long up =
    let here : x ≤ y = up 0 (omega arith) in
    let rest = step_up xs ys (omega arith) (λ a low. up (suc a) (omega arith)) in
    omega (arith, sum_by-cons (λ (n : ℕ). n) x xs, sum_by-cons (λ (n : ℕ). n) y ys)

more_up : (xs ys : List ℕ) → length xs ≡ length ys → ((a : ℕ) → a < length xs → get_or xs a 0 ≤ get_or ys a 0) → pointwise nat_eq ys xs ≡ false → total xs < total ys
more_up [] [] long up e = cc
more_up [] (y ∷ ys) long up e = absurd (omega arith)
more_up (x ∷ xs) [] long up e = absurd (omega arith)
more_up (x ∷ xs) (y ∷ ys) long up e = by (cases_eq y x) (more_up xs ys (omega arith) (λ a low. up (suc a) (omega arith)))
  where
    here : x ≤ y
    here = up 0 (omega arith)

    rest : total xs ≤ total ys
    rest = step_up xs ys (omega arith) (λ a low. up (suc a) (omega arith))

    by : (y ≡ x) ⊎ (y ≡ x → ⊥) → (pointwise nat_eq ys xs ≡ false → total xs < total ys) → total (x ∷ xs) < total (y ∷ ys)
    by (inl same) more =
        let t : nat_eq y x ≡ true = eq-eqb y x same in
        let f : pointwise nat_eq ys xs ≡ false = rw t at e in
        let m : total xs < total ys = more f in
        omega (arith, here, sum_by-cons (λ (n : ℕ). n) x xs, sum_by-cons (λ (n : ℕ). n) y ys)
    by (inr apart) more = let other : y ≢ x = apart in omega (arith, here, rest, sum_by-cons (λ (n : ℕ). n) x xs, sum_by-cons (λ (n : ℕ). n) y ys)

first_up : (nodes : List FoldNode) (ends : List (List ℕ)) (firsts next : List ℕ) → length ends ≡ length nodes → IsRound nodes firsts → IsNext ends firsts next → (a : ℕ) → a < length firsts → get_or firsts a 0 ≤ get_or next a 0
first_up nodes ends firsts next long round new a low =
    let under : a < length ends = omega (arith, round.numbers.each) in
    let most : partition_of next a ≤ a = new.numbers.least a a under under refl in
    let known : partition_of next (partition_of next a) ≡ partition_of next a = new.numbers.itself a under in
    let within : partition_of next a < length ends = omega arith in
    let same : partition_of firsts (partition_of next a) ≡ partition_of firsts a = (row_parts (partition_of firsts) (partition_of next a) a (get_or ends (partition_of next a) []) (get_or ends a []) (new.told (partition_of next a) a within under known)).0 in
    round.numbers.least a (partition_of next a) (omega arith) (omega arith) (sym same)

bounded : (n : ℕ) (next : List ℕ) → AreFirstNumbers n next → total next ≤ n * n
bounded n next are =
    let under : All (λ (x : ℕ). x ≤ n) next = All-from_get_or (λ (x : ℕ). x ≤ n) next 0 (λ a low. let m : partition_of next a ≤ a = are.least a a (omega (arith, are.each)) (omega (arith, are.each)) refl in omega (arith, are.each)) in
    subst (λ (m : ℕ). total next ≤ m * n) are.each (sum_by-le (λ (x : ℕ). x) n next under)

pub smaller : (nodes : List FoldNode) (ends : List (List ℕ)) (firsts next : List ℕ) → ends ≡ map ends_of nodes → IsRound nodes firsts → IsNext ends firsts next → pointwise nat_eq next firsts ≡ false
    → length nodes * length nodes - total next < length nodes * length nodes - total firsts
smaller nodes ends firsts next is round new other =
    let long = as_many nodes ends is in
    let up : total firsts < total next = more_up firsts next (round.numbers.each ∙ sym long ∙ sym new.numbers.each) (first_up nodes ends firsts next long round new) other in
    let top : total next ≤ length nodes * length nodes = bounded (length nodes) next (subst (λ (n : ℕ). AreFirstNumbers n next) long new.numbers) in
    omega arith
