-- Groups of literals, with one literal more.
use Rattle.std.proofs.Common.{◌≡◌, ℕ, ◌+◌, ◌<◌, ◌≤◌, Bool, true, false, List, [], ◌∷◌, ◌++◌, length, map, filter, fold, max, take, get_or, refl, sym, ap, ◌∙◌, arith, Some}
use Rattle.std.specs.Prelude.{Option}
use Rattle.std.specs.HashMap.{HashMap, Updates, get}
use Rattle.std.proofs.lemmas.List.{get_or_default, map-append, take_more, take_all}
use Rattle.std.proofs.lemmas.List.Elements.{filter-append}
use Rattle.std.proofs.lemmas.List.Sums.{fold-append}
use Rattle.literal_merge.specs.Representatives.{Literal, greatest_align, is_same, representative_among, representative_of}
use Rattle.literal_merge.specs.declared.groups.Group.{Group}
use Rattle.literal_merge.specs.declared.literal.Content.{Content}
use Rattle.literal_merge.specs.declared.literal.LiteralIn.{LiteralIn}
use Rattle.literal_merge.specs.declared.representative.Representative.{Representative}
use Rattle.literal_merge.specs.inner.Groups.{AreGroups, group_of, has_content, held_literals, literal_of, rep_of_group, same_content, with_literal}
use Rattle.literal_merge.specs.inner.Contents.{SameFields, fields_from, same_literals, turned_round}
use Rattle.literal_merge.proofs.AddingLemmas.{append_none}

greatest_more : (ls : List Literal) (l : Literal) → greatest_align (ls ++ l ∷ []) ≡ max (greatest_align ls) l.align
unfolding greatest_align
greatest_more ls l =
    ap (fold max 0) (map-append (λ (x : Literal). x.align) ls (l ∷ []))
    ∙ fold-append max 0 (map (λ (x : Literal). x.align) ls) (l.align ∷ [])

greatest_one : (l : Literal) → greatest_align (l ∷ []) ≡ l.align
unfolding greatest_align
greatest_one l = let e : max 0 l.align ≡ l.align = omega arith in e

pub group_more : (ls : List Literal) (l : Literal) → group_of (ls ++ l ∷ []) ≡ Some (with_literal (group_of ls) l)
unfolding group_of
group_more [] l = ap (λ n. Some (record { first = l.key; align = n })) (greatest_one l)
group_more (f ∷ ls) l = ap (λ n. Some (record { first = f.key; align = n })) (greatest_more (f ∷ ls) l)

filters_same : (a b : Content) (ls : List Literal) → SameFields a b → filter (has_content a) ls ≡ filter (has_content b) ls
filters_same a b [] same = refl
filters_same a b (l ∷ ls) same = by (filters_same a b ls same) (has_content a l) refl
  where
    by : filter (has_content a) ls ≡ filter (has_content b) ls → (t : Bool) → has_content a l ≡ t → filter (has_content a) (l ∷ ls) ≡ filter (has_content b) (l ∷ ls)
    by rest true e = let f : has_content b l ≡ true = sym (same_literals a b l same) ∙ e in rw (e, f) (ap (λ (xs : List Literal). l ∷ xs) rest)
    by rest false e = let f : has_content b l ≡ false = sym (same_literals a b l same) ∙ e in rw (e, f) rest

with_one : (q : Content) (ls : List Literal) (x : LiteralIn) → same_content x.content q ≡ true → group_of (filter (has_content q) (ls ++ literal_of x ∷ [])) ≡ Some (with_literal (group_of (filter (has_content x.content) ls)) (literal_of x))
with_one q ls x same =
    let has : has_content q (literal_of x) ≡ true = turned_round x.content q true same in
    ap group_of (filter-append (has_content q) ls (literal_of x ∷ []) ∙ ap (λ (xs : List Literal). filter (has_content q) ls ++ xs) (rw has refl))
    ∙ group_more (filter (has_content q) ls) (literal_of x)
    ∙ ap (λ (xs : List Literal). Some (with_literal (group_of xs) (literal_of x))) (sym (filters_same x.content q ls (fields_from x.content q same)))

without_one : (q : Content) (ls : List Literal) (x : LiteralIn) → same_content x.content q ≡ false → group_of (filter (has_content q) (ls ++ literal_of x ∷ [])) ≡ group_of (filter (has_content q) ls)
without_one q ls x other =
    let has : has_content q (literal_of x) ≡ false = turned_round x.content q false other in
    ap group_of (filter-append (has_content q) ls (literal_of x ∷ []) ∙ ap (λ (xs : List Literal). filter (has_content q) ls ++ xs) (rw has refl) ∙ append_none (filter (has_content q) ls))

pub grouped : {S : Type 0} (old new : HashMap Content Group S) (ls : List Literal) (x : LiteralIn) (group : Group) → AreGroups ls old → group ≡ with_literal (get same_content old x.content) (literal_of x) → Updates same_content old new x.content (Some group) → AreGroups (ls ++ literal_of x ∷ []) new
grouped {S = S} old new ls x group are is updates = record { known = λ q. by q (same_content x.content q) refl }
  where
    by : (q : Content) (t : Bool) → same_content x.content q ≡ t → get same_content new q ≡ group_of (filter (has_content q) (ls ++ literal_of x ∷ []))
    by q true e =
        let here : get same_content new q ≡ Some group = updates.0 q ∙ rw e refl in
        here ∙ ap Some (is ∙ ap (λ (g : Option Group). with_literal g (literal_of x)) (are.known x.content)) ∙ sym (with_one q ls x e)
    by q false e =
        let there : get same_content new q ≡ get same_content old q = updates.0 q ∙ rw e refl in
        there ∙ are.known q ∙ sym (without_one q ls x e)

held_more : (xs : List LiteralIn) (i : ℕ) (x : LiteralIn) → i < length xs → x ≡ get_or xs i x → held_literals (take (i + 1) xs) ≡ held_literals (take i xs) ++ literal_of x ∷ []
held_more xs i x low is = ap held_literals (take_more xs i x low ∙ ap (λ y. take i xs ++ y ∷ []) (sym is)) ∙ map-append literal_of (take i xs) (x ∷ [])

pub groups_start : {S : Type 0} (map : HashMap Content Group S) → map.entries ≡ [] → AreGroups [] map
unfolding group_of
groups_start map none = record { known = λ q. rw none refl }

pub groups_step : {S : Type 0} (old new : HashMap Content Group S) (xs : List LiteralIn) (i : ℕ) (d : LiteralIn) (held : Option Group) (group : Group) → AreGroups (held_literals (take i xs)) old → i < length xs → held ≡ get same_content old (get_or xs i d).content → group ≡ with_literal held (literal_of (get_or xs i d)) → Updates same_content old new (get_or xs i d).content (Some group) → AreGroups (held_literals (take (i + 1) xs)) new
groups_step old new xs i d held group are low there made updates =
    let x : LiteralIn = get_or xs i d in
    rw (held_more xs i x low (get_or_default xs i d x low)) (grouped old new (held_literals (take i xs)) x group are (made ∙ ap (λ (g : Option Group). with_literal g (literal_of x)) there) updates)

pub groups_end : {S : Type 0} (map : HashMap Content Group S) (xs : List LiteralIn) (i : ℕ) → AreGroups (held_literals (take i xs)) map → length xs ≤ i → AreGroups (held_literals xs) map
groups_end map xs i are past = rw (take_all i xs past) at are

pub ruleset group_loop = (groups_start, groups_step, groups_end)

-- ---- what stands for a literal

rep_is : (l : Literal) (ls : List Literal) → representative_among l ls ≡ rep_of_group l (group_of ls)
unfolding representative_among group_of
rep_is l [] = refl
rep_is l (f ∷ ls) = refl

pub stands_for : {S : Type 0} (map : HashMap Content Group S) (all : List Literal) (x : LiteralIn) (group : Option Group) → AreGroups all map → get same_content map x.content ≡ group → rep_of_group (literal_of x) group ≡ representative_of all (literal_of x)
unfolding representative_of is_same
stands_for map all x group are is =
    ap (rep_of_group (literal_of x)) (sym is ∙ are.known x.content)
    ∙ sym (rep_is (literal_of x) (filter (has_content x.content) all))

pub listed : (all : List Literal) (xs : List LiteralIn) (i : ℕ) (x : LiteralIn) (list new : List Representative) (r : Representative) → i < length xs → x ≡ get_or xs i x → list ≡ map (representative_of all) (held_literals (take i xs)) → r ≡ representative_of all (literal_of x) → new ≡ list ++ r ∷ [] → new ≡ map (representative_of all) (held_literals (take (i + 1) xs))
listed all xs i x list new r low is are one more =
    more ∙ ap (λ ys. ys ++ r ∷ []) are ∙ ap (λ y. map (representative_of all) (held_literals (take i xs)) ++ y ∷ []) one
    ∙ sym (ap (map (representative_of all)) (held_more xs i x low is) ∙ map-append (representative_of all) (held_literals (take i xs)) (literal_of x ∷ []))
