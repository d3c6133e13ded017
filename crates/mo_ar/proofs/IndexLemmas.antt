-- The nodes of the index.
use Rattle.std.proofs.Common.{◌≡◌, ◌≢◌, ℕ, zero, suc, ◌+◌, ◌-◌, ◌<◌, ◌≤◌, List, [], ◌∷◌, ◌++◌, length, map, drop, get_or, min, true, false, Bool, inl, inr, subst, Option, Some, None, IfSome, refl, sym, ap, ◌∙◌, arith, add-one, drop-cons, length-append}
use Rattle.std.specs.Prelude.{All}
use Rattle.std.specs.List.{AllPairs}
use Rattle.std.proofs.lemmas.List.{drop-map, drop_all, get_or-append_right, get_or-set_same, get_or-set_other, length-map}
use Rattle.std.proofs.lemmas.List.Elements.{All-push, All-set, at_read}
use Rattle.std.proofs.Math.ListN.{set, length-set}
use Rattle.std.proofs.lemmas.Bool.{cases_eq, cases_lt}
use Rattle.std.proofs.lemmas.Slice.Eq.{bytes_eq-Decides}
use Rattle.std.specs.Str.{bytes_eq}
use Rattle.mo_ar.specs.inner.Index.{AreChained, AreNexts, AreNodes, BeginsAt, IsEntry, IsIndex, IsNodeOf, IsOther, StandsAt, bucket, lowered, node_name, offer_of, offers_of}
use Rattle.mo_ar.specs.Offers.{first_offer, lesser}
use Rattle.mo_ar.specs.Text.{part}
use Rattle.mo_ar.specs.declared.index.Node.{Node}
use Rattle.mo_ar.specs.declared.offers.Entry.{Entry}
use Rattle.mo_ar.specs.declared.offers.Offer.{Offer}

same_name : (a b : List ℕ) → bytes_eq a b ≡ true → a ≡ b
same_name a b is = (bytes_eq-Decides a b).0 is

other_name : (a b : List ℕ) → bytes_eq a b ≡ false → a ≢ b
other_name a b is same = let t : bytes_eq a b ≡ true = (bytes_eq-Decides a b).1 same in cc

not_true : (b : Bool) → (b ≡ true → ⊥) → b ≡ false
not_true true never = absurd (never refl)
not_true false never = refl

-- what one offer more in front says of a name
first_same : (name : List ℕ) (offer : Offer) (offers : List Offer) → offer.name ≡ name → first_offer name (offer ∷ offers) ≡ Some (lesser offer.member (first_offer name offers))
unfolding first_offer
first_same name offer offers same = let t : bytes_eq offer.name name ≡ true = (bytes_eq-Decides offer.name name).1 same in rw t refl

first_other : (name : List ℕ) (offer : Offer) (offers : List Offer) → offer.name ≢ name → first_offer name (offer ∷ offers) ≡ first_offer name offers
unfolding first_offer
first_other name offer offers other = let f : bytes_eq offer.name name ≡ false = not_true (bytes_eq offer.name name) (λ t. other (same_name offer.name name t)) in rw f refl

any_default : {X : Type 0} (xs : List X) (i : ℕ) (d e : X) → i < length xs → get_or xs i d ≡ get_or xs i e
any_default xs i d e within = at_read xs (λ x. x ≡ get_or xs i e) i (get_or xs i e) within (itself xs i e) refl d
  where
    itself : {X : Type 0} (xs : List X) (i : ℕ) (e : X) → get_or xs i e ≡ get_or xs i (get_or xs i e)
    itself [] i e = refl
    itself (x ∷ xs) zero e = refl
    itself (x ∷ xs) (suc i) e = itself xs i e

old_element : {X : Type 0} (xs : List X) (x : X) (k : ℕ) (d : X) → k < length xs → get_or (xs ++ x ∷ []) k d ≡ get_or xs k d
old_element [] x k d within = absurd (omega arith)
old_element (y ∷ xs) x zero d within = refl
old_element (y ∷ xs) x (suc k) d within = old_element xs x k d (omega arith)

new_element : {X : Type 0} (xs : List X) (x : X) (k : ℕ) (d : X) → k ≡ length xs → get_or (xs ++ x ∷ []) k d ≡ x
new_element xs x k d is =
    let e : k - length xs ≡ 0 = omega arith in
    get_or-append_right xs (x ∷ []) (length xs) k d refl (omega arith) ∙ ap (λ (j : ℕ). get_or (x ∷ []) j d) e

-- ---- the search along a bucket

-- nodes of a name stand before a place, counted from 1, at which is one of its bucket
pub record IsSought (strings : List ℕ) (order : List Entry) (m : ℕ) (nodes : List Node) (name : List ℕ) (at : ℕ) : Type 0 where
  pub within : at ≤ length nodes
  pub here : (d : Node) → 0 < at → bucket strings order m (node_name strings (get_or nodes (at - 1) d)) ≡ bucket strings order m name
  pub left : (k : ℕ) (d : Node) → k < length nodes → node_name strings (get_or nodes k d) ≡ name → k < at

pub find_starts : (strings : List ℕ) (order : List Entry) (m : ℕ) (nodes : List Node) (name : List ℕ) (from : ℕ) → BeginsAt strings order m nodes (bucket strings order m name) (length nodes) from → IsSought strings order m nodes name from
find_starts strings order m nodes name from begins = record {
  within = begins.within;
  here = begins.here;
  left = λ k d low same. begins.last k d low (ap (bucket strings order m) same);
}

pub find_goes_on : (strings : List ℕ) (order : List Entry) (m : ℕ) (nodes : List Node) (name : List ℕ) (at : ℕ) (e : Node) → IsSought strings order m nodes name at → AreNexts strings order m nodes → 0 < at → bytes_eq (node_name strings (get_or nodes (at - 1) e)) name ≡ false → IsSought strings order m nodes name (get_or nodes (at - 1) e).next
find_goes_on strings order m nodes name at e sought nexts some other = record {
  within = omega (arith, begins.within, sought.within);
  here = λ d low. begins.here d low ∙ sought.here e some;
  left = λ k d low same.
      elim (cases_eq k (at - 1)) [
        | inl is ↦ absurd (other_name (node_name strings (get_or nodes (at - 1) e)) name other (ap (node_name strings) (any_default nodes (at - 1) e d inside) ∙ subst (λ (j : ℕ). node_name strings (get_or nodes j d) ≡ name) is same))
        | inr apart ↦ begins.last k d (omega (arith, sought.left k d low same)) (ap (bucket strings order m) same ∙ sym (sought.here e some))
      ];
}
  where
    inside : at - 1 < length nodes
    inside = omega (arith, sought.within)

    begins : BeginsAt strings order m nodes (bucket strings order m (node_name strings (get_or nodes (at - 1) e))) (at - 1) (get_or nodes (at - 1) e).next
    begins = nexts.each (at - 1) e inside

pub find_ends : (strings : List ℕ) (order : List Entry) (m : ℕ) (nodes : List Node) (name : List ℕ) (at : ℕ) → IsSought strings order m nodes name at → at ≤ 0 → All (IsOther strings name) nodes
find_ends strings order m nodes name at sought low = λ k d inside same. absurd (omega (arith, sought.left k d inside same))

pub find_finds : (strings : List ℕ) (order : List Entry) (m : ℕ) (nodes : List Node) (name : List ℕ) (at : ℕ) (e : Node) → IsSought strings order m nodes name at → 0 < at → bytes_eq (node_name strings (get_or nodes (at - 1) e)) name ≡ true → IsNodeOf strings nodes name (at - 1)
find_finds strings order m nodes name at e sought some same = record {
  within = omega (arith, sought.within);
  named = λ d. ap (node_name strings) (any_default nodes (at - 1) d e (omega (arith, sought.within))) ∙ same_name (node_name strings (get_or nodes (at - 1) e)) name same;
}

pub ruleset finds = (find_starts, find_goes_on, find_ends, find_finds)

some_size : (a b : ℕ) → Some a ≡ Some b → a ≡ b
some_size a b e = cc

-- what stands at one place is one name
pub name_there : (strings name : List ℕ) (entry : Entry) (place : Option ℕ) → IsEntry strings entry → IfSome place (StandsAt strings name) → place ≡ Some entry.at → true ≡ bytes_eq (part strings entry.at entry.size) name
name_there strings name entry place is stands same =
    let at : StandsAt strings name entry.at = subst (λ (p : Option ℕ). IfSome p (StandsAt strings name)) same stands in
    let size : length name ≡ entry.size = some_size (length name) entry.size (sym at.0 ∙ is.ends) in
    let equal : part strings entry.at entry.size ≡ name = ap (part strings entry.at) (sym size) ∙ sym at.1 in
    sym ((bytes_eq-Decides (part strings entry.at entry.size) name).1 equal)

pub ruleset places = (name_there)

-- ---- one offer more, of a name that has a node

-- what the new number leaves of each node as it was
kept : {A : Type 0} (f : Node → A) (nodes : List Node) (at member j : ℕ) (e d : Node) → ((node : Node) → f (lowered member node) ≡ f node) → at < length nodes → f (get_or (set nodes at (lowered member (get_or nodes at e))) j d) ≡ f (get_or nodes j d)
kept f nodes at member j e d keeps within = elim (cases_eq j at) [
  | inl same ↦
      ap (λ (k : ℕ). f (get_or (set nodes at (lowered member (get_or nodes at e))) k d)) same
      ∙ ap f (get_or-set_same nodes at (lowered member (get_or nodes at e)) d within)
      ∙ keeps (get_or nodes at e) ∙ ap f (any_default nodes at e d within) ∙ ap (λ (k : ℕ). f (get_or nodes k d)) (sym same)
  | inr other ↦ ap f (get_or-set_other nodes at j (lowered member (get_or nodes at e)) d other)
]

begins_kept : (strings : List ℕ) (order : List Entry) (m : ℕ) (nodes new : List Node) (b bound at : ℕ) → ((j : ℕ) (d : Node) → node_name strings (get_or new j d) ≡ node_name strings (get_or nodes j d)) → BeginsAt strings order m nodes b bound at → BeginsAt strings order m new b bound at
begins_kept strings order m nodes new b bound at names begins = record {
  within = begins.within;
  here = λ d low. ap (bucket strings order m) (names (at - 1) d) ∙ begins.here d low;
  last = λ k d low is. begins.last k d low (ap (bucket strings order m) (sym (names k d)) ∙ is);
}

lowered_name : (strings : List ℕ) (member : ℕ) (node : Node) → node_name strings (lowered member node) ≡ node_name strings node
unfolding node_name
lowered_name strings member node = refl

chained_kept : (strings : List ℕ) (order : List Entry) (heads : List ℕ) (nodes : List Node) (at member : ℕ) (e : Node) → at < length nodes → AreChained strings order heads nodes → AreChained strings order heads (set nodes at (lowered member (get_or nodes at e)))
chained_kept strings order heads nodes at member e within chained = record {
  some = chained.some;
  heads_are = λ b low. subst (λ (n : ℕ). BeginsAt strings order (length heads) new b n (get_or heads b 0)) (sym long) (begins_kept strings order (length heads) nodes new b (length nodes) (get_or heads b 0) names (chained.heads_are b low));
  nexts_are =
      record {
        each = λ k d low.
            let inside : k < length nodes = subst (λ (n : ℕ). k < n) long low in
            let old : BeginsAt strings order (length heads) new (bucket strings order (length heads) (node_name strings (get_or nodes k d))) k (get_or nodes k d).next =
            begins_kept strings order (length heads) nodes new (bucket strings order (length heads) (node_name strings (get_or nodes k d))) k (get_or nodes k d).next names (chained.nexts_are.each k d inside) in
            subst (λ (n : ℕ). BeginsAt strings order (length heads) new (bucket strings order (length heads) (node_name strings (get_or new k d))) k n) (sym (kept (λ (x : Node). x.next) nodes at member k e d (λ node. refl) within))
            (subst (λ (name : List ℕ). BeginsAt strings order (length heads) new (bucket strings order (length heads) name) k (get_or nodes k d).next) (sym (names k d)) old);
      };
  entries = All-set (λ node. IsEntry strings node.entry) nodes at (lowered member (get_or nodes at e)) (let old = chained.entries at e within in record { within = old.within; ends = old.ends }) chained.entries;
  order_is = chained.order_is;
}
  where
    new : List Node
    new = set nodes at (lowered member (get_or nodes at e))

    long : length new ≡ length nodes
    long = length-set nodes at (lowered member (get_or nodes at e))

    names : (j : ℕ) (d : Node) → node_name strings (get_or new j d) ≡ node_name strings (get_or nodes j d)
    names j d = kept (node_name strings) nodes at member j e d (lowered_name strings member) within

-- two nodes with one name are one
one_node : (strings : List ℕ) (nodes : List Node) (j k : ℕ) (d : Node) → AllPairs (λ a b. node_name strings a ≢ node_name strings b) nodes → j < length nodes → k < length nodes → (j ≡ k → ⊥) → node_name strings (get_or nodes j d) ≢ node_name strings (get_or nodes k d)
one_node strings nodes j k d once low high other same = elim (cases_lt j k) [
  | inl less ↦ once j k d less high same
  | inr more ↦ once k j d (omega arith) low (sym same)
]

named_kept : (strings : List ℕ) (offer : Offer) (offers : List Offer) (nodes : List Node) (at : ℕ) (e : Node) → at < length nodes → node_name strings (get_or nodes at e) ≡ offer.name → AreNodes strings offers nodes → AreNodes strings (offer ∷ offers) (set nodes at (lowered offer.member (get_or nodes at e)))
named_kept strings offer offers nodes at e within is named = record {
  bests = λ j d low.
      let inside : j < length nodes = subst (λ (n : ℕ). j < n) long low in
      elim (cases_eq j at) [
        | inl same ↦
            let there : get_or new j d ≡ lowered offer.member (get_or nodes at e) = ap (λ (k : ℕ). get_or new k d) same ∙ get_or-set_same nodes at (lowered offer.member (get_or nodes at e)) d within in
            subst (λ (x : Node). first_offer (node_name strings x) (offer ∷ offers) ≡ Some x.entry.member) (sym there) here
        | inr other ↦
            let there : get_or new j d ≡ get_or nodes j d = get_or-set_other nodes at j (lowered offer.member (get_or nodes at e)) d other in
            subst (λ (x : Node). first_offer (node_name strings x) (offer ∷ offers) ≡ Some x.entry.member) (sym there)
            (first_other (node_name strings (get_or nodes j d)) offer offers (λ same. one_node strings nodes j at d named.once inside within other (sym same ∙ sym is ∙ ap (node_name strings) (any_default nodes at e d within)))
            ∙ named.bests j d inside)
      ];
  once = λ i j d low high same. named.once i j d low (subst (λ (n : ℕ). j < n) long high) (sym (names i d) ∙ same ∙ names j d);
  all = λ name others.
      first_other name offer offers (λ same. others at e (subst (λ (n : ℕ). at < n) (sym long) within) (names at e ∙ is ∙ same))
      ∙ named.all name (λ j d low same. others j d (subst (λ (n : ℕ). j < n) (sym long) low) (names j d ∙ same));
}
  where
    new : List Node
    new = set nodes at (lowered offer.member (get_or nodes at e))

    long : length new ≡ length nodes
    long = length-set nodes at (lowered offer.member (get_or nodes at e))

    names : (j : ℕ) (d : Node) → node_name strings (get_or new j d) ≡ node_name strings (get_or nodes j d)
    names j d = kept (node_name strings) nodes at offer.member j e d (lowered_name strings offer.member) within

    here : first_offer (node_name strings (lowered offer.member (get_or nodes at e))) (offer ∷ offers) ≡ Some (min offer.member (get_or nodes at e).entry.member)
    here =
        ap (λ (n : List ℕ). first_offer n (offer ∷ offers)) (lowered_name strings offer.member (get_or nodes at e))
        ∙ first_same (node_name strings (get_or nodes at e)) offer offers (sym is)
        ∙ ap (λ (o : Option ℕ). Some (lesser offer.member o)) (named.bests at e within)

-- ---- one offer more, of a name that has no node yet

begins_after : (strings : List ℕ) (order : List Entry) (m : ℕ) (nodes : List Node) (x : Node) (b bound at : ℕ) → bound ≤ length nodes → BeginsAt strings order m nodes b bound at → BeginsAt strings order m (nodes ++ x ∷ []) b bound at
begins_after strings order m nodes x b bound at few begins = record {
  within = begins.within;
  here = λ d some. ap (λ (y : Node). bucket strings order m (node_name strings y)) (old_element nodes x (at - 1) d (omega (arith, begins.within))) ∙ begins.here d some;
  last = λ k d low is. begins.last k d low (ap (λ (y : Node). bucket strings order m (node_name strings y)) (sym (old_element nodes x k d (omega arith))) ∙ is);
}

chained_more : (strings : List ℕ) (order : List Entry) (heads : List ℕ) (nodes : List Node) (x : Node) (b : ℕ) → b < length heads → bucket strings order (length heads) (node_name strings x) ≡ b → x.next ≡ get_or heads b 0 → IsEntry strings x.entry → AreChained strings order heads nodes → AreChained strings order (set heads b (length nodes + 1)) (nodes ++ x ∷ [])
chained_more strings order heads nodes x b inside is leads entry chained = record {
  some = subst (λ (n : ℕ). 0 < n) (sym long) chained.some;
  heads_are = λ c low. subst (λ (n : ℕ). BeginsAt strings order n (nodes ++ x ∷ []) c (length (nodes ++ x ∷ [])) (get_or (set heads b (length nodes + 1)) c 0)) (sym long) (head_at c (subst (λ (n : ℕ). c < n) long low));
  nexts_are = subst (λ (n : ℕ). AreNexts strings order n (nodes ++ x ∷ [])) (sym long) (record { each = λ k d low. next_at k d (subst (λ (n : ℕ). k < n) many low) });
  entries = All-push (λ node. IsEntry strings node.entry) nodes x chained.entries entry;
  order_is = chained.order_is;
}
  where
    m : ℕ
    m = length heads

    long : length (set heads b (length nodes + 1)) ≡ length heads
    long = length-set heads b (length nodes + 1)

    many : length (nodes ++ x ∷ []) ≡ length nodes + 1
    many = length-append nodes (x ∷ [])

    head_here : (c : ℕ) → c ≡ b → BeginsAt strings order (length heads) (nodes ++ x ∷ []) c (length nodes + 1) (length nodes + 1)
    head_here c e = record {
      within = omega arith;
      here = λ d some. ap (λ (y : Node). bucket strings order (length heads) (node_name strings y)) (new_element nodes x (length nodes + 1 - 1) d (omega arith)) ∙ is ∙ sym e;
      last = λ k d low same. low;
    }

    head_there : (c : ℕ) → c < length heads → (c ≡ b → ⊥) → BeginsAt strings order (length heads) (nodes ++ x ∷ []) c (length nodes + 1) (get_or heads c 0)
    head_there c low other =
        let old : BeginsAt strings order (length heads) nodes c (length nodes) (get_or heads c 0) = chained.heads_are c low in
        let after : BeginsAt strings order (length heads) (nodes ++ x ∷ []) c (length nodes) (get_or heads c 0) = begins_after strings order (length heads) nodes x c (length nodes) (get_or heads c 0) (omega arith) old in
        record {
          within = omega (arith, old.within);
          here = after.here;
          last = λ k d less same. elim (cases_eq k (length nodes)) [
            | inl e ↦ absurd (other (sym same ∙ ap (λ (y : Node). bucket strings order (length heads) (node_name strings y)) (new_element nodes x k d e) ∙ is))
            | inr apart ↦ after.last k d (omega arith) same
          ];
        }

    head_at : (c : ℕ) → c < length heads → BeginsAt strings order (length heads) (nodes ++ x ∷ []) c (length (nodes ++ x ∷ [])) (get_or (set heads b (length nodes + 1)) c 0)
    head_at c low = elim (cases_eq c b) [
      | inl e ↦
          let h : get_or (set heads b (length nodes + 1)) c 0 ≡ length nodes + 1 = ap (λ (j : ℕ). get_or (set heads b (length nodes + 1)) j 0) e ∙ get_or-set_same heads b (length nodes + 1) 0 inside in
          rw (many, h) (head_here c e)
      | inr other ↦
          let h : get_or (set heads b (length nodes + 1)) c 0 ≡ get_or heads c 0 = get_or-set_other heads b c (length nodes + 1) 0 other in
          rw (many, h) (head_there c low other)
    ]

    next_at : (k : ℕ) (d : Node) → k < length nodes + 1 → BeginsAt strings order (length heads) (nodes ++ x ∷ []) (bucket strings order (length heads) (node_name strings (get_or (nodes ++ x ∷ []) k d))) k (get_or (nodes ++ x ∷ []) k d).next
    next_at k d low = elim (cases_eq k (length nodes)) [
      | inl e ↦
          let old : BeginsAt strings order (length heads) nodes b (length nodes) (get_or heads b 0) = chained.heads_are b inside in
          let after : BeginsAt strings order (length heads) (nodes ++ x ∷ []) b (length nodes) (get_or heads b 0) = begins_after strings order (length heads) nodes x b (length nodes) (get_or heads b 0) (omega arith) old in
          let here : BeginsAt strings order (length heads) (nodes ++ x ∷ []) (bucket strings order (length heads) (node_name strings x)) k x.next =
          subst (λ (n : ℕ). BeginsAt strings order (length heads) (nodes ++ x ∷ []) (bucket strings order (length heads) (node_name strings x)) k n) (sym leads)
          (subst (λ (n : ℕ). BeginsAt strings order (length heads) (nodes ++ x ∷ []) (bucket strings order (length heads) (node_name strings x)) n (get_or heads b 0)) (sym e)
          (subst (λ (n : ℕ). BeginsAt strings order (length heads) (nodes ++ x ∷ []) n (length nodes) (get_or heads b 0)) (sym is) after)) in
          subst (λ (y : Node). BeginsAt strings order (length heads) (nodes ++ x ∷ []) (bucket strings order (length heads) (node_name strings y)) k y.next) (sym (new_element nodes x k d e)) here
      | inr apart ↦
          let old : BeginsAt strings order (length heads) nodes (bucket strings order (length heads) (node_name strings (get_or nodes k d))) k (get_or nodes k d).next = chained.nexts_are.each k d (omega arith) in
          subst (λ (y : Node). BeginsAt strings order (length heads) (nodes ++ x ∷ []) (bucket strings order (length heads) (node_name strings y)) k y.next) (sym (old_element nodes x k d (omega arith)))
          (begins_after strings order (length heads) nodes x (bucket strings order (length heads) (node_name strings (get_or nodes k d))) k (get_or nodes k d).next (omega arith) old)
    ]

named_more : (strings : List ℕ) (offer : Offer) (offers : List Offer) (nodes : List Node) (x : Node) → node_name strings x ≡ offer.name → x.entry.member ≡ offer.member → All (IsOther strings offer.name) nodes → AreNodes strings offers nodes → AreNodes strings (offer ∷ offers) (nodes ++ x ∷ [])
named_more strings offer offers nodes x is numbered others named = record {
  bests = All-push (λ node. first_offer (node_name strings node) (offer ∷ offers) ≡ Some node.entry.member) nodes x
      (λ j d low. first_other (node_name strings (get_or nodes j d)) offer offers (λ same. others j d low (sym same)) ∙ named.bests j d low)
      here;
  once = λ i j d low high. elim (cases_eq j (length nodes)) [
    | inl e ↦
        let inside : i < length nodes = omega arith in
        λ same. others i d inside (sym (ap (node_name strings) (old_element nodes x i d inside)) ∙ same ∙ ap (node_name strings) (new_element nodes x j d e) ∙ is)
    | inr apart ↦
        let many : length (nodes ++ x ∷ []) ≡ length nodes + 1 = length-append nodes (x ∷ []) in
        let inside : j < length nodes = omega arith in
        λ same. named.once i j d low inside (sym (ap (node_name strings) (old_element nodes x i d (omega arith))) ∙ same ∙ ap (node_name strings) (old_element nodes x j d inside))
  ];
  all = λ name rest.
      let many : length (nodes ++ x ∷ []) ≡ length nodes + 1 = length-append nodes (x ∷ []) in
      first_other name offer offers (λ same. rest (length nodes) x (omega arith) (ap (node_name strings) (new_element nodes x (length nodes) x refl) ∙ is ∙ same))
      ∙ named.all name (λ j d low same. rest j d (omega arith) (ap (node_name strings) (old_element nodes x j d low) ∙ same));
}
  where
    here : first_offer (node_name strings x) (offer ∷ offers) ≡ Some x.entry.member
    here =
        first_same (node_name strings x) offer offers (sym is)
        ∙ ap (λ (n : List ℕ). Some (lesser offer.member (first_offer n offers))) is
        ∙ ap (λ (o : Option ℕ). Some (lesser offer.member o)) (named.all offer.name others)
        ∙ ap Some (sym numbered)

-- ---- the offers from an index on

offers_there : (strings : List ℕ) (entries : List Entry) (i : ℕ) (d : Entry) → i < length entries → drop i (offers_of strings entries) ≡ offer_of strings (get_or entries i d) ∷ drop (i + 1) (offers_of strings entries)
offers_there strings entries i d within =
    let there : drop i entries ≡ get_or entries i d ∷ drop (i + 1) entries = rw (drop-cons entries i d, add-one) refl in
    drop-map (offer_of strings) i entries ∙ ap (map (offer_of strings)) there ∙ ap (λ (os : List Offer). offer_of strings (get_or entries i d) ∷ os) (sym (drop-map (offer_of strings) (i + 1) entries))

names_is : (strings : List ℕ) (node : Node) → node_name strings node ≡ part strings node.entry.at node.entry.size
unfolding node_name
names_is strings node = refl

pub put_known : (strings : List ℕ) (order entries : List Entry) (heads name : List ℕ) (nodes new : List Node) (at known : ℕ) (d : Entry) (e : Node) → IsIndex strings order (drop (at + 1) (offers_of strings entries)) heads nodes → at < length entries → name ≡ part strings (get_or entries at d).at (get_or entries at d).size → IsNodeOf strings nodes name known → new ≡ set nodes known (lowered (get_or entries at d).member (get_or nodes known e)) → IsIndex strings order (drop at (offers_of strings entries)) heads new
put_known strings order entries heads name nodes new at known d e index within read is made =
    rw (made, offers_there strings entries at d within) (record {
      chained = chained_kept strings order heads nodes known (get_or entries at d).member e is.within index.chained;
      named = named_kept strings (offer_of strings (get_or entries at d)) (drop (at + 1) (offers_of strings entries)) nodes known e is.within (is.named e ∙ read) index.named;
    })

pub put_new : (strings : List ℕ) (order entries : List Entry) (heads name new_heads : List ℕ) (nodes new : List Node) (at b : ℕ) (d : Entry) (x : Node) → IsIndex strings order (drop (at + 1) (offers_of strings entries)) heads nodes → All (IsEntry strings) entries → at < length entries → name ≡ part strings (get_or entries at d).at (get_or entries at d).size → b ≡ bucket strings order (length heads) name → b < length heads → All (IsOther strings name) nodes → x ≡ record { entry = get_or entries at d; next = get_or heads b 0 } → new ≡ nodes ++ x ∷ [] → new_heads ≡ set heads b (length nodes + 1) → IsIndex strings order (drop at (offers_of strings entries)) new_heads new
put_new strings order entries heads name new_heads nodes new at b d x index are within read same inside others is pushed noted =
    let named : node_name strings x ≡ part strings (get_or entries at d).at (get_or entries at d).size = names_is strings x ∙ ap (λ (y : Node). part strings y.entry.at y.entry.size) is in
    rw (pushed, noted, offers_there strings entries at d within) (record {
      chained = chained_more strings order heads nodes x b inside (ap (bucket strings order (length heads)) (named ∙ sym read) ∙ sym same) (ap (λ (y : Node). y.next) is) (subst (λ (y : Entry). IsEntry strings y) (ap (λ (y : Node). y.entry) (sym is)) (are at d within)) index.chained;
      named = named_more strings (offer_of strings (get_or entries at d)) (drop (at + 1) (offers_of strings entries)) nodes x named (ap (λ (y : Node). y.entry.member) is)
          (subst (λ (n : List ℕ). All (IsOther strings n) nodes) read others) index.named;
    })

-- ---- the whole index

-- no offer is indexed yet
pub index_starts : (strings : List ℕ) (order : List Entry) (offers : List Offer) (heads : List ℕ) (nodes : List Node) (at : ℕ) → All (IsEntry strings) order → 0 < length heads → ((b : ℕ) → b < length heads → get_or heads b 0 ≡ 0) → nodes ≡ [] → length offers ≤ at → IsIndex strings order (drop at offers) heads nodes
unfolding first_offer
index_starts strings order offers heads nodes at are some empty none past = rw (none, drop_all at offers past) (record {
  chained =
      record {
        some = some;
        heads_are = λ b low. rw (empty b low) (record { within = omega arith; here = λ d more. absurd (omega arith); last = λ k d less is. absurd (omega arith) });
        nexts_are = record { each = λ k d low. absurd (omega arith) };
        entries = λ k d low. absurd (omega arith);
        order_is = are;
      };
  named =
      record {
        bests = λ k d low. absurd (omega arith);
        once = λ i j d low high. absurd (omega arith);
        all = λ name others. refl;
      };
})

pub as_many : (strings : List ℕ) (entries : List Entry) → length (offers_of strings entries) ≡ length entries
as_many strings entries = length-map entries (offer_of strings)

pub head_begins : (strings : List ℕ) (order : List Entry) (heads name : List ℕ) (nodes : List Node) (b : ℕ) → AreChained strings order heads nodes → b ≡ bucket strings order (length heads) name → b < length heads → BeginsAt strings order (length heads) nodes (bucket strings order (length heads) name) (length nodes) (get_or heads b 0)
head_begins strings order heads name nodes b chained same inside = subst (λ (c : ℕ). BeginsAt strings order (length heads) nodes c (length nodes) (get_or heads b 0)) same (chained.heads_are b inside)

pub found_best : (strings name : List ℕ) (offers : List Offer) (nodes : List Node) (at : ℕ) (node : Node) → AreNodes strings offers nodes → IsNodeOf strings nodes name at → node ≡ get_or nodes at node → Some node.entry.member ≡ first_offer name offers
found_best strings name offers nodes at node named is there =
    let best : first_offer (node_name strings node) offers ≡ Some node.entry.member = subst (λ (x : Node). first_offer (node_name strings x) offers ≡ Some x.entry.member) (sym there) (named.bests at node is.within) in
    sym best ∙ ap (λ (n : List ℕ). first_offer n offers) (ap (node_name strings) there ∙ is.named node)

pub found_none : (strings name : List ℕ) (offers : List Offer) (nodes : List Node) → AreNodes strings offers nodes → All (IsOther strings name) nodes → None ≡ first_offer name offers
found_none strings name offers nodes named others = sym (named.all name others)

pub ruleset looks = (head_begins, found_best, found_none)

pub ruleset builds = (index_starts, as_many)
