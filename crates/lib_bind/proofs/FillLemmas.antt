-- Names that are noted one by one.
use Rattle.std.proofs.Common.{◌≡◌, ℕ, ◌+◌, ◌<◌, ◌≤◌, Bool, true, false, not, ◌&&◌, ◌||◌, nat_eq, List, [], ◌∷◌, length, take, get_or, Option, None, Some, refl, sym, ap, subst, ◌∙◌, arith}
use Rattle.std.specs.Prelude.{bytes_eq, if◌then◌else◌}
use Rattle.std.specs.List.{list_any}
use Rattle.std.proofs.lemmas.List.{take_all}
use Rattle.std.proofs.lemmas.List.Folds.{list_any_more}
use Rattle.std.proofs.lemmas.Slice.Eq.{bytes_eq-Decides}
use Rattle.lib_bind.specs.declared.library.Library.{Library}
use Rattle.lib_bind.specs.declared.provider.Offer.{Offer}
use Rattle.lib_bind.specs.inner.Filling.{adds, merged}

abbrev pub Names : Type 0
Names = List ℕ → Option Offer

same_number : (n : ℕ) → nat_eq n n ≡ true
same_number n = grind arith

stays : (k s : Bool) → (k || (s && false)) ≡ k
stays true s = refl
stays false true = refl
stays false false = refl

is_kept : (k s w : Bool) → ((s && w) && not k) ≡ false → (k || (s && w)) ≡ k
is_kept true s w h = refl
is_kept false true true h = let e : true ≡ false = h in cc
is_kept false true false h = refl
is_kept false false w h = refl

is_weakened : (k s w : Bool) → ((s && w) && not k) ≡ true → true ≡ (k || (s && w))
is_weakened true s w h = refl
is_weakened false true true h = refl
is_weakened false true false h = let e : false ≡ true = h in cc
is_weakened false false w h = let e : false ≡ true = h in cc

joined : (k s a b : Bool) → ((k || (s && a)) || (s && b)) ≡ (k || (s && (a || b)))
joined true s a b = refl
joined false true true b = refl
joined false true false b = refl
joined false false a b = refl

offer_is : (offer : Offer) (weak : Bool) → weak ≡ offer.weak → Some (record { library = offer.library; weak = weak }) ≡ Some offer
offer_is offer weak is = ap (λ (w : Bool). Some (record { library = offer.library; weak = w })) is

pub merged_none : (library : Library) (x : Option Offer) → merged library x false false ≡ x
merged_none library None = refl
merged_none library (Some offer) = offer_is offer _ (stays offer.weak (nat_eq offer.library.ordinal library.ordinal))

-- a list of documents after another
pub merged_twice : (library : Library) (x : Option Offer) (e f w v : Bool) → (w ≡ true → e ≡ true) → merged library (merged library x e w) f v ≡ merged library x (e || f) (w || v)
merged_twice library None true f w v only =
    let own : nat_eq library.ordinal library.ordinal ≡ true = same_number library.ordinal in
    rw own refl
merged_twice library None false f true v only = let e : false ≡ true = only refl in cc
merged_twice library None false f false v only = refl
merged_twice library (Some offer) e f w v only =
    ap (λ (b : Bool). Some (record { library = offer.library; weak = b })) (joined offer.weak (nat_eq offer.library.ordinal library.ordinal) w v)

-- ---- one name

pub noted : (f : Names) (library : Library) (name other : List ℕ) (weak here : Bool) → bytes_eq other name ≡ here → f name ≡ None → (if here then Some (record { library = library; weak = weak }) else f other) ≡ merged library (f other) here (here && weak)
noted f library name other weak true is none =
    let e : f other ≡ None = ap f ((bytes_eq-Decides other name).0 is) ∙ none in
    rw e refl
noted f library name other weak false is none = sym (merged_none library (f other))

pub weakened : (f : Names) (library : Library) (name other : List ℕ) (offer : Offer) (weak here : Bool) → bytes_eq other name ≡ here → f name ≡ Some offer → adds offer library weak ≡ true → (if here then Some (record { library = offer.library; weak = true }) else f other) ≡ merged library (f other) here (here && weak)
weakened f library name other offer weak true is there more =
    let e : f other ≡ Some offer = ap f ((bytes_eq-Decides other name).0 is) ∙ there in
    rw e (ap (λ (b : Bool). Some (record { library = offer.library; weak = b })) (is_weakened offer.weak (nat_eq offer.library.ordinal library.ordinal) weak more))
weakened f library name other offer weak false is there more = sym (merged_none library (f other))

pub kept : (f : Names) (library : Library) (name other : List ℕ) (offer : Offer) (weak here : Bool) → bytes_eq other name ≡ here → f name ≡ Some offer → adds offer library weak ≡ false → f other ≡ merged library (f other) here (here && weak)
kept f library name other offer weak true is there more =
    let e : f other ≡ Some offer = ap f ((bytes_eq-Decides other name).0 is) ∙ there in
    rw e (sym (offer_is offer _ (is_kept offer.weak (nat_eq offer.library.ordinal library.ordinal) weak more)))
kept f library name other offer weak false is there more = sym (merged_none library (f other))

-- ---- a list of exports or of documents

either : (t u a b : Bool) → (u ≡ true → t ≡ true) → (b ≡ true → a ≡ true) → (u || b) ≡ true → (t || a) ≡ true
either true u a b first rest h = refl
either false true a b first rest h = let e : false ≡ true = first refl in cc
either false false a b first rest h = rest h

pub weaker_any : {X : Type 0} (t u : X → Bool) → ((x : X) → u x ≡ true → t x ≡ true) → (xs : List X) → list_any u xs ≡ true → list_any t xs ≡ true
weaker_any t u only [] h = h
weaker_any t u only (x ∷ xs) h = either (t x) (u x) (list_any t xs) (list_any u xs) (only x) (weaker_any t u only xs) h

pub any_next : {X : Type 0} (t : X → Bool) (xs : List X) (i : ℕ) (item : X) → i < length xs → item ≡ get_or xs i item → list_any t (take (i + 1) xs) ≡ (list_any t (take i xs) || t item)
any_next t xs i item within is = list_any_more t xs i item within ∙ ap (λ y. list_any t (take i xs) || t y) (sym is)

pub step : {X : Type 0} (library : Library) (x y z : Option Offer) (t u : X → Bool) (xs : List X) (i : ℕ) (item : X) → i < length xs → item ≡ get_or xs i item
    → y ≡ merged library x (list_any t (take i xs)) (list_any u (take i xs))
    → z ≡ merged library y (t item) (u item)
    → ((v : X) → u v ≡ true → t v ≡ true)
    → z ≡ merged library x (list_any t (take (i + 1) xs)) (list_any u (take (i + 1) xs))
step library x y z t u xs i item within is before now only =
    let twice : merged library (merged library x (list_any t (take i xs)) (list_any u (take i xs))) (t item) (u item) ≡ merged library x (list_any t (take i xs) || t item) (list_any u (take i xs) || u item)
    = merged_twice library x _ _ _ _ (weaker_any t u only (take i xs)) in
    now ∙ ap (λ (o : Option Offer). merged library o (t item) (u item)) before ∙ twice
    ∙ ap (λ (b : Bool). merged library x b (list_any u (take i xs) || u item)) (sym (any_next t xs i item within is))
    ∙ ap (λ (b : Bool). merged library x (list_any t (take (i + 1) xs)) b) (sym (any_next u xs i item within is))

pub whole : {X : Type 0} (library : Library) (x y : Option Offer) (t u : X → Bool) (xs : List X) (i : ℕ) → length xs ≤ i
    → y ≡ merged library x (list_any t (take i xs)) (list_any u (take i xs)) → y ≡ merged library x (list_any t xs) (list_any u xs)
whole library x y t u xs i past is = subst (λ (ys : List _). y ≡ merged library x (list_any t ys) (list_any u ys)) (take_all i xs past) is

pub and_left : (a b : Bool) → (a && b) ≡ true → a ≡ true
and_left true b h = refl
and_left false b h = h
