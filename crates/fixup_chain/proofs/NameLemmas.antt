-- The names of imports in their order, and their places in the pool.
use Rattle.std.proofs.Common.{◌≡◌, ◌≢◌, ℕ, ◌+◌, ◌≤◌, ◌<◌, ◌⊎◌, Bool, true, false, List, [], ◌∷◌, ◌++◌, length, map, if◌then◌else◌, refl, sym, ap, subst, ◌∙◌, inl, inr, arith}
use Rattle.std.specs.List.{flat_map}
use Rattle.std.specs.List.Sorted.{IsStrictlySortedBy}
use Rattle.std.specs.Ordering.{nat_cmp, int_cmp, bool_cmp, is_eq, ordering_reverse, ordering_then, MatchOrdering}
use Rattle.std.specs.Cmp.Lexicographic.{slice_cmp, nat_list_cmp_total}
use Rattle.std.specs.Str.{bytes_eq}
use Rattle.std.specs.declared.cmp.Ordering.{Ordering}
use Rattle.std.specs.declared.cmp.Ordering.TheVariants.{Less, Equal, Greater}
use Rattle.std.proofs.lemmas.Cmp.{nat_cmp_total, ranked, tied_itself}
use Rattle.std.proofs.lemmas.List.{length-append}
use Rattle.std.proofs.lemmas.Map.Text.{is_eq-slice_cmp}
use Rattle.std.proofs.lemmas.Slice.Eq.{bytes_eq-Decides}
use Rattle.list_lemmas.proofs.Members.{In, all_from_in, all_in}
use Rattle.fixup_chain.specs.ImportOrder.{Import, compare_imports}
use Rattle.fixup_chain.specs.Imports.{last_name, names_with_nul}
use Rattle.fixup_chain.specs.declared.import_row.ImportRow.{ImportRow}
use Rattle.fixup_chain.specs.inner.Rows.{compare_rows, names_of, place_by, row_at, row_in, rows_at}

-- ---- names that tie are the same

same_names : (a b : List ℕ) → bytes_eq a b ≡ true → a ≡ b
same_names a b e = (bytes_eq-Decides a b).0 e

itself : (a : List ℕ) → bytes_eq a a ≡ true
itself a = (bytes_eq-Decides a a).1 refl

tied : (a b : List ℕ) → slice_cmp nat_cmp a b ≡ Equal → bytes_eq a b ≡ true
tied a b e = sym (is_eq-slice_cmp a b) ∙ ap is_eq e

apart : (a b : List ℕ) → slice_cmp nat_cmp a b ≡ Less → bytes_eq a b ≡ false
apart a b e = sym (is_eq-slice_cmp a b) ∙ ap is_eq e

-- ---- the names

head_by : (x y : Import) (more rest : List (List ℕ)) (b : Bool) → bytes_eq x.name y.name ≡ b → more ≡ y.name ∷ rest → (others : List (List ℕ)) × ((if b then more else x.name ∷ more) ≡ x.name ∷ others)
head_by x y more rest true e is = (rest, is ∙ ap (λ (n : List ℕ). n ∷ rest) (sym (same_names x.name y.name e)))
head_by x y more rest false e is = (more, refl)

head_name : (x : Import) (xs : List Import) → (rest : List (List ℕ)) × (names_of (x ∷ xs) ≡ x.name ∷ rest)
unfolding names_of
head_name x [] = ([], refl)
head_name x (y ∷ ys) =
    let more : (rest : List (List ℕ)) × (names_of (y ∷ ys) ≡ y.name ∷ rest) = head_name y ys in
    head_by x y (names_of (y ∷ ys)) more.0 (bytes_eq x.name y.name) refl more.1

later : (x : Import) (xs : List Import) (n : List ℕ) → In n (names_of xs) → In n (names_of (x ∷ xs))
unfolding names_of
later x [] n h = absurd h
later x (y ∷ ys) n h = by (bytes_eq x.name y.name)
  where
    by : (b : Bool) → In n (if b then names_of (y ∷ ys) else x.name ∷ names_of (y ∷ ys))
    by true = h
    by false = inr h

pub in_names : (xs : List Import) (i : Import) → In i xs → In i.name (names_of xs)
in_names [] i h = absurd h
in_names (x ∷ xs) i (inl e) =
    let head : (rest : List (List ℕ)) × (names_of (x ∷ xs) ≡ x.name ∷ rest) = head_name x xs in
    subst (λ (ns : List (List ℕ)). In i.name ns) (sym head.1) (inl (ap (λ (j : Import). j.name) e))
in_names (x ∷ xs) i (inr h) = later x xs i.name (in_names xs i h)

split : (x : Import) (xs : List Import) (n : List ℕ) → In n (names_of (x ∷ xs)) → (x.name ≡ n) ⊎ In n (names_of xs)
unfolding names_of
split x [] n h = h
split x (y ∷ ys) n h = by (bytes_eq x.name y.name) h
  where
    by : (b : Bool) → In n (if b then names_of (y ∷ ys) else x.name ∷ names_of (y ∷ ys)) → (x.name ≡ n) ⊎ In n (names_of (y ∷ ys))
    by true h = inr h
    by false h = h

pub from_names : (xs : List Import) (n : List ℕ) → In n (names_of xs) → (i : Import) × In i xs × (i.name ≡ n)
unfolding names_of
from_names [] n h = absurd h
from_names (x ∷ xs) n h = elim (split x xs n h) [
  | inl e ↦ (x, inl refl, e)
  | inr there ↦ (let found : (i : Import) × In i xs × (i.name ≡ n) = from_names xs n there in (found.0, inr found.1, found.2))
]

-- ---- they rise

first_part : (o r : Ordering) → ordering_then o r ≡ Less → o ≢ Greater
first_part Less r e = λ f. cc
first_part Equal r e = λ f. cc
first_part Greater r e = λ f. cc

not_above : (a b : Import) → compare_imports a b ≡ Less → slice_cmp nat_cmp a.name b.name ≢ Greater
unfolding compare_imports
not_above a b e = first_part (slice_cmp nat_cmp a.name b.name) (ordering_then (int_cmp a.addend b.addend) (ordering_then (nat_cmp a.ordinal b.ordinal) (bool_cmp a.optional b.optional))) e

below_by : (o : Ordering) → (o ≡ Equal → ⊥) → o ≢ Greater → o ≡ Less
below_by Less p q = refl
below_by Equal p q = absurd (p refl)
below_by Greater p q = absurd (q refl)

clash : {P : Type 0} (b : Bool) → b ≡ false → b ≡ true → P
clash b e f = absurd (let g : true ≡ false = sym f ∙ e in cc)

-- an import is below the next one by its name, if that is another
below_next : (x y : Import) → compare_imports x y ≡ Less → bytes_eq x.name y.name ≡ false → slice_cmp nat_cmp x.name y.name ≡ Less
below_next x y e other = below_by (slice_cmp nat_cmp x.name y.name) (λ f. clash (bytes_eq x.name y.name) other (tied x.name y.name f)) (not_above x y e)

below_later : (a b d : List ℕ) (o : Ordering) → slice_cmp nat_cmp a b ≡ Less → slice_cmp nat_cmp b d ≡ o → o ≢ Greater → slice_cmp nat_cmp a d ≡ Less
below_later a b d Less e f p = nat_list_cmp_total.trans a b d e f
below_later a b d Equal e f p = subst (λ (n : List ℕ). slice_cmp nat_cmp a n ≡ Less) (same_names b d (tied b d f)) e
below_later a b d Greater e f p = absurd (p refl)

below_all : (x y : Import) (ys : List Import) → IsStrictlySortedBy compare_imports (x ∷ y ∷ ys) → bytes_eq x.name y.name ≡ false → (n : List ℕ) → In n (names_of (y ∷ ys)) → slice_cmp nat_cmp x.name n ≡ Less
unfolding IsStrictlySortedBy
below_all x y ys h other n there =
    let next : slice_cmp nat_cmp x.name y.name ≡ Less = below_next x y h.0.0 other in
    let found : (i : Import) × In i (y ∷ ys) × (i.name ≡ n) = from_names (y ∷ ys) n there in
    subst (λ (m : List ℕ). slice_cmp nat_cmp x.name m ≡ Less) found.2
    (elim found.1 [
      | inl e ↦ subst (λ (i : Import). slice_cmp nat_cmp x.name i.name ≡ Less) e next
      | inr i ↦ below_later x.name y.name found.0.name (slice_cmp nat_cmp y.name found.0.name) next refl (not_above y found.0 (all_in (λ z. compare_imports y z ≡ Less) ys found.0 h.1.0 i))
    ])

pub names_rise : (xs : List Import) → IsStrictlySortedBy compare_imports xs → IsStrictlySortedBy (slice_cmp nat_cmp) (names_of xs)
unfolding IsStrictlySortedBy names_of
names_rise [] h = tt
names_rise (x ∷ []) h = (tt, tt)
names_rise (x ∷ y ∷ ys) h = by (bytes_eq x.name y.name) refl (names_rise (y ∷ ys) h.1)
  where
    by : (b : Bool) → bytes_eq x.name y.name ≡ b → IsStrictlySortedBy (slice_cmp nat_cmp) (names_of (y ∷ ys)) → IsStrictlySortedBy (slice_cmp nat_cmp) (if b then names_of (y ∷ ys) else x.name ∷ names_of (y ∷ ys))
    by true e rest = rest
    by false e rest = (all_from_in (λ n. slice_cmp nat_cmp x.name n ≡ Less) (names_of (y ∷ ys)) (below_all x y ys h e), rest)

-- ---- the places rise with them

first_is : {X : Type 0} (b : Bool) (x y : X) → b ≡ true → (if b then x else y) ≡ x
first_is b x y e = rw e refl

second_is : {X : Type 0} (b : Bool) (x y : X) → b ≡ false → (if b then x else y) ≡ y
second_is b x y e = rw e refl

place_here : (p : ℕ) (n : List ℕ) (ns : List (List ℕ)) → place_by p (n ∷ ns) n ≡ p
unfolding place_by
place_here p n ns = first_is (bytes_eq n n) p (place_by (p + length (n ++ 0 ∷ [])) ns n) (itself n)

place_later : (p : ℕ) (n : List ℕ) (ns : List (List ℕ)) (x : List ℕ) → bytes_eq n x ≡ false → place_by p (n ∷ ns) x ≡ place_by (p + length (n ++ 0 ∷ [])) ns x
unfolding place_by
place_later p n ns x e = second_is (bytes_eq n x) p (place_by (p + length (n ++ 0 ∷ [])) ns x) e

place_from : (p : ℕ) (ns : List (List ℕ)) (x : List ℕ) → p ≤ place_by p ns x
unfolding place_by
place_from p [] x = omega arith
place_from p (n ∷ ns) x = by (bytes_eq n x) (place_from (p + length (n ++ 0 ∷ [])) ns x)
  where
    by : (b : Bool) → p + length (n ++ 0 ∷ []) ≤ place_by (p + length (n ++ 0 ∷ [])) ns x → p ≤ (if b then p else place_by (p + length (n ++ 0 ∷ [])) ns x)
    by true low = omega arith
    by false low = omega (arith, low)

numbers_less : (x y : ℕ) → x < y → nat_cmp x y ≡ Less
numbers_less x y low = by (nat_cmp x y) (ranked x y (nat_cmp x y) refl)
  where
    by : (r : Ordering) → MatchOrdering r (x < y) (x ≡ y) (y < x) → r ≡ Less
    by Less m = refl
    by Equal m = absurd (omega (arith, low, m))
    by Greater m = absurd (omega (arith, low, m))

at_here : (p : ℕ) (n : List ℕ) (ns : List (List ℕ)) (x : List ℕ) → n ≡ x → place_by p (n ∷ ns) x ≡ p
at_here p n ns x e = ap (place_by p (n ∷ ns)) (sym e) ∙ place_here p n ns

at_later : (p : ℕ) (n : List ℕ) (ns : List (List ℕ)) (x : List ℕ) → slice_cmp nat_cmp n x ≡ Less → place_by p (n ∷ ns) x ≡ place_by (p + length (n ++ 0 ∷ [])) ns x
at_later p n ns x e = place_later p n ns x (apart n x e)

here_later : (p : ℕ) (n : List ℕ) (ns : List (List ℕ)) (a b : List ℕ) → n ≡ a → slice_cmp nat_cmp n b ≡ Less → nat_cmp (place_by p (n ∷ ns) a) (place_by p (n ∷ ns) b) ≡ slice_cmp nat_cmp a b
here_later p n ns a b e less =
    let size : length (n ++ 0 ∷ []) ≡ length n + 1 = length-append n (0 ∷ []) in
    let low : p + length (n ++ 0 ∷ []) ≤ place_by (p + length (n ++ 0 ∷ [])) ns b = place_from (p + length (n ++ 0 ∷ [])) ns b in
    ap (λ (k : ℕ). nat_cmp k (place_by p (n ∷ ns) b)) (at_here p n ns a e)
    ∙ ap (nat_cmp p) (at_later p n ns b less)
    ∙ numbers_less p (place_by (p + length (n ++ 0 ∷ [])) ns b) (omega (arith, size, low))
    ∙ sym (ap (λ (m : List ℕ). slice_cmp nat_cmp m b) (sym e) ∙ less)

pub places_order : (ns : List (List ℕ)) (a b : List ℕ) → IsStrictlySortedBy (slice_cmp nat_cmp) ns → (p : ℕ) → In a ns → In b ns → nat_cmp (place_by p ns a) (place_by p ns b) ≡ slice_cmp nat_cmp a b
unfolding IsStrictlySortedBy
places_order [] a b h p there also = absurd there
places_order (n ∷ ns) a b h p (inl e) (inl f) =
    ap (λ (k : ℕ). nat_cmp k (place_by p (n ∷ ns) b)) (at_here p n ns a e)
    ∙ ap (nat_cmp p) (at_here p n ns b f)
    ∙ tied_itself nat_cmp_total p
    ∙ sym (ap (λ (m : List ℕ). slice_cmp nat_cmp m b) (sym e) ∙ ap (slice_cmp nat_cmp n) (sym f) ∙ tied_itself nat_list_cmp_total n)
places_order (n ∷ ns) a b h p (inl e) (inr g) = here_later p n ns a b e (all_in (λ y. slice_cmp nat_cmp n y ≡ Less) ns b h.0 g)
places_order (n ∷ ns) a b h p (inr g) (inl e) =
    nat_cmp_total.antisymm (place_by p (n ∷ ns) a) (place_by p (n ∷ ns) b)
    ∙ ap ordering_reverse (here_later p n ns b a e (all_in (λ y. slice_cmp nat_cmp n y ≡ Less) ns a h.0 g))
    ∙ sym (nat_list_cmp_total.antisymm a b)
places_order (n ∷ ns) a b h p (inr f) (inr g) =
    ap (λ (k : ℕ). nat_cmp k (place_by p (n ∷ ns) b)) (at_later p n ns a (all_in (λ y. slice_cmp nat_cmp n y ≡ Less) ns a h.0 f))
    ∙ ap (nat_cmp (place_by (p + length (n ++ 0 ∷ [])) ns a)) (at_later p n ns b (all_in (λ y. slice_cmp nat_cmp n y ≡ Less) ns b h.0 g))
    ∙ places_order ns a b h.1 (p + length (n ++ 0 ∷ [])) f g

-- ---- imports by them

same_map : {X Y : Type 0} (f g : X → Y) (xs : List X) → ((x : X) → In x xs → f x ≡ g x) → map f xs ≡ map g xs
same_map f g [] each = refl
same_map f g (x ∷ xs) each = let rest : map f xs ≡ map g xs = same_map f g xs (λ y h. each y (inr h)) in rw (each x (inl refl), rest) refl

moved : (x : Import) (xs : List Import) → IsStrictlySortedBy compare_imports (x ∷ xs) → (p : ℕ) (i : Import) → In i xs → place_by (p + length (last_name x xs)) (names_of xs) i.name ≡ place_by p (names_of (x ∷ xs)) i.name
unfolding names_of last_name
moved x [] h p i there = absurd there
moved x (y ∷ ys) h p i there = by (bytes_eq x.name y.name) refl
  where
    by : (b : Bool) → bytes_eq x.name y.name ≡ b → place_by (p + length (if b then [] else x.name ++ 0 ∷ [])) (names_of (y ∷ ys)) i.name ≡ place_by p (if b then names_of (y ∷ ys) else x.name ∷ names_of (y ∷ ys)) i.name
    by true e = ap (λ (k : ℕ). place_by k (names_of (y ∷ ys)) i.name) (omega arith)
    by false e = sym (place_later p x.name (names_of (y ∷ ys)) i.name (apart x.name i.name (below_all x y ys h e i.name (in_names (y ∷ ys) i there))))

rows_are : (p : ℕ) (xs : List Import) → IsStrictlySortedBy compare_imports xs → rows_at p xs ≡ map (λ (i : Import). row_at (place_by p (names_of xs) i.name) i) xs
unfolding rows_at IsStrictlySortedBy
rows_are p [] h = refl
rows_are p (x ∷ xs) h =
    let head : (rest : List (List ℕ)) × (names_of (x ∷ xs) ≡ x.name ∷ rest) = head_name x xs in
    let first : place_by p (names_of (x ∷ xs)) x.name ≡ p = ap (λ (ns : List (List ℕ)). place_by p ns x.name) head.1 ∙ place_here p x.name head.0 in
    let rest : rows_at (p + length (last_name x xs)) xs ≡ map (λ (i : Import). row_at (place_by (p + length (last_name x xs)) (names_of xs) i.name) i) xs = rows_are (p + length (last_name x xs)) xs h.1 in
    let same : map (λ (i : Import). row_at (place_by (p + length (last_name x xs)) (names_of xs) i.name) i) xs ≡ map (λ (i : Import). row_at (place_by p (names_of (x ∷ xs)) i.name) i) xs =
    same_map (λ (i : Import). row_at (place_by (p + length (last_name x xs)) (names_of xs) i.name) i) (λ (i : Import). row_at (place_by p (names_of (x ∷ xs)) i.name) i) xs (λ i there. ap (λ (k : ℕ). row_at k i) (moved x xs h p i there)) in
    ap (λ (rows : List ImportRow). row_at p x ∷ rows) (rest ∙ same)
    ∙ ap (λ (k : ℕ). row_at k x ∷ map (λ (i : Import). row_at (place_by p (names_of (x ∷ xs)) i.name) i) xs) (sym first)

pub rows_in : (xs : List Import) → IsStrictlySortedBy compare_imports xs → rows_at 1 xs ≡ map (row_in (names_of xs)) xs
unfolding row_in
rows_in xs h = rows_are 1 xs h

pub pool_names : (xs : List Import) → names_with_nul xs ≡ flat_map (λ (n : List ℕ). n ++ 0 ∷ []) (names_of xs)
unfolding names_with_nul names_of last_name
pool_names [] = refl
pool_names (x ∷ []) = refl
pool_names (x ∷ y ∷ ys) = by (bytes_eq x.name y.name) (pool_names (y ∷ ys))
  where
    by : (b : Bool) → names_with_nul (y ∷ ys) ≡ flat_map (λ (n : List ℕ). n ++ 0 ∷ []) (names_of (y ∷ ys)) → (if b then [] else x.name ++ 0 ∷ []) ++ names_with_nul (y ∷ ys) ≡ flat_map (λ (n : List ℕ). n ++ 0 ∷ []) (if b then names_of (y ∷ ys) else x.name ∷ names_of (y ∷ ys))
    by true rest = rest
    by false rest = ap (λ (z : List ℕ). (x.name ++ 0 ∷ []) ++ z) rest

pub rows_order : (ns : List (List ℕ)) → IsStrictlySortedBy (slice_cmp nat_cmp) ns → (a b : Import) → In a.name ns → In b.name ns → compare_rows (row_in ns a) (row_in ns b) ≡ compare_imports a b
unfolding row_in compare_imports
rows_order ns h a b p q =
    ap (λ (o : Ordering). ordering_then o (ordering_then (int_cmp a.addend b.addend) (ordering_then (nat_cmp a.ordinal b.ordinal) (bool_cmp a.optional b.optional))))
    (places_order ns a.name b.name h 1 p q)
