-- The imports of the wide form are made of those of the narrow one by the places of their names.
use Rattle.std.proofs.Common.{◌≡◌, ℕ, zero, suc, ◌+◌, ◌<◌, ◌≤◌, ◌^◌, nat_lt, ◌⊎◌, Bool, true, false, not, List, [], ◌∷◌, ◌++◌, length, get_or, slice_get, map, Contains, Option, Some, None, if◌then◌else◌, refl, sym, ap, subst, ◌∙◌, inl, inr, arith}
use Rattle.std.specs.Prelude.{IfNone, IfSome, IsPermutation, unwrap_or}
use Rattle.std.specs.List.{flat_map, list_any, position_or_len, IsDistinct}
use Rattle.std.specs.List.Sorted.{IsSorted, IsStrictlySortedBy}
use Rattle.std.specs.Option.{option_map}
use Rattle.std.specs.Cmp.Lexicographic.{nat_list_cmp_total}
use Rattle.std.specs.Ordering.{is_eq}
use Rattle.std.specs.declared.cmp.Ordering.{Ordering}
use Rattle.std.specs.declared.cmp.Ordering.TheVariants.{Less}
use Rattle.std.proofs.lemmas.Bool.{cases_lt, lt-ltb}
use Rattle.std.proofs.lemmas.Cmp.{tied_itself}
use Rattle.std.proofs.lemmas.List.{get_or_append_left, get_or_default, get_or_push}
use Rattle.std.proofs.lemmas.List.Sorted.{Contains-permutation, IsPermutation-sym}
use Rattle.std.proofs.lemmas.List.Sums.{passes_at_first}
use Rattle.list_lemmas.proofs.Inserted.{from_inserted, in_inserted}
use Rattle.list_lemmas.proofs.Members.{In, all_from_in, all_in, all_map, Contains_from_in, from_map, in_filter, in_from_Contains, in_map}
use Rattle.list_lemmas.proofs.Rising.{rising_same}
use Rattle.indexmap.specs.IndexSet.{insert_all}
use Rattle.fixup_chain.specs.ImportOrder.{Import, compare_imports, compare_imports_total}
use Rattle.fixup_chain.specs.Imports.{bound, import_of, imports_by, is_bound, is_wide, pool_of}
use Rattle.fixup_chain.specs.Words.{number_of}
use Rattle.fixup_chain.specs.declared.chains.Fixup.{Fixup}
use Rattle.fixup_chain.specs.declared.import_row.ImportRow.{ImportRow}
use Rattle.sect_place.specs.declared.layout.Layout.{Layout}
use Rattle.fixup_chain.specs.inner.Held.{AreNumbers, AreOthers, ArePlaces, HasNumber, HasOffset, HaveOffsets, StandsAt, gathered, imports_in, is_large, is_same, noted_row, numbers_by, rank_in, row_of}
use Rattle.fixup_chain.specs.inner.Rows.{compare_rows, names_of, row_by, row_in, rows_at, same_row, with_addend}
use Rattle.fixup_chain.proofs.ImportLemmas.{are_in, same_import}
use Rattle.fixup_chain.proofs.NameLemmas.{from_names, in_names, names_rise, pool_names, rows_in, rows_order}
use Rattle.fixup_chain.proofs.RowLemmas.{compare_rows_total, distinct_rises, rows_tie, same_rows}
use Rattle.fixup_chain.proofs.UseLemmas.{AreRanks, IsGathering, gathering_begins, gathering_ends, gathering_goes_on, mapped, places_end, row_noted, row_placed, same_size}

-- ---- the imports of a pointer

pub by_pointer : (wide : Bool) (fixups : List Fixup) (i : Import) → In i (imports_in wide fixups) → (f : Fixup) × In f (bound fixups) × (import_of wide f ≡ i)
unfolding imports_by
by_pointer wide fixups i h =
    from_map (import_of wide) (bound fixups) i (in_from_Contains (imports_by wide fixups) i ((are_in wide fixups).only i (Contains_from_in (imports_in wide fixups) i h)))

pub import_in : (wide : Bool) (fixups : List Fixup) (f : Fixup) → In f (bound fixups) → In (import_of wide f) (imports_in wide fixups)
unfolding imports_by
import_in wide fixups f h =
    in_from_Contains (imports_in wide fixups) (import_of wide f)
    ((are_in wide fixups).all (import_of wide f) (Contains_from_in (imports_by wide fixups) (import_of wide f) (in_map (import_of wide) (bound fixups) f h)))

pub name_in : (one two : Bool) (f : Fixup) → (import_of one f).name ≡ (import_of two f).name
unfolding import_of
name_in one two f = refl

pub is_among : (fixups : List Fixup) (f : Fixup) → In f fixups → is_bound f.goal ≡ true → In f (bound fixups)
unfolding bound
is_among fixups f h e = in_filter (λ (g : Fixup). is_bound g.goal) fixups f h e

-- ---- both forms have the same names

between : (fixups : List Fixup) (one two : Bool) (n : List ℕ) → In n (names_of (imports_in one fixups)) → In n (names_of (imports_in two fixups))
between fixups one two n h =
    let found : (i : Import) × In i (imports_in one fixups) × (i.name ≡ n) = from_names (imports_in one fixups) n h in
    let from : (f : Fixup) × In f (bound fixups) × (import_of one f ≡ found.0) = by_pointer one fixups found.0 found.1 in
    let same : (import_of two from.0).name ≡ n = name_in two one from.0 ∙ ap (λ (i : Import). i.name) from.2 ∙ found.2 in
    subst (λ (m : List ℕ). In m (names_of (imports_in two fixups))) same
    (in_names (imports_in two fixups) (import_of two from.0) (import_in two fixups from.0 from.1))

names_same : (fixups : List Fixup) (one two : Bool) → names_of (imports_in one fixups) ≡ names_of (imports_in two fixups)
names_same fixups one two =
    rising_same nat_list_cmp_total (names_of (imports_in one fixups)) (names_of (imports_in two fixups))
    (names_rise (imports_in one fixups) (are_in one fixups).rising) (names_rise (imports_in two fixups) (are_in two fixups).rising)
    (between fixups one two) (between fixups two one)

pub pool_same : (fixups : List Fixup) (one two : Bool) → pool_of (imports_in one fixups) ≡ pool_of (imports_in two fixups)
pool_same fixups one two =
    ap (λ (z : List ℕ). 0 ∷ z)
    (pool_names (imports_in one fixups)
    ∙ ap (flat_map (λ (n : List ℕ). n ++ 0 ∷ [])) (names_same fixups one two)
    ∙ sym (pool_names (imports_in two fixups)))

-- ---- the import of a pointer by its number in the narrow form

itself : (i : Import) → is_same i i ≡ true
itself i = ap is_eq (tied_itself compare_imports_total i)

comes : (i : Import) (xs : List Import) → In i xs → position_or_len (is_same i) xs < length xs
comes i [] h = absurd h
comes i (x ∷ xs) h = by (is_same i x) refl h (comes i xs)
  where
    by : (b : Bool) → is_same i x ≡ b → (x ≡ i) ⊎ In i xs → (In i xs → position_or_len (is_same i) xs < length xs) → (if not b then 1 + position_or_len (is_same i) xs else 0) < length (x ∷ xs)
    by true e h rest = omega arith
    by false e (inl f) rest = absurd (let g : true ≡ false = sym (subst (λ (y : Import). is_same i y ≡ true) (sym f) (itself i)) ∙ e in cc)
    by false e (inr g) rest = omega (arith, rest g)

number_is : (xs : List Import) (i : Import) → In i xs → number_of xs i ≡ position_or_len (is_same i) xs
unfolding number_of
number_is xs i h =
    ap (λ (b : Bool). unwrap_or (if b then Some (position_or_len (is_same i) xs) else None) 0)
    (lt-ltb (position_or_len (is_same i) xs) (length xs) (comes i xs h))

got : {X : Type 0} (xs : List X) (k : ℕ) (d : X) → k < length xs → slice_get xs k ≡ Some (get_or xs k d)
got [] k d low = absurd (omega (arith, low))
got (x ∷ xs) zero d low = refl
got (x ∷ xs) (suc k) d low = got xs k d (omega (arith, low))

mapped_got : {X Y : Type 0} (f : X → Y) (xs : List X) (k : ℕ) → slice_get (map f xs) k ≡ option_map f (slice_get xs k)
mapped_got f [] k = refl
mapped_got f (x ∷ xs) zero = refl
mapped_got f (x ∷ xs) (suc k) = mapped_got f xs k

at_number : (xs : List Import) (i : Import) → In i xs → slice_get xs (number_of xs i) ≡ Some i
at_number xs i h =
    let within : position_or_len (is_same i) xs < length xs = comes i xs h in
    let here : i ≡ get_or xs (position_or_len (is_same i) xs) i = same_import i (get_or xs (position_or_len (is_same i) xs) i) (passes_at_first (is_same i) xs i within) in
    ap (slice_get xs) (number_is xs i h) ∙ got xs (position_or_len (is_same i) xs) i within ∙ ap (λ (j : Import). Some j) (sym here)

with_own : (fixups : List Fixup) (x : Fixup) → with_addend x.addend (row_in (names_of (imports_in false fixups)) (import_of false x)) ≡ row_of fixups x
unfolding row_in row_of import_of
with_own fixups x = refl

pub row_found : (fixups : List Fixup) (narrow : List ImportRow) (number : ℕ) (x : Fixup) → narrow ≡ rows_at 1 (imports_in false fixups) → HasNumber false (imports_in false fixups) x number → In x fixups → row_by narrow number x ≡ (if is_bound x.goal then Some (row_of fixups x) else None)
unfolding row_by
row_found fixups narrow number x rows has there = by (is_bound x.goal) refl
  where
    one : Import → ImportRow
    one = row_in (names_of (imports_in false fixups))

    found : is_bound x.goal ≡ true → slice_get narrow number ≡ Some (one (import_of false x))
    found holds =
        ap (λ (rs : List ImportRow). slice_get rs number) (rows ∙ rows_in (imports_in false fixups) (are_in false fixups).rising)
        ∙ ap (slice_get (map one (imports_in false fixups))) (has.is holds)
        ∙ mapped_got one (imports_in false fixups) (number_of (imports_in false fixups) (import_of false x))
        ∙ ap (option_map one) (at_number (imports_in false fixups) (import_of false x) (import_in false fixups x (is_among fixups x there holds)))

    by : (b : Bool) → is_bound x.goal ≡ b → (if b then option_map (with_addend x.addend) (slice_get narrow number) else None) ≡ (if b then Some (row_of fixups x) else None)
    by true holds = ap (option_map (with_addend x.addend)) (found holds) ∙ ap (λ (r : ImportRow). Some r) (with_own fixups x)
    by false other = refl

-- ---- what is gathered and put in order

named : (fixups : List Fixup) (i : Import) → In i (imports_in true fixups) → In i.name (names_of (imports_in false fixups))
named fixups i h = subst (λ (ns : List (List ℕ)). In i.name ns) (names_same fixups true false) (in_names (imports_in true fixups) i h)

order_same : (fixups : List Fixup) (a b : Import) → In a (imports_in true fixups) → In b (imports_in true fixups) → compare_rows (row_in (names_of (imports_in false fixups)) a) (row_in (names_of (imports_in false fixups)) b) ≡ compare_imports a b
order_same fixups a b p q =
    rows_order (names_of (imports_in false fixups)) (names_rise (imports_in false fixups) (are_in false fixups).rising) a b (named fixups a p) (named fixups b q)

rising_mapped : {X Y : Type 0} (f : X → Y) (c : X → X → Ordering) (d : Y → Y → Ordering) (xs : List X) → ((a b : X) → In a xs → In b xs → d (f a) (f b) ≡ c a b) → IsStrictlySortedBy c xs → IsStrictlySortedBy d (map f xs)
unfolding IsStrictlySortedBy
rising_mapped f c d [] same h = tt
rising_mapped f c d (x ∷ xs) same h = (
  all_map f (λ y. d (f x) y ≡ Less) xs (all_from_in (λ z. d (f x) (f z) ≡ Less) xs (λ z i. same x z (inl refl) (inr i) ∙ all_in (λ w. c x w ≡ Less) xs z h.0 i)),
  rising_mapped f c d xs (λ a b p q. same a b (inr p) (inr q)) h.1,
)

row_of_is : (fixups : List Fixup) (f : Fixup) → row_of fixups f ≡ row_in (names_of (imports_in false fixups)) (import_of true f)
unfolding row_of
row_of_is fixups f = refl

gathered_is : (fixups : List Fixup) → gathered same_row (row_of fixups) fixups ≡ insert_all same_row [] (map (row_of fixups) (bound fixups))
unfolding gathered
gathered_is fixups = refl

abbrev by_name : List Fixup → Import → ImportRow
by_name fixups = row_in (names_of (imports_in false fixups))

pub sorted_rows : (fixups : List Fixup) (before after : List ImportRow) → before ≡ gathered same_row (row_of fixups) fixups → IsPermutation before after → IsSorted compare_rows after → IsDistinct same_row after → after ≡ map (row_in (names_of (imports_in false fixups))) (imports_in true fixups)
sorted_rows fixups before after is moved sorted distinct =
    rising_same compare_rows_total after (map (by_name fixups) (imports_in true fixups))
    (distinct_rises same_row compare_rows_total rows_tie after sorted distinct)
    (rising_mapped (by_name fixups) compare_imports compare_rows (imports_in true fixups) (order_same fixups) (are_in true fixups).rising)
    to back
  where
    all : List ImportRow
    all = map (row_of fixups) (bound fixups)

    to : (r : ImportRow) → In r after → In r (map (by_name fixups) (imports_in true fixups))
    to r h =
        let there : Contains before r = Contains-permutation after before r (IsPermutation-sym before after moved) (Contains_from_in after r h) in
        let put : In r (insert_all same_row [] all) = subst (λ (xs : List ImportRow). In r xs) (is ∙ gathered_is fixups) (in_from_Contains before r there) in
        let given : In r all = elim (from_inserted same_row same_rows [] all r put) [
          | inl none ↦ absurd none
          | inr given ↦ given
        ] in
        let from : (f : Fixup) × In f (bound fixups) × (row_of fixups f ≡ r) = from_map (row_of fixups) (bound fixups) r given in
        subst (λ (s : ImportRow). In s (map (by_name fixups) (imports_in true fixups))) (sym (row_of_is fixups from.0) ∙ from.2)
        (in_map (by_name fixups) (imports_in true fixups) (import_of true from.0) (import_in true fixups from.0 from.1))

    back : (r : ImportRow) → In r (map (by_name fixups) (imports_in true fixups)) → In r after
    back r h =
        let one : (i : Import) × In i (imports_in true fixups) × (by_name fixups i ≡ r) = from_map (by_name fixups) (imports_in true fixups) r h in
        let from : (f : Fixup) × In f (bound fixups) × (import_of true f ≡ one.0) = by_pointer true fixups one.0 one.1 in
        let same : row_of fixups from.0 ≡ r = row_of_is fixups from.0 ∙ ap (by_name fixups) from.2 ∙ one.2 in
        let given : In r all = subst (λ (s : ImportRow). In s all) same (in_map (row_of fixups) (bound fixups) from.0 from.1) in
        let put : In r before = subst (λ (xs : List ImportRow). In r xs) (sym (is ∙ gathered_is fixups)) (in_inserted same_row same_rows [] all r given) in
        in_from_Contains after r (Contains-permutation before after r moved (Contains_from_in before r put))

pub rows_wide : (fixups : List Fixup) → map (row_in (names_of (imports_in false fixups))) (imports_in true fixups) ≡ rows_at 1 (imports_in true fixups)
rows_wide fixups =
    ap (λ (ns : List (List ℕ)). map (row_in ns) (imports_in true fixups)) (names_same fixups false true)
    ∙ sym (rows_in (imports_in true fixups) (are_in true fixups).rising)

-- ---- the numbers

first_same : {X Y : Type 0} (p : Y → Bool) (q : X → Bool) (f : X → Y) (xs : List X) → ((x : X) → In x xs → p (f x) ≡ q x) → position_or_len p (map f xs) ≡ position_or_len q xs
first_same p q f [] same = refl
first_same p q f (x ∷ xs) same =
    let rest : position_or_len p (map f xs) ≡ position_or_len q xs = first_same p q f xs (λ y h. same y (inr h)) in
    ap (λ (n : ℕ). if not (p (f x)) then 1 + n else 0) rest ∙ ap (λ (b : Bool). if not b then 1 + position_or_len q xs else 0) (same x (inl refl))

rank_moves : (fixups : List Fixup) (i : Import) → In i (imports_in true fixups) → rank_in same_row (map (row_in (names_of (imports_in false fixups))) (imports_in true fixups)) (row_in (names_of (imports_in false fixups)) i) ≡ number_of (imports_in true fixups) i
unfolding rank_in number_of
rank_moves fixups i h =
    let all = imports_in true fixups in
    let here : position_or_len (same_row (by_name fixups i)) (map (by_name fixups) all) ≡ position_or_len (is_same i) all =
    first_same (same_row (by_name fixups i)) (is_same i) (by_name fixups) all (λ j there. rows_tie (by_name fixups i) (by_name fixups j) ∙ ap is_eq (order_same fixups i j h there)) in
    ap (λ (n : ℕ). unwrap_or (if nat_lt n (length (map (by_name fixups) all)) then Some n else None) 0) here
    ∙ ap (λ (m : ℕ). unwrap_or (if nat_lt (position_or_len (is_same i) all) m then Some (position_or_len (is_same i) all) else None) 0) (same_size (by_name fixups) all)

pub wide_numbers : (fixups : List Fixup) (sorted : List ImportRow) (numbers : List ℕ) → AreRanks same_row (row_of fixups) fixups sorted numbers → sorted ≡ map (row_in (names_of (imports_in false fixups))) (imports_in true fixups) → AreNumbers true fixups (imports_in true fixups) numbers
wide_numbers fixups sorted numbers ranks is = record {
  size = ranks.size;
  each = λ k f n low. record {
    is = λ holds.
        let x : Fixup = get_or fixups k f in
        let among : In x (bound fixups) = is_among fixups x (in_from_Contains fixups x (k, low, at_itself fixups k f low)) holds in
        ranks.is k f n low holds
        ∙ ap (λ (rows : List ImportRow). rank_in same_row rows (row_of fixups x)) is
        ∙ ap (rank_in same_row (map (by_name fixups) (imports_in true fixups))) (row_of_is fixups x)
        ∙ rank_moves fixups (import_of true x) (import_in true fixups x among);
    small = (let low' = ranks.small k n low in let size : length sorted ≡ length (imports_in true fixups) = ap length is ∙ same_size (by_name fixups) (imports_in true fixups) in omega (arith, low', size));
  };
}
  where
    at_itself : (xs : List Fixup) (k : ℕ) (d : Fixup) → k < length xs → get_or xs k (get_or xs k d) ≡ get_or xs k d
    at_itself [] k d low = absurd (omega (arith, low))
    at_itself (x ∷ xs) zero d low = refl
    at_itself (x ∷ xs) (suc k) d low = at_itself xs k d (omega (arith, low))

rank_is : (keys : List Import) (i : Import) → rank_in is_same keys i ≡ number_of keys i
unfolding rank_in number_of
rank_is keys i = refl

pub narrow_numbers : (fixups : List Fixup) (sorted : List Import) (numbers : List ℕ) → AreRanks is_same (import_of false) fixups sorted numbers → sorted ≡ imports_in false fixups → AreNumbers false fixups (imports_in false fixups) numbers
narrow_numbers fixups sorted numbers ranks is = record {
  size = ranks.size;
  each = λ k f n low. record {
    is = λ holds.
        ranks.is k f n low holds
        ∙ rank_is sorted (import_of false (get_or fixups k f))
        ∙ ap (λ (keys : List Import). number_of keys (import_of false (get_or fixups k f))) is;
    small = (let low' = ranks.small k n low in let size : length sorted ≡ length (imports_in false fixups) = ap length is in omega (arith, low', size));
  };
}

-- ---- what is held for one pointer

held_within : (wide : Bool) (fixups : List Fixup) (imports : List Import) (ranks held : List ℕ) (at : ℕ) → AreNumbers wide fixups imports (numbers_by ranks held) → at < length fixups → at < length held
held_within wide fixups imports ranks held at are within =
    let size : length held ≡ length fixups = sym (same_size (λ (place : ℕ). get_or ranks place 0) held) ∙ are.size in omega (arith, size, within)

-- the number of its import
pub number_of_one : (wide : Bool) (fixups : List Fixup) (imports : List Import) (ranks held : List ℕ) (at h : ℕ) (x : Fixup) → AreNumbers wide fixups imports (numbers_by ranks held) → at < length fixups → x ≡ get_or fixups at x → HasNumber wide imports x (get_or ranks (get_or held at h) 0)
number_of_one wide fixups imports ranks held at h x are within is =
    let here : get_or (numbers_by ranks held) at 0 ≡ get_or ranks (get_or held at h) 0 =
    mapped (λ (place : ℕ). get_or ranks place 0) held at 0 h (held_within wide fixups imports ranks held at are within) in
    subst (λ (n : ℕ). HasNumber wide imports x n) here (subst (λ (f : Fixup). HasNumber wide imports f (get_or (numbers_by ranks held) at 0)) (sym is) (are.each at x 0 within))

pub number_here : (wide : Bool) (fixups : List Fixup) (imports : List Import) (ranks held : List ℕ) (at h number : ℕ) (x : Fixup) → AreNumbers wide fixups imports (numbers_by ranks held) → at < length fixups → x ≡ get_or fixups at x → number ≡ get_or ranks (get_or held at h) 0 → HasNumber wide imports x number
number_here wide fixups imports ranks held at h number x are within is e =
    subst (λ (n : ℕ). HasNumber wide imports x n) (sym e) (number_of_one wide fixups imports ranks held at h x are within is)

-- a number of one has room in a word
pub number_small : (wide : Bool) (imports : List Import) (x : Fixup) (n : ℕ) → HasNumber wide imports x n → length imports < 2 ^ 24 → n < 2 ^ 24
number_small wide imports x n has few = let small = has.small in omega (arith, small, few)

-- there is something for each
pub held_for_all : (wide : Bool) (fixups : List Fixup) (imports : List Import) (ranks held : List ℕ) → AreNumbers wide fixups imports (numbers_by ranks held) → length held ≡ length fixups
held_for_all wide fixups imports ranks held are = sym (same_size (λ (place : ℕ). get_or ranks place 0) held) ∙ are.size

-- its offset
pub offset_of_one : (layout : Layout) (fixups : List Fixup) (held : List ℕ) (at h : ℕ) (x : Fixup) → HaveOffsets layout fixups held → at < length fixups → x ≡ get_or fixups at x → HasOffset layout x (get_or held at h)
offset_of_one layout fixups held at h x have within is = subst (λ (f : Fixup). HasOffset layout f (get_or held at h)) (sym is) (have.each at x h within)

pub others_have : (layout : Layout) (fixups : List Fixup) (before now : List ℕ) → HaveOffsets layout fixups before → AreOthers fixups before now → HaveOffsets layout fixups now
others_have layout fixups before now have others = record {
  each = λ k f h low. record { is = λ other. others.each k f h low other ∙ (have.each k f h low).is other };
}

pub wide_pool : (fixups : List Fixup) (pool : List ℕ) → pool ≡ pool_of (imports_in false fixups) → pool ≡ pool_of (imports_in true fixups)
wide_pool fixups pool e = e ∙ pool_same fixups false true

pub wide_form : (fixups : List Fixup) (pool : List ℕ) (wide large : Bool) → wide ≡ true → ((some : List Fixup) → large ≡ list_any is_large some → wide ≡ is_wide some pool) → large ≡ list_any is_large fixups → pool ≡ pool_of (imports_in false fixups) → true ≡ is_wide fixups (pool_of (imports_in false fixups))
wide_form fixups pool wide large is told large_is pool_is = sym is ∙ told fixups large_is ∙ ap (is_wide fixups) pool_is

pub narrow_form : (fixups : List Fixup) (pool : List ℕ) (wide large : Bool) → wide ≡ false → ((some : List Fixup) → large ≡ list_any is_large some → wide ≡ is_wide some pool) → large ≡ list_any is_large fixups → pool ≡ pool_of (imports_in false fixups) → false ≡ is_wide fixups (pool_of (imports_in false fixups))
narrow_form fixups pool wide large is told large_is pool_is = sym is ∙ told fixups large_is ∙ ap (is_wide fixups) pool_is

pub others_stay : (fixups : List Fixup) (before now : List ℕ) → now ≡ before → AreOthers fixups before now
others_stay fixups before now e = record { each = λ k f h low other. ap (λ (hs : List ℕ). get_or hs k h) e }

pub others_follow : (fixups : List Fixup) (before between now : List ℕ) → between ≡ before → AreOthers fixups between now → AreOthers fixups before now
others_follow fixups before between now e others = subst (λ (hs : List ℕ). AreOthers fixups hs now) e others

pub ruleset pools = (wide_pool, wide_form, narrow_form, others_have, others_stay, others_follow)

-- ---- the loop that gathers them

pub record IsWidening (fixups : List Fixup) (before : List ℕ) (at : ℕ) (now : List ImportRow) (held : List ℕ) : Type 0 where
  pub gathers : IsGathering same_row (row_of fixups) fixups at now held
  pub others : (k : ℕ) (f : Fixup) (h : ℕ) → k < at → is_bound (get_or fixups k f).goal ≡ false → get_or held k h ≡ get_or before k h

pub wide_begins : (fixups : List Fixup) (before : List ℕ) (none : List ImportRow) (held : List ℕ) → none ≡ [] → held ≡ [] → IsWidening fixups before 0 none held
wide_begins fixups before none held e f = record {
  gathers = gathering_begins same_row (row_of fixups) fixups none held e f;
  others = λ k g h low other. absurd (omega (arith, low));
}

-- what a pointer is bound to is none where it isn't bound
no_row : (narrow : List ImportRow) (n : ℕ) (x : Fixup) (row : Option ImportRow) → row ≡ row_by narrow n x → is_bound x.goal ≡ false → row ≡ None
unfolding row_by
no_row narrow n x row e other = e ∙ rw other refl

none_there : (row : Option ImportRow) (one before : ℕ) → IfNone row (one ≡ before) → row ≡ None → one ≡ before
none_there row one before h e = let P : Option ImportRow → Type 0 = λ r. IfNone r (one ≡ before) in subst P e h

pub wide_goes_on : (fixups : List Fixup) (narrow : List ImportRow) (ranks before : List ℕ) (at h : ℕ) (now new : List ImportRow) (held more : List ℕ) (x : Fixup) (row : Option ImportRow) (number one : ℕ) → narrow ≡ rows_at 1 (imports_in false fixups) → AreNumbers false fixups (imports_in false fixups) (numbers_by ranks before) → IsWidening fixups before at now held → at < length fixups → x ≡ get_or fixups at x → number ≡ get_or ranks (get_or before at h) 0 → row ≡ row_by narrow number x → new ≡ noted_row now row → IfSome row (StandsAt new one) → IfNone row (one ≡ get_or before at h) → more ≡ held ++ one ∷ [] → IsWidening fixups before (at + 1) new more
wide_goes_on fixups narrow ranks before at h now new held more x row number one rows are all within is number_is row_is new_is stands same more_is =
    let among : In x fixups = in_from_Contains fixups x (at, within, sym is) in
    let found : row ≡ (if is_bound x.goal then Some (row_of fixups x) else None) =
    row_is ∙ row_found fixups narrow number x rows (number_here false fixups (imports_in false fixups) ranks before at h number x are within is number_is) among in
    record {
      gathers = gathering_goes_on same_row (row_of fixups) fixups at now new held more x one all.gathers within is (row_noted (row_of fixups) now new x row found new_is) (row_placed (row_of fixups) new x row one found stands) more_is;
      others = others;
    }
  where
    others : (k : ℕ) (f : Fixup) (g : ℕ) → k < at + 1 → is_bound (get_or fixups k f).goal ≡ false → get_or more k g ≡ get_or before k g
    others k f g low other = elim (cases_lt k at) [
      | inl past ↦ ap (λ (hs : List ℕ). get_or hs k g) more_is ∙ get_or_append_left held (one ∷ []) g k (let m = all.gathers.size in omega (arith, past, m)) ∙ all.others k f g past other
      | inr last ↦
          (let here : k ≡ at = omega (arith, low, last) in
          let that : get_or fixups k f ≡ x = ap (λ (n : ℕ). get_or fixups n f) here ∙ sym (is ∙ get_or_default fixups at x f within) in
          let unbound : is_bound x.goal ≡ false = ap (λ (y : Fixup). is_bound y.goal) (sym that) ∙ other in
          let value : one ≡ get_or before at h = none_there row one (get_or before at h) same (no_row narrow number x row row_is unbound) in
          ap (λ (n : ℕ). get_or more n g) here
          ∙ ap (λ (hs : List ℕ). get_or hs at g) more_is
          ∙ get_or_push held one g at all.gathers.size
          ∙ value
          ∙ get_or_default before at h g (held_within false fixups (imports_in false fixups) ranks before at are within)
          ∙ ap (λ (n : ℕ). get_or before n g) (sym here))
    ]

pub wide_ends : (fixups : List Fixup) (before : List ℕ) (at : ℕ) (now : List ImportRow) (held : List ℕ) → IsWidening fixups before at now held → length fixups ≤ at → now ≡ gathered same_row (row_of fixups) fixups
wide_ends fixups before at now held all past = gathering_ends same_row (row_of fixups) fixups at now held all.gathers past

pub wide_places : (fixups : List Fixup) (before : List ℕ) (at : ℕ) (now : List ImportRow) (held : List ℕ) → IsWidening fixups before at now held → length fixups ≤ at → ArePlaces (row_of fixups) fixups now held
wide_places fixups before at now held all past = places_end same_row (row_of fixups) fixups at now held all.gathers past

pub wide_others : (fixups : List Fixup) (before : List ℕ) (at : ℕ) (now : List ImportRow) (held : List ℕ) → IsWidening fixups before at now held → length fixups ≤ at → AreOthers fixups before held
wide_others fixups before at now held all past = record { each = λ k f h low other. all.others k f h (omega (arith, low, past)) other }

pub ruleset gathering = (wide_begins, wide_ends, wide_places, wide_others)
