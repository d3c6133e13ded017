-- What the areas behind the atoms before one come to.
use Rattle.std.proofs.Common.{◌≡◌, ℕ, ◌+◌, ◌⊎◌, ◌++◌, Bool, true, false, if◌then◌else◌, List, [], ◌∷◌, map, length, Option, Some, refl, sym, ap, ap₂, subst, ◌∙◌, inl, inr, arith}
use Rattle.std.specs.List.{AllByRecursion}
use Rattle.std.specs.List.Sorted.{IsStrictlySortedBy}
use Rattle.std.specs.Ordering.{on, is_eq, is_lt, ordering_reverse}
use Rattle.std.specs.declared.cmp.Ordering.{Ordering}
use Rattle.std.specs.declared.cmp.Ordering.TheVariants.{Less, Equal, Greater}
use Rattle.std.proofs.lemmas.Cmp.{tied_itself}
use Rattle.list_lemmas.proofs.Members.{In, all_in, in_left, in_right}
use Rattle.mo_types.proofs.KeyOrder.{compare_keys_total}
use Rattle.mo_types.specs.Keys.{compare_keys}
use Rattle.mo_types.specs.declared.atom.Atom.{Atom}
use Rattle.mo_types.specs.declared.key.AtomKey.{AtomKey}
use Rattle.atom_index.proofs.Keys.{same_key}
use Rattle.sect_place.specs.Places.{bytes_behind, islands_bytes}
use Rattle.sect_place.specs.declared.island.IslandArea.{IslandArea}
use Rattle.sect_place.specs.Moved.{counts, areas_bytes}
use Rattle.sect_list.proofs.Once.{Apart}
use Rattle.sect_place.proofs.Pushed.{total}

is_equal : (o : Ordering) → is_eq o ≡ true → o ≡ Equal
is_equal Less e = cc
is_equal Equal e = refl
is_equal Greater e = cc

greater : (a b : AtomKey) → compare_keys a b ≡ Less → compare_keys b a ≡ Greater
greater a b less = compare_keys_total.antisymm b a ∙ ap ordering_reverse less

-- ---- the area behind an atom, as a sum

bytes_of : ℕ → IslandArea → ℕ
bytes_of unit area = islands_bytes unit (length area.targets)

hit : ℕ → IslandArea → AtomKey → ℕ
hit unit area key = if is_eq (compare_keys area.last key) then bytes_of unit area else 0

sum_behind : List IslandArea → ℕ → AtomKey → ℕ
sum_behind [] unit key = 0
sum_behind (area ∷ areas) unit key = hit unit area key + sum_behind areas unit key

none_behind : (areas : List IslandArea) (unit : ℕ) (key : AtomKey) → AllByRecursion (λ (area : IslandArea). compare_keys key area.last ≡ Less) areas → sum_behind areas unit key ≡ 0
unfolding sum_behind hit
none_behind [] unit key all = refl
none_behind (area ∷ areas) unit key all =
    let away : is_eq (compare_keys area.last key) ≡ false = ap is_eq (greater key area.last all.0) in
    let rest = none_behind areas unit key all.1 in
    rw away (omega (arith, rest))

sum_is : (areas : List IslandArea) (unit : ℕ) (key : AtomKey) → IsStrictlySortedBy (on (λ (area : IslandArea). area.last) compare_keys) areas → bytes_behind areas unit key ≡ sum_behind areas unit key
unfolding bytes_behind sum_behind hit bytes_of IsStrictlySortedBy
sum_is [] unit key rising = refl
sum_is (area ∷ areas) unit key rising = by (is_eq (compare_keys area.last key)) refl (sum_is areas unit key rising.1)
  where
    by : (b : Bool) → is_eq (compare_keys area.last key) ≡ b → bytes_behind areas unit key ≡ sum_behind areas unit key → bytes_behind (area ∷ areas) unit key ≡ sum_behind (area ∷ areas) unit key
    by true here rest =
        let same : area.last ≡ key = same_key area.last key (is_equal (compare_keys area.last key) here) in
        let none = none_behind areas unit key (subst (λ (k : AtomKey). AllByRecursion (λ (other : IslandArea). compare_keys k other.last ≡ Less) areas) same rising.0) in
        rw here (omega (arith, none))
    by false away rest = rw away (omega (arith, rest))

-- ---- over atoms

total_behind : List IslandArea → ℕ → List AtomKey → ℕ
total_behind areas unit [] = 0
total_behind areas unit (key ∷ keys) = sum_behind areas unit key + total_behind areas unit keys

total_is : (areas : List IslandArea) (unit : ℕ) (atoms : List Atom) → IsStrictlySortedBy (on (λ (area : IslandArea). area.last) compare_keys) areas → total areas unit atoms ≡ total_behind areas unit (map (λ (atom : Atom). atom.key) atoms)
unfolding total_behind
total_is areas unit [] rising = refl
total_is areas unit (atom ∷ atoms) rising = ap₂ (λ (a b : ℕ). a + b) (sum_is areas unit atom.key rising) (total_is areas unit atoms rising)

hits : ℕ → IslandArea → List AtomKey → ℕ
hits unit area [] = 0
hits unit area (key ∷ keys) = hit unit area key + hits unit area keys

split_total : (area : IslandArea) (areas : List IslandArea) (unit : ℕ) (keys : List AtomKey) → total_behind (area ∷ areas) unit keys ≡ hits unit area keys + total_behind areas unit keys
unfolding total_behind sum_behind hits
split_total area areas unit [] = refl
split_total area areas unit (key ∷ keys) = let rest = split_total area areas unit keys in omega (arith, rest)

no_areas : (unit : ℕ) (keys : List AtomKey) → total_behind [] unit keys ≡ 0
unfolding total_behind sum_behind
no_areas unit [] = refl
no_areas unit (key ∷ keys) = let rest = no_areas unit keys in omega (arith, rest)

missed : (unit : ℕ) (area : IslandArea) (keys : List AtomKey) → (In area.last keys → ⊥) → hits unit area keys ≡ 0
unfolding hits hit
missed unit area [] none = refl
missed unit area (key ∷ keys) none = by (is_eq (compare_keys area.last key)) refl (missed unit area keys (λ h. none (inr h)))
  where
    by : (b : Bool) → is_eq (compare_keys area.last key) ≡ b → hits unit area keys ≡ 0 → hits unit area (key ∷ keys) ≡ 0
    by true here rest = absurd (none (inl (sym (same_key area.last key (is_equal (compare_keys area.last key) here)))))
    by false away rest = rw away (omega (arith, rest))

met : (unit : ℕ) (area : IslandArea) (keys : List AtomKey) → Apart keys → In area.last keys → hits unit area keys ≡ bytes_of unit area
unfolding hits hit
met unit area [] apart h = absurd h
met unit area (key ∷ keys) apart (inl e) =
    let here : is_eq (compare_keys area.last key) ≡ true = rw e (ap is_eq (tied_itself compare_keys_total area.last)) in
    let rest = missed unit area keys (λ h. apart.0 (subst (λ (k : AtomKey). In k keys) (sym e) h)) in
    rw here (omega (arith, rest))
met unit area (key ∷ keys) apart (inr h) = by (is_eq (compare_keys area.last key)) refl (met unit area keys apart.1 h)
  where
    by : (b : Bool) → is_eq (compare_keys area.last key) ≡ b → hits unit area keys ≡ bytes_of unit area → hits unit area (key ∷ keys) ≡ bytes_of unit area
    by true here rest = absurd (apart.0 (subst (λ (k : AtomKey). In k keys) (same_key area.last key (is_equal (compare_keys area.last key) here)) h))
    by false away rest = rw away (omega (arith, rest))

-- an area counts just where its atom is one of some
abbrev pub CountsIn : Option AtomKey → List AtomKey → IslandArea → Type 0
CountsIn limit keys area = ((counts limit area ≡ true) × In area.last keys) ⊎ ((counts limit area ≡ false) × (In area.last keys → ⊥))

summed : (areas : List IslandArea) (unit : ℕ) (limit : Option AtomKey) (keys : List AtomKey) → Apart keys → AllByRecursion (CountsIn limit keys) areas → total_behind areas unit keys ≡ areas_bytes unit limit areas
unfolding areas_bytes bytes_of
summed [] unit limit keys apart all = no_areas unit keys
summed (area ∷ areas) unit limit keys apart all = by all.0 (summed areas unit limit keys apart all.1) (split_total area areas unit keys)
  where
    by : CountsIn limit keys area → total_behind areas unit keys ≡ areas_bytes unit limit areas → total_behind (area ∷ areas) unit keys ≡ hits unit area keys + total_behind areas unit keys → total_behind (area ∷ areas) unit keys ≡ areas_bytes unit limit (area ∷ areas)
    by (inl p) rest sums = let here = met unit area keys apart p.1 in rw p.0 (omega (arith, here, rest, sums))
    by (inr p) rest sums = let here = missed unit area keys p.1 in rw p.0 (omega (arith, here, rest, sums))

pub areas_sum : (areas : List IslandArea) (unit : ℕ) (limit : Option AtomKey) (atoms : List Atom) → IsStrictlySortedBy (on (λ (area : IslandArea). area.last) compare_keys) areas → Apart (map (λ (atom : Atom). atom.key) atoms) → AllByRecursion (CountsIn limit (map (λ (atom : Atom). atom.key) atoms)) areas → total areas unit atoms ≡ areas_bytes unit limit areas
areas_sum areas unit limit atoms rising apart all =
    total_is areas unit atoms rising ∙ summed areas unit limit (map (λ (atom : Atom). atom.key) atoms) apart all

pub nothing_behind : (areas : List IslandArea) (unit : ℕ) (key : AtomKey) → IsStrictlySortedBy (on (λ (area : IslandArea). area.last) compare_keys) areas → ((area : IslandArea) → In area areas → area.last ≡ key → ⊥) → bytes_behind areas unit key ≡ 0
unfolding sum_behind hit
nothing_behind areas unit key rising none = sum_is areas unit key rising ∙ zeros areas none
  where
    zeros : (areas : List IslandArea) → ((area : IslandArea) → In area areas → area.last ≡ key → ⊥) → sum_behind areas unit key ≡ 0
    zeros [] none = refl
    zeros (area ∷ areas) none = each (is_eq (compare_keys area.last key)) refl (zeros areas (λ other h. none other (inr h)))
      where
        each : (b : Bool) → is_eq (compare_keys area.last key) ≡ b → sum_behind areas unit key ≡ 0 → sum_behind (area ∷ areas) unit key ≡ 0
        each true here rest = absurd (none area (inl refl) (same_key area.last key (is_equal (compare_keys area.last key) here)))
        each false away rest = rw away (omega (arith, rest))

-- ---- which areas are before an atom of `__text`, and before another of `__TEXT`

pub before_code : (xs ys first last : List AtomKey) (key : AtomKey) (area : IslandArea) → xs ++ ys ≡ first ++ key ∷ last → IsStrictlySortedBy compare_keys xs → Apart (xs ++ ys) → In key xs → In area.last xs → CountsIn (Some key) first area
unfolding IsStrictlySortedBy
before_code [] ys first last key area e rising apart there h = absurd h
before_code (x ∷ xs) ys [] last key area e rising apart there h = from h
  where
    same : x ≡ key
    same = cc e

    from : (x ≡ area.last) ⊎ In area.last xs → CountsIn (Some key) [] area
    from (inl p) = inr (ap is_lt (subst (λ (k : AtomKey). compare_keys k key ≡ Equal) (sym same ∙ p) (tied_itself compare_keys_total key)), λ k. k)
    from (inr q) =
        let less : compare_keys key area.last ≡ Less = subst (λ (k : AtomKey). compare_keys k area.last ≡ Less) same (all_in (λ (y : AtomKey). compare_keys x y ≡ Less) xs area.last rising.0 q) in
        inr (ap is_lt (greater key area.last less), λ k. k)
before_code (x ∷ xs) ys (f ∷ first) last key area e rising apart there h =
    from there h (λ p q. before_code xs ys first last key area rest rising.1 apart.1 p q)
  where
    same : x ≡ f
    same = cc e

    rest : xs ++ ys ≡ first ++ key ∷ last
    rest = cc e

    from : (x ≡ key) ⊎ In key xs → (x ≡ area.last) ⊎ In area.last xs → (In key xs → In area.last xs → CountsIn (Some key) first area) → CountsIn (Some key) (f ∷ first) area
    from (inl p) b later = absurd (apart.0 (subst (λ (ks : List AtomKey). In x ks) (sym rest) (subst (λ (k : AtomKey). In k (first ++ key ∷ last)) (sym p) (in_right first (key ∷ last) key (inl refl)))))
    from (inr p) (inl q) later =
        let less : compare_keys x key ≡ Less = all_in (λ (y : AtomKey). compare_keys x y ≡ Less) xs key rising.0 p in
        inl (ap is_lt (subst (λ (k : AtomKey). compare_keys k key ≡ Less) q less), inl (sym same ∙ q))
    from (inr p) (inr q) later = further (later p q)
      where
        further : CountsIn (Some key) first area → CountsIn (Some key) (f ∷ first) area
        further (inl r) = inl (r.0, inr r.1)
        further (inr r) = inr (r.0, none)
          where
            none : (f ≡ area.last) ⊎ In area.last first → ⊥
            none (inl s) = apart.0 (subst (λ (k : AtomKey). In k (xs ++ ys)) (sym (same ∙ s)) (in_left xs ys area.last q))
            none (inr s) = r.1 s

pub before_other : (xs ys first last : List AtomKey) (key : AtomKey) (area : AtomKey) → xs ++ ys ≡ first ++ key ∷ last → (In key xs → ⊥) → In area xs → In area first
before_other [] ys first last key area e not h = absurd h
before_other (x ∷ xs) ys [] last key area e not h = absurd (not (inl (cc e)))
before_other (x ∷ xs) ys (f ∷ first) last key area e not h = from h (before_other xs ys first last key area (cc e) (λ k. not (inr k)))
  where
    from : (x ≡ area) ⊎ In area xs → (In area xs → In area first) → In area (f ∷ first)
    from (inl p) rest = let same : x ≡ f = cc e in inl (sym same ∙ p)
    from (inr q) rest = inr (rest q)
