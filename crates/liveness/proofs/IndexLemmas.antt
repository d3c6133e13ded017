-- The indices of references that stand in the order of their atoms.
use Rattle.std.proofs.Common.{◌≡◌, ℕ, suc, ◌+◌, ◌<◌, All, Bool, true, false, cond, List, [], ◌∷◌, length, map, get_or, refl, sym, ap, ◌∙◌, subst, arith, nat_eq}
use Rattle.std.specs.Prelude.{IsPermutation, Option}
use Rattle.std.specs.Option.{option_map_or}
use Rattle.std.proofs.lemmas.Option.{slice_get-get_or}
use Rattle.std.proofs.lemmas.List.FromFn.{length-enumerate_from}
use Rattle.std.specs.List.{enumerate_from, filter, range_with_len}
use Rattle.std.specs.List.Sorted.{IsSorted}
use Rattle.std.proofs.lemmas.List.{get_or-map, length-map}
use Rattle.std.proofs.lemmas.List.Sorted.{All-permutation, IsPermutation-map}
use Rattle.mo_types.specs.declared.reference.Ref.{Ref}
use Rattle.liveness.specs.declared.order.Spot.{Spot}
use Rattle.liveness.specs.Order.{AreInOrder, compare_at, is_at, place_at, place_of, refs_of_atom}
use Rattle.liveness.specs.inner.Spots.{compare_spots, is_of, place, spot_of, spots_of}
use Rattle.liveness.specs.inner.Turned.{AreTurned}
use Rattle.liveness.proofs.ListLemmas.{numbered}
use Rattle.liveness.proofs.TurnLemmas.{some_spot}

abbrev index_of : Spot → ℕ
index_of spot = spot.index

-- ---- the references as a file lists them

numbers : (n : ℕ) (refs : List Ref) → map index_of (map spot_of (enumerate_from n refs)) ≡ range_with_len n (length refs)
numbers n [] = refl
numbers n (r ∷ refs) = ap (λ (ns : List ℕ). n ∷ ns) (numbers (n + 1) refs)

some_ref : (refs : List Ref) (k : ℕ) → k < length refs → Ref
some_ref [] k low = absurd (omega (arith, low))
some_ref (r ∷ refs) k low = r

-- a spot has the atom of the reference at its index
agree : (refs : List Ref) → All (λ spot. place spot ≡ place_at refs spot.index) (spots_of refs)
unfolding spots_of place place_at
agree refs k d low =
    let under : k < length refs = omega (arith, low, length-map (enumerate_from 0 refs) spot_of, length-enumerate_from 0 refs) in
    let within : k < length (enumerate_from 0 refs) = omega (arith, under, length-enumerate_from 0 refs) in
    let r : Ref = some_ref refs k under in
    let is : get_or (map spot_of (enumerate_from 0 refs)) k d ≡ spot_of (k, get_or refs k r) = get_or-map spot_of (enumerate_from 0 refs) k (0, r) d within ∙ ap spot_of (numbered refs k r under) in
    subst (λ (spot : Spot). place spot ≡ place_at refs spot.index) (sym is)
    (sym (ap (λ (o : Option Ref). option_map_or (λ (x : Ref). place_of x.atom.section x.atom.offset) o 0) (slice_get-get_or refs k r under)))

-- ---- in another order

kept : (refs : List Ref) (section offset : ℕ) (spots : List Spot) → All (λ spot. place spot ≡ place_at refs spot.index) spots → filter (is_at refs section offset) (map index_of spots) ≡ map index_of (filter (is_of section offset) spots)
kept refs section offset [] same = refl
kept refs section offset (s ∷ spots) same =
    ap (λ (n : ℕ). cond (nat_eq n (place_of section offset)) (s.index ∷ filter (is_at refs section offset) (map index_of spots)) (filter (is_at refs section offset) (map index_of spots))) (sym (same 0 s (omega arith)))
    ∙ by (kept refs section offset spots (λ k d low. same (suc k) d (omega (arith, low)))) (is_of section offset s)
  where
    by : filter (is_at refs section offset) (map index_of spots) ≡ map index_of (filter (is_of section offset) spots) → (b : Bool) → cond b (s.index ∷ filter (is_at refs section offset) (map index_of spots)) (filter (is_at refs section offset) (map index_of spots)) ≡ map index_of (cond b (s ∷ filter (is_of section offset) spots) (filter (is_of section offset) spots))
    by rest true = ap (λ (ns : List ℕ). s.index ∷ ns) rest
    by rest false = rest

sorted_indices : (refs : List Ref) (spots : List Spot) → All (λ spot. place spot ≡ place_at refs spot.index) spots → IsSorted compare_spots spots → IsSorted (compare_at refs) (map index_of spots)
sorted_indices refs spots same sorted k d low high =
    let under : k + 1 < length spots = omega (arith, high, length-map spots index_of) in
    let s : Spot = some_spot spots (k + 1) under in
    let first : place_at refs (get_or (map index_of spots) k d) ≡ place (get_or spots k s) = ap (place_at refs) (get_or-map index_of spots k s d (omega (arith, under))) ∙ sym (same k s (omega (arith, under))) in
    let second : place_at refs (get_or (map index_of spots) (k + 1) d) ≡ place (get_or spots (k + 1) s) = ap (place_at refs) (get_or-map index_of spots (k + 1) s d under) ∙ sym (same (k + 1) s under) in
    rw (first, second) (sorted k s low under)

in_order : (refs : List Ref) (spots : List Spot) → AreTurned (spots_of refs) spots → AreInOrder refs (map index_of spots)
unfolding spots_of refs_of_atom
in_order refs spots turned =
    let same : All (λ spot. place spot ≡ place_at refs spot.index) spots = All-permutation (λ spot. place spot ≡ place_at refs spot.index) (spots_of refs) spots turned.all (agree refs) in
    record {
      all = subst (λ (ns : List ℕ). IsPermutation ns (map index_of spots)) (numbers 0 refs) (IsPermutation-map index_of (spots_of refs) spots turned.all);
      sorted = sorted_indices refs spots same turned.sorted;
      listed = λ section offset.
          kept refs section offset spots same
          ∙ ap (map index_of) (turned.listed section offset)
          ∙ sym (kept refs section offset (spots_of refs) (agree refs))
          ∙ ap (filter (is_at refs section offset)) (numbers 0 refs);
    }

pub indices_in_order : (refs : List Ref) (old spots : List Spot) (order : List ℕ) → old ≡ spots_of refs → AreTurned old spots → order ≡ map (λ spot. spot.index) spots → AreInOrder refs order
indices_in_order refs old spots order are turned is =
    subst (λ (ns : List ℕ). AreInOrder refs ns) (sym is) (in_order refs spots (subst (λ (xs : List Spot). AreTurned xs spots) are turned))
