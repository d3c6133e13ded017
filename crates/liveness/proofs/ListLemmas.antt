-- The references that a file lists before a place.
use Rattle.std.proofs.Common.{◌≡◌, ℕ, ◌+◌, ◌<◌, ◌≤◌, List, [], ◌∷◌, ◌++◌, length, map, take, get_or, sym, ap, ◌∙◌, arith, Some, None}
use Rattle.std.specs.Prelude.{slice_get}
use Rattle.std.specs.List.{enumerate_from}
use Rattle.std.proofs.lemmas.List.{map-append, take_all, take_more}
use Rattle.std.proofs.lemmas.Option.{get_or_from_slice_get, slice_get-get_or}
use Rattle.std.proofs.lemmas.List.FromFn.{get_or-enumerate_from, length-enumerate_from}
use Rattle.mo_types.specs.declared.reference.Ref.{Ref}
use Rattle.liveness.specs.declared.order.Spot.{Spot}
use Rattle.liveness.specs.inner.Spots.{spot_of, spots_of}

pub record AreSpots (refs : List Ref) (at : ℕ) (spots : List Spot) : Type 0 where
  pub are : spots ≡ map spot_of (take at (enumerate_from 0 refs))

pub spots_start : (refs : List Ref) (spots : List Spot) → spots ≡ [] → AreSpots refs 0 spots
spots_start refs spots none = record { are = none }

pub numbered : (refs : List Ref) (i : ℕ) (d : Ref) → i < length refs → get_or (enumerate_from 0 refs) i (0, d) ≡ (i, get_or refs i d)
numbered refs i d low = let e : 0 + i ≡ i = omega arith in get_or-enumerate_from 0 refs i (0, d) low ∙ ap (λ (n : ℕ). (n, get_or refs i d)) e

pub spots_step : (refs : List Ref) (at : ℕ) (spots new : List Spot) (r : Ref) → AreSpots refs at spots → at < length refs → slice_get refs at ≡ Some r → new ≡ spots ++ record { section = r.atom.section; offset = r.atom.offset; index = at } ∷ [] → AreSpots refs (at + 1) new
spots_step refs at spots new r are low there more =
    let is : get_or refs at r ≡ r = get_or_from_slice_get refs at r r there in
    let under : at < length (enumerate_from 0 refs) = omega (arith, low, length-enumerate_from 0 refs) in
    record {
      are = more
          ∙ ap (λ (gs : List Spot). gs ++ spot_of (at, r) ∷ []) are.are
          ∙ ap (λ (p : ℕ × Ref). map spot_of (take at (enumerate_from 0 refs)) ++ spot_of p ∷ []) (ap (λ (x : Ref). (at, x)) (sym is) ∙ sym (numbered refs at r low))
          ∙ sym (ap (map spot_of) (take_more (enumerate_from 0 refs) at (0, r) under) ∙ map-append spot_of (take at (enumerate_from 0 refs)) (get_or (enumerate_from 0 refs) at (0, r) ∷ []));
    }

pub spots_none : (refs : List Ref) (at : ℕ) (spots : List Spot) → at < length refs → slice_get refs at ≡ None → AreSpots refs (at + 1) spots
spots_none refs at spots low none = never (some_ref refs low)
  where
    some_ref : (rs : List Ref) → at < length rs → Ref
    some_ref [] l = absurd (omega (arith, l))
    some_ref (r ∷ rs) l = r

    clash : (r : Ref) → Some r ≡ None → AreSpots refs (at + 1) spots
    clash r e = cc

    never : Ref → AreSpots refs (at + 1) spots
    never d = clash (get_or refs at d) (sym (slice_get-get_or refs at d low) ∙ none)

pub spots_end : (refs : List Ref) (at : ℕ) (spots : List Spot) → AreSpots refs at spots → length refs ≤ at → spots ≡ spots_of refs
unfolding spots_of
spots_end refs at spots are past = are.are ∙ ap (map spot_of) (take_all at (enumerate_from 0 refs) (omega (arith, past, length-enumerate_from 0 refs)))

pub ruleset lists = (spots_start, spots_step, spots_end)
