-- Loops that append something for each number of a range, or for each element of a list.
use Rattle.std.proofs.Common.{◌≡◌, ℕ, ◌+◌, ◌<◌, ◌≤◌, List, [], ◌∷◌, ◌++◌, length, take, get_or, map, sym, ap, ◌∙◌, subst, append_assoc, append-nil, arith}
use Rattle.std.specs.List.{flat_map, range_with_len}
use Rattle.std.proofs.lemmas.List.{flat_map_more, map_more, take_all}
use Rattle.std.proofs.lemmas.List.FromFn.{map-range_with_len_more}

-- ---- an element for each number of a range

pub record IsListing {X : Type 0} (f : ℕ → X) (old : List X) (at : ℕ) (now : List X) : Type 0 where
  pub is : now ≡ old ++ map f (range_with_len 0 at)

pub listing_starts : {X : Type 0} (f : ℕ → X) (old : List X) → IsListing f old 0 old
listing_starts f old = record { is = sym (append-nil old) }

pub listing_goes_on : {X : Type 0} (f : ℕ → X) (old now new : List X) (at : ℕ) (x : X) → IsListing f old at now → x ≡ f at → new ≡ now ++ x ∷ [] → IsListing f old (at + 1) new
listing_goes_on {X = X} f old now new at x listing is e = record {
  is =
      e ∙ ap (λ (ys : List X). ys ++ x ∷ []) listing.is
      ∙ append_assoc old (map f (range_with_len 0 at)) (x ∷ [])
      ∙ ap (λ (y : X). old ++ (map f (range_with_len 0 at) ++ y ∷ [])) is
      ∙ ap (λ (ys : List X). old ++ ys) (sym (map-range_with_len_more f 0 at at (omega arith)));
}

pub listing_ends : {X : Type 0} (f : ℕ → X) (old now : List X) (at n : ℕ) → IsListing f old at now → at ≤ n → n ≤ at → now ≡ old ++ map f (range_with_len 0 n)
listing_ends {X = X} f old now at n listing low high =
    let e : at ≡ n = omega arith in subst (λ (k : ℕ). now ≡ old ++ map f (range_with_len 0 k)) e listing.is

pub ruleset listing = (listing_starts, listing_goes_on, listing_ends)

-- ---- an element for each element of a list

pub record IsMapping {X Y : Type 0} (f : X → Y) (xs : List X) (old : List Y) (at : ℕ) (now : List Y) : Type 0 where
  pub is : now ≡ old ++ map f (take at xs)

pub mapping_starts : {X Y : Type 0} (f : X → Y) (xs : List X) (old : List Y) → IsMapping f xs old 0 old
mapping_starts f xs old = record { is = sym (append-nil old) }

pub mapping_starts_empty : {X Y : Type 0} (f : X → Y) (xs : List X) (now : List Y) → now ≡ [] → IsMapping f xs [] 0 now
mapping_starts_empty f xs now none = record { is = none }

pub mapping_goes_on : {X Y : Type 0} (f : X → Y) (xs : List X) (old now new : List Y) (at : ℕ) (x : X) (y : Y) → IsMapping f xs old at now → at < length xs → x ≡ get_or xs at x → y ≡ f x → new ≡ now ++ y ∷ [] → IsMapping f xs old (at + 1) new
mapping_goes_on {Y = Y} f xs old now new at x y mapping within is same e =
    let value : y ≡ f (get_or xs at x) = same ∙ ap f is in record {
      is =
          e ∙ ap (λ (ys : List Y). ys ++ y ∷ []) mapping.is
          ∙ append_assoc old (map f (take at xs)) (y ∷ [])
          ∙ ap (λ (z : Y). old ++ (map f (take at xs) ++ z ∷ [])) value
          ∙ ap (λ (ys : List Y). old ++ ys) (sym (map_more f xs at x within));
    }

pub mapping_ends : {X Y : Type 0} (f : X → Y) (xs : List X) (old now : List Y) (at : ℕ) → IsMapping f xs old at now → length xs ≤ at → now ≡ old ++ map f xs
mapping_ends {X = X} f xs old now at mapping past = mapping.is ∙ ap (λ (ys : List X). old ++ map f ys) (take_all at xs past)

pub ruleset mapping = (mapping_starts, mapping_goes_on, mapping_ends)

-- ---- the bytes of an element for each number of a range

pub record IsPutting {X : Type 0} (bytes : X → List ℕ) (f : ℕ → X) (old : List ℕ) (at : ℕ) (now : List ℕ) : Type 0 where
  pub is : now ≡ old ++ flat_map bytes (map f (range_with_len 0 at))

pub putting_starts : {X : Type 0} (bytes : X → List ℕ) (f : ℕ → X) (old : List ℕ) → IsPutting bytes f old 0 old
putting_starts bytes f old = record { is = sym (append-nil old) }

pub putting_goes_on : {X : Type 0} (bytes : X → List ℕ) (f : ℕ → X) (old now new : List ℕ) (at : ℕ) (x : X) → IsPutting bytes f old at now → x ≡ f at → new ≡ now ++ bytes x → IsPutting bytes f old (at + 1) new
putting_goes_on {X = X} bytes f old now new at x putting is e = record {
  is =
      e ∙ ap (λ (ys : List ℕ). ys ++ bytes x) putting.is
      ∙ ap (λ (y : X). (old ++ flat_map bytes (map f (range_with_len 0 at))) ++ bytes y) is
      ∙ flat_map_more bytes old (map f (range_with_len 0 at)) (f at)
      ∙ ap (λ (ys : List X). old ++ flat_map bytes ys) (sym (map-range_with_len_more f 0 at at (omega arith)));
}

pub putting_ends : {X : Type 0} (bytes : X → List ℕ) (f : ℕ → X) (old now : List ℕ) (at n : ℕ) → IsPutting bytes f old at now → at ≤ n → n ≤ at → now ≡ old ++ flat_map bytes (map f (range_with_len 0 n))
putting_ends bytes f old now at n putting low high =
    let e : at ≡ n = omega arith in subst (λ (k : ℕ). now ≡ old ++ flat_map bytes (map f (range_with_len 0 k))) e putting.is

pub ruleset putting = (putting_starts, putting_goes_on, putting_ends)
