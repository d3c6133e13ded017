-- The references of an atom, by their indices in their file's list.
use Rattle.std.proofs.Common.{◌≡◌, ℕ, ◌+◌, ◌<◌, ◌^◌, All, Bool, true, false, cond, List, [], ◌∷◌, ◌++◌, length, get_or, slice_get, subst, Some, None, refl, sym, ap, ◌∙◌, arith, append_assoc, length-append, nat_eq}
use Rattle.std.specs.List.{cons_option, filter, filter_map, flat_map, range_with_len}
use Rattle.std.specs.Option.{option_and_then, option_map_or, option_to_list}
use Rattle.std.specs.Prelude.{IfSome, Option}
use Rattle.liveness.specs.Order.{is_at, place_at, place_of, refs_of_atom}
use Rattle.mo_types.specs.declared.key.AtomKey.{AtomKey}
use Rattle.mo_types.specs.declared.reference.Ref.{Ref}
use Rattle.std.proofs.lemmas.List.Elements.{recursion_from_All}
use Rattle.std.proofs.lemmas.List.{get_or_default}
use Rattle.std.proofs.lemmas.Option.{get_or_from_slice_get, slice_get_within}
use Rattle.list_lemmas.proofs.Members.{In, all_in, from_filter, in_filter, in_from_Contains}
use Rattle.ref_meet.specs.Scene.{is_ref_of, refs_among}
use Rattle.ref_meet.specs.inner.Listed.{IsLowAt, found_at}

-- the reference behind some others
behind : (front : List Ref) (r : Ref) (back : List Ref) → slice_get (front ++ r ∷ back) (length front) ≡ Some r
behind [] r back = refl
behind (x ∷ front) r back = behind front r back

at_front : (front back : List Ref) (r : Ref) (n : ℕ) → n ≡ length front → slice_get (front ++ r ∷ back) n ≡ Some r
at_front front back r n is = rw is (behind front r back)

longer : (front : List Ref) (r : Ref) (n : ℕ) → n ≡ length front → n + 1 ≡ length (front ++ r ∷ [])
longer front r n is = omega (arith, is, length-append front (r ∷ []))

-- what is found goes before what follows
found_first : {A : Type 0} (found : Option A) (rest others : List A) → rest ≡ others → option_to_list found ++ rest ≡ cons_option found others
found_first None rest others e = e
found_first {A = A} (Some one) rest others e = ap (λ (ys : List A). one ∷ ys) e

-- the indices of what stands behind some references, of one atom
each_of : {A : Type 0} (f : Ref → Option A) (refs : List Ref) (section offset : ℕ) (front back : List Ref) (n : ℕ) → refs ≡ front ++ back → n ≡ length front
    → flat_map (found_at f refs) (filter (is_at refs section offset) (range_with_len n (length back))) ≡ filter_map f (filter (is_ref_of section offset) back)
unfolding found_at place_at
each_of f refs section offset front [] n are is = refl
each_of {A = A} f refs section offset front (r ∷ back) n are is =
    ap (λ (o : Option Ref). flat_map (found_at f refs) (cond (nat_eq (option_map_or (λ (x : Ref). place_of x.atom.section x.atom.offset) o 0) (place_of section offset)) (n ∷ left) left)) here
    ∙ step (each_of f refs section offset (front ++ r ∷ []) back (n + 1) (are ∙ sym (append_assoc front (r ∷ []) back)) (longer front r n is)) (is_ref_of section offset r)
  where
    left : List ℕ
    left = filter (is_at refs section offset) (range_with_len (n + 1) (length back))

    here : slice_get refs n ≡ Some r
    here = ap (λ (xs : List Ref). slice_get xs n) are ∙ at_front front back r n is

    step : flat_map (found_at f refs) left ≡ filter_map f (filter (is_ref_of section offset) back) → (b : Bool) → flat_map (found_at f refs) (cond b (n ∷ left) left) ≡ filter_map f (cond b (r ∷ filter (is_ref_of section offset) back) (filter (is_ref_of section offset) back))
    step rest true =
        ap (λ (o : Option Ref). option_to_list (option_and_then f o) ++ flat_map (found_at f refs) left) here
        ∙ found_first (f r) (flat_map (found_at f refs) left) (filter_map f (filter (is_ref_of section offset) back)) rest
    step rest false = rest

pub atom_finds : {A : Type 0} (f : Ref → Option A) (refs : List Ref) (indices : List ℕ) (key : AtomKey) → indices ≡ refs_of_atom refs key.section key.offset
    → filter_map f (refs_among refs key) ≡ flat_map (found_at f refs) indices
unfolding refs_of_atom
atom_finds f refs indices key is =
    sym (ap (flat_map (found_at f refs)) is ∙ each_of f refs key.section key.offset [] refs 0 refl refl)

-- ---- fields at low addresses

in_slice : {X : Type 0} (xs : List X) (k : ℕ) (x : X) → slice_get xs k ≡ Some x → In x xs
in_slice xs k x e = in_from_Contains xs x (k, slice_get_within xs k x e, get_or_from_slice_get xs k x x e)

low_index : (address : ℕ) (refs : List Ref) (section offset index : ℕ) → All (λ (r : Ref). address + r.place < 2 ^ 64) (filter (is_ref_of section offset) refs) → is_at refs section offset index ≡ true → IsLowAt address refs index
unfolding place_at
low_index address refs section offset index low at = by (slice_get refs index) refl
  where
    by : (o : Option Ref) → slice_get refs index ≡ o → IfSome o (λ r. address + r.place < 2 ^ 64)
    by None e = tt
    by (Some r) e =
        let mine : is_ref_of section offset r ≡ true = rw e at at in
        all_in (λ (x : Ref). address + x.place < 2 ^ 64) (filter (is_ref_of section offset) refs) r (recursion_from_All (λ (x : Ref). address + x.place < 2 ^ 64) (filter (is_ref_of section offset) refs) low) (in_filter (is_ref_of section offset) refs r (in_slice refs index r e) mine)

pub low_indices : (address : ℕ) (refs : List Ref) (indices : List ℕ) (key : AtomKey) → indices ≡ refs_of_atom refs key.section key.offset → All (λ (r : Ref). address + r.place < 2 ^ 64) (refs_among refs key) → All (IsLowAt address refs) indices
unfolding refs_of_atom
low_indices address refs indices key is low = subst (λ (ks : List ℕ). All (IsLowAt address refs) ks) (sym is) (λ k d within.
    let index : ℕ = get_or (filter (is_at refs key.section key.offset) (range_with_len 0 (length refs))) k d in
    low_index address refs key.section key.offset index low
    (from_filter (is_at refs key.section key.offset) (range_with_len 0 (length refs)) index (in_from_Contains (filter (is_at refs key.section key.offset) (range_with_len 0 (length refs))) index (k, within, get_or_default (filter (is_at refs key.section key.offset) (range_with_len 0 (length refs))) k index d within))).1)
