-- Groups, one behind the other.
use Rattle.std.proofs.Common.{◌≡◌, ℕ, suc, ◌+◌, ◌-◌, ◌<◌, ◌≤◌, ◌⊎◌, ◌++◌, List, [], ◌∷◌, length, get_or, refl, sym, ap, subst, ◌∙◌, inl, inr, arith, length-append}
use Rattle.std.proofs.lemmas.Bool.{cases_lt}
use Rattle.std.proofs.Math.ListN.{get_or-append}
use Rattle.std.proofs.Math.Seq.{get_or-append_seam}
use Rattle.island_core.specs.Groups.{AreEnds, EndsRise, IsGroup, extent_at, first_of}
use Rattle.island_core.specs.declared.cut.Extent.{Extent}

-- Some atoms are cut, and behind the groups stands one that isn't done, from `first` on.
pub record IsCutting (most : ℕ) (extents : List Extent) (ends : List ℕ) (first at : ℕ) : Type 0 where
  pub each : (group : ℕ) → group < length ends → IsGroup most extents (first_of ends group) (get_or ends group 0)
  pub last : first_of ends (length ends) ≡ first
  pub some : (first < at) ⊎ ((first ≡ 0) × (at ≡ 0))
  pub short : first < at → (at ≡ first + 1) ⊎ ((extent_at extents (at - 1)).to ≤ (extent_at extents first).from + most)

pub cutting_starts : (most : ℕ) (extents : List Extent) → IsCutting most extents [] 0 0
cutting_starts most extents = record {
  each = λ group low. absurd (omega (arith, low));
  last = refl;
  some = inr (refl, refl);
  short = λ low. absurd (omega (arith, low));
}

-- one end more
front : (ends : List ℕ) (end group : ℕ) → group ≤ length ends → first_of (ends ++ end ∷ []) group ≡ first_of ends group
front ends end group low = get_or-append (0 ∷ ends) (end ∷ []) 0 group (omega (arith, low))

each_more : (most : ℕ) (extents : List Extent) (ends : List ℕ) (first end : ℕ) → ((group : ℕ) → group < length ends → IsGroup most extents (first_of ends group) (get_or ends group 0)) → first_of ends (length ends) ≡ first → IsGroup most extents first end
    → (group : ℕ) → group < length (ends ++ end ∷ []) → IsGroup most extents (first_of (ends ++ end ∷ []) group) (get_or (ends ++ end ∷ []) group 0)
each_more most extents ends first end each last is group low = by (cases_lt group (length ends))
  where
    many : length (ends ++ end ∷ []) ≡ length ends + 1
    many = length-append ends (end ∷ [])

    by : (group < length ends) ⊎ (length ends ≤ group) → IsGroup most extents (first_of (ends ++ end ∷ []) group) (get_or (ends ++ end ∷ []) group 0)
    by (inl old) =
        subst (λ (n : ℕ). IsGroup most extents n (get_or (ends ++ end ∷ []) group 0)) (sym (front ends end group (omega (arith, old))))
        (subst (λ (n : ℕ). IsGroup most extents (first_of ends group) n) (sym (get_or-append ends (end ∷ []) 0 group old)) (each group old))
    by (inr new) =
        let here : length ends ≡ group = omega (arith, many, low, new) in
        subst (λ (g : ℕ). IsGroup most extents (first_of (ends ++ end ∷ []) g) (get_or (ends ++ end ∷ []) g 0)) here
        (subst (λ (n : ℕ). IsGroup most extents n (get_or (ends ++ end ∷ []) (length ends) 0)) (sym (front ends end (length ends) (omega arith) ∙ last))
        (subst (λ (n : ℕ). IsGroup most extents first n) (sym (get_or-append_seam ends end [] 0)) is))

last_more : (ends : List ℕ) (end : ℕ) → first_of (ends ++ end ∷ []) (length (ends ++ end ∷ [])) ≡ end
last_more ends end =
    let many : length (ends ++ end ∷ []) ≡ suc (length ends) = length-append ends (end ∷ []) ∙ omega arith in
    ap (λ (n : ℕ). get_or (0 ∷ (ends ++ end ∷ [])) n 0) many ∙ get_or-append_seam ends end [] 0

-- the next atom begins a group
pub cutting_turns : (most : ℕ) (extents : List Extent) (ends new : List ℕ) (first at : ℕ) → IsCutting most extents ends first at → first < at → at < length extents
    → (extent_at extents first).from + most < (extent_at extents at).to → new ≡ ends ++ at ∷ [] → IsCutting most extents new at (at + 1)
cutting_turns most extents ends new first at is low within long pushed = subst (λ (es : List ℕ). IsCutting most extents es at (at + 1)) (sym pushed) (record {
  each = each_more most extents ends first at is.each is.last (record { some = low; within = omega (arith, within); short = is.short low; long = λ more. long });
  last = last_more ends at;
  some = inl (omega arith);
  short = λ more. inl refl;
})

-- or goes into the one that isn't done
pub cutting_goes : (most : ℕ) (extents : List Extent) (ends : List ℕ) (first at : ℕ) → IsCutting most extents ends first at
    → (at ≤ first) ⊎ ((extent_at extents at).to ≤ (extent_at extents first).from + most) → IsCutting most extents ends first (at + 1)
cutting_goes most extents ends first at is so = record {
  each = is.each;
  last = is.last;
  some = some is.some;
  short = λ low. by so is.some;
}
  where
    some : (first < at) ⊎ ((first ≡ 0) × (at ≡ 0)) → (first < at + 1) ⊎ ((first ≡ 0) × (at + 1 ≡ 0))
    some (inl low) = inl (omega (arith, low))
    some (inr none) = inl (omega (arith, none.0, none.1))

    by : (at ≤ first) ⊎ ((extent_at extents at).to ≤ (extent_at extents first).from + most) → (first < at) ⊎ ((first ≡ 0) × (at ≡ 0)) → (at + 1 ≡ first + 1) ⊎ ((extent_at extents (at + 1 - 1)).to ≤ (extent_at extents first).from + most)
    by (inl low) (inl high) = absurd (omega (arith, low, high))
    by (inl low) (inr none) = inl (omega (arith, none.0, none.1))
    by (inr short) other = let back : at + 1 - 1 ≡ at = omega arith in inr (rw back short)

pub cutting_same : (most : ℕ) (extents : List Extent) (ends new : List ℕ) (first next at : ℕ) → new ≡ ends → next ≡ first → IsCutting most extents ends first at → IsCutting most extents new next at
cutting_same most extents ends new first next at e f is = subst (λ (es : List ℕ). IsCutting most extents es next at) (sym e) (subst (λ (n : ℕ). IsCutting most extents ends n at) (sym f) is)

-- all atoms are done
pub cutting_ends : (most : ℕ) (extents : List Extent) (ends new : List ℕ) (first at : ℕ) → IsCutting most extents ends first at → length extents ≡ at → first < length extents → new ≡ ends ++ length extents ∷ [] → AreEnds most extents new
cutting_ends most extents ends new first at is all low pushed =
    let size = length extents in
    subst (AreEnds most extents) (sym pushed) (record {
      each = each_more most extents ends first size is.each is.last (record {
        some = low;
        within = omega arith;
        short = subst (λ (n : ℕ). (n ≡ first + 1) ⊎ ((extent_at extents (n - 1)).to ≤ (extent_at extents first).from + most)) (sym all) (is.short (omega (arith, low, all)));
        long = λ more. absurd (omega (arith, more));
      });
      all = last_more ends size;
    })

pub cutting_none : (most : ℕ) (extents : List Extent) (ends : List ℕ) (first at : ℕ) → IsCutting most extents ends first at → length extents ≡ at → length extents ≤ first → AreEnds most extents ends
cutting_none most extents ends first at is all past = record { each = is.each; all = by is.some }
  where
    by : (first < at) ⊎ ((first ≡ 0) × (at ≡ 0)) → first_of ends (length ends) ≡ length extents
    by (inl low) = absurd (omega (arith, low, all, past))
    by (inr none) = is.last ∙ (none.0 ∙ sym (all ∙ none.1))

-- ---- there is one cutting

one_end : (most : ℕ) (extents : List Extent) (first a b : ℕ) → EndsRise extents → IsGroup most extents first a → IsGroup most extents first b → a < b → ⊥
one_end most extents first a b rise p q low = by q.short
  where
    long : (extent_at extents first).from + most < (extent_at extents a).to
    long = p.long (omega (arith, low, q.within))

    by : (b ≡ first + 1) ⊎ ((extent_at extents (b - 1)).to ≤ (extent_at extents first).from + most) → ⊥
    by (inl single) = omega (arith, single, low, p.some)
    by (inr short) = let up = rise a (b - 1) (omega (arith, low)) (omega (arith, q.within, low)) in omega (arith, up, short, long)

same_end : (most : ℕ) (extents : List Extent) (first a b : ℕ) → EndsRise extents → IsGroup most extents first a → IsGroup most extents first b → a ≡ b
same_end most extents first a b rise p q = by (cases_lt a b) (cases_lt b a)
  where
    by : (a < b) ⊎ (b ≤ a) → (b < a) ⊎ (a ≤ b) → a ≡ b
    by (inl low) other = absurd (one_end most extents first a b rise p q low)
    by (inr up) (inl low) = absurd (one_end most extents first b a rise q p low)
    by (inr up) (inr down) = omega (arith, up, down)

same_from : (most : ℕ) (extents : List Extent) → EndsRise extents → (first : ℕ) (a b : List ℕ)
    → ((group : ℕ) → group < length a → IsGroup most extents (get_or (first ∷ a) group 0) (get_or a group 0)) → get_or (first ∷ a) (length a) 0 ≡ length extents
    → ((group : ℕ) → group < length b → IsGroup most extents (get_or (first ∷ b) group 0) (get_or b group 0)) → get_or (first ∷ b) (length b) 0 ≡ length extents → a ≡ b
same_from most extents rise first [] [] p all q every = refl
same_from most extents rise first [] (y ∷ b) p all q every = let is = q 0 (omega arith) in absurd (omega (arith, all, is.some, is.within))
same_from most extents rise first (x ∷ a) [] p all q every = let is = p 0 (omega arith) in absurd (omega (arith, every, is.some, is.within))
same_from most extents rise first (x ∷ a) (y ∷ b) p all q every =
    let here : x ≡ y = same_end most extents first x y rise (p 0 (omega arith)) (q 0 (omega arith)) in
    let rest : a ≡ b = same_from most extents rise x a b (λ group low. p (suc group) (omega (arith, low))) all
    (λ group low. subst (λ (n : ℕ). IsGroup most extents (get_or (n ∷ b) group 0) (get_or b group 0)) (sym here) (q (suc group) (omega (arith, low))))
    (subst (λ (n : ℕ). get_or (n ∷ b) (length b) 0 ≡ length extents) (sym here) every) in
    rw (here, rest) refl

pub one_cutting : (most : ℕ) (extents : List Extent) (a b : List ℕ) → EndsRise extents → AreEnds most extents a → AreEnds most extents b → a ≡ b
one_cutting most extents a b rise p q = same_from most extents rise 0 a b p.each p.all q.each q.all
