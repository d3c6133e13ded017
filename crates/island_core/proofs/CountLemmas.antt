-- How many islands each group has, and how far they move what is behind.
use Rattle.std.proofs.Common.{◌≡◌, ℕ, zero, suc, ◌+◌, ◌*◌, ◌^◌, ◌<◌, ◌≤◌, ◌⊎◌, ◌==◌, ◌++◌, false, List, [], ◌∷◌, length, get_or, set, take, replicate, All, refl, sym, ap, subst, ◌∙◌, inl, inr, arith, add-one, get_or-set_other, get_or-set_same, length-append, length-take}
use Rattle.std.proofs.lemmas.Bool.{cases_eq, cases_lt, eq-eqb}
use Rattle.std.proofs.lemmas.List.{take_all}
use Rattle.std.proofs.lemmas.List.Elements.{All-push}
use Rattle.std.proofs.lemmas.List.Sums.{count_by-le-length, count_by_more_no, count_by_more_yes}
use Rattle.std.proofs.Math.ListN.{get_or-append, length-set}
use Rattle.std.proofs.Math.Seq.{get_or-append_seam}
use Rattle.sect_place.specs.Places.{islands_bytes}
use Rattle.island_core.specs.Far.{bytes_before, count_in}
use Rattle.island_core.specs.inner.Rounds.{AreCounts, IsMoves}
use Rattle.island_core.specs.declared.row.Pair.{Pair}
use Rattle.island_core.specs.declared.row.Scale.{Scale}

-- ---- counting

unequal : (a b : ℕ) → (a ≡ b → ⊥) → (a == b) ≡ false
unequal a b differ = grind arith

pub counts_more : (pairs : List Pair) (i : ℕ) (d : Pair) (counts new : List ℕ) → AreCounts pairs i counts → i < length pairs → (get_or pairs i d).group < length counts
    → new ≡ set counts (get_or pairs i d).group (get_or counts (get_or pairs i d).group 0 + 1) → AreCounts pairs (i + 1) new
counts_more pairs i d counts new is low there e = subst (AreCounts pairs (i + 1)) (sym e) (record {
  each = λ group within. by group (subst (λ (n : ℕ). group < n) (length-set counts (get_or pairs i d).group _) within) (cases_eq group (get_or pairs i d).group);
})
  where
    by : (group : ℕ) → group < length counts → (group ≡ (get_or pairs i d).group) ⊎ (group ≡ (get_or pairs i d).group → ⊥)
        → get_or (set counts (get_or pairs i d).group (get_or counts (get_or pairs i d).group 0 + 1)) group 0 ≡ count_in group (take (i + 1) pairs)
    by group within (inl same) =
        let old = is.each group within in
        let more = count_by_more_yes (λ (p : Pair). p.group == group) pairs i d low (eq-eqb (get_or pairs i d).group group (sym same)) in
        subst (λ (g : ℕ). get_or (set counts g (get_or counts g 0 + 1)) group 0 ≡ count_in group (take (i + 1) pairs)) same
        (get_or-set_same counts group (get_or counts group 0 + 1) 0 within ∙ (ap (λ (n : ℕ). n + 1) old ∙ sym more))
    by group within (inr differ) =
        let more = count_by_more_no (λ (p : Pair). p.group == group) pairs i d low (unequal (get_or pairs i d).group group (λ e. differ (sym e))) in
        rw get_or-set_other (is.each group within ∙ sym more)

pub counts_pass : (pairs : List Pair) (i : ℕ) (d : Pair) (counts : List ℕ) → AreCounts pairs i counts → i < length pairs → length counts ≤ (get_or pairs i d).group → AreCounts pairs (i + 1) counts
counts_pass pairs i d counts is low away = record {
  each = λ group within.
      is.each group within ∙ sym (count_by_more_no (λ (p : Pair). p.group == group) pairs i d low (unequal (get_or pairs i d).group group (λ e. absurd (omega (arith, e, within, away)))));
}

pub counts_fit : (pairs : List Pair) (i : ℕ) (counts : List ℕ) (group : ℕ) → AreCounts pairs i counts → i < length pairs → length pairs < 2 ^ 60 → group < length counts → get_or counts group 0 < 2 ^ 60
counts_fit pairs i counts group is low few there =
    let most = count_by-le-length (λ (p : Pair). p.group == group) (take i pairs) in
    let size = length-take i pairs in
    omega (arith, is.each group there, most, size, low, few)

zeros : (n many group : ℕ) → get_or (replicate many n) group n ≡ n
zeros n zero group = refl
zeros n (suc many) zero = refl
zeros n (suc many) (suc group) = zeros n many group

pub counts_none : (pairs : List Pair) (counts : List ℕ) (groups : ℕ) → counts ≡ replicate groups 0 → AreCounts pairs 0 counts
counts_none pairs counts groups e = subst (AreCounts pairs 0) (sym e) (record { each = λ group within. zeros 0 groups group })

-- ---- adding up

-- how far the first groups move what is behind
pub record IsMoving (unit : ℕ) (pairs : List Pair) (moves : List ℕ) (bytes at : ℕ) : Type 0 where
  pub all : length moves ≡ at
  pub each : (group : ℕ) → group < at → get_or moves group 0 ≡ bytes_before unit pairs group
  pub here : bytes ≡ bytes_before unit pairs at
  pub small : bytes ≤ at * (13 * 2 ^ 64)
  pub fits : bytes < 2 ^ 127
  pub low : All (λ b. b < 2 ^ 127) moves

pub moving_starts : (unit : ℕ) (pairs : List Pair) (moves : List ℕ) → moves ≡ [] → IsMoving unit pairs moves 0 0
unfolding bytes_before
moving_starts unit pairs moves none = subst (λ (ms : List ℕ). IsMoving unit pairs ms 0 0) (sym none) (record {
  all = refl;
  each = λ group low. absurd (omega (arith, low));
  here = refl;
  small = omega arith;
  fits = omega arith;
  low = λ k d low. absurd (omega (arith, low));
})

each_push : (unit : ℕ) (pairs : List Pair) (moves : List ℕ) (bytes at : ℕ) → IsMoving unit pairs moves bytes at → (group : ℕ) → group < at + 1 → get_or (moves ++ bytes ∷ []) group 0 ≡ bytes_before unit pairs group
each_push unit pairs moves bytes at is group low = by (cases_lt group at)
  where
    by : (group < at) ⊎ (at ≤ group) → get_or (moves ++ bytes ∷ []) group 0 ≡ bytes_before unit pairs group
    by (inl old) = get_or-append moves (bytes ∷ []) 0 group (omega (arith, old, is.all)) ∙ is.each group old
    by (inr new) =
        let last : length moves ≡ group = omega (arith, is.all, low, new) in
        let here : at ≡ group = omega (arith, low, new) in
        subst (λ (g : ℕ). get_or (moves ++ bytes ∷ []) g 0 ≡ bytes_before unit pairs group) last (get_or-append_seam moves bytes [] 0 ∙ (is.here ∙ ap (bytes_before unit pairs) here))

pub moving_goes : (unit : ℕ) (pairs : List Pair) (moves new counts read : List ℕ) (bytes at area : ℕ) → IsMoving unit pairs moves bytes at → new ≡ moves ++ bytes ∷ [] → length new < 2 ^ 59
    → AreCounts pairs (length pairs) counts → read ≡ counts → at < length read → area ≡ islands_bytes unit (get_or read at 0) → area < 13 * 2 ^ 64 → IsMoving unit pairs new (bytes + area) (at + 1)
unfolding bytes_before
moving_goes unit pairs moves new counts read bytes at area is pushed few are same within exact small =
    let long : length new ≡ at + 1 = ap length pushed ∙ (length-append moves (bytes ∷ []) ∙ ap (λ (n : ℕ). n + 1) is.all) in
    let count : get_or read at 0 ≡ count_in at pairs =
    ap (λ (ns : List ℕ). get_or ns at 0) same ∙ (are.each at (subst (λ (ns : List ℕ). at < length ns) same within) ∙ ap (count_in at) (take_all (length pairs) pairs (omega arith))) in
    let next : at + 1 ≡ suc at = add-one at in
    record {
      all = long;
      each = λ group low. subst (λ (ms : List ℕ). get_or ms group 0 ≡ bytes_before unit pairs group) (sym pushed) (each_push unit pairs moves bytes at is group low);
      here = subst (λ (n : ℕ). bytes + area ≡ bytes_before unit pairs n) (sym next) (ap (λ (n : ℕ). n + area) is.here ∙ ap (λ (n : ℕ). bytes_before unit pairs at + n) (exact ∙ ap (islands_bytes unit) count));
      small = omega (arith, is.small, small);
      fits = omega (arith, is.small, small, long, few);
      low = subst (All (λ b. b < 2 ^ 127)) (sym pushed) (All-push (λ b. b < 2 ^ 127) moves bytes is.low is.fits);
    }

pub moving_ends : (scale : Scale) (pairs : List Pair) (moves new : List ℕ) (bytes at : ℕ) → IsMoving scale.unit pairs moves bytes at → at ≡ scale.groups → new ≡ moves ++ bytes ∷ [] → IsMoves scale pairs new
moving_ends scale pairs moves new bytes at is done pushed = record {
  all = ap length pushed ∙ (length-append moves (bytes ∷ []) ∙ ap (λ (n : ℕ). n + 1) (is.all ∙ done));
  each = λ group low. subst (λ (ms : List ℕ). get_or ms group 0 ≡ bytes_before scale.unit pairs group) (sym pushed) (each_push scale.unit pairs moves bytes at is group (omega (arith, low, done)));
  small = subst (All (λ b. b < 2 ^ 127)) (sym pushed) (All-push (λ b. b < 2 ^ 127) moves bytes is.low is.fits);
}
