-- What follows each NUL of a section but the one at its end.
use Rattle.std.proofs.Common.{◌≡◌, ℕ, zero, suc, ◌+◌, ◌-◌, ◌<◌, ◌≤◌, ◌++◌, ◌∷◌, [], List, length, take, get_or, map, Bool, true, false, cond, eqb, filter, refl, sym, ap, ◌∙◌, subst, arith, append_assoc, append-nil}
use Rattle.std.specs.List.{range_with_len}
use Rattle.std.proofs.lemmas.List.{get_or-take, length-take-le}
use Rattle.memchr.specs.Find.{is_byte, places, places_from}

-- the place after a NUL
abbrev pub after : List ℕ → List ℕ
after ends = map (λ n. n + 1) ends

abbrev pub follows_nul : List ℕ → ℕ → Bool
follows_nul strings at = eqb (get_or strings (at - 1) 0) 0

-- each of some numbers is below a bound
abbrev pub AreBelow : ℕ → List ℕ → Type 0
AreBelow bound [] = Unit {0}
AreBelow bound (x ∷ xs) = (x < bound) × AreBelow bound xs

-- the cuts and the NULs to come, of the bytes before the last one
pub record AreStrings (strings : List ℕ) (last : ℕ) (cuts ends : List ℕ) : Type 0 where
  pub same : cuts ++ after ends ≡ 0 ∷ after (places (is_byte 0) (take last strings))
  pub below : AreBelow last ends

chosen_below : (bound x : ℕ) (xs : List ℕ) (test : Bool) → x < bound → AreBelow bound xs → AreBelow bound (cond test (x ∷ xs) xs)
chosen_below bound x xs true here there = (here, there)
chosen_below bound x xs false here there = there

places_below : (test : ℕ → Bool) (hay : List ℕ) (i n bound : ℕ) → i + n ≤ bound → AreBelow bound (places_from test hay i n)
unfolding places_from
places_below test hay i zero bound fits = tt
places_below test hay i (suc n) bound fits =
    chosen_below bound i (places_from test hay (i + 1) n) (test (get_or hay i 0)) (omega arith) (places_below test hay (i + 1) n bound (omega arith))

pub strings_begin : (strings : List ℕ) (last : ℕ) (cuts ends : List ℕ) → cuts ≡ 0 ∷ [] → ends ≡ places (is_byte 0) (take last strings) → last ≤ length strings → AreStrings strings last cuts ends
strings_begin strings last cuts ends start all within =
    let size : length (take last strings) ≡ last = length-take-le last strings within in
    record {
      same = rw (start, all) refl;
      below = rw all (places_below (is_byte 0) (take last strings) 0 (length (take last strings) - 0) last (omega arith));
    }

pub strings_go_on : (strings : List ℕ) (last : ℕ) (cuts ends rest more : List ℕ) (end : ℕ) → AreStrings strings last cuts ends → ends ≡ end ∷ rest → more ≡ cuts ++ (end + 1) ∷ [] → AreStrings strings last more rest
strings_go_on strings last cuts ends rest more end are first pushed = record {
  same = ap (λ xs. xs ++ after rest) pushed ∙ append_assoc cuts ((end + 1) ∷ []) (after rest) ∙ sym (ap (λ xs. cuts ++ after xs) first) ∙ are.same;
  below = (subst (AreBelow last) first are.below).1;
}

pub string_end_below : (strings : List ℕ) (last : ℕ) (cuts ends rest : List ℕ) (end : ℕ) → AreStrings strings last cuts ends → ends ≡ end ∷ rest → end < last
string_end_below strings last cuts ends rest end are first = (subst (AreBelow last) first are.below).0

after_places : (strings hay : List ℕ) (i n : ℕ) → ((k : ℕ) → k < i + n → get_or hay k 0 ≡ get_or strings k 0) → after (places_from (is_byte 0) hay i n) ≡ filter (follows_nul strings) (range_with_len (i + 1) n)
unfolding places_from
after_places strings hay i zero same = refl
after_places strings hay i (suc n) same =
    let byte : get_or hay i 0 ≡ get_or strings i 0 = same i (omega arith) in
    let before : i + 1 - 1 ≡ i = omega arith in
    let rest : after (places_from (is_byte 0) hay (i + 1) n) ≡ filter (follows_nul strings) (range_with_len (i + 1 + 1) n) = after_places strings hay (i + 1) n (λ k within. same k (omega arith)) in
    rw (byte, before, ← rest) (chosen (eqb (get_or strings i 0) 0) i (places_from (is_byte 0) hay (i + 1) n))
  where
    chosen : (test : Bool) (x : ℕ) (xs : List ℕ) → after (cond test (x ∷ xs) xs) ≡ cond test ((x + 1) ∷ after xs) (after xs)
    chosen true x xs = refl
    chosen false x xs = refl

pub strings_end : (strings : List ℕ) (last : ℕ) (cuts ends : List ℕ) → AreStrings strings last cuts ends → ends ≡ [] → last ≡ length strings - 1 → cuts ≡ 0 ∷ filter (λ at. eqb (get_or strings (at - 1) 0) 0) (range_with_len 1 (length strings - 1))
strings_end strings last cuts ends are none is =
    let size : length (take last strings) ≡ last = length-take-le last strings (omega arith) in
    let count : length (take last strings) - 0 ≡ last = omega arith in
    sym (append-nil cuts) ∙ sym (ap (λ xs. cuts ++ after xs) none) ∙ are.same
    ∙ ap (λ n. 0 ∷ after (places_from (is_byte 0) (take last strings) 0 n)) count
    ∙ ap (λ xs. 0 ∷ xs) (after_places strings (take last strings) 0 last (λ k within. get_or-take last strings k 0 (omega arith)))
    ∙ ap (λ n. 0 ∷ filter (follows_nul strings) (range_with_len 1 n)) is

pub ruleset strings = (strings_begin, strings_go_on, string_end_below, strings_end)
