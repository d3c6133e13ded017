-- The NUL that ends the string at a place, found among the next few bytes or by the end of what begins at a block.
use Rattle.std.proofs.Common.{◌≡◌, ℕ, zero, suc, ◌+◌, ◌-◌, ◌*◌, ◌/◌, ◌<◌, ◌≤◌, List, [], ◌∷◌, length, drop, get_or, map, replicate, Bool, true, false, cond, Option, Some, None, IfSome, IfNone, take, min, refl, sym, ap, subst, ◌∙◌, arith, inl, inr}
use Rattle.std.proofs.Math.ListN.{set, length-set}
use Rattle.std.proofs.lemmas.Bool.{cases_eq}
use Rattle.std.proofs.lemmas.List.{drop-drop, drop_all, get_or-drop, get_or-set_other, get_or-set_same, get_or-take, length-drop, length-replicate, length-take}
use Rattle.std.specs.Option.{option_map}
use Rattle.memchr.specs.Find.{IsFirstByte, is_byte, places_from, first_of}
use Rattle.memchr.proofs.lemmas.ValueLemmas.{IsFirstByte-value}
use Rattle.mo_strings.specs.Strings.{first_nul}
use Rattle.mo_strings.specs.inner.End.{AreEnds, IsEnd, IsNear, IsPassed}

-- the places of a part of the bytes, as places of all

chosen_moved : (at : ℕ) (test : Bool) (j : ℕ) (xs : List ℕ) → map (λ k. at + k) (cond test (j ∷ xs) xs) ≡ cond test ((at + j) ∷ map (λ k. at + k) xs) (map (λ k. at + k) xs)
chosen_moved at true j xs = refl
chosen_moved at false j xs = refl

places_moved : (test : ℕ → Bool) (hay : List ℕ) (at j n : ℕ) → map (λ k. at + k) (places_from test (drop at hay) j n) ≡ places_from test hay (at + j) n
unfolding places_from
places_moved test hay at j zero = refl
places_moved test hay at j (suc n) =
    let byte : get_or (drop at hay) j 0 ≡ get_or hay (at + j) 0 = get_or-drop at hay j 0 in
    let next : at + (j + 1) ≡ at + j + 1 = omega arith in
    let rest : map (λ k. at + k) (places_from test (drop at hay) (j + 1) n) ≡ places_from test hay (at + j + 1) n = places_moved test hay at (j + 1) n ∙ ap (λ i. places_from test hay i n) next in
    chosen_moved at (test (get_or (drop at hay) j 0)) j (places_from test (drop at hay) (j + 1) n) ∙ rw (byte, rest) refl

-- the first NUL of some bytes, by the first byte

nul_among : (xs : List ℕ) (n : ℕ) → n ≡ length xs → first_nul xs ≡ first_of (places_from (is_byte 0) xs 0 n)
unfolding first_nul
nul_among xs n size = let all : length xs - 0 ≡ n = omega (arith, size) in ap (λ m. first_of (places_from (is_byte 0) xs 0 m)) all

shifted : (xs : List ℕ) → first_of (map (λ k. 1 + k) xs) ≡ option_map (λ k. 1 + k) (first_of xs)
unfolding first_of
shifted [] = refl
shifted (x ∷ xs) = refl

first_chosen : (test : Bool) (xs : List ℕ) → first_of (cond test (0 ∷ xs) xs) ≡ cond test (Some 0) (first_of xs)
unfolding first_of
first_chosen true xs = refl
first_chosen false xs = refl

nul_by_first : (b : ℕ) (bs : List ℕ) (n : ℕ) → n ≡ length bs → first_of (places_from (is_byte 0) (b ∷ bs) 0 (suc n)) ≡ cond (is_byte 0 b) (Some 0) (option_map (λ k. 1 + k) (first_nul bs))
unfolding places_from
nul_by_first b bs n size =
    let later : first_of (places_from (is_byte 0) (b ∷ bs) 1 n) ≡ option_map (λ k. 1 + k) (first_nul bs) =
    ap first_of (sym (places_moved (is_byte 0) (b ∷ bs) 1 0 n)) ∙ shifted (places_from (is_byte 0) bs 0 n) ∙ ap (option_map (λ k. 1 + k)) (sym (nul_among bs n size)) in
    first_chosen (is_byte 0 b) (places_from (is_byte 0) (b ∷ bs) 1 n) ∙ ap (cond (is_byte 0 b) (Some 0)) later

nul_of_cons : (b : ℕ) (bs : List ℕ) → first_nul (b ∷ bs) ≡ cond (is_byte 0 b) (Some 0) (option_map (λ k. 1 + k) (first_nul bs))
nul_of_cons b bs =
    let size : suc (length bs) ≡ length (b ∷ bs) = omega arith in
    nul_among (b ∷ bs) (suc (length bs)) size ∙ nul_by_first b bs (length bs) refl

pub nul_first : (b : ℕ) (bs : List ℕ) → is_byte 0 b ≡ true → first_nul (b ∷ bs) ≡ Some 0
nul_first b bs is = nul_of_cons b bs ∙ ap (λ test. cond test (Some 0) (option_map (λ k. 1 + k) (first_nul bs))) is

pub nul_later : (b : ℕ) (bs : List ℕ) → is_byte 0 b ≡ false → first_nul (b ∷ bs) ≡ option_map (λ k. 1 + k) (first_nul bs)
nul_later b bs is = nul_of_cons b bs ∙ ap (λ test. cond test (Some 0) (option_map (λ k. 1 + k) (first_nul bs))) is

-- what the first few bytes of a string answer, all bytes answer too
first_of_all : (hay : List ℕ) (n k : ℕ) → IsFirstByte (is_byte 0) (take n hay) (Some k) → IsFirstByte (is_byte 0) hay (Some k)
first_of_all hay n k first =
    let few : length (take n hay) ≡ min n (length hay) = length-take n hay in
    let high : k < length (take n hay) = first.0.high in
    let below : k < n = omega (arith, few, high) in
    let inside : k < length hay = omega (arith, few, high) in
    (record { low = omega arith; high = inside; before = λ j low less is. first.0.before j low less (ap (is_byte 0) (get_or-take n hay j 0 (omega arith)) ∙ is) }, sym (ap (is_byte 0) (get_or-take n hay k 0 below)) ∙ first.1)

is_near : (bytes rest : List ℕ) (at n size : ℕ) → at ≤ length bytes → rest ≡ take n (drop at bytes) → IsFirstByte (is_byte 0) rest (Some size) → IsNear bytes at size
unfolding first_nul
is_near bytes rest at n size low is first =
    let found : IsFirstByte (is_byte 0) (take n (drop at bytes)) (Some size) = subst (λ (xs : List ℕ). IsFirstByte (is_byte 0) xs (Some size)) is first in
    let all : IsFirstByte (is_byte 0) (drop at bytes) (Some size) = first_of_all (drop at bytes) n size found in
    let inside : size < length (drop at bytes) = all.0.high in
    let rest_size : length (drop at bytes) ≡ length bytes - at = length-drop at bytes in
    record { same = sym (IsFirstByte-value (is_byte 0) (drop at bytes) (Some size) all); within = omega (arith, inside, rest_size) }

-- the first NUL of some bytes that begin with others

none_more : (o : Option ℕ) → o ≡ option_map (λ k. 0 + k) o
none_more None = refl
none_more (Some k) = ap Some (omega arith)

one_more : (n : ℕ) (o : Option ℕ) → option_map (λ k. 1 + k) (option_map (λ k. n + k) o) ≡ option_map (λ k. suc n + k) o
one_more n None = refl
one_more n (Some k) = ap Some (omega arith)

no_nul : (xs : List ℕ) (k : ℕ) (test : Bool) → is_byte 0 (get_or xs k 0) ≡ test → (test ≡ true → ⊥) → is_byte 0 (get_or xs k 0) ≡ false
no_nul xs k true is never = absurd (never refl)
no_nul xs k false is never = is

skipped : (xs : List ℕ) (n : ℕ) → n ≤ length xs → ((k : ℕ) → k < n → is_byte 0 (get_or xs k 0) ≡ false) → first_nul xs ≡ option_map (λ k. n + k) (first_nul (drop n xs))
skipped xs zero within others = none_more (first_nul xs)
skipped [] (suc n) within others = absurd (omega arith)
skipped (b ∷ bs) (suc n) within others =
    nul_later b bs (others 0 (omega arith))
    ∙ ap (option_map (λ k. 1 + k)) (skipped bs n (omega arith) (λ k low. others (suc k) (omega arith)))
    ∙ one_more n (first_nul (drop n bs))

-- where no NUL stands between two places
none_between : (bytes piece : List ℕ) (at to n : ℕ) → at ≤ to → to ≤ length bytes → n ≡ to - at → piece ≡ take n (drop at bytes) → IsFirstByte (is_byte 0) piece None → first_nul (drop at bytes) ≡ option_map (λ k. n + k) (first_nul (drop to bytes))
none_between bytes piece at to n order within size is first =
    let rest : length (drop at bytes) ≡ length bytes - at = length-drop at bytes in
    let room : n ≤ length (drop at bytes) = omega (arith, rest, order, within, size) in
    let part : length (take n (drop at bytes)) ≡ min n (length (drop at bytes)) = length-take n (drop at bytes) in
    let none : IsFirstByte (is_byte 0) (take n (drop at bytes)) None = subst (λ (xs : List ℕ). IsFirstByte (is_byte 0) xs None) is first in
    let others : (k : ℕ) → k < n → is_byte 0 (get_or (drop at bytes) k 0) ≡ false =
    λ k low. no_nul (drop at bytes) k (is_byte 0 (get_or (drop at bytes) k 0)) refl (λ nul. none k (omega arith) (omega (arith, part, room, low)) (ap (is_byte 0) (get_or-take n (drop at bytes) k 0 low) ∙ nul)) in
    let there : drop n (drop at bytes) ≡ drop to bytes = drop-drop n at bytes ∙ ap (λ m. drop m bytes) (omega (arith, order, size)) in
    skipped (drop at bytes) n room others ∙ ap (λ xs. option_map (λ k. n + k) (first_nul xs)) there

passes : (bytes : List ℕ) (at to n : ℕ) → at ≤ to → n ≡ to - at → first_nul (drop at bytes) ≡ option_map (λ k. n + k) (first_nul (drop to bytes)) → IsPassed bytes at to
passes bytes at to n order size same = record {
  same = λ end is. record {
    above = λ low. let above : to ≤ end = is.above low in omega (arith, above, order);
    some = λ low.
        let above : to ≤ end = is.above low in
        same ∙ ap (option_map (λ k. n + k)) (is.some low) ∙ ap Some (omega (arith, above, order, size));
    none = λ past. same ∙ ap (option_map (λ k. n + k)) (is.none past);
  };
}

pub near_if_found : (bytes piece : List ℕ) (at n : ℕ) (answer : Option ℕ) → at ≤ length bytes → piece ≡ take n (drop at bytes) → IsFirstByte (is_byte 0) piece answer → IfSome answer (IsNear bytes at)
near_if_found bytes piece at n None low is first = tt
near_if_found bytes piece at n (Some size) low is first = is_near bytes piece at n size low is first

pub passed_if_none : (bytes piece : List ℕ) (at to n : ℕ) (answer : Option ℕ) → at ≤ to → to ≤ length bytes → n ≡ to - at → piece ≡ take n (drop at bytes) → IsFirstByte (is_byte 0) piece answer → IfNone answer (IsPassed bytes at to)
passed_if_none bytes piece at to n None order within size is first = passes bytes at to n order size (none_between bytes piece at to n order within size is first)
passed_if_none bytes piece at to n (Some found) order within size is first = tt

pub ruleset near = (near_if_found, passed_if_none)

-- the end of what begins at a place

pub end_near : (bytes : List ℕ) (at size : ℕ) → IsNear bytes at size → IsEnd bytes at (at + size)
end_near bytes at size near =
    let within : at + size < length bytes = near.within in
    record {
      above = λ low. omega arith;
      some = λ low. near.same ∙ ap Some (omega arith);
      none = λ past. absurd (omega (arith, within, past));
    }

pub end_passed : (bytes : List ℕ) (at to end : ℕ) → IsPassed bytes at to → IsEnd bytes to end → IsEnd bytes at end
end_passed bytes at to end passed is = passed.same end is

pub ruleset ends = (end_near, end_passed)

no_nul_past : (bytes : List ℕ) (at : ℕ) → length bytes ≤ at → first_nul (drop at bytes) ≡ None
unfolding first_nul
no_nul_past bytes at past = ap first_nul (drop_all at bytes past) ∙ sym (IsFirstByte-value (is_byte 0) [] None (λ k low high. absurd (omega arith)))

end_past : (bytes : List ℕ) (at end : ℕ) → length bytes ≤ at → length bytes ≤ end → IsEnd bytes at end
end_past bytes at end past over = record {
  above = λ low. absurd (omega (arith, low, over));
  some = λ low. absurd (omega (arith, low, over));
  none = λ high. no_nul_past bytes at past;
}

-- ---- the ends of the blocks

-- the ends of the blocks from an index on are noted, and that of what begins at a place is known
pub record IsNoting (bytes : List ℕ) (block to end : ℕ) (ends : List ℕ) : Type 0 where
  pub here : IsEnd bytes to end
  pub within : to ≤ length bytes
  pub next : 256 * block ≤ to + 256
  pub room : block ≤ length ends
  pub size : length ends ≡ length bytes / 256 + 1
  pub noted : (k : ℕ) → k < length ends → block ≤ k → IsEnd bytes (256 * k) (get_or ends k 0)

pub notes_start : (bytes ends : List ℕ) → ends ≡ replicate (length bytes / 256 + 1) (length bytes) → IsNoting bytes (length ends) (length bytes) (length bytes) ends
notes_start bytes ends is = record {
  here = end_past bytes (length bytes) (length bytes) (omega arith) (omega arith);
  within = omega arith;
  next = omega (arith, size);
  room = omega arith;
  size = size;
  noted = λ k low past. absurd (omega (arith, low, past));
}
  where
    size : length ends ≡ length bytes / 256 + 1
    size = ap length is ∙ length-replicate (length bytes / 256 + 1) (length bytes)

pub one_block_noted : (bytes ends : List ℕ) (block to end before at new : ℕ) → IsNoting bytes block to end ends → before + 1 ≡ block → at ≡ 256 * before → IsEnd bytes at new → IsNoting bytes before at new (set ends before new)
one_block_noted bytes ends block to end before at new noting next place is = record {
  here = is;
  within = let within : to ≤ length bytes = noting.within in let low : 256 * block ≤ to + 256 = noting.next in omega (arith, within, low, next, place);
  next = omega (arith, place);
  room = let room : block ≤ length ends = noting.room in let same : length (set ends before new) ≡ length ends = length-set ends before new in omega (arith, room, same, next);
  size = length-set ends before new ∙ noting.size;
  noted = λ k low past. there k (rw (length-set ends before new) at low) past;
}
  where
    there : (k : ℕ) → k < length ends → before ≤ k → IsEnd bytes (256 * k) (get_or (set ends before new) k 0)
    there k low past =
        elim (cases_eq k before) [
          | inl e ↦
              let value : get_or (set ends before new) k 0 ≡ new = ap (λ (j : ℕ). get_or (set ends before new) j 0) e ∙ get_or-set_same ends before new 0 (omega (arith, e, low)) in
              let spot : at ≡ 256 * k = omega (arith, e, place) in
              subst (λ (n : ℕ). IsEnd bytes (256 * k) n) (sym value) (subst (λ (n : ℕ). IsEnd bytes n new) spot is)
          | inr differ ↦ subst (λ (n : ℕ). IsEnd bytes (256 * k) n) (sym (get_or-set_other ends before k new 0 differ)) (noting.noted k low (omega (arith, next, past, differ)))
        ]

pub notes_end : (bytes ends : List ℕ) (block to end : ℕ) → IsNoting bytes block to end ends → block ≤ 0 → AreEnds bytes ends
notes_end bytes ends block to end noting low = record { each = λ k within. noting.noted k within (omega (arith, low)); size = noting.size }

pub ruleset blocks = (notes_start, one_block_noted, notes_end)

pub entry_there : (bytes ends : List ℕ) (block : ℕ) → AreEnds bytes ends → block < length ends → IsEnd bytes (min (256 * block) (length bytes)) (get_or ends block 0)
entry_there bytes ends block are low =
    let size : length ends ≡ length bytes / 256 + 1 = are.size in
    let here : 256 * block ≡ min (256 * block) (length bytes) = omega (arith, size, low) in
    subst (λ (n : ℕ). IsEnd bytes n (get_or ends block 0)) here (are.each block low)

pub no_entry : (bytes ends : List ℕ) (block : ℕ) → AreEnds bytes ends → length ends ≤ block → IsEnd bytes (min (256 * block) (length bytes)) (length bytes)
no_entry bytes ends block are high =
    let size : length ends ≡ length bytes / 256 + 1 = are.size in
    end_past bytes (min (256 * block) (length bytes)) (length bytes) (omega (arith, size, high)) (omega arith)

pub ruleset entries = (entry_there, no_entry)

-- ---- sizes

pub sized : (bytes : List ℕ) (at end : ℕ) → IsEnd bytes at end → end < length bytes → Some (end - at) ≡ first_nul (drop at bytes)
sized bytes at end is low = sym (is.some low)

pub endless : (bytes : List ℕ) (at end : ℕ) → IsEnd bytes at end → length bytes ≤ end → None ≡ first_nul (drop at bytes)
endless bytes at end is high = sym (is.none high)

pub not_before : (bytes : List ℕ) (at end : ℕ) → IsEnd bytes at end → end < length bytes → at ≤ end
not_before bytes at end is low = is.above low

pub past_all : (bytes : List ℕ) (at : ℕ) → length bytes < at → None ≡ first_nul (drop at bytes)
past_all bytes at past = sym (no_nul_past bytes at (omega arith))

pub ruleset sizes = (sized, endless, not_before, past_all, end_passed)
