-- The hash of a name, in parts.
use Rattle.std.proofs.Common.{◌≡◌, ℕ, zero, suc, ◌+◌, ◌-◌, ◌*◌, ◌/◌, ◌%◌, ◌<◌, ◌≤◌, Bool, nat_eq, true, false, cond, List, [], ◌∷◌, length, take, drop, replicate, get_or, Option, Some, None, refl, sym, ap, subst, ◌∙◌, arith, inl, inr}
use Rattle.std.proofs.lemmas.List.{drop_all, drop-drop, drop_more, length-drop, length-replicate, get_or-replicate, get_or-set_same, get_or-set_other}
use Rattle.std.proofs.Math.ListN.{set, length-set}
use Rattle.std.proofs.lemmas.Bool.{cases_eq}
use Rattle.std.specs.Option.{option_map}
use Rattle.mo_strings.specs.Strings.{first_nul}
use Rattle.mo_strings.proofs.TableLemmas.{nul_first, nul_later}
use Rattle.mo_ar.specs.Text.{part}
use Rattle.mo_ar.specs.inner.Hash.{AreMarks, BASIS, hash_on, long_hash, mixed, stepped, tail_hash, tail_with, words_hash}
use Rattle.mo_bytes.specs.Number.{number}

-- the bytes from an index on are in the hash
pub record IsMixing (before : ℕ) (bytes : List ℕ) (at hash : ℕ) : Type 0 where
  pub same : hash ≡ hash_on before (drop at bytes)
  pub within : at ≤ length bytes

pub mix_starts : (before : ℕ) (bytes : List ℕ) → IsMixing before bytes (length bytes) before
unfolding hash_on
mix_starts before bytes = record { same = rw (drop_all (length bytes) bytes (omega arith)) refl; within = omega arith }

there : (bytes : List ℕ) (at to : ℕ) → at + 1 ≡ to → to ≤ length bytes → drop at bytes ≡ get_or bytes at 0 ∷ drop to bytes
there bytes at to next within =
    let e : drop at bytes ≡ get_or bytes at 0 ∷ drop (at + 1) bytes = drop_more bytes at 0 (omega arith) in
    subst (λ (n : ℕ). drop at bytes ≡ get_or bytes at 0 ∷ drop n bytes) next e

pub mix_goes_on : (before : ℕ) (bytes : List ℕ) (to at hash new : ℕ) → IsMixing before bytes to hash → at + 1 ≡ to → new ≡ mixed hash (get_or bytes at 0) → IsMixing before bytes at new
unfolding hash_on
mix_goes_on before bytes to at hash new mixing next is = record {
  same = is ∙ ap (λ h. mixed h (get_or bytes at 0)) mixing.same ∙ sym (ap (hash_on before) (there bytes at to next mixing.within));
  within = let w : to ≤ length bytes = mixing.within in omega arith;
}

pub mix_ends : (before : ℕ) (bytes : List ℕ) (at hash : ℕ) → IsMixing before bytes at hash → at ≤ 0 → hash ≡ hash_on before bytes
mix_ends before bytes at hash mixing low =
    let none : at ≡ 0 = omega arith in
    mixing.same ∙ ap (λ n. hash_on before (drop n bytes)) none

pub ruleset mixes = (mix_starts, mix_goes_on, mix_ends)

-- ---- marks

-- the bytes from an index on are hashed, and the marks there are set
pub record IsMarking (strings : List ℕ) (at hash : ℕ) (marks : List ℕ) : Type 0 where
  pub same : hash ≡ tail_hash (drop at strings)
  pub within : at ≤ length strings
  pub size : length marks ≡ length strings / 64 + 1
  pub marked : (k : ℕ) → k < length marks → at ≤ 64 * k → get_or marks k 0 ≡ tail_hash (drop (64 * k) strings)

tail_past : (strings : List ℕ) (at : ℕ) → length strings ≤ at → BASIS ≡ tail_hash (drop at strings)
unfolding tail_hash
tail_past strings at past = rw (drop_all at strings past) refl

pub marks_start : (strings marks : List ℕ) → marks ≡ replicate (length strings / 64 + 1) BASIS → IsMarking strings (length strings) BASIS marks
marks_start strings marks is = record {
  same = tail_past strings (length strings) (omega arith);
  within = omega arith;
  size = size;
  marked = λ k low past. ap (λ (xs : List ℕ). get_or xs k 0) is ∙ get_or-replicate (length strings / 64 + 1) k BASIS 0 (rw size at low) ∙ tail_past strings (64 * k) past;
}
  where
    size : length marks ≡ length strings / 64 + 1
    size = ap length is ∙ length-replicate (length strings / 64 + 1) BASIS

tail_there : (strings : List ℕ) (to at hash new : ℕ) → hash ≡ tail_hash (drop to strings) → to ≤ length strings → at + 1 ≡ to → new ≡ tail_with hash (get_or strings at 0) → new ≡ tail_hash (drop at strings)
unfolding tail_hash
tail_there strings to at hash new same within next is =
    is ∙ ap (λ h. tail_with h (get_or strings at 0)) same ∙ sym (ap tail_hash (there strings at to next within))

pub marks_pass : (strings marks : List ℕ) (to at hash new : ℕ) → IsMarking strings to hash marks → at + 1 ≡ to → new ≡ tail_with hash (get_or strings at 0) → (at % 64 ≡ 0 → ⊥) → IsMarking strings at new marks
marks_pass strings marks to at hash new marking next is other = record {
  same = tail_there strings to at hash new marking.same marking.within next is;
  within = let w : to ≤ length strings = marking.within in omega arith;
  size = marking.size;
  marked = λ k low past. marking.marked k low (above k past);
}
  where
    above : (k : ℕ) → at ≤ 64 * k → to ≤ 64 * k
    above k past =
        elim (cases_eq at (64 * k)) [
          | inl e ↦ absurd (other (omega (arith, e)))
          | inr differ ↦ omega (arith, next, past, differ)
        ]

pub marks_set : (strings marks : List ℕ) (to at hash new : ℕ) → IsMarking strings to hash marks → at + 1 ≡ to → new ≡ tail_with hash (get_or strings at 0) → at % 64 ≡ 0 → IsMarking strings at new (set marks (at / 64) new)
marks_set strings marks to at hash new marking next is even = record {
  same = there_too;
  within = let w : to ≤ length strings = marking.within in omega arith;
  size = length-set marks (at / 64) new ∙ marking.size;
  marked = λ k low past. here k (rw (length-set marks (at / 64) new) at low) past;
}
  where
    there_too : new ≡ tail_hash (drop at strings)
    there_too = tail_there strings to at hash new marking.same marking.within next is

    here : (k : ℕ) → k < length marks → at ≤ 64 * k → get_or (set marks (at / 64) new) k 0 ≡ tail_hash (drop (64 * k) strings)
    here k low past =
        elim (cases_eq k (at / 64)) [
          | inl e ↦
              let place : at ≡ 64 * k = omega (arith, e, even) in
              let room : at / 64 < length marks = omega (arith, e, low) in
              ap (λ (j : ℕ). get_or (set marks (at / 64) new) j 0) e ∙ get_or-set_same marks (at / 64) new 0 room ∙ there_too ∙ ap (λ (n : ℕ). tail_hash (drop n strings)) place
          | inr differ ↦ get_or-set_other marks (at / 64) k new 0 differ ∙ marking.marked k low (omega (arith, next, past, differ, even))
        ]

pub marks_end : (strings marks : List ℕ) (at hash : ℕ) → IsMarking strings at hash marks → at ≤ 0 → AreMarks strings marks
marks_end strings marks at hash marking low = record { marked = λ k within. marking.marked k within (omega arith) }

pub mark_room : (strings marks : List ℕ) (at hash to : ℕ) → IsMarking strings at hash marks → to < at → to / 64 < length marks
mark_room strings marks at hash to marking low =
    let size : length marks ≡ length strings / 64 + 1 = marking.size in
    let within : at ≤ length strings = marking.within in
    omega (arith, size, within, low)

pub ruleset marks = (marks_start, marks_pass, marks_set, marks_end, mark_room)

-- ---- the hash of a name from a mark

some_same : (a b : ℕ) → Some a ≡ Some b → a ≡ b
some_same a b e = cc

no_zero : (n : ℕ) (o : Option ℕ) → option_map (λ k. 1 + k) o ≡ Some (suc n) → o ≡ Some n
no_zero n None e = cc
no_zero n (Some k) e = ap Some (let same : 1 + k ≡ suc n = some_same (1 + k) (suc n) e in omega (arith, same))

never_zero : (o : Option ℕ) → option_map (λ k. 1 + k) o ≡ Some 0 → ⊥
never_zero None e = cc
never_zero (Some k) e = let same : 1 + k ≡ 0 = some_same (1 + k) 0 e in omega (arith, same)

-- the first byte isn't NUL, where the first NUL is behind it
not_nul : (b : ℕ) (bs : List ℕ) (n : ℕ) → first_nul (b ∷ bs) ≡ Some (suc n) → (test : Bool) → nat_eq b 0 ≡ test → (test ≡ false) × (first_nul bs ≡ Some n)
not_nul b bs n is true nul = absurd (let same : 0 ≡ suc n = some_same 0 (suc n) (sym (nul_first b bs nul) ∙ is) in omega (arith, same))
not_nul b bs n is false nul = (refl, no_zero n (first_nul bs) (sym (nul_later b bs nul) ∙ is))

tail_step : (b : ℕ) (bs : List ℕ) → nat_eq b 0 ≡ false → tail_hash (b ∷ bs) ≡ mixed (tail_hash bs) b
unfolding tail_hash
tail_step b bs other = ap (λ (test : Bool). cond test BASIS (mixed (tail_hash bs) b)) other

tail_nul : (b : ℕ) (bs : List ℕ) → nat_eq b 0 ≡ true → tail_hash (b ∷ bs) ≡ BASIS
unfolding tail_hash
tail_nul b bs nul = ap (λ (test : Bool). cond test BASIS (mixed (tail_hash bs) b)) nul

-- the hash of what stands before the first NUL, from a place in between
tail_splits : (xs : List ℕ) (k n : ℕ) → first_nul xs ≡ Some n → n < length xs → k ≤ n → tail_hash xs ≡ hash_on (tail_hash (drop k xs)) (take k xs)
unfolding hash_on
tail_splits xs zero n is within low = refl
tail_splits [] (suc k) n is within low = absurd (omega arith)
tail_splits (b ∷ bs) (suc k) zero is within low = absurd (omega arith)
tail_splits (b ∷ bs) (suc k) (suc n) is within low =
    let t : (nat_eq b 0 ≡ false) × (first_nul bs ≡ Some n) = not_nul b bs n is (nat_eq b 0) refl in
    tail_step b bs t.0 ∙ ap (λ h. mixed h b) (tail_splits bs k n t.1 (omega arith) (omega arith))

nul_there : (b : ℕ) (bs : List ℕ) (test : Bool) → first_nul (b ∷ bs) ≡ Some 0 → nat_eq b 0 ≡ test → tail_hash (b ∷ bs) ≡ BASIS
nul_there b bs true is nul = tail_nul b bs nul
nul_there b bs false is nul = absurd (never_zero (first_nul bs) (sym (nul_later b bs nul) ∙ is))

tail_stops : (xs : List ℕ) (n : ℕ) → first_nul xs ≡ Some n → n < length xs → tail_hash (drop n xs) ≡ BASIS
tail_stops [] n is within = absurd (omega arith)
tail_stops (b ∷ bs) zero is within = nul_there b bs (nat_eq b 0) is refl
tail_stops (b ∷ bs) (suc n) is within = tail_stops bs n (not_nul b bs n is (nat_eq b 0) refl).1 (omega arith)

-- the hash of a string is that of what stands before its NUL
tail_is : (xs : List ℕ) (n : ℕ) → first_nul xs ≡ Some n → n < length xs → tail_hash xs ≡ long_hash (take n xs)
tail_is xs n is within = tail_splits xs n n is within (omega arith) ∙ ap (λ h. hash_on h (take n xs)) (tail_stops xs n is within)

pub from_mark : (strings marks : List ℕ) (at size mark near result : ℕ) → first_nul (drop at strings) ≡ Some size → at + size < length strings → AreMarks strings marks → mark < length marks → at + near ≡ 64 * mark → near ≤ size → result ≡ hash_on (get_or marks mark 0) (take near (drop at strings)) → result ≡ long_hash (part strings at size)
from_mark strings marks at size mark near result ends within are room place low is =
    let rest : List ℕ = drop at strings in
    let inside : size < length (drop at strings) = let l : length (drop at strings) ≡ length strings - at = length-drop at strings in omega (arith, l, within) in
    let known : get_or marks mark 0 ≡ tail_hash (drop near (drop at strings)) =
    are.marked mark room ∙ ap (λ n. tail_hash (drop n strings)) (sym place) ∙ ap tail_hash (sym (drop-drop near at strings)) in
    is ∙ ap (λ h. hash_on h (take near (drop at strings))) known ∙ sym (tail_splits (drop at strings) near size ends inside low) ∙ tail_is (drop at strings) size ends inside

pub ruleset joins = (from_mark)

-- ---- the hash of a name's words

pub no_words : (name : List ℕ) → words_hash 0 name ≡ length name
unfolding words_hash
no_words name = refl

pub one_word_more : (name : List ℕ) (n m hash new : ℕ) → hash ≡ words_hash n name → m ≡ n + 1 → new ≡ stepped hash (number 8 name (8 * n)) → new ≡ words_hash m name
unfolding words_hash
one_word_more name n m hash new so_far next is =
    let e : m ≡ suc n = omega arith in
    is ∙ ap (λ (h : ℕ). stepped h (number 8 name (8 * n))) so_far ∙ sym (ap (λ (k : ℕ). words_hash k name) e)

pub all_words : (name : List ℕ) (n hash : ℕ) → hash ≡ words_hash n name → length name / 8 ≤ n → n ≤ length name / 8 → hash ≡ words_hash (length name / 8) name
all_words name n hash is low high = let e : n ≡ length name / 8 = omega arith in is ∙ ap (λ (k : ℕ). words_hash k name) e

pub ruleset words = (no_words, one_word_more, all_words)
