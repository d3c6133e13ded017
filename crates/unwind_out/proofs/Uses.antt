-- Numbers that stand in a list once each, in the order of their first use.
use Rattle.std.proofs.Common.{◌≡◌, ◌≢◌, ℕ, ◌+◌, ◌<◌, ◌≤◌, ◌==◌, ltb, cond, Bool, true, false, List, [], ◌∷◌, ◌++◌, length, get_or, take, map, unwrap_or, refl, sym, ap, subst, ◌∙◌, arith, length-append}
use Rattle.std.specs.List.{position, position_or_len, AllByRecursion}
use Rattle.std.proofs.lemmas.List.{take_more, map-append}
use Rattle.std.proofs.lemmas.List.Sums.{prefix_len-le-length, passes_at_first}
use Rattle.std.proofs.lemmas.List.Folds.{position_or_len_push}
use Rattle.std.proofs.lemmas.Bool.{lt-ltb, ltb-true, le-ltb, ltb-false}
use Rattle.std.proofs.lemmas.Bool.Decides.{nat_tests}
use Rattle.std.proofs.lemmas.List.{get_or-set_other}
use Rattle.std.proofs.lemmas.Grind.{get_or-set_at}
use Rattle.std.proofs.Math.ListN.{get_or-append, set}
use Rattle.std.proofs.Math.Seq.{get_or-append_seam, take-append_seam, take-length}
use Rattle.image_format.specs.declared.unwind.RegularPageEntry.{RegularPageEntry}
use Rattle.unwind_out.specs.Pages.{with_new, first_uses, encodings}
use Rattle.unwind_out.specs.Held.{AreFirst, AreKnown, guess_place}

abbrev pub same_as : ℕ → ℕ → Bool
same_as number other = other == number

-- the place of a number, or the count of the numbers where it isn't there
abbrev pub place : List ℕ → ℕ → ℕ
place numbers number = position_or_len (same_as number) numbers

pub place-le : (numbers : List ℕ) (number : ℕ) → place numbers number ≤ length numbers
place-le numbers number = prefix_len-le-length _ numbers

-- ---- the place that a search gives

or_len_by : (p : ℕ → Bool) (xs : List ℕ) (below : Bool) → ltb (position_or_len p xs) (length xs) ≡ below → position_or_len p xs ≤ length xs → unwrap_or (position p xs) (length xs) ≡ position_or_len p xs
or_len_by p xs true e low = rw e refl
or_len_by p xs false e low = let high = ltb-false (position_or_len p xs) (length xs) e in rw e (omega arith)

pub position_or_len_from : (p : ℕ → Bool) (xs : List ℕ) → unwrap_or (position p xs) (length xs) ≡ position_or_len p xs
position_or_len_from p xs = or_len_by p xs (ltb (position_or_len p xs) (length xs)) refl (prefix_len-le-length _ xs)

pub guess_holds : (numbers : List ℕ) (guess number : ℕ) → AreFirst numbers → guess < length numbers → get_or numbers guess 0 ≡ number → guess ≡ place numbers number
guess_holds numbers guess number once within is = sym (once.each guess within) ∙ ap (place numbers) is

-- ---- one number more

pub new_by : (seen : List ℕ) (number : ℕ) (below : Bool) → ltb (place seen number) (length seen) ≡ below → with_new seen number ≡ cond below seen (seen ++ number ∷ [])
new_by seen number true e = rw e refl
new_by seen number false e = rw e refl

pub new_behind : (seen : List ℕ) (number : ℕ) → place seen number ≡ length seen → with_new seen number ≡ seen ++ number ∷ []
new_behind seen number e = new_by seen number false (le-ltb (place seen number) (length seen) (omega arith))

pub not_new : (seen : List ℕ) (number : ℕ) → place seen number ≢ length seen → with_new seen number ≡ seen
not_new seen number other = let low = place-le seen number in new_by seen number true (lt-ltb (place seen number) (length seen) (omega arith))

-- a number that is there keeps its place
pub place_kept : (seen : List ℕ) (number more : ℕ) → place seen number < length seen → place (seen ++ more ∷ []) number ≡ place seen number
place_kept seen number more within =
    let apart : (place seen number == length seen) ≡ false = grind (arith, nat_tests) in
    position_or_len_push (same_as number) seen more ∙ rw apart refl

place_last : (seen : List ℕ) (number : ℕ) → place seen number ≡ length seen → place (seen ++ number ∷ []) number ≡ length seen
place_last seen number none =
    let there : (place seen number == length seen) ≡ true = grind (arith, nat_tests) in
    let own : (number == number) ≡ true = grind (arith, nat_tests) in
    position_or_len_push (same_as number) seen number ∙ rw (there, own) (omega arith)

first_more : (seen : List ℕ) (number k : ℕ) → AreFirst seen → place seen number ≡ length seen → k < length (seen ++ number ∷ []) → (old : Bool) → ltb k (length seen) ≡ old → place (seen ++ number ∷ []) (get_or (seen ++ number ∷ []) k 0) ≡ k
first_more seen number k once none within true e =
    let low : k < length seen = ltb-true k (length seen) e in
    let same : get_or (seen ++ number ∷ []) k 0 ≡ get_or seen k 0 = get_or-append seen (number ∷ []) 0 k low in
    let first : place seen (get_or seen k 0) ≡ k = once.each k low in
    ap (place (seen ++ number ∷ [])) same ∙ place_kept seen (get_or seen k 0) number (omega arith) ∙ first
first_more seen number k once none within false e =
    let high : length seen ≤ k = ltb-false k (length seen) e in
    let long : length (seen ++ number ∷ []) ≡ length seen + 1 = length-append seen (number ∷ []) in
    let last : k ≡ length seen = omega arith in
    let same : get_or (seen ++ number ∷ []) k 0 ≡ number = rw last (get_or-append_seam seen number [] 0) in
    ap (place (seen ++ number ∷ [])) same ∙ place_last seen number none ∙ sym last

pub first_new : (seen : List ℕ) (number : ℕ) → AreFirst seen → place seen number ≡ length seen → AreFirst (seen ++ number ∷ [])
first_new seen number once none = record { each = λ k within. first_more seen number k once none within (ltb k (length seen)) refl }

pub first_none : AreFirst []
first_none = record { each = λ k within. absurd (omega arith) }

-- ---- all numbers in turn

abbrev pub encodings_in : List RegularPageEntry → List ℕ
encodings_in rows = map (λ row. row.encoding) rows

uses-append : (seen xs ys : List ℕ) → first_uses seen (xs ++ ys) ≡ first_uses (first_uses seen xs) ys
unfolding first_uses
uses-append seen [] ys = refl
uses-append seen (x ∷ xs) ys = uses-append (with_new seen x) xs ys

pub encodings_more : (rows : List RegularPageEntry) (at : ℕ) (row : RegularPageEntry) → at < length rows → row ≡ get_or rows at row → encodings (take (at + 1) rows) ≡ with_new (encodings (take at rows)) row.encoding
unfolding encodings first_uses
encodings_more rows at row within is =
    let front : take (at + 1) rows ≡ take at rows ++ row ∷ [] = take_more rows at row within ∙ ap (λ (r : RegularPageEntry). take at rows ++ r ∷ []) (sym is) in
    ap (λ (xs : List RegularPageEntry). first_uses [] (encodings_in xs)) front
    ∙ ap (first_uses []) (map-append (λ (r : RegularPageEntry). r.encoding) (take at rows) (row ∷ []))
    ∙ uses-append [] (encodings_in (take at rows)) (row.encoding ∷ [])

pub encodings_none : encodings [] ≡ []
unfolding encodings first_uses
encodings_none = refl

new_longer_by : (seen : List ℕ) (number : ℕ) (below : Bool) → length seen ≤ length (cond below seen (seen ++ number ∷ []))
new_longer_by seen number true = omega arith
new_longer_by seen number false = simp length-append (omega arith)

pub new_longer : (seen : List ℕ) (number : ℕ) → length seen ≤ length (with_new seen number)
new_longer seen number = subst (λ (xs : List ℕ). length seen ≤ length xs) (sym (new_by seen number (ltb (place seen number) (length seen)) refl)) (new_longer_by seen number (ltb (place seen number) (length seen)))

pub uses_longer : (seen xs : List ℕ) → length seen ≤ length (first_uses seen xs)
unfolding first_uses
uses_longer seen [] = omega arith
uses_longer seen (x ∷ xs) =
    let first = new_longer seen x in
    let rest : length (with_new seen x) ≤ length (first_uses (with_new seen x) xs) = uses_longer (with_new seen x) xs in
    omega arith

-- more rows have no fewer encodings
pub encodings_longer : (front back : List RegularPageEntry) → length (encodings front) ≤ length (encodings (front ++ back))
unfolding encodings
encodings_longer front back =
    let all : first_uses [] (encodings_in (front ++ back)) ≡ first_uses (first_uses [] (encodings_in front)) (encodings_in back) = ap (first_uses []) (map-append (λ (r : RegularPageEntry). r.encoding) front back) ∙ uses-append [] (encodings_in front) (encodings_in back) in
    subst (λ (xs : List ℕ). length (first_uses [] (encodings_in front)) ≤ length xs) (sym all) (uses_longer (first_uses [] (encodings_in front)) (encodings_in back))

-- ---- each number that is used is there

there_by : (seen : List ℕ) (number x : ℕ) (below : Bool) → place seen x < length seen → place (cond below seen (seen ++ number ∷ [])) x < length (cond below seen (seen ++ number ∷ []))
there_by seen number x true there = there
there_by seen number x false there =
    let kept = place_kept seen x number there in
    let long : length (seen ++ number ∷ []) ≡ length seen + 1 = length-append seen (number ∷ []) in
    omega arith

there_new : (seen : List ℕ) (number x : ℕ) → place seen x < length seen → place (with_new seen number) x < length (with_new seen number)
there_new seen number x there =
    subst (λ (xs : List ℕ). place xs x < length xs) (sym (new_by seen number (ltb (place seen number) (length seen)) refl)) (there_by seen number x (ltb (place seen number) (length seen)) there)

own_by : (seen : List ℕ) (number : ℕ) (below : Bool) → ltb (place seen number) (length seen) ≡ below → place (cond below seen (seen ++ number ∷ [])) number < length (cond below seen (seen ++ number ∷ []))
own_by seen number true e = ltb-true (place seen number) (length seen) e
own_by seen number false e =
    let low = place-le seen number in
    let high = ltb-false (place seen number) (length seen) e in
    let last = place_last seen number (omega arith) in
    let long : length (seen ++ number ∷ []) ≡ length seen + 1 = length-append seen (number ∷ []) in
    omega arith

own_new : (seen : List ℕ) (number : ℕ) → place (with_new seen number) number < length (with_new seen number)
own_new seen number =
    subst (λ (xs : List ℕ). place xs number < length xs) (sym (new_by seen number (ltb (place seen number) (length seen)) refl)) (own_by seen number (ltb (place seen number) (length seen)) refl)

there_all : (seen xs : List ℕ) (x : ℕ) → place seen x < length seen → place (first_uses seen xs) x < length (first_uses seen xs)
unfolding first_uses
there_all seen [] x there = there
there_all seen (y ∷ xs) x there = there_all (with_new seen y) xs x (there_new seen y x there)

abbrev IsThere : List ℕ → RegularPageEntry → Type 0
IsThere numbers row = place numbers row.encoding < length numbers

all_there : (seen : List ℕ) (rows : List RegularPageEntry) → AllByRecursion (IsThere (first_uses seen (encodings_in rows))) rows
unfolding first_uses
all_there seen [] = tt
all_there seen (row ∷ rows) = (there_all (with_new seen row.encoding) (encodings_in rows) row.encoding (own_new seen row.encoding), all_there (with_new seen row.encoding) rows)

pub encodings_there : (rows : List RegularPageEntry) → AllByRecursion (λ row. place (encodings rows) row.encoding < length (encodings rows)) rows
unfolding encodings
encodings_there rows = all_there [] rows

-- ---- numbers with guesses

new_first_by : (seen : List ℕ) (number : ℕ) (below : Bool) → AreFirst seen → ltb (place seen number) (length seen) ≡ below → AreFirst (cond below seen (seen ++ number ∷ []))
new_first_by seen number true once e = once
new_first_by seen number false once e =
    let low = place-le seen number in
    let high = ltb-false (place seen number) (length seen) e in
    first_new seen number once (omega arith)

new_first : (seen : List ℕ) (number : ℕ) → AreFirst seen → AreFirst (with_new seen number)
new_first seen number once =
    subst AreFirst (sym (new_by seen number (ltb (place seen number) (length seen)) refl)) (new_first_by seen number (ltb (place seen number) (length seen)) once refl)

uses_first : (seen xs : List ℕ) → AreFirst seen → AreFirst (first_uses seen xs)
unfolding first_uses
uses_first seen [] once = once
uses_first seen (x ∷ xs) once = uses_first (with_new seen x) xs (new_first seen x once)

-- encodings stand there once each
pub encodings_first : (rows : List RegularPageEntry) → AreFirst (encodings rows)
unfolding encodings
encodings_first rows = uses_first [] (encodings_in rows) first_none

pub known_none : (numbers guesses : List ℕ) → numbers ≡ [] → AreKnown numbers guesses
known_none numbers guesses e = record {
  once = subst AreFirst (sym e) first_none;
  seen = λ k within. let none = ap length e in absurd (omega arith);
}

no_guess_by : (numbers guesses : List ℕ) (number : ℕ) (there : Bool) → AreKnown numbers guesses → get_or guesses (guess_place number) 0 ≡ 0 → ltb (place numbers number) (length numbers) ≡ there → place numbers number ≡ length numbers
no_guess_by numbers guesses number true known none e =
    let low = ltb-true (place numbers number) (length numbers) e in
    let seen : 0 < get_or guesses (guess_place (get_or numbers (place numbers number) 0)) 0 = known.seen (place numbers number) low in
    let passes : (get_or numbers (place numbers number) 0 == number) ≡ true = passes_at_first (same_as number) numbers 0 low in
    let is : get_or numbers (place numbers number) 0 ≡ number = grind (arith, nat_tests) in
    let there : 0 < get_or guesses (guess_place number) 0 = subst (λ (n : ℕ). 0 < get_or guesses (guess_place n) 0) is seen in
    absurd (omega arith)
no_guess_by numbers guesses number false known none e =
    let low = place-le numbers number in
    let high = ltb-false (place numbers number) (length numbers) e in
    omega arith

-- a number without a guess isn't there
no_guess : (numbers guesses : List ℕ) (number : ℕ) → AreKnown numbers guesses → get_or guesses (guess_place number) 0 ≡ 0 → place numbers number ≡ length numbers
no_guess numbers guesses number known none = no_guess_by numbers guesses number (ltb (place numbers number) (length numbers)) known none refl

pub new_tested : (numbers guesses : List ℕ) (number at : ℕ) → AreKnown numbers guesses → at ≡ guess_place number → get_or guesses at 0 ≡ 0 → (get_or guesses at 0 == 0) ≡ (place numbers number == length numbers)
new_tested numbers guesses number at known is none =
    let new : place numbers number ≡ length numbers = no_guess numbers guesses number known (ap (λ (n : ℕ). get_or guesses n 0) (sym is) ∙ none) in
    let here : (get_or guesses at 0 == 0) ≡ true = grind (arith, nat_tests) in
    let there : (place numbers number == length numbers) ≡ true = grind (arith, nat_tests) in
    here ∙ sym there

pub known_once : (numbers guesses : List ℕ) → AreKnown numbers guesses → AreFirst numbers
known_once numbers guesses known = known.once

seen_by : (guesses : List ℕ) (at other value : ℕ) (same : Bool) → at < length guesses → 0 < value → (other == at) ≡ same → (same ≡ false → 0 < get_or guesses other 0) → 0 < get_or (set guesses at value) other 0
seen_by guesses at other value true within some e old =
    let is : other ≡ at = grind (arith, nat_tests) in
    let now : get_or (set guesses at value) other 0 ≡ value = get_or-set_at guesses at other value 0 is within in
    omega arith
seen_by guesses at other value false within some e old =
    let apart : other ≢ at = λ is. let same : (other == at) ≡ true = grind (arith, nat_tests) in cc in
    let kept : get_or (set guesses at value) other 0 ≡ get_or guesses other 0 = get_or-set_other guesses at other value 0 apart in
    let before : 0 < get_or guesses other 0 = old refl in
    omega arith

seen_more : (numbers guesses : List ℕ) (number value k : ℕ) (old : Bool) → AreKnown numbers guesses → 0 < value → guess_place number < length guesses → k < length (numbers ++ number ∷ []) → ltb k (length numbers) ≡ old
    → 0 < get_or (set guesses (guess_place number) value) (guess_place (get_or (numbers ++ number ∷ []) k 0)) 0
seen_more numbers guesses number value k true known some within low e =
    let before : k < length numbers = ltb-true k (length numbers) e in
    let same : get_or (numbers ++ number ∷ []) k 0 ≡ get_or numbers k 0 = get_or-append numbers (number ∷ []) 0 k before in
    let seen : 0 < get_or guesses (guess_place (get_or numbers k 0)) 0 = known.seen k before in
    subst (λ (n : ℕ). 0 < get_or (set guesses (guess_place number) value) (guess_place n) 0) (sym same)
    (seen_by guesses (guess_place number) (guess_place (get_or numbers k 0)) value (guess_place (get_or numbers k 0) == guess_place number) within some refl (λ other. seen))
seen_more numbers guesses number value k false known some within low e =
    let high : length numbers ≤ k = ltb-false k (length numbers) e in
    let long : length (numbers ++ number ∷ []) ≡ length numbers + 1 = length-append numbers (number ∷ []) in
    let last : k ≡ length numbers = omega arith in
    let same : get_or (numbers ++ number ∷ []) k 0 ≡ number = rw last (get_or-append_seam numbers number [] 0) in
    let own : (guess_place number == guess_place number) ≡ true = grind (arith, nat_tests) in
    subst (λ (n : ℕ). 0 < get_or (set guesses (guess_place number) value) (guess_place n) 0) (sym same)
    (seen_by guesses (guess_place number) (guess_place number) value true within some own (λ other. absurd (cc)))

pub known_pushed : (numbers new guesses new_guesses : List ℕ) (number value : ℕ) → AreKnown numbers guesses → new ≡ numbers ++ number ∷ [] → place numbers number ≡ length numbers
    → new_guesses ≡ set guesses (guess_place number) value → 0 < value → guess_place number < length guesses → AreKnown new new_guesses
known_pushed numbers new guesses new_guesses number value known e none set_is some within =
    subst (λ (ns : List ℕ). AreKnown ns new_guesses) (sym e)
    (subst (AreKnown (numbers ++ number ∷ [])) (sym set_is) (record {
      once = first_new numbers number known.once none;
      seen = λ k low. seen_more numbers guesses number value k (ltb k (length numbers)) known some within low refl;
    }))

new_front_by : (seen : List ℕ) (number : ℕ) (below : Bool) → take (length seen) (cond below seen (seen ++ number ∷ [])) ≡ seen
new_front_by seen number true = take-length seen
new_front_by seen number false = take-append_seam seen (number ∷ [])

-- the numbers before one more
pub new_front : (seen : List ℕ) (number : ℕ) → take (length seen) (with_new seen number) ≡ seen
new_front seen number = ap (take (length seen)) (new_by seen number (ltb (place seen number) (length seen)) refl) ∙ new_front_by seen number (ltb (place seen number) (length seen))

pub ruleset uses = (position_or_len_from, guess_holds)

pub ruleset knowing = (known_none, known_once, new_behind, not_new)
