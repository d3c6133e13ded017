-- Fronts of texts, and the blanks at their ends.
use Rattle.std.proofs.Common.{◌≡◌, ℕ, ◌+◌, ◌-◌, ◌<◌, ◌≤◌, ◌==◌, List, length, take, drop, get_or, Bool, true, false, cond, refl, sym, ap, ◌∙◌, arith, tests}
use Rattle.std.proofs.lemmas.List.{at_drop_more, at_drop_all, take_rest}
use Rattle.yaml_text.specs.Characters.{is_blank}
use Rattle.yaml_text.specs.Lines.{front_size, trimmed_size}

-- the bytes below a place pass the test
pub record IsPassing (test : ℕ → Bool) (text : List ℕ) (at : ℕ) : Type 0 where
  pub same : at + front_size test (drop at text) ≡ front_size test text
  pub within : at ≤ length text

pub front_starts : (test : ℕ → Bool) (text : List ℕ) → IsPassing test text 0
front_starts test text = record { same = omega arith; within = omega arith }

pub front_goes_on : (test : ℕ → Bool) (text : List ℕ) (at : ℕ) → IsPassing test text at → at < length text → test (get_or text at 0) ≡ true → IsPassing test text (at + 1)
front_goes_on test text at passing more passes = record {
  same = let e : front_size test (drop at text) ≡ front_size test (drop (at + 1) text) + 1 = at_drop_more (front_size test) text at 0 more ∙ rw passes refl in
      let s : at + front_size test (drop at text) ≡ front_size test text = passing.same in omega arith;
  within = omega arith;
}

pub front_stops : (test : ℕ → Bool) (text : List ℕ) (at : ℕ) → IsPassing test text at → at < length text → test (get_or text at 0) ≡ false → at ≡ front_size test text
front_stops test text at passing more other =
    let e : front_size test (drop at text) ≡ 0 = at_drop_more (front_size test) text at 0 more ∙ rw other refl in
    let s : at + front_size test (drop at text) ≡ front_size test text = passing.same in omega arith

pub front_ends : (test : ℕ → Bool) (text : List ℕ) (at : ℕ) → IsPassing test text at → length text ≤ at → at ≡ front_size test text
front_ends test text at passing past =
    let e : front_size test (drop at text) ≡ 0 = at_drop_all (front_size test) text at past in
    let s : at + front_size test (drop at text) ≡ front_size test text = passing.same in omega arith

pub ruleset fronts = (front_starts, front_goes_on, front_stops, front_ends)

-- the size of a text whose first bytes are read, where so many bytes of them stand before the blanks at their end
unfoldable pub size_on : ℕ → ℕ → ℕ → ℕ
size_on size at more = cond (more == 0) size (at + more)

pub record IsTrimming (text : List ℕ) (at size : ℕ) : Type 0 where
  pub same : size_on size at (trimmed_size (drop at text)) ≡ trimmed_size text
  pub within : size ≤ at

start_size : (more : ℕ) → size_on 0 0 more ≡ more
unfolding size_on
start_size more = grind (arith, tests)

pub trim_starts : (text : List ℕ) → IsTrimming text 0 0
trim_starts text = record { same = start_size (trimmed_size text); within = omega arith }

blank_size : (size at more : ℕ) → size_on size (at + 1) more ≡ size_on size at (cond (more == 0) 0 (more + 1))
unfolding size_on
blank_size size at more = grind (arith, tests)

other_size : (size at more : ℕ) → size_on (at + 1) (at + 1) more ≡ size_on size at (more + 1)
unfolding size_on
other_size size at more = grind (arith, tests)

pub trim_passes : (text : List ℕ) (at size : ℕ) → IsTrimming text at size → at < length text → is_blank (get_or text at 0) ≡ true → IsTrimming text (at + 1) size
trim_passes text at size trimming more blank = record {
  same =
      let e : trimmed_size (drop at text) ≡ cond (trimmed_size (drop (at + 1) text) == 0) 0 (trimmed_size (drop (at + 1) text) + 1) =
      at_drop_more trimmed_size text at 0 more ∙ rw blank refl in
      blank_size size at (trimmed_size (drop (at + 1) text)) ∙ ap (size_on size at) (sym e) ∙ trimming.same;
  within = let w : size ≤ at = trimming.within in omega arith;
}

pub trim_takes : (text : List ℕ) (at size : ℕ) → IsTrimming text at size → at < length text → is_blank (get_or text at 0) ≡ false → IsTrimming text (at + 1) (at + 1)
trim_takes text at size trimming more other = record {
  same =
      let e : trimmed_size (drop at text) ≡ trimmed_size (drop (at + 1) text) + 1 = at_drop_more trimmed_size text at 0 more ∙ rw other refl in
      other_size size at (trimmed_size (drop (at + 1) text)) ∙ ap (size_on size at) (sym e) ∙ trimming.same;
  within = omega arith;
}

nothing_more : (size at : ℕ) → size_on size at 0 ≡ size
unfolding size_on
nothing_more size at = refl

pub trim_ends : (text : List ℕ) (at size : ℕ) → IsTrimming text at size → length text ≤ at → size ≡ trimmed_size text
trim_ends text at size trimming past =
    let e : trimmed_size (drop at text) ≡ 0 = at_drop_all trimmed_size text at past in
    sym (ap (size_on size at) e ∙ nothing_more size at) ∙ trimming.same

pub ruleset trims = (trim_starts, trim_passes, trim_takes, trim_ends)

-- The rest of a line

pub rest_is : (line slice : List ℕ) (at : ℕ) → slice ≡ line → take (length slice - at) (drop at slice) ≡ drop at line
rest_is line slice at is = take_rest slice at ∙ ap (drop at) is

pub ruleset rests = (rest_is)
