-- What is known of names, from round to round.
use Rattle.std.proofs.Common.{◌≡◌, ℕ, zero, suc, ◌+◌, ◌-◌, ◌<◌, ◌≤◌, ◌^◌, ◌==◌, ◌||◌, ◌++◌, Bool, true, false, not, nat_lt, List, [], ◌∷◌, All, Contains, Some, None, length, map, take, position, replicate, get_or, refl, sym, ap, ap₂, subst, ◌∙◌, inl, inr, arith, cond, eqb-true, length-append}
use Rattle.std.specs.List.{AllByRecursion, IsDistinct, position_or_len}
use Rattle.std.specs.Str.{bytes_eq}
use Rattle.std.proofs.lemmas.Bool.{lt-ltb, ltb-false, ltb-true}
use Rattle.std.proofs.lemmas.List.{get_or-map, length-map, length-replicate, map-append, take_all}
use Rattle.std.proofs.lemmas.List.Folds.{prefix_len-append}
use Rattle.std.proofs.lemmas.List.Quantifiers.{position-Some}
use Rattle.std.proofs.lemmas.Slice.Eq.{bytes_eq-Decides}
use Rattle.list_lemmas.proofs.Members.{In, any_true, in_from_Contains, in_right}
use Rattle.mo_types.specs.Candidates.{Candidate, candidates, least, no_word}
use Rattle.mo_types.specs.Loaded.{IsWholeFile}
use Rattle.mo_types.specs.declared.loaded.LoadedFile.{LoadedFile}
use Rattle.symbol_winners.specs.Found.{AreNamed}
use Rattle.symbol_winners.specs.Winners.{AreLeast}
use Rattle.input_files.proofs.EachLemmas.{all_has}
use Rattle.member_rounds.specs.Rounds.{has_candidate}
use Rattle.member_rounds.specs.inner.Asking.{is_settled, settled_at}
use Rattle.member_rounds.specs.inner.Racing.{padded}
use Rattle.member_rounds.proofs.StepLemmas.{candidates_append}
use Rattle.member_rounds.proofs.WordLemmas.{word_tells}

-- ---- places of names

-- one of a list's elements passes, so a place is found
position_there : (name : List ℕ) (names : List (List ℕ)) → In name names → position_or_len (bytes_eq name) names < length names
position_there name [] there = absurd there
position_there name (x ∷ names) there = by (bytes_eq name x) refl (λ later. position_there name names later)
  where
    by : (b : Bool) → bytes_eq name x ≡ b → (In name names → position_or_len (bytes_eq name) names < length names) → position_or_len (bytes_eq name) (x ∷ names) < length (x ∷ names)
    by true e low = rw e (omega arith)
    by false e low = rw e (elim there [
      | inl same ↦ absurd (let t : true ≡ false = sym ((bytes_eq-Decides name x).1 (sym same)) ∙ e in cc)
      | inr later ↦ let rest : position_or_len (bytes_eq name) names < length names = low later in omega (arith, rest)
    ])

not_there : (name : List ℕ) (names : List (List ℕ)) → position (bytes_eq name) names ≡ None → In name names → ⊥
not_there name names none there =
    let low : nat_lt (position_or_len (bytes_eq name) names) (length names) ≡ true = lt-ltb _ _ (position_there name names there) in
    let found : Some (position_or_len (bytes_eq name) names) ≡ None = rw low at none in absurd (cc)

found : (name : List ℕ) (names : List (List ℕ)) → position_or_len (bytes_eq name) names < length names → position (bytes_eq name) names ≡ Some (position_or_len (bytes_eq name) names)
found name names low = rw (lt-ltb _ _ low) refl

missing : (name : List ℕ) (names : List (List ℕ)) → nat_lt (position_or_len (bytes_eq name) names) (length names) ≡ false → position (bytes_eq name) names ≡ None
missing name names high = rw high refl

past_end : {X : Type 0} (xs : List X) (i : ℕ) (d : X) → length xs ≤ i → get_or xs i d ≡ d
past_end [] i d high = refl
past_end (x ∷ xs) zero d high = absurd (omega (arith, high))
past_end (x ∷ xs) (suc i) d high = past_end xs i d (omega (arith, high))

-- ---- marks

-- whether a name has asked; a name without a number hasn't
abbrev pub mark_of : List (List ℕ) → List Bool → List ℕ → Bool
mark_of names asked name = get_or asked (position_or_len (bytes_eq name) names) false

with_none : (asked : List Bool) (k i : ℕ) → get_or (asked ++ replicate k false) i false ≡ get_or asked i false
with_none [] zero i = refl
with_none [] (suc k) zero = refl
with_none [] (suc k) (suc i) = with_none [] k i
with_none (x ∷ asked) k zero = refl
with_none (x ∷ asked) k (suc i) = with_none asked k i

marks_stay : (names more : List (List ℕ)) (asked : List Bool) (name : List ℕ) → length asked ≡ length names → mark_of (names ++ more) (padded (length (names ++ more)) false asked) name ≡ mark_of names asked name
marks_stay names more asked name same =
    ap (λ (xs : List Bool). get_or (xs ++ replicate (length (names ++ more) - length asked) false) (position_or_len (bytes_eq name) (names ++ more)) false) (take_all (length (names ++ more)) asked (omega (arith, same, length-append names more)))
    ∙ with_none asked (length (names ++ more) - length asked) (position_or_len (bytes_eq name) (names ++ more))
    ∙ by (position_or_len (bytes_eq name) names == length names) refl
  where
    place : position_or_len (bytes_eq name) (names ++ more) ≡ cond (position_or_len (bytes_eq name) names == length names) (length names + position_or_len (bytes_eq name) more) (position_or_len (bytes_eq name) names)
    place = prefix_len-append (λ x. not (bytes_eq name x)) names more

    by : (b : Bool) → (position_or_len (bytes_eq name) names == length names) ≡ b → get_or asked (position_or_len (bytes_eq name) (names ++ more)) false ≡ get_or asked (position_or_len (bytes_eq name) names) false
    by true e =
        let here : position_or_len (bytes_eq name) names ≡ length names = eqb-true _ _ e in
        let there : position_or_len (bytes_eq name) (names ++ more) ≡ length names + position_or_len (bytes_eq name) more = place ∙ rw e refl in
        past_end asked (position_or_len (bytes_eq name) (names ++ more)) false (omega (arith, there, same)) ∙ sym (past_end asked (position_or_len (bytes_eq name) names) false (omega (arith, here, same)))
    by false e = ap (λ (i : ℕ). get_or asked i false) (place ∙ rw e refl)

never_true : (b : Bool) → (b ≡ true → ⊥) → b ≡ false
never_true true never = absurd (never refl)
never_true false never = refl

-- ---- names that are there once

all_apart : (x name : List ℕ) (xs : List (List ℕ)) → AllByRecursion (λ y. bytes_eq x y ≡ false) xs → In name xs → bytes_eq x name ≡ false
all_apart x name [] all there = absurd there
all_apart x name (y ∷ xs) all (inl same) = subst (λ (n : List ℕ). bytes_eq x n ≡ false) same all.0
all_apart x name (y ∷ xs) all (inr there) = all_apart x name xs all.1 there

twice : (name : List ℕ) (xs ys : List (List ℕ)) → IsDistinct bytes_eq (xs ++ ys) → In name xs → In name ys → ⊥
unfolding IsDistinct
twice name [] ys apart there also = there
twice name (x ∷ xs) ys apart (inl same) also = absurd (let e : bytes_eq x name ≡ false = all_apart x name (xs ++ ys) apart.0 (in_right xs ys name also) in let t : true ≡ false = sym ((bytes_eq-Decides x name).1 same) ∙ e in cc)
twice name (x ∷ xs) ys apart (inr there) also = twice name xs ys apart.1 there also

-- ---- what the words and marks of names tell

named_there : (files : List LoadedFile) (names : List (List ℕ)) (name : List ℕ) → AreNamed names files → has_candidate files name ≡ true → In name names
unfolding has_candidate
named_there files names name named has =
    let candidate = any_true (λ (c : Candidate). bytes_eq name c.symbol.name) (candidates files) has in
    let same : name ≡ candidate.0.symbol.name = (bytes_eq-Decides name candidate.0.symbol.name).0 candidate.2 in
    subst (λ (n : List ℕ). In n names) (sym same) (in_from_Contains names candidate.0.symbol.name (all_has (λ (c : Candidate). Contains names c.symbol.name) (candidates files) candidate.0 named candidate.1))

module _ (files : List LoadedFile) (whole : All IsWholeFile files) (low : All (λ file. file.id.position < 2 ^ 16) files) where
  pub settled_tells : (names : List (List ℕ)) (words : List ℕ) (asked : List Bool) (name : List ℕ) → AreNamed names files → AreLeast files names words → length asked ≡ length names → is_settled names words asked name ≡ (has_candidate files name || mark_of names asked name)
  settled_tells names words asked name named are same = by (nat_lt (position_or_len (bytes_eq name) names) (length names)) refl
    where
      by : (b : Bool) → nat_lt (position_or_len (bytes_eq name) names) (length names) ≡ b → is_settled names words asked name ≡ (has_candidate files name || get_or asked (position_or_len (bytes_eq name) names) false)
      by true e =
          let at : ℕ = position_or_len (bytes_eq name) names in
          let within : at < length names = ltb-true _ _ e in
          let name_is : name ≡ get_or names at [] = (bytes_eq-Decides name (get_or names at [])).0 (position-Some (bytes_eq name) names at [] (found name names within)).1 in
          let word : get_or words at no_word ≡ least files name = ap (λ (ws : List ℕ). get_or ws at no_word) are ∙ get_or-map (least files) names at [] no_word within ∙ ap (least files) (sym name_is) in
          ap (settled_at words asked) (found name names within)
          ∙ ap (λ (w : ℕ). not (w == no_word) || get_or asked at false) word
          ∙ ap (λ (b : Bool). b || get_or asked at false) (word_tells files name whole low)
      by false e =
          let nowhere : has_candidate files name ≡ false = never_true (has_candidate files name) (λ has. not_there name names (missing name names e) (named_there files names name named has)) in
          let high : length names ≤ position_or_len (bytes_eq name) names = ltb-false _ _ e in
          ap (settled_at words asked) (missing name names e)
          ∙ sym (ap (λ (b : Bool). b || get_or asked (position_or_len (bytes_eq name) names) false) nowhere ∙ past_end asked (position_or_len (bytes_eq name) names) false (omega (arith, high, same)))

  -- names that no file has have no word
  no_words : (more : List (List ℕ)) → ((name : List ℕ) → In name more → has_candidate files name ≡ true → ⊥) → map (least files) more ≡ replicate (length more) no_word
  no_words [] none = refl
  no_words (name ∷ more) none = ap₂ (λ (w : ℕ) (ws : List ℕ). w ∷ ws) (no_word_of name (none name (inl refl))) (no_words more (λ n there. none n (inr there)))
    where
      no_word_of : (name : List ℕ) → (has_candidate files name ≡ true → ⊥) → least files name ≡ no_word
      no_word_of name never = by (least files name == no_word) refl
        where
          by : (b : Bool) → (least files name == no_word) ≡ b → least files name ≡ no_word
          by true e = eqb-true _ _ e
          by false e = absurd (never (sym (word_tells files name whole low) ∙ rw e refl))

  pub words_stay : (names more : List (List ℕ)) (words : List ℕ) → IsDistinct bytes_eq (names ++ more) → AreNamed names files → AreLeast files names words → AreLeast files (names ++ more) (padded (length (names ++ more)) no_word words)
  words_stay names more words apart named are =
      let many : length words ≡ length names = ap length are ∙ length-map names (least files) in
      let all : take (length (names ++ more)) words ≡ words = take_all (length (names ++ more)) words (omega (arith, many, length-append names more)) in
      let rest : length (names ++ more) - length words ≡ length more = omega (arith, many, length-append names more) in
      ap₂ (λ (ws : List ℕ) (k : ℕ). ws ++ replicate k no_word) (all ∙ are) rest
      ∙ ap (λ (ws : List ℕ). map (least files) names ++ ws) (sym (no_words more (λ name there has. twice name names more apart (named_there files names name named has) there)))
      ∙ sym (map-append (least files) names more)

-- ---- a round more

either : (a b m : Bool) → ((a || b) || m) ≡ ((a || m) || b)
either true b m = refl
either false true true = refl
either false true false = refl
either false false true = refl
either false false false = refl

-- names that are settled by the files so far are, after further files, settled by these too
pub round_tells : (kept files : List LoadedFile) (names more : List (List ℕ)) (words next : List ℕ) (asked : List Bool) (name : List ℕ) → All IsWholeFile kept → All IsWholeFile (kept ++ files) → All (λ file. file.id.position < 2 ^ 16) kept → All (λ file. file.id.position < 2 ^ 16) (kept ++ files) → AreNamed names kept → AreNamed (names ++ more) (kept ++ files) → AreLeast kept names words → AreLeast (kept ++ files) (names ++ more) next → length asked ≡ length names → is_settled (names ++ more) next (padded (length (names ++ more)) false asked) name ≡ (is_settled names words asked name || has_candidate files name)
round_tells kept files names more words next asked name whole whole_all low low_all named named_all are are_all same =
    settled_tells (kept ++ files) whole_all low_all (names ++ more) next (padded (length (names ++ more)) false asked) name named_all are_all padded_long
    ∙ ap₂ (λ (a m : Bool). a || m) (candidates_append kept files name) (marks_stay names more asked name same)
    ∙ either (has_candidate kept name) (has_candidate files name) (mark_of names asked name)
    ∙ ap (λ (b : Bool). b || has_candidate files name) (sym (settled_tells kept whole low names words asked name named are same))
  where
    padded_long : length (padded (length (names ++ more)) false asked) ≡ length (names ++ more)
    padded_long = ap (λ (xs : List Bool). length (xs ++ replicate (length (names ++ more) - length asked) false)) (take_all (length (names ++ more)) asked (omega (arith, same, length-append names more))) ∙ length-append asked (replicate (length (names ++ more) - length asked) false) ∙ omega (arith, same, length-append names more, length-replicate (length (names ++ more) - length asked) false)
