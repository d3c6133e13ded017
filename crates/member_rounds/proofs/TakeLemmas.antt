-- The files that a round takes of those that are left.
use Rattle.std.proofs.Common.{◌≡◌, ℕ, ◌+◌, ◌<◌, ◌≤◌, ◌&&◌, ◌||◌, Bool, true, false, not, List, [], ◌∷◌, length, take, get_or, refl, sym, ap, ◌∙◌}
use Rattle.std.specs.Prelude.{if◌then◌else◌}
use Rattle.std.specs.List.{list_any}
use Rattle.std.proofs.lemmas.List.{take_all}
use Rattle.std.proofs.lemmas.List.Folds.{list_any_more}
use Rattle.mo_types.specs.declared.key.FileId.{FileId}
use Rattle.member_rounds.specs.Growth.{is_in, same_file}
use Rattle.member_rounds.proofs.GrowthLemmas.{same_is, same_itself}
use Rattle.member_rounds.proofs.SetLemmas.{IsNoting, note_end, note_start, note_step}

same_turned : (a b : FileId) (t : Bool) → same_file a b ≡ t → same_file b a ≡ t
same_turned a b true is = ap (λ (x : FileId). same_file b x) (same_is a b is) ∙ same_itself b
same_turned a b false is = by (same_file b a) refl
  where
    by : (t : Bool) → same_file b a ≡ t → same_file b a ≡ false
    by true e = absurd (let s : true ≡ false = sym (ap (λ (x : FileId). same_file a x) (same_is b a e) ∙ same_itself a) ∙ is in cc)
    by false e = e

and_any : {X : Type 0} (b : Bool) (p : X → Bool) (xs : List X) → list_any (λ x. b && p x) xs ≡ (b && list_any p xs)
and_any true p xs = refl
and_any false p [] = refl
and_any false p (x ∷ xs) = and_any false p xs

or_true : (a : Bool) → (a || true) ≡ true
or_true true = refl
or_true false = refl

or_false : (a : Bool) → (a || false) ≡ a
or_false true = refl
or_false false = refl

and_false : (a : Bool) → (a && false) ≡ false
and_false true = refl
and_false false = refl

-- ---- one more

pub taken_one : (old new left : List FileId) (id : FileId) → is_in left id ≡ true → ((other : FileId) → is_in new other ≡ (if same_file id other then true else is_in old other)) → (other : FileId) → is_in new other ≡ (is_in old other || (is_in left other && same_file other id))
taken_one old new left id there more other = by (same_file id other) refl
  where
    by : (b : Bool) → same_file id other ≡ b → is_in new other ≡ (is_in old other || (is_in left other && same_file other id))
    by true e = more other ∙ (rw (e, same_turned id other true e, (let s : is_in left other ≡ true = ap (is_in left) (sym (same_is id other e)) ∙ there in s)) (sym (or_true (is_in old other))))
    by false e = more other ∙ (rw (e, same_turned id other false e, and_false (is_in left other)) (sym (or_false (is_in old other))))

pub taken_none : (old left : List FileId) (id : FileId) → is_in left id ≡ false → (other : FileId) → is_in old other ≡ (is_in old other || (is_in left other && same_file other id))
taken_none old left id gone other = by (same_file other id) refl
  where
    by : (b : Bool) → same_file other id ≡ b → is_in old other ≡ (is_in old other || (is_in left other && same_file other id))
    by true e = rw (e, (let s : is_in left other ≡ false = ap (is_in left) (same_is other id e) ∙ gone in s)) (sym (or_false (is_in old other)))
    by false e = rw (e, and_false (is_in left other)) (sym (or_false (is_in old other)))

pub ruleset one_taken = (taken_one, taken_none)

-- ---- loops

pub record AreTaken (left asked : List FileId) (i : ℕ) (next : List FileId) : Type 0 where
  pub noted : IsNoting (is_in []) (is_in next) (λ (q x : FileId). is_in left q && same_file q x) asked i

pub taken_start : (left asked next : List FileId) → next ≡ [] → AreTaken left asked 0 next
taken_start left asked next none = rw none (record { noted = note_start (is_in []) (λ (q x : FileId). is_in left q && same_file q x) asked })

pub taken_step : (left asked : List FileId) (i : ℕ) (now next : List FileId) (id : FileId) → AreTaken left asked i now → i < length asked → id ≡ get_or asked i id → ((other : FileId) → is_in next other ≡ (is_in now other || (is_in left other && same_file other id))) → AreTaken left asked (i + 1) next
taken_step left asked i now next id so low is more = record { noted = note_step (is_in []) (is_in now) (is_in next) (λ (q x : FileId). is_in left q && same_file q x) asked i id so.noted low is more }

pub taken_end : (left asked : List FileId) (i : ℕ) (next : List FileId) → AreTaken left asked i next → length asked ≤ i → (id : FileId) → is_in next id ≡ (is_in left id && is_in asked id)
taken_end left asked i next so past id = note_end (is_in []) (is_in next) (λ (q x : FileId). is_in left q && same_file q x) asked i so.noted past id ∙ and_any (is_in left id) (same_file id) asked

pub record AreListed (ids : List FileId) (i : ℕ) (set : List FileId) : Type 0 where
  pub noted : IsNoting (is_in []) (is_in set) same_file ids i

pub listed_start : (ids set : List FileId) → set ≡ [] → AreListed ids 0 set
listed_start ids set none = rw none (record { noted = note_start (is_in []) same_file ids })

pub listed_step : (ids : List FileId) (i : ℕ) (now next : List FileId) (id : FileId) → AreListed ids i now → i < length ids → id ≡ get_or ids i id → ((other : FileId) → is_in next other ≡ (if same_file id other then true else is_in now other)) → AreListed ids (i + 1) next
listed_step ids i now next id so low is more = record { noted = note_step (is_in []) (is_in now) (is_in next) same_file ids i id so.noted low is (λ other. more other ∙ by other (same_file id other) refl) }
  where
    by : (other : FileId) (b : Bool) → same_file id other ≡ b → (if same_file id other then true else is_in now other) ≡ (is_in now other || same_file other id)
    by other true e = rw (e, same_turned id other true e) (sym (or_true (is_in now other)))
    by other false e = rw (e, same_turned id other false e) (sym (or_false (is_in now other)))

pub listed_end : (ids : List FileId) (i : ℕ) (set : List FileId) → AreListed ids i set → length ids ≤ i → (id : FileId) → is_in set id ≡ is_in ids id
listed_end ids i set so past id = note_end (is_in []) (is_in set) same_file ids i so.noted past id

pub record AreGone (before ids : List FileId) (i : ℕ) (left : List FileId) : Type 0 where
  pub each : (id : FileId) → is_in left id ≡ (is_in before id && not (is_in (take i ids) id))

pub gone_start : (before ids : List FileId) → AreGone before ids 0 before
gone_start before ids = record { each = λ id. same (is_in before id) }
  where
    same : (a : Bool) → a ≡ (a && true)
    same true = refl
    same false = refl

pub gone_step : (before ids : List FileId) (i : ℕ) (now next : List FileId) (id : FileId) → AreGone before ids i now → i < length ids → id ≡ get_or ids i id → ((other : FileId) → is_in next other ≡ (if same_file id other then false else is_in now other)) → AreGone before ids (i + 1) next
gone_step before ids i now next id so low is less = record { each = λ other. less other ∙ by other (same_file id other) refl }
  where
    more : (other : FileId) → is_in (take (i + 1) ids) other ≡ (is_in (take i ids) other || same_file other id)
    more other = list_any_more (same_file other) ids i id low ∙ ap (λ (x : FileId). is_in (take i ids) other || same_file other x) (sym is)

    by : (other : FileId) (b : Bool) → same_file id other ≡ b → (if same_file id other then false else is_in now other) ≡ (is_in before other && not (is_in (take (i + 1) ids) other))
    by other true e = rw (e, more other, same_turned id other true e, or_true (is_in (take i ids) other)) (sym (and_false (is_in before other)))
    by other false e = rw (e, more other, same_turned id other false e, or_false (is_in (take i ids) other)) (so.each other)

pub gone_end : (before ids : List FileId) (i : ℕ) (left : List FileId) → AreGone before ids i left → length ids ≤ i → (id : FileId) → is_in left id ≡ (is_in before id && not (is_in ids id))
gone_end before ids i left so past id = so.each id ∙ ap (λ (xs : List FileId). is_in before id && not (is_in xs id)) (take_all i ids past)

pub ruleset takes = (taken_start, taken_step, taken_end, listed_start, listed_step, listed_end, gone_start, gone_step, gone_end)

-- ---- what is left and taken

pub left_then : (before next left asked : List FileId) → ((id : FileId) → is_in next id ≡ (is_in before id && is_in asked id)) → ((id : FileId) → is_in left id ≡ (is_in before id && not (is_in next id))) → (id : FileId) → is_in left id ≡ (is_in before id && not (is_in asked id))
left_then before next left asked taken gone id = gone id ∙ ap (λ b. is_in before id && not b) (taken id) ∙ same (is_in before id) (is_in asked id)
  where
    same : (a b : Bool) → (a && not (a && b)) ≡ (a && not b)
    same true b = refl
    same false b = refl

pub left_first : (all set left first : List FileId) → ((id : FileId) → is_in set id ≡ is_in all id) → ((id : FileId) → is_in left id ≡ (is_in set id && not (is_in first id))) → (id : FileId) → is_in left id ≡ (is_in all id && not (is_in first id))
left_first all set left first same gone id = gone id ∙ ap (λ b. b && not (is_in first id)) (same id)

pub ruleset ends = (left_then, left_first)
