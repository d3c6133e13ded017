-- The input at a position.
use Rattle.std.proofs.Common.{◌≡◌, ℕ, zero, suc, ◌-◌, ◌<◌, ◌≤◌, ◌==◌, ◌&&◌, ◌||◌, Bool, true, false, nat_lt, List, [], ◌∷◌, Option, Some, None, length, map, min, take, drop, find, refl, sym, ap, ◌∙◌, arith, eqb-true}
use Rattle.std.specs.Prelude.{if◌then◌else◌}
use Rattle.std.specs.List.{AllByRecursion, list_any}
use Rattle.std.specs.List.Sorted.{IsStrictlySortedBy}
use Rattle.std.specs.Ordering.{nat_cmp}
use Rattle.std.specs.declared.cmp.Ordering.TheVariants.{Less}
use Rattle.std.proofs.lemmas.Bool.{ltb-true, ltb-false}
use Rattle.std.proofs.lemmas.Cmp.{nat_cmp_total, tied_itself}
use Rattle.std.proofs.lemmas.List.{length-drop, take_min}
use Rattle.mo_ar.specs.Text.{part}
use Rattle.mo_types.specs.Scan.{first_some, option_or_else}
use Rattle.mo_types.specs.declared.key.FileId.{FileId}
use Rattle.input_files.specs.Files.{Content, content_in, content_of, is_first}
use Rattle.input_files.specs.Sources.{AreInOrder, inputs_of}
use Rattle.input_files.specs.declared.input.Input.{Input}
use Rattle.input_files.specs.declared.sources.Source.{Source}

pub other_position : (p q : ℕ) → nat_cmp p q ≡ Less → (q == p) ≡ false
other_position p q less = by (q == p) refl
  where
    by : (b : Bool) → (q == p) ≡ b → (q == p) ≡ false
    by true e = let same : q ≡ p = eqb-true q p e in absurd (let s : nat_cmp p p ≡ Less = ap (nat_cmp p) (sym same) ∙ less in let t = sym (tied_itself nat_cmp_total p) ∙ s in cc)
    by false e = e

module _ {B : Type 0} (h : Input → Option B) (p : ℕ) where
  abbrev at : Input → Option B
  at input = if input.position == p then h input else None

  none_later : (inputs : List Input) → AllByRecursion (λ q. nat_cmp p q ≡ Less) (map (λ input. input.position) inputs) → first_some at inputs ≡ None
  none_later [] later = refl
  none_later (input ∷ inputs) later = rw (other_position p input.position later.0) (none_later inputs later.1)

  alone : (o : Option B) → option_or_else o None ≡ o
  alone None = refl
  alone (Some v) = refl

  found_at : (sources : List Source) (source : Source) → AreInOrder (inputs_of sources) → find (λ s. s.input.position == p) sources ≡ Some source → first_some at (inputs_of sources) ≡ h source.input
  unfolding IsStrictlySortedBy
  found_at [] source order is = absurd (cc)
  found_at (s ∷ ss) source order is = by (found_at ss source order.1) (s.input.position == p) refl
    where
      by : (find (λ t. t.input.position == p) ss ≡ Some source → first_some at (inputs_of ss) ≡ h source.input) → (b : Bool) → (s.input.position == p) ≡ b → first_some at (inputs_of (s ∷ ss)) ≡ h source.input
      by rest true e =
          let here : Some s ≡ Some source = rw e at is in
          let same : s ≡ source = cc in
          let position : s.input.position ≡ p = eqb-true s.input.position p e in
          let nothing : first_some at (inputs_of ss) ≡ None = none_later (inputs_of ss) (rw position at order.0) in
          rw (e, nothing) (alone (h s.input) ∙ ap (λ (t : Source). h t.input) same)
      by rest false e = rw e (rest (rw e at is))

  missing_at : (sources : List Source) → find (λ s. s.input.position == p) sources ≡ None → first_some at (inputs_of sources) ≡ None
  missing_at [] is = refl
  missing_at (s ∷ ss) is = by (missing_at ss) (s.input.position == p) refl
    where
      by : (find (λ t. t.input.position == p) ss ≡ None → first_some at (inputs_of ss) ≡ None) → (b : Bool) → (s.input.position == p) ≡ b → first_some at (inputs_of (s ∷ ss)) ≡ None
      by rest true e = absurd (let t : Some s ≡ None = rw e at is in cc)
      by rest false e = rw e (rest (rw e at is))

pub content_there : (sources : List Source) (id : FileId) (source : Source) (content : Content) → AreInOrder (inputs_of sources) → Some source ≡ find (λ s. s.input.position == id.position) sources → Some content ≡ content_in source.input id.member → content ≡ content_of (inputs_of sources) id
unfolding content_of
content_there sources id source content order is has = rw (found_at (λ input. content_in input id.member) id.position sources source order (sym is), ← has) refl

pub content_none : (sources : List Source) (id : FileId) (source : Source) → AreInOrder (inputs_of sources) → Some source ≡ find (λ s. s.input.position == id.position) sources → None ≡ content_in source.input id.member → record { label = []; bytes = [] } ≡ content_of (inputs_of sources) id
unfolding content_of
content_none sources id source order is has = rw (found_at (λ input. content_in input id.member) id.position sources source order (sym is), ← has) refl

pub content_gone : (sources : List Source) (id : FileId) → None ≡ find (λ s. s.input.position == id.position) sources → record { label = []; bytes = [] } ≡ content_of (inputs_of sources) id
unfolding content_of
content_gone sources id is = rw (missing_at (λ input. content_in input id.member) id.position sources (sym is)) refl

module _ (t : Input → Bool) (p : ℕ) where
  abbrev holds : Input → Bool
  holds input = (input.position == p) && t input

  false_later : (inputs : List Input) → AllByRecursion (λ q. nat_cmp p q ≡ Less) (map (λ input. input.position) inputs) → list_any holds inputs ≡ false
  false_later [] later = refl
  false_later (input ∷ inputs) later = rw (other_position p input.position later.0) (false_later inputs later.1)

  or_nothing : (a : Bool) → (a || false) ≡ a
  or_nothing true = refl
  or_nothing false = refl

  tested_at : (sources : List Source) (source : Source) → AreInOrder (inputs_of sources) → find (λ s. s.input.position == p) sources ≡ Some source → list_any holds (inputs_of sources) ≡ t source.input
  unfolding IsStrictlySortedBy
  tested_at [] source order is = absurd (cc)
  tested_at (s ∷ ss) source order is = by (tested_at ss source order.1) (s.input.position == p) refl
    where
      by : (find (λ t. t.input.position == p) ss ≡ Some source → list_any holds (inputs_of ss) ≡ t source.input) → (b : Bool) → (s.input.position == p) ≡ b → list_any holds (inputs_of (s ∷ ss)) ≡ t source.input
      by rest true e =
          let here : Some s ≡ Some source = rw e at is in
          let same : s ≡ source = cc in
          let position : s.input.position ≡ p = eqb-true s.input.position p e in
          let nothing : list_any holds (inputs_of ss) ≡ false = false_later (inputs_of ss) (rw position at order.0) in
          rw (e, nothing) (or_nothing (t s.input) ∙ ap (λ (u : Source). t u.input) same)
      by rest false e = rw e (rest (rw e at is))

  untested_at : (sources : List Source) → find (λ s. s.input.position == p) sources ≡ None → list_any holds (inputs_of sources) ≡ false
  untested_at [] is = refl
  untested_at (s ∷ ss) is = by (untested_at ss) (s.input.position == p) refl
    where
      by : (find (λ t. t.input.position == p) ss ≡ None → list_any holds (inputs_of ss) ≡ false) → (b : Bool) → (s.input.position == p) ≡ b → list_any holds (inputs_of (s ∷ ss)) ≡ false
      by rest true e = absurd (let u : Some s ≡ None = rw e at is in cc)
      by rest false e = rw e (rest (rw e at is))

pub first_there : (sources : List Source) (id : FileId) (source : Source) (result : Bool) → AreInOrder (inputs_of sources) → Some source ≡ find (λ s. s.input.position == id.position) sources → result ≡ ((id.member == 0) || source.input.forced) → result ≡ is_first (inputs_of sources) id
unfolding is_first
first_there sources id source result order is answer = answer ∙ sym (tested_at (λ input. (id.member == 0) || input.forced) id.position sources source order (sym is))

pub first_gone : (sources : List Source) (id : FileId) → None ≡ find (λ s. s.input.position == id.position) sources → false ≡ is_first (inputs_of sources) id
unfolding is_first
first_gone sources id is = sym (untested_at (λ input. (id.member == 0) || input.forced) id.position sources (sym is))

-- ---- parts

drop_past : {X : Type 0} (n : ℕ) (xs : List X) → length xs ≤ n → drop n xs ≡ []
drop_past zero [] past = refl
drop_past zero (x ∷ xs) past = absurd (omega (arith, past))
drop_past (suc n) [] past = refl
drop_past (suc n) (x ∷ xs) past = drop_past n xs (omega (arith, past))

nothing : {X : Type 0} (k : ℕ) → take {A = X} k [] ≡ []
nothing zero = refl
nothing (suc k) = refl

pub part_is : (bytes some : List ℕ) (from size start count : ℕ) → start ≡ min (length bytes) from → count ≡ min (length bytes - start) size → some ≡ take count (drop start bytes) → some ≡ part bytes from size
part_is bytes some from size start count starts counts is = by (nat_lt from (length bytes)) refl
  where
    by : (b : Bool) → nat_lt from (length bytes) ≡ b → some ≡ part bytes from size
    by true e =
        let low : from < length bytes = ltb-true from (length bytes) e in
        let same : start ≡ from = omega (arith, starts, low) in
        let n : count ≡ min size (length (drop from bytes)) = omega (arith, counts, same, length-drop from bytes) in
        is ∙ ap (λ (s : ℕ). take count (drop s bytes)) same ∙ ap (λ (c : ℕ). take c (drop from bytes)) n ∙ take_min size (drop from bytes)
    by false e =
        let high : length bytes ≤ from = ltb-false from (length bytes) e in
        let end : start ≡ length bytes = omega (arith, starts, high) in
        is ∙ ap (take count) (drop_past start bytes (omega (arith, end))) ∙ nothing count ∙ sym (ap (take size) (drop_past from bytes high) ∙ nothing size)

pub ruleset parts = (part_is)

pub ruleset places = (content_there, content_none, content_gone, first_there, first_gone)
