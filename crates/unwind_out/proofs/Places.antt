-- Loops over the rows at some places.
use Rattle.std.proofs.Common.{◌≡◌, ℕ, zero, suc, ◌+◌, ◌*◌, ◌-◌, ◌<◌, ◌≤◌, ◌==◌, ltb, Bool, true, false, List, [], ◌∷◌, ◌++◌, length, Option, Some, None, refl, sym, ap, ◌∙◌, arith}
use Rattle.std.specs.Option.{option_or}
use Rattle.std.proofs.Math.Nat.{mul-suc}
use Rattle.std.proofs.Math.Numerals.{add-one}
use Rattle.std.proofs.lemmas.Bool.{lt-ltb, ltb-true, le-ltb, ltb-false, lt-leb, leb-false}
use Rattle.image_format.specs.declared.unwind.RegularPageEntry.{RegularPageEntry}
use Rattle.image_format.specs.declared.unwind.UnwindLsdaEntry.{UnwindLsdaEntry}
use Rattle.unwind_out.specs.Lookup.{each_at, lies, greater, before, row_at, lsda_row, lsda_found}

pub greater_none : (best : Option RegularPageEntry) → greater best None ≡ best
greater_none None = refl
greater_none (Some row) = refl

greater_left : (x y : RegularPageEntry) → ltb y.function_offset x.function_offset ≡ true → greater (Some x) (Some y) ≡ Some x
greater_left x y e = rw e refl

greater_right : (x y : RegularPageEntry) → ltb y.function_offset x.function_offset ≡ false → greater (Some x) (Some y) ≡ Some y
greater_right x y e = rw e refl

assoc_by : (x y z : RegularPageEntry) (xy yz : Bool) → ltb y.function_offset x.function_offset ≡ xy → ltb z.function_offset y.function_offset ≡ yz → greater (greater (Some x) (Some y)) (Some z) ≡ greater (Some x) (greater (Some y) (Some z))
assoc_by x y z true true e h =
    let first = ltb-true y.function_offset x.function_offset e in
    let second = ltb-true z.function_offset y.function_offset h in
    let low : ltb z.function_offset x.function_offset ≡ true = lt-ltb z.function_offset x.function_offset (omega arith) in
    ap (λ (g : Option RegularPageEntry). greater g (Some z)) (greater_left x y e) ∙ greater_left x z low ∙ sym (greater_left x y e) ∙ ap (greater (Some x)) (sym (greater_left y z h))
assoc_by x y z true false e h =
    ap (λ (g : Option RegularPageEntry). greater g (Some z)) (greater_left x y e) ∙ ap (greater (Some x)) (sym (greater_right y z h))
assoc_by x y z false true e h =
    ap (λ (g : Option RegularPageEntry). greater g (Some z)) (greater_right x y e) ∙ greater_left y z h ∙ sym (greater_right x y e) ∙ ap (greater (Some x)) (sym (greater_left y z h))
assoc_by x y z false false e h =
    let first = ltb-false y.function_offset x.function_offset e in
    let second = ltb-false z.function_offset y.function_offset h in
    let high : ltb z.function_offset x.function_offset ≡ false = le-ltb z.function_offset x.function_offset (omega arith) in
    ap (λ (g : Option RegularPageEntry). greater g (Some z)) (greater_right x y e) ∙ greater_right y z h ∙ sym (greater_right x z high) ∙ ap (greater (Some x)) (sym (greater_right y z h))

pub greater_assoc : (a b c : Option RegularPageEntry) → greater (greater a b) c ≡ greater a (greater b c)
greater_assoc None b c = refl
greater_assoc (Some x) None c = refl
greater_assoc (Some x) (Some y) None = greater_none (greater (Some x) (Some y))
greater_assoc (Some x) (Some y) (Some z) = assoc_by x y z (ltb y.function_offset x.function_offset) (ltb z.function_offset y.function_offset) refl refl

pub row_at-append : (offset : ℕ) (xs ys : List RegularPageEntry) → row_at offset (xs ++ ys) ≡ greater (row_at offset xs) (row_at offset ys)
unfolding row_at
row_at-append offset [] ys = refl
row_at-append offset (x ∷ xs) ys = ap (greater (before offset x)) (row_at-append offset xs ys) ∙ sym (greater_assoc (before offset x) (row_at offset xs) (row_at offset ys))

each_some : {A : Type 0} (f : ℕ → List A) (width at count left : ℕ) → count ≡ suc left → each_at f width at count ≡ f at ++ each_at f width (at + width) left
unfolding each_at
each_some f width at count left e = rw e refl

pub each_more : {A : Type 0} (f : ℕ → List A) (width at k count : ℕ) → k < count → each_at f width (at + width * k) (count - k) ≡ f (at + width * k) ++ each_at f width (at + width * (k + 1)) (count - (k + 1))
each_more f width at k count within =
    let left : count - k ≡ suc (count - (k + 1)) = omega arith in
    let product : width * (k + 1) ≡ width * k + width = rw add-one (mul-suc width k) in
    let next : (at + width * k) + width ≡ at + width * (k + 1) = omega arith in
    each_some f width (at + width * k) (count - k) (count - (k + 1)) left ∙ ap (λ (p : ℕ). f (at + width * k) ++ each_at f width p (count - (k + 1))) next

-- the best row so far, and what is still to come
pub record IsSeeking (f : ℕ → List RegularPageEntry) (width at count offset k : ℕ) (best : Option RegularPageEntry) : Type 0 where
  pub rest : greater best (row_at offset (each_at f width (at + width * k) (count - k))) ≡ row_at offset (each_at f width at count)

pub seeking_starts : (f : ℕ → List RegularPageEntry) (width at count offset : ℕ) → IsSeeking f width at count offset 0 None
seeking_starts f width at count offset = record { rest = let place : at + width * 0 ≡ at = omega arith in let all : count - 0 ≡ count = omega arith in rw (place, all) refl }

pub seeking_goes_on : (f : ℕ → List RegularPageEntry) (width at count offset k : ℕ) (best row new : Option RegularPageEntry) (place : ℕ) → IsSeeking f width at count offset k best → k < count → place ≡ at + width * k → row ≡ row_at offset (f place) → new ≡ greater best row → IsSeeking f width at count offset (k + 1) new
seeking_goes_on f width at count offset k best row new place seeking within here is e = record {
  rest =
      let later = row_at offset (each_at f width (at + width * (k + 1)) (count - (k + 1))) in
      let row_is : row ≡ row_at offset (f (at + width * k)) = is ∙ ap (λ (p : ℕ). row_at offset (f p)) here in
      ap (λ b. greater b later) (e ∙ ap (greater best) row_is)
      ∙ greater_assoc best (row_at offset (f (at + width * k))) later
      ∙ ap (greater best) (sym (ap (row_at offset) (each_more f width at k count within) ∙ row_at-append offset (f (at + width * k)) (each_at f width (at + width * (k + 1)) (count - (k + 1)))))
      ∙ seeking.rest;
}

none_left : {A : Type 0} (f : ℕ → List A) (width at left : ℕ) → left ≡ 0 → each_at f width at left ≡ []
unfolding each_at
none_left f width at left e = rw e refl

none_there : (offset : ℕ) (rows : List RegularPageEntry) → rows ≡ [] → row_at offset rows ≡ None
unfolding row_at
none_there offset rows e = rw e refl

pub seeking_ends : (f : ℕ → List RegularPageEntry) (width at count offset k : ℕ) (best : Option RegularPageEntry) → IsSeeking f width at count offset k best → count ≤ k → best ≡ row_at offset (each_at f width at count)
seeking_ends f width at count offset k best seeking past =
    let none : row_at offset (each_at f width (at + width * k) (count - k)) ≡ None = none_there offset (each_at f width (at + width * k) (count - k)) (none_left f width (at + width * k) (count - k) (omega arith)) in
    sym (greater_none best) ∙ ap (greater best) (sym none) ∙ seeking.rest

pub ruleset seeking = (seeking_starts, seeking_goes_on, seeking_ends)

-- ---- language-specific data

found_here : (row : UnwindLsdaEntry) (xs ys : List UnwindLsdaEntry) (function : ℕ) (same : Bool) → (row.function_offset == function) ≡ same → lsda_found (xs ++ ys) function ≡ option_or (lsda_found xs function) (lsda_found ys function) → lsda_found ((row ∷ xs) ++ ys) function ≡ option_or (lsda_found (row ∷ xs) function) (lsda_found ys function)
found_here row xs ys function true e later = rw e refl
found_here row xs ys function false e later = rw e later

pub lsda_found-append : (xs ys : List UnwindLsdaEntry) (function : ℕ) → lsda_found (xs ++ ys) function ≡ option_or (lsda_found xs function) (lsda_found ys function)
lsda_found-append [] ys function = refl
lsda_found-append (row ∷ xs) ys function = found_here row xs ys function (row.function_offset == function) refl (lsda_found-append xs ys function)

-- what is still to come, where nothing was found so far
pub record IsPassing (f : ℕ → List UnwindLsdaEntry) (width at count function k : ℕ) : Type 0 where
  pub rest : lsda_found (each_at f width (at + width * k) (count - k)) function ≡ lsda_found (each_at f width at count) function

pub passing_starts : (f : ℕ → List UnwindLsdaEntry) (width at count function : ℕ) → IsPassing f width at count function 0
passing_starts f width at count function = record { rest = let place : at + width * 0 ≡ at = omega arith in let all : count - 0 ≡ count = omega arith in rw (place, all) refl }

here_first : (f : ℕ → List UnwindLsdaEntry) (width at count function k : ℕ) (found : Option ℕ) → IsPassing f width at count function k → k < count → found ≡ lsda_found (f (at + width * k)) function → option_or found (lsda_found (each_at f width (at + width * (k + 1)) (count - (k + 1))) function) ≡ lsda_found (each_at f width at count) function
here_first f width at count function k found passing within is =
    let later = each_at f width (at + width * (k + 1)) (count - (k + 1)) in
    ap (λ o. option_or o (lsda_found later function)) is
    ∙ sym (lsda_found-append (f (at + width * k)) later function)
    ∙ ap (λ (xs : List UnwindLsdaEntry). lsda_found xs function) (sym (each_more f width at k count within))
    ∙ passing.rest

-- no row of the function lies at the place
pub passing_goes_on : (f : ℕ → List UnwindLsdaEntry) (width at count function k place : ℕ) (found : Option ℕ) → IsPassing f width at count function k → k < count → place ≡ at + width * k → found ≡ lsda_found (f place) function → found ≡ None → IsPassing f width at count function (k + 1)
passing_goes_on f width at count function k place found passing within here is none = record {
  rest =
      let later = lsda_found (each_at f width (at + width * (k + 1)) (count - (k + 1))) function in
      ap (λ o. option_or o later) (sym none)
      ∙ here_first f width at count function k found passing within (is ∙ ap (λ (p : ℕ). lsda_found (f p) function) here);
}

-- the row of the function lies there
pub passing_found : (f : ℕ → List UnwindLsdaEntry) (width at count function k place lsda : ℕ) (found : Option ℕ) → IsPassing f width at count function k → k < count → place ≡ at + width * k → found ≡ lsda_found (f place) function → found ≡ Some lsda → Some lsda ≡ lsda_found (each_at f width at count) function
passing_found f width at count function k place lsda found passing within here is some =
    let later = lsda_found (each_at f width (at + width * (k + 1)) (count - (k + 1))) function in
    ap (λ o. option_or o later) (sym some)
    ∙ here_first f width at count function k found passing within (is ∙ ap (λ (p : ℕ). lsda_found (f p) function) here)

pub passing_ends : (f : ℕ → List UnwindLsdaEntry) (width at count function k : ℕ) → IsPassing f width at count function k → count ≤ k → None ≡ lsda_found (each_at f width at count) function
passing_ends f width at count function k passing past =
    let none : each_at f width (at + width * k) (count - k) ≡ [] = none_left f width (at + width * k) (count - k) (omega arith) in
    sym (ap (λ (xs : List UnwindLsdaEntry). lsda_found xs function) none) ∙ passing.rest

none_past : (section : List ℕ) (at left : ℕ) → length section < at + 8 → each_at (lsda_row section) 8 at left ≡ []
unfolding each_at lsda_row
none_past section at zero past = refl
none_past section at (suc left) past =
    let away : lies section at 8 ≡ false = lt-leb (at + 8) (length section) past in
    rw away (none_past section (at + 8) left (omega arith))

-- the rows to come don't lie in the section
pub passing_past : (section : List ℕ) (at count function k place : ℕ) → IsPassing (lsda_row section) 8 at count function k → place ≡ at + 8 * k → lies section place 8 ≡ false → None ≡ lsda_found (each_at (lsda_row section) 8 at count) function
passing_past section at count function k place passing here away =
    let past : length section < place + 8 = leb-false (place + 8) (length section) away in
    let none : each_at (lsda_row section) 8 (at + 8 * k) (count - k) ≡ [] = none_past section (at + 8 * k) (count - k) (omega arith) in
    sym (ap (λ (xs : List UnwindLsdaEntry). lsda_found xs function) none) ∙ passing.rest

pub ruleset passing = (passing_starts, passing_goes_on, passing_found, passing_past, passing_ends)
