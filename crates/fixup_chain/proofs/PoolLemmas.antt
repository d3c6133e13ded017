-- The rows of imports and the pool of their names, appended one after the other.
use Rattle.std.proofs.Common.{◌≡◌, ℕ, zero, suc, slice_get, Option, ◌+◌, ◌<◌, ◌≤◌, Bool, true, false, List, [], ◌∷◌, ◌++◌, length, get_or, take, drop, refl, sym, ap, ◌∙◌, append_assoc, append-nil, length-append}
use Rattle.std.specs.List.{flat_map}
use Rattle.std.proofs.lemmas.List.{drop_all, drop_more, take_all, take_more}
use Rattle.std.proofs.lemmas.List.Concat.{flat_map-append}
use Rattle.fixup_chain.specs.ImportOrder.{Import}
use Rattle.fixup_chain.specs.Imports.{last_name, names_with_nul, pool_of}
use Rattle.fixup_chain.specs.Pool.{row_bytes, rows_from}
use Rattle.fixup_chain.specs.declared.import_row.ImportRow.{ImportRow}
use Rattle.fixup_chain.specs.inner.Held.{name_before}
use Rattle.fixup_chain.specs.inner.Rows.{bytes_of, row_at, rows_at}

pub record IsPooling (imports : List Import) (at : ℕ) (made : List ImportRow) (names : List ℕ) : Type 0 where
  pub rows : made ++ rows_at (length names) (drop at imports) ≡ rows_at 1 imports
  pub pool : names ++ names_with_nul (drop at imports) ≡ pool_of imports

pub pooling_starts : (imports : List Import) (none : List ℕ) (rows : List ImportRow) (pool : List ℕ) → rows ≡ [] → none ≡ [] → pool ≡ none ++ 0 ∷ [] → IsPooling imports 0 rows pool
pooling_starts imports none rows pool e f g =
    let is : pool ≡ 0 ∷ [] = g ∙ ap (λ (xs : List ℕ). xs ++ 0 ∷ []) f in
    record { rows = rw (e, is) refl; pool = rw is refl }

row_first : (place : ℕ) (x : Import) (rest : List Import) → rows_at place (x ∷ rest) ≡ row_at place x ∷ rows_at (place + length (last_name x rest)) rest
unfolding rows_at
row_first place x rest = refl

no_rows : (place : ℕ) → rows_at place [] ≡ []
unfolding rows_at
no_rows place = refl

name_first : (x : Import) (rest : List Import) → names_with_nul (x ∷ rest) ≡ last_name x rest ++ names_with_nul rest
unfolding names_with_nul
name_first x rest = refl

no_names : names_with_nul [] ≡ []
unfolding names_with_nul
no_names = refl

there : (imports : List Import) (i : ℕ) (x : Import) → i < length imports → x ≡ get_or imports i x → drop i imports ≡ x ∷ drop (i + 1) imports
there xs i x low is = drop_more xs i x low ∙ ap (λ y. y ∷ drop (i + 1) xs) (sym is)

before_is : (x : Import) (xs : List Import) (k : ℕ) → name_before x (slice_get xs k) ≡ last_name x (drop k xs)
unfolding name_before last_name
before_is x [] zero = refl
before_is x [] (suc k) = refl
before_is x (y ∷ ys) zero = refl
before_is x (y ∷ ys) (suc k) = before_is x ys k

pub pooling_goes_on : (imports : List Import) (at : ℕ) (rows new_rows : List ImportRow) (pool new_pool : List ℕ) (x : Import) (next : Option Import) → IsPooling imports at rows pool → at < length imports → x ≡ get_or imports at x → new_rows ≡ rows ++ row_at (length pool) x ∷ [] → next ≡ slice_get imports (at + 1) → new_pool ≡ pool ++ name_before x next → IsPooling imports (at + 1) new_rows new_pool
pooling_goes_on imports at rows new_rows pool new_pool x next pooling within is r g p =
    let rest = drop (at + 1) imports in
    let split : drop at imports ≡ x ∷ rest = there imports at x within is in
    let more : new_pool ≡ pool ++ last_name x rest = p ∙ ap (λ (o : Option Import). pool ++ name_before x o) g ∙ ap (λ (z : List ℕ). pool ++ z) (before_is x imports (at + 1)) in
    let size : length new_pool ≡ length pool + length (last_name x rest) = ap length more ∙ length-append pool (last_name x rest) in
    record {
      rows =
          ap (λ (z : List ImportRow). z ++ rows_at (length new_pool) rest) r
          ∙ ap (λ (n : ℕ). (rows ++ row_at (length pool) x ∷ []) ++ rows_at n rest) size
          ∙ append_assoc rows (row_at (length pool) x ∷ []) (rows_at (length pool + length (last_name x rest)) rest)
          ∙ ap (λ (z : List ImportRow). rows ++ z) (sym (ap (rows_at (length pool)) split ∙ row_first (length pool) x rest))
          ∙ pooling.rows;
      pool =
          ap (λ (z : List ℕ). z ++ names_with_nul rest) more
          ∙ append_assoc pool (last_name x rest) (names_with_nul rest)
          ∙ ap (λ (z : List ℕ). pool ++ z) (sym (ap names_with_nul split ∙ name_first x rest))
          ∙ pooling.pool;
    }

pub rows_end : (imports : List Import) (at : ℕ) (rows : List ImportRow) (pool : List ℕ) → IsPooling imports at rows pool → length imports ≤ at → rows ≡ rows_at 1 imports
rows_end imports at rows pool pooling past =
    sym (append-nil rows) ∙ ap (λ (z : List ImportRow). rows ++ z) (sym (ap (rows_at (length pool)) (drop_all at imports past) ∙ no_rows (length pool))) ∙ pooling.rows

pub pool_end : (imports : List Import) (at : ℕ) (rows : List ImportRow) (pool : List ℕ) → IsPooling imports at rows pool → length imports ≤ at → pool ≡ pool_of imports
pool_end imports at rows pool pooling past =
    sym (append-nil pool) ∙ ap (λ (z : List ℕ). pool ++ z) (sym (ap names_with_nul (drop_all at imports past) ∙ no_names)) ∙ pooling.pool

pub ruleset pooling = (pooling_starts, pooling_goes_on, rows_end, pool_end)

-- ---- their bytes

bytes_at : (wide : Bool) (place : ℕ) (x : Import) → bytes_of wide (row_at place x) ≡ row_bytes wide place x
unfolding bytes_of row_bytes
bytes_at true place x = refl
bytes_at false place x = refl

pub bytes_are : (wide : Bool) (place : ℕ) (imports : List Import) → flat_map (bytes_of wide) (rows_at place imports) ≡ rows_from wide place imports
unfolding rows_at rows_from
bytes_are wide place [] = refl
bytes_are wide place (x ∷ rest) =
    ap (λ (z : List ℕ). z ++ flat_map (bytes_of wide) (rows_at (place + length (last_name x rest)) rest)) (bytes_at wide place x)
    ∙ ap (λ (z : List ℕ). row_bytes wide place x ++ z) (bytes_are wide (place + length (last_name x rest)) rest)

pub as_many : (place : ℕ) (imports : List Import) → length (rows_at place imports) ≡ length imports
unfolding rows_at
as_many place [] = refl
as_many place (x ∷ rest) = ap suc (as_many (place + length (last_name x rest)) rest)

-- ---- one after the other

pub bytes_more : (wide : Bool) (rows : List ImportRow) (at : ℕ) (made new : List ℕ) (row : ImportRow) → made ≡ flat_map (bytes_of wide) (take at rows) → at < length rows → row ≡ get_or rows at row → new ≡ made ++ bytes_of wide row → new ≡ flat_map (bytes_of wide) (take (at + 1) rows)
bytes_more wide rows at made new row all within is grown =
    grown
    ∙ ap (λ (z : List ℕ). z ++ bytes_of wide row) all
    ∙ ap (λ (r : ImportRow). flat_map (bytes_of wide) (take at rows) ++ bytes_of wide r) is
    ∙ ap (λ (z : List ℕ). flat_map (bytes_of wide) (take at rows) ++ z) (sym (append-nil (bytes_of wide (get_or rows at row))))
    ∙ sym (ap (flat_map (bytes_of wide)) (take_more rows at row within) ∙ flat_map-append (bytes_of wide) (take at rows) (get_or rows at row ∷ []))

pub bytes_end : (wide : Bool) (rows : List ImportRow) (at : ℕ) (made : List ℕ) → made ≡ flat_map (bytes_of wide) (take at rows) → length rows ≤ at → made ≡ flat_map (bytes_of wide) rows
bytes_end wide rows at made all past = all ∙ ap (flat_map (bytes_of wide)) (take_all at rows past)

pub ruleset rowing = (bytes_more, bytes_end)
