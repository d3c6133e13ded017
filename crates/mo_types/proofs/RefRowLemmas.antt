-- Rows of references.
use Rattle.std.proofs.Common.{ℕ, ◌≡◌, ◌+◌, ◌≤◌, ◌++◌, [], ◌∷◌, List, length, slice_get, Some, refl, ap, ◌∙◌, arith, length-append}
use Rattle.mo_types.specs.declared.key.FileId.{FileId}
use Rattle.mo_types.specs.declared.reference.Ref.{Ref}
use Rattle.mo_types.specs.declared.ref_row.Row.{Row}
use Rattle.mo_types.specs.declared.ref_row.Row.TheVariants.{Name, Difference, Other}
use Rattle.mo_types.specs.inner.RefRows.{ref_of, refs_of_rows, no_ref, IsRowWithin, AreRowsWithin}
use Rattle.std.proofs.Common.{suc, zero, unwrap_or, subst}
use Rattle.std.proofs.Common.{Bool, ◌||◌, sym}
use Rattle.std.specs.List.{list_any}
use Rattle.std.specs.Option.{option_map}
use Rattle.std.proofs.Math.Bool.{or-false}
use Rattle.std.proofs.lemmas.List.Folds.{list_any-append}
use Rattle.mo_types.specs.LocalEnds.{has_local}
use Rattle.std.proofs.Math.Seq.{get_or-append_seam}
use Rattle.std.proofs.lemmas.List.{get_or_append_left, map-append}
use Rattle.std.proofs.lemmas.Option.{slice_get-map, slice_get_within}

-- a row stands for the same where more references are kept whole
row_kept : (file : FileId) (others more : List Ref) (row : Row) → IsRowWithin (length others) row → ref_of file (others ++ more) row ≡ ref_of file others row
unfolding ref_of
row_kept file others more (Name spot symbol) within = refl
row_kept file others more (Difference spot symbol minus) within = refl
row_kept file others more (Other index) within = get_or_append_left others more no_ref index within

pub rows_kept : (file : FileId) (others more : List Ref) (rows : List Row) → AreRowsWithin (length others) rows → refs_of_rows file (others ++ more) rows ≡ refs_of_rows file others rows
rows_kept file others more [] within = refl
rows_kept file others more (row ∷ rows) within = rw (row_kept file others more row within.0, rows_kept file others more rows within.1) refl

-- one more row
pub push_row : (file : FileId) (others : List Ref) (rows more : List Row) (row : Row) (reference : Ref) → more ≡ rows ++ row ∷ [] → ref_of file others row ≡ reference → refs_of_rows file others more ≡ refs_of_rows file others rows ++ reference ∷ []
push_row file others rows more row reference is same =
    ap (refs_of_rows file others) is ∙ map-append (ref_of file others) rows (row ∷ []) ∙ ap (λ x. refs_of_rows file others rows ++ x ∷ []) same

within_more : (count : ℕ) (rows : List Row) (row : Row) → AreRowsWithin count rows → IsRowWithin count row → AreRowsWithin count (rows ++ row ∷ [])
within_more count [] row within is = (is, tt)
within_more count (first ∷ rows) row within is = (within.0, within_more count rows row within.1 is)

pub push_within : (count : ℕ) (rows more : List Row) (row : Row) → AreRowsWithin count rows → more ≡ rows ++ row ∷ [] → IsRowWithin count row → AreRowsWithin count more
push_within count rows more row within is fits = rw is (within_more count rows row within fits)

row_within_more : (count more : ℕ) (row : Row) → count ≤ more → IsRowWithin count row → IsRowWithin more row
row_within_more count more (Name spot symbol) fewer within = tt
row_within_more count more (Difference spot symbol minus) fewer within = tt
row_within_more count more (Other index) fewer within = omega (arith, within, fewer)

within_of_more : (count more : ℕ) (rows : List Row) → count ≤ more → AreRowsWithin count rows → AreRowsWithin more rows
within_of_more count more [] fewer within = tt
within_of_more count more (row ∷ rows) fewer within = (row_within_more count more row fewer within.0, within_of_more count more rows fewer within.1)

pub push_other : (file : FileId) (others others2 : List Ref) (rows rows2 : List Row) (reference : Ref) → AreRowsWithin (length others) rows → rows2 ≡ rows ++ Other (length others) ∷ [] → others2 ≡ others ++ reference ∷ [] → refs_of_rows file others2 rows2 ≡ refs_of_rows file others rows ++ reference ∷ []
unfolding ref_of
push_other file others others2 rows rows2 reference within is kept =
    ap (λ xs. refs_of_rows file xs rows2) kept
    ∙ push_row file (others ++ reference ∷ []) rows rows2 (Other (length others)) reference is (get_or-append_seam others reference [] no_ref)
    ∙ ap (λ xs. xs ++ reference ∷ []) (rows_kept file others (reference ∷ []) rows within)

pub push_other_within : (others others2 : List Ref) (rows rows2 : List Row) (reference : Ref) → AreRowsWithin (length others) rows → rows2 ≡ rows ++ Other (length others) ∷ [] → others2 ≡ others ++ reference ∷ [] → AreRowsWithin (length others2) rows2
push_other_within others others2 rows rows2 reference within is kept =
    let count : length others2 ≡ length others + 1 = ap length kept ∙ length-append others (reference ∷ []) in
    rw (count, is) (within_more (length others + 1) rows (Other (length others)) (within_of_more (length others) (length others + 1) rows (omega arith) within) (omega arith))

pub ruleset pushes = (push_row, push_within, push_other, push_other_within)

-- whether one of more references leads straight to an atom
pub has_local_more : (refs more : List Ref) (reference : Ref) (before : Bool) → more ≡ refs ++ reference ∷ [] → before ≡ list_any has_local refs → (before || has_local reference) ≡ list_any has_local more
has_local_more refs more reference before is same =
    rw (is, same) (sym (list_any-append has_local refs (reference ∷ []) ∙ ap (λ b. list_any has_local refs || b) (or-false (has_local reference))))

pub ruleset flags = (has_local_more)

-- the row at a place is within
pub row_at_within : (count : ℕ) (rows : List Row) (at : ℕ) (row : Row) → AreRowsWithin count rows → slice_get rows at ≡ Some row → IsRowWithin count row
row_at_within count [] at row within is = absurd (omega (arith, slice_get_within [] at row is))
row_at_within count (first ∷ rows) zero row within is = subst (IsRowWithin count) (ap (λ o. unwrap_or o first) is) within.0
row_at_within count (first ∷ rows) (suc at) row within is = row_at_within count rows at row within.1 is

pub get_row : (file : FileId) (others : List Ref) (rows : List Row) (at : ℕ) → slice_get (refs_of_rows file others rows) at ≡ option_map (ref_of file others) (slice_get rows at)
get_row file others rows at = slice_get-map (ref_of file others) rows at

pub ruleset gets = (row_at_within, get_row)
