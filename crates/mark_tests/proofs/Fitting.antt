-- What holds of the elements of a list so far.
use Rattle.std.proofs.Common.{◌≡◌, ℕ, ◌+◌, ◌<◌, ◌≤◌, List, [], ◌∷◌, ◌++◌, All, length, get_or, take, sym, ap, subst, arith}
use Rattle.std.proofs.lemmas.List.{take_all, take_more}
use Rattle.std.proofs.lemmas.List.Elements.{All-append, All-cons, All-nil, All-same}
use Rattle.mark_race.specs.Marks.{Holding, Race}

pub row_start : (row : List ℕ) (count : ℕ) → All (λ atom. atom < count) (take 0 row)
row_start row count = All-nil (λ (atom : ℕ). atom < count)

pub row_more : (row : List ℕ) (i count : ℕ) → All (λ atom. atom < count) (take i row) → i < length row → get_or row i 0 < count → All (λ atom. atom < count) (take (i + 1) row)
row_more row i count so low here = All-same (λ (atom : ℕ). atom < count) (take (i + 1) row) (take i row ++ get_or row i 0 ∷ []) (take_more row i 0 low) (All-append (λ (atom : ℕ). atom < count) (take i row) (get_or row i 0 ∷ []) so (All-cons (λ (atom : ℕ). atom < count) (get_or row i 0) [] here (All-nil (λ (atom : ℕ). atom < count))))

pub row_end : (row : List ℕ) (i count : ℕ) → All (λ atom. atom < count) (take i row) → length row ≤ i → All (λ atom. atom < count) row
row_end row i count so past = subst (All (λ (atom : ℕ). atom < count)) (take_all i row past) so

pub ruleset row_steps = (row_start, row_more, row_end)

pub table_start : (rows : List (List ℕ)) (count : ℕ) → All (λ row. All (λ atom. atom < count) row) (take 0 rows)
table_start rows count = All-nil (λ (row : List ℕ). All (λ atom. atom < count) row)

pub table_more : (rows : List (List ℕ)) (row : List ℕ) (i count : ℕ) → All (λ row. All (λ atom. atom < count) row) (take i rows) → i < length rows → row ≡ get_or rows i [] → All (λ atom. atom < count) row → All (λ row. All (λ atom. atom < count) row) (take (i + 1) rows)
table_more rows row i count so low is here =
    let at : All (λ (atom : ℕ). atom < count) (get_or rows i []) = subst (All (λ (atom : ℕ). atom < count)) is here in
    All-same (λ (row : List ℕ). All (λ atom. atom < count) row) (take (i + 1) rows) (take i rows ++ get_or rows i [] ∷ []) (take_more rows i [] low) (All-append (λ (row : List ℕ). All (λ atom. atom < count) row) (take i rows) (get_or rows i [] ∷ []) so (All-cons (λ (row : List ℕ). All (λ atom. atom < count) row) (get_or rows i []) [] at (All-nil (λ (row : List ℕ). All (λ atom. atom < count) row))))

pub table_end : (rows : List (List ℕ)) (i count : ℕ) → All (λ row. All (λ atom. atom < count) row) (take i rows) → length rows ≤ i → All (λ row. All (λ atom. atom < count) row) rows
table_end rows i count so past = subst (All (λ (row : List ℕ). All (λ atom. atom < count) row)) (take_all i rows past) so

pub ruleset table_steps = (table_start, table_more, table_end)

-- a list of one marker
pub one_marker : (race : Race) (markers : List Holding) (marker : Holding) → markers ≡ marker ∷ [] → marker.race ≡ race → All (λ m. m.race ≡ race) markers
one_marker race markers marker is own = subst (All (λ (m : Holding). m.race ≡ race)) (sym is) (All-cons (λ (m : Holding). m.race ≡ race) marker [] own (All-nil (λ (m : Holding). m.race ≡ race)))
