-- A table with one row more.
use Rattle.std.proofs.Common.{◌≡◌, ℕ, suc, ◌+◌, ◌-◌, ◌≤◌, List, [], ◌∷◌, ◌++◌, All, length, get_or, take, drop, refl, ◌∙◌, ap, ap₂, arith, length-append, length-drop}
use Rattle.std.proofs.lemmas.List.{drop-append-le, map-append, take-append-le, take_all}
use Rattle.std.proofs.lemmas.List.Elements.{All-append, All-cons, All-nil, All-same}
use Rattle.std.proofs.Math.Seq.{drop-append_seam}
use Rattle.mark_race.specs.declared.ends.Places.{Places}
use Rattle.mark_race.specs.inner.Rows.{IsWithin, row_at, rows}

-- what stands behind the ends of a row is of no matter to it
row_longer : (ends row : List ℕ) (p : Places) → IsWithin (length ends) p → row_at (ends ++ row) p ≡ row_at ends p
row_longer ends row p is =
    ap (take (p.to - p.from)) (drop-append-le p.from ends row (omega (arith, is.rise, is.within))) ∙ take-append-le (p.to - p.from) (drop p.from ends) row (omega (arith, is.rise, is.within, length-drop p.from ends))

rows_longer : (ends row : List ℕ) (ps : List Places) → All (IsWithin (length ends)) ps → rows (ends ++ row) ps ≡ rows ends ps
rows_longer ends row [] all = refl
rows_longer ends row (p ∷ ps) all = ap₂ (λ (r : List ℕ) (rs : List (List ℕ)). r ∷ rs) (row_longer ends row p (all 0 p (omega arith))) (rows_longer ends row ps (λ k d low. all (suc k) d (omega arith)))

row_last : (ends row : List ℕ) (p : Places) → p.from ≡ length ends → p.to ≡ length ends + length row → row_at (ends ++ row) p ≡ row
row_last ends row p from to =
    let behind : drop p.from (ends ++ row) ≡ row = ap (λ (n : ℕ). drop n (ends ++ row)) from ∙ drop-append_seam ends row in
    ap (take (p.to - p.from)) behind ∙ take_all (p.to - p.from) row (omega (arith, from, to))

pub table_more : (ends new row : List ℕ) (ps more : List Places) (p : Places) → All (IsWithin (length ends)) ps → new ≡ ends ++ row → more ≡ ps ++ p ∷ [] → p.from ≡ length ends → p.to ≡ length new → rows new more ≡ rows ends ps ++ row ∷ []
table_more ends new row ps more p all longer grown from to =
    let to' : p.to ≡ length ends + length row = omega (arith, to, ap length longer, length-append ends row) in
    ap₂ rows longer grown ∙ (map-append (row_at (ends ++ row)) ps (p ∷ []) ∙ ap₂ (λ (rs : List (List ℕ)) (r : List ℕ). rs ++ r ∷ []) (rows_longer ends row ps all) (row_last ends row p from to'))

within_longer : (n m : ℕ) → n ≤ m → (ps : List Places) → All (IsWithin n) ps → All (IsWithin m) ps
within_longer n m le ps all k d low = let is : IsWithin n (get_or ps k d) = all k d low in record { rise = is.rise; within = omega (arith, is.within, le) }

pub within_more : (ends new row : List ℕ) (ps more : List Places) (p : Places) → All (IsWithin (length ends)) ps → new ≡ ends ++ row → more ≡ ps ++ p ∷ [] → p.from ≡ length ends → p.to ≡ length new → All (IsWithin (length new)) more
within_more ends new row ps more p all longer grown from to =
    let le : length ends ≤ length new = omega (arith, ap length longer, length-append ends row) in
    All-same (IsWithin (length new)) more (ps ++ p ∷ []) grown
    (All-append (IsWithin (length new)) ps (p ∷ []) (within_longer (length ends) (length new) le ps all) (All-cons (IsWithin (length new)) p [] (record { rise = omega (arith, from, to, le); within = omega (arith, to) }) (All-nil (IsWithin (length new)))))

pub ruleset tables = (table_more, within_more)
