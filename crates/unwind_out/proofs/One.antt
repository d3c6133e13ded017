-- Functions have one section.
use Rattle.std.proofs.Common.{◌≡◌, ℕ, zero, suc, ◌+◌, ◌-◌, ◌^◌, ◌<◌, ◌≤◌, ◌&&◌, ltb, leb, Bool, true, false, List, [], ◌∷◌, length, take, drop, refl, sym, ap, subst, ◌∙◌, arith, length-drop}
use Rattle.std.specs.List.{AllByRecursion}
use Rattle.std.proofs.lemmas.Bool.{lt-ltb, ltb-true, leb-true, leb-false, le-leb, false≢true}
use Rattle.image_format.specs.declared.unwind.RegularPageEntry.{RegularPageEntry}
use Rattle.unwind_out.specs.declared.row.UnwindRow.{UnwindRow}
use Rattle.unwind_out.specs.Table.{personalities, rows_of, end_of, lsdas_of}
use Rattle.unwind_out.specs.Pages.{encodings, first_function, IsNear, IsCompressible, IsMost, page_length, IsFirstPage, ArePages, section_bytes, IsSection}
use Rattle.unwind_out.proofs.Uses.{encodings_none}
use Rattle.unwind_out.proofs.Cutting.{page_some}

-- ---- no more than one

most_one : (rows : List RegularPageEntry) (a b : ℕ) → IsMost rows a → IsMost rows b → a ≡ b
most_one rows a b one other =
    let low : a ≤ b = other.most a one.within one.holds in
    let high : b ≤ a = one.most b other.within other.holds in
    omega arith

first_one : (rows a b : List RegularPageEntry) → IsFirstPage rows a → IsFirstPage rows b → a ≡ b
first_one rows a b one other =
    one.split ∙ ap (λ (n : ℕ). take (page_length n) rows) (most_one rows one.count other.count one.most other.most) ∙ sym other.split

none_first : (rows page : List RegularPageEntry) → rows ≡ [] → IsFirstPage rows page → ⊥
none_first rows page none first = let some = first.some in let empty : length rows ≡ 0 = ap length none in omega arith

pub pages_one : (rows : List RegularPageEntry) (a b : List (List RegularPageEntry)) → ArePages rows a → ArePages rows b → a ≡ b
pages_one rows [] [] one other = refl
pages_one rows [] (q ∷ b) one other = absurd (none_first rows q one other.0)
pages_one rows (p ∷ a) [] one other = absurd (none_first rows p other one.0)
pages_one rows (p ∷ a) (q ∷ b) one other =
    let same : p ≡ q = first_one rows p q one.0 other.0 in
    let rest : ArePages (drop (length p) rows) b = subst (λ (page : List RegularPageEntry). ArePages (drop (length page) rows) b) (sym same) other.1 in
    ap (λ (page : List RegularPageEntry). page ∷ a) same ∙ ap (λ (pages : List (List RegularPageEntry)). q ∷ pages) (pages_one (drop (length p) rows) a b one.1 rest)

pub section_one : (rows : List UnwindRow) (a b : List ℕ) → IsSection rows a → IsSection rows b → a ≡ b
section_one rows a b one other =
    one.spelled
    ∙ ap (section_bytes (personalities rows) (lsdas_of rows) (end_of rows)) (pages_one (rows_of (personalities rows) rows) one.pages other.pages one.cut other.cut)
    ∙ sym other.spelled

-- ---- and one

near_all : ℕ → List RegularPageEntry → Bool
near_all first [] = true
near_all first (row ∷ rows) = ltb row.function_offset (first + 2 ^ 24) && near_all first rows

near_by : (near later : Bool) → near && later ≡ true → (near ≡ true) × (later ≡ true)
near_by true true e = (refl, refl)
near_by true false e = absurd (false≢true e)
near_by false later e = absurd (false≢true e)

near_true : (first : ℕ) (rows : List RegularPageEntry) → near_all first rows ≡ true → AllByRecursion (IsNear first) rows
unfolding near_all
near_true first [] e = tt
near_true first (row ∷ rows) e =
    let both = near_by (ltb row.function_offset (first + 2 ^ 24)) (near_all first rows) e in
    (ltb-true row.function_offset (first + 2 ^ 24) both.0, near_true first rows both.1)

near_from : (first : ℕ) (rows : List RegularPageEntry) → AllByRecursion (IsNear first) rows → near_all first rows ≡ true
unfolding near_all
near_from first [] all = refl
near_from first (row ∷ rows) all =
    let here : ltb row.function_offset (first + 2 ^ 24) ≡ true = lt-ltb row.function_offset (first + 2 ^ 24) all.0 in
    rw here (near_from first rows all.1)

fits : List RegularPageEntry → Bool
fits rows = near_all (first_function rows) rows && (leb (length (encodings rows)) 256 && leb (length rows + length (encodings rows)) 1021)

fits_true : (rows : List RegularPageEntry) → fits rows ≡ true → IsCompressible rows
unfolding fits
fits_true rows e =
    let first = near_by (near_all (first_function rows) rows) (leb (length (encodings rows)) 256 && leb (length rows + length (encodings rows)) 1021) e in
    let second = near_by (leb (length (encodings rows)) 256) (leb (length rows + length (encodings rows)) 1021) first.1 in
    record {
      near = near_true (first_function rows) rows first.0;
      indexed = leb-true (length (encodings rows)) 256 second.0;
      room = leb-true (length rows + length (encodings rows)) 1021 second.1;
    }

fits_from : (rows : List RegularPageEntry) → IsCompressible rows → fits rows ≡ true
unfolding fits
fits_from rows can =
    let first : near_all (first_function rows) rows ≡ true = near_from (first_function rows) rows can.near in
    let second : leb (length (encodings rows)) 256 ≡ true = le-leb (length (encodings rows)) 256 can.indexed in
    let third : leb (length rows + length (encodings rows)) 1021 ≡ true = le-leb (length rows + length (encodings rows)) 1021 can.room in
    rw (first, second, third) refl

IsTop : List RegularPageEntry → ℕ → Type 0
IsTop rows n = (other : ℕ) → other ≤ length rows → IsCompressible (take other rows) → other ≤ n

none_fits : IsCompressible []
none_fits = let none : length (encodings []) ≡ 0 = ap length encodings_none in record { near = tt; indexed = omega arith; room = omega arith }

lower_top : (rows : List RegularPageEntry) (n other : ℕ) → fits (take (suc n) rows) ≡ false → other ≤ suc n → IsCompressible (take other rows) → (low : Bool) → leb other n ≡ low → other ≤ n
lower_top rows n other not within can true e = leb-true other n e
lower_top rows n other not within can false e =
    let high : n < other = leb-false other n e in
    let last : other ≡ suc n = omega arith in
    let fitting : fits (take (suc n) rows) ≡ true = fits_from (take (suc n) rows) (subst (λ (m : ℕ). IsCompressible (take m rows)) last can) in
    absurd (false≢true (sym not ∙ fitting))

most_by : (rows : List RegularPageEntry) (n : ℕ) (can : Bool) → suc n ≤ length rows → IsTop rows (suc n) → fits (take (suc n) rows) ≡ can → (IsTop rows n → (count : ℕ) × IsMost rows count) → (count : ℕ) × IsMost rows count
unfolding IsTop
most_by rows n true within top e lower = (suc n, record { within = within; holds = fits_true (take (suc n) rows) e; most = top })
most_by rows n false within top e lower = lower (λ other low can. lower_top rows n other e (top other low can) can (leb other n) refl)

most_from : (rows : List RegularPageEntry) (n : ℕ) → n ≤ length rows → IsTop rows n → (count : ℕ) × IsMost rows count
unfolding IsTop
most_from rows zero within top = (0, record { within = within; holds = none_fits; most = top })
most_from rows (suc n) within top = most_by rows n (fits (take (suc n) rows)) within top refl (λ lower. most_from rows n (omega arith) lower)

most_there : (rows : List RegularPageEntry) → (count : ℕ) × IsMost rows count
unfolding IsTop
most_there rows = most_from rows (length rows) (omega arith) (λ other low can. low)

pages_from : (n : ℕ) (rows : List RegularPageEntry) → length rows ≤ n → (pages : List (List RegularPageEntry)) × ArePages rows pages
pages_from n [] within = ([], refl)
pages_from zero (row ∷ rows) within = absurd (omega arith)
pages_from (suc n) (row ∷ rows) within =
    let most : (count : ℕ) × IsMost (row ∷ rows) count = most_there (row ∷ rows) in
    let page : List RegularPageEntry = take (page_length most.0) (row ∷ rows) in
    let first : IsFirstPage (row ∷ rows) page = record { some = omega arith; count = most.0; most = most.1; split = refl } in
    let some = page_some (row ∷ rows) page first in
    let long : length (drop (length page) (row ∷ rows)) ≡ length (row ∷ rows) - length page = length-drop (length page) (row ∷ rows) in
    let later : (pages : List (List RegularPageEntry)) × ArePages (drop (length page) (row ∷ rows)) pages = pages_from n (drop (length page) (row ∷ rows)) (omega arith) in
    (page ∷ later.0, (first, later.1))

pub section_there : (rows : List UnwindRow) → (bytes : List ℕ) × IsSection rows bytes
section_there rows =
    let table = rows_of (personalities rows) rows in
    let pages : (pages : List (List RegularPageEntry)) × ArePages table pages = pages_from (length table) table (omega arith) in
    (section_bytes (personalities rows) (lsdas_of rows) (end_of rows) pages.0, record { pages = pages.0; cut = pages.1; spelled = refl })
