-- The parts of a blob, appended one after the other.
use Rattle.std.proofs.Common.{◌≡◌, ℕ, Bool, List, [], ◌∷◌, ◌++◌, length, refl, sym, ap, ◌∙◌, append_assoc}
use Rattle.std.specs.List.{flat_map}
use Rattle.sect_place.specs.declared.layout.Segment.{Segment}
use Rattle.fixup_chain.specs.Encoded.{blob_of, header_bytes, joined, padded, unit_of}
use Rattle.fixup_chain.specs.ImportOrder.{Import}
use Rattle.fixup_chain.specs.Imports.{pool_of}
use Rattle.fixup_chain.specs.Pool.{rows_from}
use Rattle.fixup_chain.specs.Starts.{starts_bytes, zeros_to}
use Rattle.fixup_chain.specs.declared.import_row.ImportRow.{ImportRow}
use Rattle.fixup_chain.specs.inner.Rows.{bytes_of, rows_at}
use Rattle.fixup_chain.proofs.PoolLemmas.{as_many, bytes_are}

step : (old new a b : List ℕ) → old ≡ a → new ≡ old ++ b → new ≡ a ++ b
step old new a b e f = f ∙ ap (λ (z : List ℕ). z ++ b) e

seven : (a b c d e f : List ℕ) → (((((a ++ b) ++ c) ++ d) ++ e) ++ f) ≡ a ++ (b ++ (c ++ (d ++ (e ++ f))))
seven a b c d e f =
    append_assoc ((((a ++ b) ++ c) ++ d)) e f
    ∙ append_assoc ((a ++ b) ++ c) d (e ++ f)
    ∙ append_assoc (a ++ b) c (d ++ (e ++ f))
    ∙ append_assoc a b (c ++ (d ++ (e ++ f)))

padded_by : (bytes : List ℕ) → padded bytes ≡ bytes ++ zeros_to 8 (length bytes)
unfolding padded
padded_by bytes = refl

joined_by : (wide : Bool) (count : ℕ) (starts rows pool : List ℕ) → joined wide count starts rows pool ≡ header_bytes wide (length starts) (length rows) count ++ ((0 ∷ 0 ∷ 0 ∷ 0 ∷ []) ++ (starts ++ (zeros_to (unit_of wide) (length starts) ++ (rows ++ pool))))
unfolding joined
joined_by wide count starts rows pool = refl

pub joins : (wide : Bool) (count unit size : ℕ) (starts rows pool none one two three four five six last : List ℕ) → none ≡ [] → one ≡ none ++ header_bytes wide (length starts) (length rows) count → two ≡ one ++ 0 ∷ 0 ∷ 0 ∷ 0 ∷ [] → three ≡ two ++ starts → unit ≡ unit_of wide → four ≡ three ++ zeros_to unit (length starts) → five ≡ four ++ rows → six ≡ five ++ pool → size ≡ length six → last ≡ six ++ zeros_to 8 size → last ≡ padded (joined wide count starts rows pool)
joins wide count unit size starts rows pool none one two three four five six last e0 e1 e2 e3 u e4 e5 e6 z e7 =
    let header = header_bytes wide (length starts) (length rows) count in
    let gap = 0 ∷ 0 ∷ 0 ∷ 0 ∷ [] in
    let between = zeros_to (unit_of wide) (length starts) in
    let f1 : one ≡ header = step none one [] header e0 e1 in
    let f2 : two ≡ header ++ gap = step one two header gap f1 e2 in
    let f3 : three ≡ (header ++ gap) ++ starts = step two three (header ++ gap) starts f2 e3 in
    let f4 : four ≡ ((header ++ gap) ++ starts) ++ between = step three four ((header ++ gap) ++ starts) between f3 (e4 ∙ ap (λ (n : ℕ). three ++ zeros_to n (length starts)) u) in
    let f5 : five ≡ (((header ++ gap) ++ starts) ++ between) ++ rows = step four five (((header ++ gap) ++ starts) ++ between) rows f4 e5 in
    let f6 : six ≡ ((((header ++ gap) ++ starts) ++ between) ++ rows) ++ pool = step five six ((((header ++ gap) ++ starts) ++ between) ++ rows) pool f5 e6 in
    let whole : six ≡ joined wide count starts rows pool = f6 ∙ seven header gap starts between rows pool ∙ sym (joined_by wide count starts rows pool) in
    e7 ∙ ap (λ (n : ℕ). six ++ zeros_to 8 n) z ∙ ap (λ (w : List ℕ). w ++ zeros_to 8 (length w)) whole ∙ sym (padded_by (joined wide count starts rows pool))

pub ruleset joining = (joins)

pub blob_made : (addresses : List ℕ) (base : ℕ) (segments : List Segment) (wide : Bool) (imports : List Import) (rows : List ImportRow) (starts bytes pool made : List ℕ) (count : ℕ) → rows ≡ rows_at 1 imports → count ≡ length rows → starts ≡ starts_bytes addresses base segments → bytes ≡ flat_map (bytes_of wide) rows → pool ≡ pool_of imports → made ≡ padded (joined wide count starts bytes pool) → made ≡ blob_of addresses base segments wide imports
unfolding blob_of
blob_made addresses base segments wide imports rows starts bytes pool made count rows_are count_is starts_are bytes_made pool_is made_is =
    made_is
    ∙ ap (λ (n : ℕ). padded (joined wide n starts bytes pool)) (count_is ∙ ap length rows_are ∙ as_many 1 imports)
    ∙ ap (λ (z : List ℕ). padded (joined wide (length imports) z bytes pool)) starts_are
    ∙ ap (λ (z : List ℕ). padded (joined wide (length imports) (starts_bytes addresses base segments) z pool)) (bytes_made ∙ ap (flat_map (bytes_of wide)) rows_are ∙ bytes_are wide 1 imports)
    ∙ ap (λ (z : List ℕ). padded (joined wide (length imports) (starts_bytes addresses base segments) (rows_from wide 1 imports) z)) pool_is

pub ruleset blobs = (blob_made, as_many)
