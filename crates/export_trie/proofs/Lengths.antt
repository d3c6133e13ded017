-- The sizes of nodes, and the least places that agree with them.
use Rattle.std.proofs.Common.{◌≡◌, ℕ, zero, suc, ◌+◌, ◌-◌, ◌*◌, ◌^◌, ◌<◌, ◌≤◌, List, [], ◌∷◌, ◌++◌, length, drop, get_or, replicate, refl, sym, ◌∙◌, ap, subst, inl, inr, arith, append_assoc, append-nil, All}
use Rattle.std.specs.List.{AllByRecursion}
use Rattle.std.proofs.lemmas.Bool.{cases_order}
use Rattle.std.proofs.lemmas.List.{drop_more, drop_all}
use Rattle.mo_bytes.specs.Uleb.{uleb}
use Rattle.mo_bytes.proofs.Ulebs.{length-uleb_mono}
use Rattle.export_trie.specs.declared.export.ExportAddress.{ExportAddress}
use Rattle.export_trie.specs.declared.nodes.Node.{Node}
use Rattle.export_trie.specs.Trie.{starts}
use Rattle.export_trie.specs.Held.{node_at, text}
use Rattle.export_trie.specs.Sizes.{child_len, children_len, node_len, node_lens, next_starts, held_child, row_bytes, held_node, held_bytes}

-- ---- the loops

pub all_at : {X : Type 0} (P : X → Type 0) (xs : List X) (i : ℕ) (d : X) → AllByRecursion P xs → i < length xs → P (get_or xs i d)
all_at P [] i d all within = absurd (omega arith)
all_at P (x ∷ xs) zero d all within = all.0
all_at P (x ∷ xs) (suc i) d all within = all_at P xs i d all.1 (omega arith)

pub children_more : (nodes : List Node) (places : List ℕ) (above : ℕ) (row : List ℕ) (i size edge number total : ℕ) → i < length row → size + children_len nodes places above (drop i row) ≡ children_len nodes places above row → edge ≡ (get_or nodes (get_or row i 0) (node_at 0 0)).len - above → number ≡ length (uleb (get_or places (get_or row i 0) 0)) → total ≡ size + edge + (1 + number) → total + children_len nodes places above (drop (i + 1) row) ≡ children_len nodes places above row
unfolding children_len child_len
children_more nodes places above row i size edge number total within e edge' number' total' =
    let here : drop i row ≡ get_or row i 0 ∷ drop (i + 1) row = drop_more row i 0 within in
    let split : children_len nodes places above (drop i row) ≡ (get_or nodes (get_or row i 0) (node_at 0 0)).len - above + (1 + length (uleb (get_or places (get_or row i 0) 0))) + children_len nodes places above (drop (i + 1) row) =
    ap (children_len nodes places above) here in
    omega arith

pub children_all : (nodes : List Node) (places : List ℕ) (above : ℕ) (row : List ℕ) (i size : ℕ) → length row ≤ i → size + children_len nodes places above (drop i row) ≡ children_len nodes places above row → size ≡ children_len nodes places above row
unfolding children_len
children_all nodes places above row i size past e =
    let none : children_len nodes places above (drop i row) ≡ 0 = ap (children_len nodes places above) (drop_all i row past) in
    omega arith

pub starts_more : (exports : List ExportAddress) (nodes : List Node) (places : List ℕ) (rows : List (List ℕ)) (next : List ℕ) (i place size end : ℕ) (d : Node) → i < length nodes → length rows ≡ length nodes → next ++ starts place (node_lens exports nodes places (drop i nodes) (drop i rows)) ≡ next_starts exports nodes rows places → size ≡ node_len exports nodes places (get_or nodes i d) (get_or rows i []) → end ≡ place + size → (next ++ place ∷ []) ++ starts end (node_lens exports nodes places (drop (i + 1) nodes) (drop (i + 1) rows)) ≡ next_starts exports nodes rows places
unfolding node_lens
starts_more exports nodes places rows next i place size end d within long e size' end' =
    let node = drop_more nodes i d within in
    let row : drop i rows ≡ get_or rows i [] ∷ drop (i + 1) rows = drop_more rows i [] (omega arith) in
    let lens : node_lens exports nodes places (drop i nodes) (drop i rows) ≡ size ∷ node_lens exports nodes places (drop (i + 1) nodes) (drop (i + 1) rows) = rw (node, row, size') refl in
    append_assoc next (place ∷ []) _ ∙ (ap (λ (n : ℕ). next ++ place ∷ starts n (node_lens exports nodes places (drop (i + 1) nodes) (drop (i + 1) rows))) end'
    ∙ (ap (λ (ns : List ℕ). next ++ starts place ns) (sym lens) ∙ e))

pub starts_all : (exports : List ExportAddress) (nodes : List Node) (places : List ℕ) (rows : List (List ℕ)) (next : List ℕ) (i place : ℕ) → length nodes ≤ i → next ++ starts place (node_lens exports nodes places (drop i nodes) (drop i rows)) ≡ next_starts exports nodes rows places → next ≡ next_starts exports nodes rows places
unfolding node_lens
starts_all exports nodes places rows next i place past e =
    sym (append-nil next) ∙ (ap (λ (ns : List ℕ). next ++ starts place ns) (none (drop i nodes) (drop_all i nodes past)) ∙ e)
  where
    none : (rest : List Node) → rest ≡ [] → [] ≡ node_lens exports nodes places rest (drop i rows)
    none rest h = rw h refl

-- ---- places in order

-- each number is at most the one at its place
abbrev pub Leq : List ℕ → List ℕ → Type 0
Leq [] [] = Unit {0}
Leq [] (y ∷ ys) = ⊥
Leq (x ∷ xs) [] = ⊥
Leq (x ∷ xs) (y ∷ ys) = (x ≤ y) × Leq xs ys

pub leq_length : (xs ys : List ℕ) → Leq xs ys → length xs ≡ length ys
leq_length [] [] h = refl
leq_length [] (y ∷ ys) h = absurd h
leq_length (x ∷ xs) [] h = absurd h
leq_length (x ∷ xs) (y ∷ ys) h = ap suc (leq_length xs ys h.1)

pub leq_at : (xs ys : List ℕ) (i : ℕ) → Leq xs ys → get_or xs i 0 ≤ get_or ys i 0
leq_at [] [] i h = omega arith
leq_at [] (y ∷ ys) i h = absurd h
leq_at (x ∷ xs) [] i h = absurd h
leq_at (x ∷ xs) (y ∷ ys) zero h = h.0
leq_at (x ∷ xs) (y ∷ ys) (suc i) h = leq_at xs ys i h.1

pub leq_zeros : (ys : List ℕ) → Leq (replicate (length ys) 0) ys
leq_zeros [] = tt
leq_zeros (y ∷ ys) = (omega arith, leq_zeros ys)

leq_starts : (a b : ℕ) (xs ys : List ℕ) → a ≤ b → Leq xs ys → Leq (starts a xs) (starts b ys)
leq_starts a b [] [] p h = tt
leq_starts a b [] (y ∷ ys) p h = absurd h
leq_starts a b (x ∷ xs) [] p h = absurd h
leq_starts a b (x ∷ xs) (y ∷ ys) p h = (p, leq_starts (a + x) (b + y) xs ys (omega (arith, h.0)) h.1)

leq_children : (nodes : List Node) (places others : List ℕ) (above : ℕ) (row : List ℕ) → Leq places others → children_len nodes places above row ≤ children_len nodes others above row
unfolding children_len child_len
leq_children nodes places others above [] h = omega arith
leq_children nodes places others above (child ∷ row) h =
    omega (arith, leq_children nodes places others above row h, length-uleb_mono (get_or places child 0) (get_or others child 0) (leq_at places others child h))

leq_lens : (exports : List ExportAddress) (nodes : List Node) (places others : List ℕ) (rest : List Node) (rows : List (List ℕ)) → Leq places others → Leq (node_lens exports nodes places rest rows) (node_lens exports nodes others rest rows)
unfolding node_lens node_len
leq_lens exports nodes places others [] rows h = tt
leq_lens exports nodes places others (node ∷ rest) [] h = tt
leq_lens exports nodes places others (node ∷ rest) (row ∷ rows) h =
    (omega (arith, leq_children nodes places others node.len row h), leq_lens exports nodes places others rest rows h)

pub leq_next : (exports : List ExportAddress) (nodes : List Node) (rows : List (List ℕ)) (places others : List ℕ) → Leq places others → Leq (next_starts exports nodes rows places) (next_starts exports nodes rows others)
leq_next exports nodes rows places others h = leq_starts 0 0 _ _ (omega arith) (leq_lens exports nodes places others nodes rows h)

pub total : List ℕ → ℕ
total [] = 0
total (x ∷ xs) = x + total xs

pub total_less : (xs ys : List ℕ) → Leq xs ys → (ys ≡ xs → ⊥) → total xs < total ys
unfolding total
total_less [] [] h apart = absurd (apart refl)
total_less [] (y ∷ ys) h apart = absurd h
total_less (x ∷ xs) [] h apart = absurd h
total_less (x ∷ xs) (y ∷ ys) h apart =
    elim (cases_order x y) [
      | inl same ↦ omega (arith, total_less xs ys h.1 (λ e. apart (rw (same, e) refl)))
      | inr other ↦ elim other [
        | inl less ↦ omega (arith, total_leq xs ys h.1)
        | inr more ↦ absurd (omega (arith, h.0))
      ]
    ]
  where
    total_leq : (xs ys : List ℕ) → Leq xs ys → total xs ≤ total ys
    total_leq [] [] h = omega arith
    total_leq [] (y ∷ ys) h = absurd h
    total_leq (x ∷ xs) [] h = absurd h
    total_leq (x ∷ xs) (y ∷ ys) h = omega (arith, h.0, total_leq xs ys h.1)

pub total_most : (xs : List ℕ) (most : ℕ) → ((i : ℕ) → i < length xs → get_or xs i 0 < most) → total xs ≤ length xs * most
unfolding total
total_most [] most small = omega arith
total_most (x ∷ xs) most small =
    let first : x < most = small 0 (omega arith) in
    let rest : total xs ≤ length xs * most = total_most xs most (λ i h. small (suc i) (omega arith)) in
    let split : suc (length xs) * most ≡ most + length xs * most = omega arith in
    omega arith

pub places_long : (exports : List ExportAddress) (nodes : List Node) (rows : List (List ℕ)) (places : List ℕ) → length places ≡ length nodes → Leq places (next_starts exports nodes rows places) → length (next_starts exports nodes rows places) ≡ length nodes
places_long exports nodes rows places long rise = sym (leq_length places (next_starts exports nodes rows places) rise) ∙ long

-- one more round brings the places nearer to their bound
pub nearer : (places next : List ℕ) (count : ℕ) → Leq places next → length next ≡ count → All (λ place. place < 2 ^ 64) next → (next ≡ places → ⊥) → count * 2 ^ 64 - total next < count * 2 ^ 64 - total places
nearer places next count rise long small apart =
    let less : total places < total next = total_less places next rise apart in
    let most : total next ≤ length next * 2 ^ 64 = total_most next (2 ^ 64) (λ i h. small i 0 h) in
    let same : length next * 2 ^ 64 ≡ count * 2 ^ 64 = ap (λ (n : ℕ). n * 2 ^ 64) long in
    omega arith

length_starts : (at : ℕ) (sizes : List ℕ) → length (starts at sizes) ≡ length sizes
length_starts at [] = refl
length_starts at (size ∷ sizes) = ap suc (length_starts (at + size) sizes)

length_lens : (exports : List ExportAddress) (nodes : List Node) (places : List ℕ) (rest : List Node) (rows : List (List ℕ)) → length rows ≡ length rest → length (node_lens exports nodes places rest rows) ≡ length rest
unfolding node_lens
length_lens exports nodes places [] rows e = refl
length_lens exports nodes places (node ∷ rest) [] e = absurd (omega arith)
length_lens exports nodes places (node ∷ rest) (row ∷ rows) e = ap suc (length_lens exports nodes places rest rows (omega arith))

pub length-next_starts : (exports : List ExportAddress) (nodes : List Node) (rows : List (List ℕ)) (places : List ℕ) → length rows ≡ length nodes → length (next_starts exports nodes rows places) ≡ length nodes
length-next_starts exports nodes rows places e = length_starts 0 _ ∙ length_lens exports nodes places nodes rows e

pub zeros_rise : (exports : List ExportAddress) (nodes : List Node) (rows : List (List ℕ)) (zeros others : List ℕ) → zeros ≡ replicate (length nodes) 0 → length others ≡ length nodes → Leq zeros others
zeros_rise exports nodes rows zeros others e long = subst (λ (ns : List ℕ). Leq ns others) (ap (λ (n : ℕ). replicate n 0) long ∙ sym e) (leq_zeros others)

-- ---- the loops that write

pub row_more : (strings : List (List ℕ)) (nodes : List Node) (places : List ℕ) (above : ℕ) (row : List ℕ) (i : ℕ) (old whole new edge : List ℕ) → i < length row → old ++ row_bytes strings nodes places above (drop i row) ≡ whole → edge ≡ drop above (text strings (get_or nodes (get_or row i 0) (node_at 0 0))) → new ≡ old ++ (edge ++ 0 ∷ uleb (get_or places (get_or row i 0) 0)) → new ++ row_bytes strings nodes places above (drop (i + 1) row) ≡ whole
unfolding row_bytes held_child
row_more strings nodes places above row i old whole new edge within e edge' new' =
    let here : drop i row ≡ get_or row i 0 ∷ drop (i + 1) row = drop_more row i 0 within in
    let split : row_bytes strings nodes places above (drop i row) ≡ (drop above (text strings (get_or nodes (get_or row i 0) (node_at 0 0))) ++ 0 ∷ uleb (get_or places (get_or row i 0) 0)) ++ row_bytes strings nodes places above (drop (i + 1) row) =
    ap (row_bytes strings nodes places above) here in
    rw (new', edge') (append_assoc old _ _ ∙ (ap (λ (bs : List ℕ). old ++ bs) (sym split) ∙ e))

pub row_all : (strings : List (List ℕ)) (nodes : List Node) (places : List ℕ) (above : ℕ) (row : List ℕ) (i : ℕ) (old whole : List ℕ) → length row ≤ i → old ++ row_bytes strings nodes places above (drop i row) ≡ whole → old ≡ whole
unfolding row_bytes
row_all strings nodes places above row i old whole past e =
    sym (append-nil old) ∙ (ap (λ (rest : List ℕ). old ++ row_bytes strings nodes places above rest) (sym (drop_all i row past)) ∙ e)

pub bytes_more : (exports : List ExportAddress) (nodes : List Node) (places : List ℕ) (rows : List (List ℕ)) (i : ℕ) (old whole new row : List ℕ) (d : Node) → i < length nodes → length rows ≡ length nodes → old ++ held_bytes exports nodes places (drop i nodes) (drop i rows) ≡ whole → row ≡ get_or rows i [] → new ≡ old ++ held_node exports nodes places (get_or nodes i d) row → new ++ held_bytes exports nodes places (drop (i + 1) nodes) (drop (i + 1) rows) ≡ whole
unfolding held_bytes
bytes_more exports nodes places rows i old whole new row d within long e row' new' =
    let node = drop_more nodes i d within in
    let below : drop i rows ≡ get_or rows i [] ∷ drop (i + 1) rows = drop_more rows i [] (omega arith) in
    let split : held_bytes exports nodes places (drop i nodes) (drop i rows) ≡ held_node exports nodes places (get_or nodes i d) row ++ held_bytes exports nodes places (drop (i + 1) nodes) (drop (i + 1) rows) = rw (node, below, row') refl in
    rw new' (append_assoc old _ _ ∙ (ap (λ (bs : List ℕ). old ++ bs) (sym split) ∙ e))

pub bytes_all : (exports : List ExportAddress) (nodes : List Node) (places : List ℕ) (rows : List (List ℕ)) (i : ℕ) (old whole : List ℕ) → length nodes ≤ i → old ++ held_bytes exports nodes places (drop i nodes) (drop i rows) ≡ whole → old ≡ whole
unfolding held_bytes
bytes_all exports nodes places rows i old whole past e =
    sym (append-nil old) ∙ (ap (λ (bs : List ℕ). old ++ bs) (none (drop i nodes) (drop_all i nodes past)) ∙ e)
  where
    none : (rest : List Node) → rest ≡ [] → [] ≡ held_bytes exports nodes places rest (drop i rows)
    none rest h = rw h refl
