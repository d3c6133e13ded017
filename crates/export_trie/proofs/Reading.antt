-- What the code reads of the exports that it holds.
use Rattle.std.proofs.Common.{◌≡◌, ℕ, zero, suc, ◌<◌, ◌≤◌, List, [], ◌∷◌, ◌++◌, length, take, get_or, refl, sym, ◌∙◌, ap, arith, Some, set, slice_get, Bool, nat_eq, inl, Vec, Global}
use Rattle.std.specs.Borrow.{Bor}
use Rattle.std.specs.List.{HoldsAt}
use Rattle.export_trie.specs.declared.export.ExportAddress.{ExportAddress}
use Rattle.export_trie.specs.declared.nodes.Node.{Node}
use Rattle.std.specs.List.{starts_with}
use Rattle.std.proofs.lemmas.List.{get_or-map, length-map, map-set}
use Rattle.export_trie.specs.Strings.{begins}
use Rattle.export_trie.specs.Held.{held, held_names, name_of, text, texts, AreHeld, rows_of}
use Rattle.export_trie.proofs.Walks.{begins_is}
use Rattle.list_lemmas.proofs.Members.{In, in_from_Contains}
use Rattle.export_trie.proofs.Strings.{Rising, rising_from_sorted}

pub held_at : (references : List (Bor ExportAddress)) (i : ℕ) (r : Bor ExportAddress) → i < length references → HoldsAt (λ (other : Bor ExportAddress). r ≡ other) references i → slice_get (held references) i ≡ Some r.now
held_at [] i r within is = absurd (omega arith)
held_at (first ∷ references) zero r within is = ap (λ (reference : Bor ExportAddress). Some reference.now) (sym (is r))
held_at (first ∷ references) (suc i) r within is = held_at references i r (omega arith) is

pub name_at : (references : List (Bor ExportAddress)) (i : ℕ) (r : Bor ExportAddress) → i < length references → HoldsAt (λ (other : Bor ExportAddress). r ≡ other) references i → get_or (held_names references) i [] ≡ r.now.name
name_at [] i r within is = absurd (omega arith)
name_at (first ∷ references) zero r within is = ap (λ (reference : Bor ExportAddress). reference.now.name) (sym (is r))
name_at (first ∷ references) (suc i) r within is = name_at references i r (omega arith) is

pub name_past : (references : List (Bor ExportAddress)) (i : ℕ) → length references ≤ i → get_or (held_names references) i [] ≡ []
name_past [] i past = refl
name_past (first ∷ references) zero past = absurd (omega arith)
name_past (first ∷ references) (suc i) past = name_past references i (omega arith)

pub text_is : (strings : List (List ℕ)) (node : Node) (name : List ℕ) → name_of strings node ≡ name → take node.len name ≡ text strings node
unfolding text
text_is strings node name e = ap (take node.len) (sym e)

pub length-held_names : (references : List (Bor ExportAddress)) → length (held_names references) ≡ length references
length-held_names [] = refl
length-held_names (first ∷ references) = ap suc (length-held_names references)

-- a name that is read by its place
pub name_read : (references : List (Bor ExportAddress)) (i : ℕ) (r : Bor ExportAddress) → i < length references → (get_or references i r).now.name ≡ get_or (held_names references) i []
name_read [] i r within = absurd (omega arith)
name_read (first ∷ references) zero r within = refl
name_read (first ∷ references) (suc i) r within = name_read references i r (omega arith)

pub text_read : (strings : List (List ℕ)) (nodes : List Node) (i : ℕ) (d : Node) → i < length nodes → get_or (texts strings nodes) i [] ≡ text strings (get_or nodes i d)
text_read strings nodes i d within = get_or-map (text strings) nodes i d [] within

-- a test of two nodes' strings
pub tested : (strings : List (List ℕ)) (nodes : List Node) (whole front : ℕ) (d e : Node) (a b : List ℕ) (r : Bool) → whole < length nodes → front < length nodes → a ≡ text strings (get_or nodes whole d) → b ≡ text strings (get_or nodes front e) → r ≡ starts_with nat_eq a b → begins (get_or (texts strings nodes) front []) (get_or (texts strings nodes) whole []) ≡ r
tested strings nodes whole front d e a b r p q at bt is =
    rw (text_read strings nodes front e q, text_read strings nodes whole d p, ← at, ← bt, is) (sym (begins_is b a))

pub held_rising : (strings : List (List ℕ)) (nodes : List Node) → AreHeld strings nodes → Rising (texts strings nodes)
held_rising strings nodes held = rising_from_sorted (texts strings nodes) held.all.rising

pub held_root : (strings : List (List ℕ)) (nodes : List Node) → AreHeld strings nodes → In [] (texts strings nodes)
held_root strings nodes held = in_from_Contains (texts strings nodes) [] (held.all.all [] (inl refl))

pub length-texts : (strings : List (List ℕ)) (nodes : List Node) → length (texts strings nodes) ≡ length nodes
length-texts strings nodes = length-map nodes (text strings)

-- ---- rows of places

pub length-rows_of : (rows : List (Vec ℕ Global)) → length (rows_of rows) ≡ length rows
length-rows_of rows = length-map rows (λ (row : Vec ℕ Global). row.items)

pub row_read : (rows : List (Vec ℕ Global)) (i : ℕ) (d : Vec ℕ Global) → i < length rows → get_or (rows_of rows) i [] ≡ (get_or rows i d).items
row_read rows i d within = get_or-map (λ (row : Vec ℕ Global). row.items) rows i d [] within

pub rows_set : (rows : List (Vec ℕ Global)) (i : ℕ) (row : Vec ℕ Global) → rows_of (set rows i row) ≡ set (rows_of rows) i row.items
rows_set rows i row = map-set (λ (row : Vec ℕ Global). row.items) rows i row

pub rows_push : (rows : List (Vec ℕ Global)) (i : ℕ) (old new : Vec ℕ Global) (place : ℕ) → i < length rows → old ≡ get_or rows i old → new.items ≡ old.items ++ place ∷ [] → rows_of (set rows i new) ≡ set (rows_of rows) i (get_or (rows_of rows) i [] ++ place ∷ [])
rows_push rows i old new place within is items =
    rows_set rows i new
    ∙ ap (set (rows_of rows) i) (items ∙ ap (λ (row : List ℕ). row ++ place ∷ []) (ap (λ (row : Vec ℕ Global). row.items) is ∙ sym (row_read rows i old within)))

pub row_is : (rows : List (Vec ℕ Global)) (i : ℕ) (row : Vec ℕ Global) (items : List ℕ) → i < length rows → row ≡ get_or rows i row → items ≡ row.items → items ≡ get_or (rows_of rows) i []
row_is rows i row items within is same = same ∙ (ap (λ (r : Vec ℕ Global). r.items) is ∙ sym (row_read rows i row within))
