-- There is a coarsest partition into alike nodes, and so a node that stands for each.
use Rattle.std.proofs.Common.{◌≡◌, ℕ, zero, suc, ◌+◌, ◌-◌, ◌*◌, ◌<◌, ◌≤◌, Bool, true, false, List, [], ◌∷◌, length, map, get_or, refl, ap, ◌∙◌, arith, nat_eq}
use Rattle.std.specs.Option.{unwrap_or}
use Rattle.std.specs.Cmp.Lexicographic.{pointwise}
use Rattle.std.proofs.lemmas.Cmp.{nat_list_eq_equiv}
use Rattle.fold_code.specs.declared.node.FoldNode.{FoldNode}
use Rattle.fold_code.specs.Fold.{AreNodes, IsFolded, Partition, partition_of}
use Rattle.fold_code.specs.inner.Firsts.{place}
use Rattle.fold_code.specs.inner.Rounds.{AreRows, IsNext, IsRound, row_of}
use Rattle.fold_code.specs.inner.Shapes.{ends_of, same_shape}
use Rattle.fold_code.specs.inner.ShapeLaws.{nodes_equal}
use Rattle.fold_code.proofs.FirstLemmas.{at_end}
use Rattle.fold_code.proofs.RoundLemmas.{equal_lists, first_is_round, last_round, next_is_round, rows_are_next, smaller, total}

-- the rows of nodes from a number on
rows_from : Partition → ℕ → List (List ℕ) → List (List ℕ)
rows_from class node [] = []
rows_from class node (ends ∷ rest) = row_of class node ends ∷ rows_from class (suc node) rest

as_many : (class : Partition) (from : ℕ) (ends : List (List ℕ)) → length (rows_from class from ends) ≡ length ends
unfolding rows_from
as_many class from [] = refl
as_many class from (e ∷ rest) = let long : length (rows_from class (suc from) rest) ≡ length rest = as_many class (suc from) rest in ap suc long

row_at : (class : Partition) (from : ℕ) (ends : List (List ℕ)) (node : ℕ) → node < length ends → get_or (rows_from class from ends) node [] ≡ row_of class (from + node) (get_or ends node [])
unfolding rows_from
row_at class from [] node low = absurd (omega arith)
row_at class from (e ∷ rest) zero low = let none : from ≡ from + 0 = omega arith in ap (λ n. row_of class n e) none
row_at class from (e ∷ rest) (suc node) low =
    let one : suc from + node ≡ from + suc node = omega arith in
    row_at class (suc from) rest node (omega arith) ∙ ap (λ n. row_of class n (get_or rest node [])) one

are_rows : (firsts : List ℕ) (ends : List (List ℕ)) → AreRows firsts ends (rows_from (partition_of firsts) 0 ends)
are_rows firsts ends = record {
  each = as_many (partition_of firsts) 0 ends;
  row = λ node low. let none : 0 + node ≡ node = omega arith in row_at (partition_of firsts) 0 ends node low ∙ ap (λ n. row_of (partition_of firsts) n (get_or ends node [])) none;
}

next_exists : (firsts : List ℕ) (ends : List (List ℕ)) → (next : List ℕ) × IsNext ends firsts next
next_exists firsts ends =
    let rows : List (List ℕ) = rows_from (partition_of firsts) 0 ends in
    let next : List ℕ = map (λ (k : List ℕ). unwrap_or (place (pointwise nat_eq k) rows) 0) rows in
    (next, rows_are_next firsts ends rows next (are_rows firsts ends) (at_end nat_list_eq_equiv rows))

step : (nodes : List FoldNode) (ends : List (List ℕ)) (firsts next : List ℕ) (fuel : ℕ) → AreNodes nodes → ends ≡ map ends_of nodes → IsRound nodes firsts → IsNext ends firsts next
    → length nodes * length nodes - total firsts ≤ suc fuel
    → ((later : List ℕ) → IsRound nodes later → length nodes * length nodes - total later ≤ fuel → (all : List ℕ) × IsFolded nodes all)
    → (same : Bool) → pointwise nat_eq next firsts ≡ same → (all : List ℕ) × IsFolded nodes all
step nodes ends firsts next fuel are is round new few rest true e = (firsts, last_round nodes ends firsts next are is round new (equal_lists next firsts e))
step nodes ends firsts next fuel are is round new few rest false e =
    let less : length nodes * length nodes - total next < length nodes * length nodes - total firsts = smaller nodes ends firsts next is round new e in
    rest next (next_is_round nodes ends firsts next are is round new) (omega arith)

last : (nodes : List FoldNode) (ends : List (List ℕ)) (firsts next : List ℕ) → AreNodes nodes → ends ≡ map ends_of nodes → IsRound nodes firsts → IsNext ends firsts next → length nodes * length nodes - total firsts ≤ 0
    → (same : Bool) → pointwise nat_eq next firsts ≡ same → (all : List ℕ) × IsFolded nodes all
last nodes ends firsts next are is round new few true e = (firsts, last_round nodes ends firsts next are is round new (equal_lists next firsts e))
last nodes ends firsts next are is round new few false e =
    let less : length nodes * length nodes - total next < length nodes * length nodes - total firsts = smaller nodes ends firsts next is round new e in
    absurd (omega arith)

settles : (nodes : List FoldNode) → AreNodes nodes → (fuel : ℕ) (firsts : List ℕ) → IsRound nodes firsts → length nodes * length nodes - total firsts ≤ fuel → (all : List ℕ) × IsFolded nodes all
settles nodes are zero firsts round few =
    let new = next_exists firsts (map ends_of nodes) in
    last nodes (map ends_of nodes) firsts new.0 are refl round new.1 few (pointwise nat_eq new.0 firsts) refl
settles nodes are (suc fuel) firsts round few =
    let new = next_exists firsts (map ends_of nodes) in
    step nodes (map ends_of nodes) firsts new.0 fuel are refl round new.1 few (settles nodes are fuel) (pointwise nat_eq new.0 firsts) refl

pub folded_exist : (nodes : List FoldNode) → AreNodes nodes → (firsts : List ℕ) × IsFolded nodes firsts
folded_exist nodes are =
    let firsts : List ℕ = map (λ (k : FoldNode). unwrap_or (place (same_shape k) nodes) 0) nodes in
    settles nodes are (length nodes * length nodes - total firsts) firsts (first_is_round nodes firsts (at_end nodes_equal nodes)) (omega arith)
