-- How the code refines a partition, round by round.
use Rattle.std.specs.Prelude.{◌≡◌, ℕ, ◌<◌, ◌≤◌, true, List, [], ◌∷◌, All, length, map, get_or, slice_get, Some}
use Rattle.fold_code.specs.declared.node.FoldNode.{FoldNode}
use Rattle.fold_code.specs.Fold.{IsAlike, IsRefined, Partition, partition_of}
use Rattle.fold_code.specs.inner.Shapes.{same_shape}

-- the numbers in lists are below a number
abbrev pub AreBelow : ℕ → List (List ℕ) → Type 0
AreBelow count lists = All (All (λ end. end < count)) lists

-- numbers of classes that are each that of the first node in it
pub record AreFirstNumbers (count : ℕ) (firsts : List ℕ) : Type 0 where
  pub each : length firsts ≡ count
  pub itself : (a : ℕ) → a < count → partition_of firsts (partition_of firsts a) ≡ partition_of firsts a
  pub least : (a b : ℕ) → a < count → b < count → partition_of firsts a ≡ partition_of firsts b → partition_of firsts a ≤ b

-- nodes of one class have the same shape, and what may be one is in one class
pub record IsRound (nodes : List FoldNode) (firsts : List ℕ) : Type 0 where
  pub numbers : AreFirstNumbers (length nodes) firsts
  pub shaped : (a b : ℕ) (x y : FoldNode) → slice_get nodes a ≡ Some x → slice_get nodes b ≡ Some y → partition_of firsts a ≡ partition_of firsts b → same_shape x y ≡ true
  pub coarse : (other : Partition) → IsAlike nodes other → IsRefined (length nodes) other (partition_of firsts)

-- what tells the nodes of a class apart: the classes of the nodes to which they refer
abbrev pub row_of : Partition → ℕ → List ℕ → List ℕ
row_of class node ends = class node ∷ map class ends

-- for each node what tells it apart
pub record AreRows (firsts : List ℕ) (ends : List (List ℕ)) (rows : List (List ℕ)) : Type 0 where
  pub each : length rows ≡ length ends
  pub row : (node : ℕ) → node < length ends → get_or rows node [] ≡ row_of (partition_of firsts) node (get_or ends node [])

-- the classes of one round are those of the last one, taken apart by what tells their nodes apart
pub record IsNext (ends : List (List ℕ)) (firsts next : List ℕ) : Type 0 where
  pub numbers : AreFirstNumbers (length ends) next
  pub told : (a b : ℕ) → a < length ends → b < length ends → partition_of next a ≡ partition_of next b
      → row_of (partition_of firsts) a (get_or ends a []) ≡ row_of (partition_of firsts) b (get_or ends b [])
  pub kept : (a b : ℕ) → a < length ends → b < length ends → row_of (partition_of firsts) a (get_or ends a []) ≡ row_of (partition_of firsts) b (get_or ends b [])
      → partition_of next a ≡ partition_of next b
