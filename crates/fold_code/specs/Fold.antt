-- Which functions of an image may be one: those that are in one class of the coarsest partition into alike ones.
use Rattle.std.specs.Prelude.{◌≡◌, ℕ, ◌<◌, ◌≤◌, List, All, length, slice_get, slice_index, Option, Some, None}
use Rattle.std.specs.List.{AllZip}
use Rattle.std.specs.List.Sorted.{IsStrictlySortedBy}
use Rattle.std.specs.Ordering.{on}
use Rattle.mo_types.specs.Keys.{compare_keys}
use Rattle.mo_types.specs.declared.key.AtomKey.{AtomKey}
use Rattle.fold_code.specs.declared.node.FoldGoal.{FoldGoal}
use Rattle.fold_code.specs.declared.node.FoldGoal.TheVariants.{Node, Other}
use Rattle.fold_code.specs.declared.node.Link.{Link}
use Rattle.fold_code.specs.declared.node.FoldUnwind.{FoldUnwind}
use Rattle.fold_code.specs.declared.node.FoldNode.{FoldNode}

-- ---- what is a condition of nodes

-- a goal leads to one of so many nodes, or elsewhere
abbrev pub GoalIsWithin : ℕ → FoldGoal → Type 0
GoalIsWithin count (Node node at) = node < count
GoalIsWithin count (Other goal) = Unit {0}

abbrev pub IsWithin : ℕ → Option FoldGoal → Type 0
IsWithin count None = Unit {0}
IsWithin count (Some goal) = GoalIsWithin count goal

abbrev pub LinkIsWithin : ℕ → Link → Type 0
LinkIsWithin count link = GoalIsWithin count link.goal × IsWithin count link.minus

abbrev pub UnwindIsWithin : ℕ → FoldUnwind → Type 0
UnwindIsWithin count unwind = IsWithin count unwind.personality

pub record NodeIsWithin (count : ℕ) (node : FoldNode) : Type 0 where
  pub links : All (LinkIsWithin count) node.links
  pub unwinds : All (UnwindIsWithin count) node.unwinds

abbrev pub key_of : FoldNode → AtomKey
key_of node = node.key

-- the keys of nodes rise, and the goals that are nodes are among them
pub record AreNodes (nodes : List FoldNode) : Type 0 where
  pub rise : IsStrictlySortedBy (on key_of compare_keys) nodes
  pub within : All (NodeIsWithin (length nodes)) nodes

-- ---- partitions of nodes

-- A partition gives each node, by its number, the number of its class.
abbrev pub Partition : Type 0
Partition = ℕ → ℕ

-- Where nodes of one class count as one, two goals are equal, or lead to equal offsets in nodes of one class.
abbrev pub IsSameGoal : Partition → FoldGoal → FoldGoal → Type 0
IsSameGoal class (Node a at) (Node b to) = (class a ≡ class b) × (at ≡ to)
IsSameGoal class (Node a at) (Other goal) = ⊥
IsSameGoal class (Other goal) (Node b to) = ⊥
IsSameGoal class (Other goal) (Other other) = goal ≡ other

-- neither is there, or both are and are the same
abbrev pub IsSame : Partition → Option FoldGoal → Option FoldGoal → Type 0
IsSame class None None = Unit {0}
IsSame class None (Some b) = ⊥
IsSame class (Some a) None = ⊥
IsSame class (Some a) (Some b) = IsSameGoal class a b

pub record IsSameLink (class : Partition) (a b : Link) : Type 0 where
  pub place : a.place ≡ b.place
  pub kind : a.kind ≡ b.kind
  pub addend : a.addend ≡ b.addend
  pub goal : IsSameGoal class a.goal b.goal
  pub minus : IsSame class a.minus b.minus

pub record IsSameUnwind (class : Partition) (a b : FoldUnwind) : Type 0 where
  pub offset : a.offset ≡ b.offset
  pub length : a.length ≡ b.length
  pub encoding : a.encoding ≡ b.encoding
  pub personality : IsSame class a.personality b.personality
  pub lsda : a.lsda ≡ b.lsda

-- two nodes are alike: equal bytes outside of references, the same references and the same unwind entries
pub record AreAlike (class : Partition) (a b : FoldNode) : Type 0 where
  pub bytes : a.bytes ≡ b.bytes
  pub links : AllZip (IsSameLink class) a.links b.links
  pub unwinds : AllZip (IsSameUnwind class) a.unwinds b.unwinds

-- a partition all of whose classes have alike nodes alone
pub record IsAlike (nodes : List FoldNode) (class : Partition) : Type 0 where
  pub alike : (a b : ℕ) (x y : FoldNode) → slice_get nodes a ≡ Some x → slice_get nodes b ≡ Some y → class a ≡ class b → AreAlike class x y

-- what is in one class of a finer partition is in one class of a coarser one
pub record IsRefined (count : ℕ) (finer coarser : Partition) : Type 0 where
  pub kept : (a b : ℕ) → a < count → b < count → finer a ≡ finer b → coarser a ≡ coarser b

-- the coarsest partition that is alike: every other one refines it
pub record IsCoarsest (nodes : List FoldNode) (class : Partition) : Type 0 where
  pub alike : IsAlike nodes class
  pub coarsest : (other : Partition) → IsAlike nodes other → IsRefined (length nodes) other class

-- ---- which function stands for each

-- the partition whose classes go by these numbers
abbrev pub partition_of : List ℕ → Partition
partition_of numbers node = slice_index numbers node

-- For each node the number of the first of its class, in the coarsest alike partition: it is in that class, and none of the
-- class is before it.
pub record IsFolded (nodes : List FoldNode) (firsts : List ℕ) : Type 0 where
  pub each : length firsts ≡ length nodes
  pub coarsest : IsCoarsest nodes (partition_of firsts)
  pub within : (node : ℕ) → node < length nodes → partition_of firsts (partition_of firsts node) ≡ partition_of firsts node
  pub first : (a b : ℕ) → a < length nodes → b < length nodes → partition_of firsts a ≡ partition_of firsts b → partition_of firsts a ≤ b
