-- What nodes are, whatever nodes they refer to, and to which ones they refer.
use Rattle.std.specs.Prelude.{ℕ, ◌==◌, ◌&&◌, Bool, true, false, List, [], ◌∷◌, ◌++◌, Option, Some, None}
use Rattle.std.specs.List.{flat_map}
use Rattle.std.specs.Cmp.Lexicographic.{pointwise}
use Rattle.std.specs.Hash as fed
use Rattle.std.specs.Hash.{HashWrites}
use Rattle.std.specs.Ordering.{eq_by_cmp, int_eq}
use Rattle.std.specs.Str.{bytes_eq}
use Rattle.mo_types.specs.Goals.{compare_goals}
use Rattle.mo_types.specs.declared.goal.Goal.TheVariants.{Def, WeakSelf, Header, Import, Flat, Nobody}
use Rattle.mo_types.specs.declared.key.AtomKey.{AtomKey}
use Rattle.mo_types.specs.declared.reference.RefKind.{RefKind}
use Rattle.mo_types.specs.declared.reference.RefKind.TheVariants.{Pointer, Diff32, Diff64, Branch, Page, PageOff, GotPage, GotPageOff, GotDelta, GotPointer, TlvPage, TlvPageOff}
use Rattle.fold_code.specs.declared.node.FoldGoal.{FoldGoal}
use Rattle.fold_code.specs.declared.node.FoldGoal.TheVariants.{Node, Other}
use Rattle.fold_code.specs.declared.node.Link.{Link}
use Rattle.fold_code.specs.declared.node.FoldUnwind.{FoldUnwind}
use Rattle.fold_code.specs.declared.node.FoldNode.{FoldNode}

-- ---- the same, whatever nodes they lead to

abbrev pub kind_number : RefKind → ℕ
kind_number Pointer = 0
kind_number Diff32 = 1
kind_number Diff64 = 2
kind_number Branch = 3
kind_number Page = 4
kind_number PageOff = 5
kind_number GotPage = 6
kind_number GotPageOff = 7
kind_number GotDelta = 8
kind_number GotPointer = 9
kind_number TlvPage = 10
kind_number TlvPageOff = 11

abbrev pub same_key : AtomKey → AtomKey → Bool
same_key a b = (a.file.position == b.file.position && a.file.member == b.file.member) && (a.section == b.section && a.offset == b.offset)

abbrev pub same_goal : FoldGoal → FoldGoal → Bool
same_goal (Node a at) (Node b to) = at == to
same_goal (Node a at) (Other goal) = false
same_goal (Other goal) (Node b to) = false
same_goal (Other goal) (Other other) = eq_by_cmp compare_goals goal other

abbrev pub same_optional : Option FoldGoal → Option FoldGoal → Bool
same_optional None None = true
same_optional None (Some b) = false
same_optional (Some a) None = false
same_optional (Some a) (Some b) = same_goal a b

abbrev pub same_lsda : Option (AtomKey × ℕ) → Option (AtomKey × ℕ) → Bool
same_lsda None None = true
same_lsda None (Some b) = false
same_lsda (Some a) None = false
same_lsda (Some a) (Some b) = same_key a.0 b.0 && a.1 == b.1

abbrev pub same_link : Link → Link → Bool
same_link a b =
    a.place == b.place && kind_number a.kind == kind_number b.kind && int_eq a.addend b.addend && same_goal a.goal b.goal
    && same_optional a.minus b.minus

abbrev pub same_unwind : FoldUnwind → FoldUnwind → Bool
same_unwind a b =
    a.offset == b.offset && a.length == b.length && a.encoding == b.encoding && same_optional a.personality b.personality
    && same_lsda a.lsda b.lsda

unfoldable pub same_shape : FoldNode → FoldNode → Bool
same_shape a b = bytes_eq a.bytes b.bytes && pointwise same_link a.links b.links && pointwise same_unwind a.unwinds b.unwinds

-- ---- what a hash takes of it

abbrev pub feed_key : AtomKey → HashWrites
feed_key key = fed.u16 key.file.position ++ fed.u32 key.file.member ++ fed.u16 key.section ++ fed.u64 key.offset

abbrev pub feed_goal : FoldGoal → HashWrites
feed_goal (Node node at) = fed.u64 at
feed_goal (Other (Def key at)) = feed_key key ++ fed.u64 at
feed_goal (Other (WeakSelf name key at)) = fed.slice fed.u8 name
feed_goal (Other Header) = fed.slice fed.u8 []
feed_goal (Other (Import name ordinal by_weak optional)) = fed.slice fed.u8 name
feed_goal (Other (Flat name)) = fed.slice fed.u8 name
feed_goal (Other Nobody) = fed.slice fed.u8 []

abbrev pub feed_optional : Option FoldGoal → HashWrites
feed_optional None = []
feed_optional (Some goal) = feed_goal goal

abbrev pub feed_lsda : Option (AtomKey × ℕ) → HashWrites
feed_lsda = fed.option (λ (lsda : AtomKey × ℕ). feed_key lsda.0 ++ fed.u64 lsda.1)

abbrev pub feed_link : Link → HashWrites
feed_link link = fed.u64 link.place ++ fed.i64 link.addend ++ feed_goal link.goal ++ feed_optional link.minus

abbrev pub feed_unwind : FoldUnwind → HashWrites
feed_unwind unwind =
    fed.u64 unwind.offset ++ fed.u32 unwind.length ++ fed.u32 unwind.encoding ++ feed_optional unwind.personality
    ++ feed_lsda unwind.lsda

unfoldable pub feed_shape : FoldNode → HashWrites
feed_shape node = fed.slice fed.u8 node.bytes ++ flat_map feed_link node.links ++ flat_map feed_unwind node.unwinds

-- ---- the nodes to which a node refers

abbrev pub ends_of_goal : FoldGoal → List ℕ
ends_of_goal (Node node at) = node ∷ []
ends_of_goal (Other goal) = []

abbrev pub ends_of_optional : Option FoldGoal → List ℕ
ends_of_optional None = []
ends_of_optional (Some goal) = ends_of_goal goal

abbrev pub ends_of_link : Link → List ℕ
ends_of_link link = ends_of_goal link.goal ++ ends_of_optional link.minus

abbrev pub ends_of_unwind : FoldUnwind → List ℕ
ends_of_unwind unwind = ends_of_optional unwind.personality

unfoldable pub ends_of : FoldNode → List ℕ
ends_of node = flat_map ends_of_link node.links ++ flat_map ends_of_unwind node.unwinds
