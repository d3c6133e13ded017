-- What folded nodes are.
use Rattle.std.proofs.Common.{◌≡◌, ℕ, ◌<◌, ◌≤◌, ◌⊎◌, false, List, length, get_or, refl, sym, ap, ◌∙◌, arith, Some, inl, inr}
use Rattle.std.specs.Prelude.{slice_get}
use Rattle.std.specs.Ordering.{is_gt, on}
use Rattle.std.specs.declared.cmp.Ordering.{Ordering}
use Rattle.std.specs.declared.cmp.Ordering.TheVariants.{Less}
use Rattle.std.proofs.lemmas.Bool.{cases_lt}
use Rattle.std.proofs.lemmas.Cmp.{tied_itself}
use Rattle.std.proofs.lemmas.List.{ext_get_or}
use Rattle.std.proofs.lemmas.Option.{get_or_from_slice_get, same_Some, slice_get_within}
use Rattle.list_lemmas.proofs.Rising.{rising_at}
use Rattle.mo_types.proofs.KeyOrder.{compare_keys_total}
use Rattle.mo_types.specs.Keys.{compare_keys}
use Rattle.fold_code.specs.declared.node.FoldNode.{FoldNode}
use Rattle.fold_code.specs.Fold.{AreNodes, IsCoarsest, IsFolded, IsRefined, Partition, key_of, partition_of}

pub one_coarsest : (nodes : List FoldNode) (a b : Partition) → IsCoarsest nodes a → IsCoarsest nodes b → IsRefined (length nodes) a b
one_coarsest nodes a b first second = second.coarsest a first.alike

not_before : (nodes : List FoldNode) (a b : List ℕ) → IsFolded nodes a → IsFolded nodes b → (n : ℕ) → n < length nodes → partition_of a n ≤ partition_of b n
not_before nodes a b first second n low =
    let least : partition_of b n ≤ n = second.first n n low low refl in
    let within : partition_of b n < length nodes = omega arith in
    let same : partition_of a (partition_of b n) ≡ partition_of a n = (one_coarsest nodes (partition_of b) (partition_of a) second.coarsest first.coarsest).kept (partition_of b n) n within low (second.within n low) in
    first.first n (partition_of b n) low within (sym same)

pub one_list : (nodes : List FoldNode) (a b : List ℕ) → IsFolded nodes a → IsFolded nodes b → a ≡ b
one_list nodes a b first second =
    ext_get_or 0 a b (first.each ∙ sym second.each)
    (λ n low.
    let within : n < length nodes = omega (arith, first.each) in
    let under : partition_of a n ≤ partition_of b n = not_before nodes a b first second n within in
    let over : partition_of b n ≤ partition_of a n = not_before nodes b a second first n within in
    omega arith)

less_not_greater : (o : Ordering) → o ≡ Less → is_gt o ≡ false
less_not_greater o e = ap is_gt e

itself : (x y : FoldNode) → y ≡ x → is_gt (compare_keys y.key x.key) ≡ false
itself x y same = rw same (own x)
  where
    own : (x : FoldNode) → is_gt (compare_keys x.key x.key) ≡ false
    own x = ap is_gt (tied_itself compare_keys_total x.key)

pub least_key : (nodes : List FoldNode) (firsts : List ℕ) → AreNodes nodes → IsFolded nodes firsts → (a : ℕ) (x y : FoldNode) → slice_get nodes a ≡ Some x → slice_get nodes (partition_of firsts a) ≡ Some y
    → is_gt (compare_keys y.key x.key) ≡ false
least_key nodes firsts are folded a x y e f = by (cases_lt (partition_of firsts a) a)
  where
    low : a < length nodes
    low = slice_get_within nodes a x e

    least : partition_of firsts a ≤ a
    least = folded.first a a low low refl

    by : (partition_of firsts a < a) ⊎ (a ≤ partition_of firsts a) → is_gt (compare_keys y.key x.key) ≡ false
    by (inl before) =
        let less : compare_keys (get_or nodes (partition_of firsts a) x).key (get_or nodes a x).key ≡ Less = rising_at (on key_of compare_keys) nodes (partition_of firsts a) a x are.rise before low in
        let p : get_or nodes (partition_of firsts a) x ≡ y = get_or_from_slice_get nodes (partition_of firsts a) y x f in
        let q : get_or nodes a x ≡ x = get_or_from_slice_get nodes a x x e in
        less_not_greater (compare_keys y.key x.key) ((λ i. compare_keys (sym p i).key (sym q i).key) ∙ less)
    by (inr behind) =
        let same : partition_of firsts a ≡ a = omega (arith, least) in
        itself x y (same_Some y x (sym f ∙ ap (slice_get nodes) same ∙ e))
