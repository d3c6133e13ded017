-- What is planned has one layout.
use Rattle.std.proofs.Common.{◌≡◌, ◌≢◌, suc, Bool, false, List, [], ◌∷◌, get_or, IsPermutation, refl, sym, ap, ap₂, ◌∙◌, arith}
use Rattle.std.specs.List.{AllPairs, IsDistinct}
use Rattle.std.specs.List.Sorted.{IsSorted, IsStrictlySortedBy}
use Rattle.std.specs.Ordering.{on, eq_by_cmp, is_eq, is_lt, ordering_reverse}
use Rattle.std.specs.declared.cmp.Ordering.{Ordering}
use Rattle.std.specs.declared.cmp.Ordering.TheVariants.{Less, Equal, Greater}
use Rattle.std.proofs.lemmas.Cmp.{on_total, eq_by_cmp_equiv}
use Rattle.std.proofs.lemmas.List.Elements.{recursion_from_All}
use Rattle.std.proofs.lemmas.List.Sorted.{Contains-permutation, IsPermutation-sym, ranks_by, sorted_far}
use Rattle.std.proofs.lemmas.Map.Keys.{IsDistinct-IsPermutation, IsDistinct-from_apart, apart_from_distinct}
use Rattle.list_lemmas.proofs.Members.{In, in_from_Contains, Contains_from_in}
use Rattle.list_lemmas.proofs.Rising.{rising_same}
use Rattle.command_line.specs.declared.command.Command.{Command}
use Rattle.mo_types.proofs.KeyOrder.{compare_keys_total}
use Rattle.mo_types.specs.Keys.{compare_keys}
use Rattle.mo_types.specs.declared.atom.Atom.{Atom}
use Rattle.mo_types.specs.declared.key.AtomKey.{AtomKey}
use Rattle.mo_types.specs.declared.out_section.OutSection.{OutSection}
use Rattle.slot_plan.specs.declared.list.Slots.{Slots}
use Rattle.tlv_plan.specs.Template.{keys_of}
use Rattle.atom_index.proofs.Keys.{same_key}
use Rattle.sect_place.specs.Layout.{IsLayoutOf, image_places, plan_of}
use Rattle.sect_place.specs.declared.island.IslandPlan.{IslandPlan}
use Rattle.sect_place.specs.declared.layout.Layout.{Layout}
use Rattle.sect_place.specs.declared.layout.Placed.{Placed}
use Rattle.sect_place.specs.declared.layout.PlacedSection.{PlacedSection}
use Rattle.sect_place.specs.declared.layout.Segment.{Segment}
use Rattle.sect_place.specs.declared.size.PlaceSizes.{PlaceSizes}
use Rattle.sect_place.proofs.Positions.{placed_once}

abbrev by_atom : Placed → Placed → Ordering
by_atom = on (λ (p : Placed). p.atom) compare_keys

abbrev same_atom : Placed → Placed → Bool
same_atom = eq_by_cmp by_atom

differ : (a b : AtomKey) (r : Ordering) → compare_keys a b ≡ r → a ≢ b → is_eq r ≡ false
differ a b Less e apart = refl
differ a b Equal e apart = absurd (apart (same_key a b e))
differ a b Greater e apart = refl

less_from : (a b : AtomKey) (r : Ordering) → compare_keys a b ≡ r → is_lt (compare_keys b a) ≡ false → is_eq r ≡ false → compare_keys a b ≡ Less
less_from a b Less e f apart = e
less_from a b Equal e f apart = cc
less_from a b Greater e f apart =
    let back : compare_keys b a ≡ Less = compare_keys_total.antisymm b a ∙ ap ordering_reverse e in
    let g : is_lt Less ≡ false = ap is_lt (sym back) ∙ f in
    cc

distinct : (placed : List Placed) → AllPairs (λ (p : Placed) (q : Placed). p.atom ≢ q.atom) placed → IsDistinct same_atom placed
distinct placed pairs =
    IsDistinct-from_apart same_atom placed (λ i j d low high. differ (get_or placed i d).atom (get_or placed j d).atom (compare_keys (get_or placed i d).atom (get_or placed j d).atom) refl (pairs i j d low high))

less_pairs : (placed : List Placed) → IsSorted by_atom placed → IsDistinct same_atom placed → AllPairs (λ (p : Placed) (q : Placed). by_atom p q ≡ Less) placed
less_pairs placed sorted apart = λ i j d low high.
    less_from (get_or placed i d).atom (get_or placed j d).atom (compare_keys (get_or placed i d).atom (get_or placed j d).atom) refl
    (sorted_far (λ (p q : Placed). is_lt (by_atom p q)) (ranks_by compare_keys_total (λ (p : Placed). p.atom)) placed sorted i j d (omega arith) high)
    (apart_from_distinct same_atom placed i j d apart low high)

strictly : (placed : List Placed) → AllPairs (λ (p : Placed) (q : Placed). by_atom p q ≡ Less) placed → IsStrictlySortedBy by_atom placed
unfolding IsStrictlySortedBy
strictly [] h = tt
strictly (p ∷ placed) h = (
  recursion_from_All (λ (q : Placed). by_atom p q ≡ Less) placed (λ k d low. h 0 (suc k) d (omega arith) (omega arith)),
  strictly placed (λ i j d low high. h (suc i) (suc j) d (omega arith) (omega arith)),
)

pub layout_rises : (kept : List Atom) (sections : List OutSection) (slots : Slots) (islands : IslandPlan) (sizes : PlaceSizes) (command : Command) (layout : Layout) → AllPairs (λ (a : AtomKey) (b : AtomKey). a ≢ b) (keys_of sections) → IsLayoutOf command (plan_of kept sections slots islands sizes command) layout → IsStrictlySortedBy (on (λ (p : Placed). p.atom) compare_keys) layout.placed
layout_rises kept sections slots islands sizes command layout once is =
    let all = image_places (plan_of kept sections slots islands sizes command) in
    strictly layout.placed (less_pairs layout.placed is.order
    (IsDistinct-IsPermutation same_atom (eq_by_cmp_equiv (on_total (λ (p : Placed). p.atom) compare_keys_total)).symm all layout.placed is.places
    (distinct all (placed_once kept sections slots islands sizes command once))))

-- two lists with the elements of one
there : (all xs ys : List Placed) → IsPermutation all xs → IsPermutation all ys → (p : Placed) → In p xs → In p ys
there all xs ys f g p h =
    in_from_Contains ys p (Contains-permutation all ys p g (Contains-permutation xs all p (IsPermutation-sym all xs f) (Contains_from_in xs p h)))

joined : (a b : Layout) → a.segments ≡ b.segments → a.sections ≡ b.sections → a.placed ≡ b.placed → a ≡ b
joined a b s t p =
    ap₂ (λ (x : List Segment) (y : List PlacedSection). let l : Layout = record { segments = x; sections = y; placed = a.placed } in l) s t
    ∙ ap (λ (z : List Placed). let l : Layout = record { segments = b.segments; sections = b.sections; placed = z } in l) p

pub layouts_same : (kept : List Atom) (sections : List OutSection) (slots : Slots) (islands : IslandPlan) (sizes : PlaceSizes) (command : Command) (a b : Layout) → AllPairs (λ (x : AtomKey) (y : AtomKey). x ≢ y) (keys_of sections) → IsLayoutOf command (plan_of kept sections slots islands sizes command) a → IsLayoutOf command (plan_of kept sections slots islands sizes command) b → a ≡ b
layouts_same kept sections slots islands sizes command a b once f g =
    let all = image_places (plan_of kept sections slots islands sizes command) in
    joined a b (f.segments ∙ sym g.segments) (f.sections ∙ sym g.sections)
    (rising_same (on_total (λ (p : Placed). p.atom) compare_keys_total) a.placed b.placed (layout_rises kept sections slots islands sizes command a once f) (layout_rises kept sections slots islands sizes command b once g)
    (there all a.placed b.placed f.places g.places) (there all b.placed a.placed g.places f.places))
