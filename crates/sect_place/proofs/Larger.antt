-- A larger set of areas moves nothing down.
use Rattle.std.proofs.Common.{◌≡◌, ℕ, ◌+◌, ◌*◌, ◌≤◌, ◌⊎◌, ◌==◌, ◌++◌, true, false, if◌then◌else◌, List, [], ◌∷◌, length, Option, Some, None, Contains, refl, sym, ap, subst, ◌∙◌, inl, inr, arith}
use Rattle.std.specs.List.{AllByRecursion}
use Rattle.std.specs.List.Sorted.{IsStrictlySortedBy}
use Rattle.std.specs.Ordering.{on}
use Rattle.std.specs.declared.cmp.Ordering.TheVariants.{Less}
use Rattle.std.proofs.lemmas.Bool.{cases_Bool}
use Rattle.std.proofs.lemmas.Cmp.{tied_itself}
use Rattle.std.proofs.lemmas.List.Elements.{recursion_from_All}
use Rattle.list_lemmas.proofs.Members.{In, all_from_in, all_in, in_either, in_from_Contains, in_left, in_right}
use Rattle.command_line.specs.declared.command.Command.{Command}
use Rattle.mo_types.proofs.KeyOrder.{compare_keys_total}
use Rattle.mo_types.specs.Keys.{compare_keys}
use Rattle.mo_types.specs.declared.atom.Atom.{Atom}
use Rattle.mo_types.specs.declared.key.AtomKey.{AtomKey}
use Rattle.mo_types.specs.declared.out_section.OutSection.{OutSection}
use Rattle.slot_plan.specs.declared.list.Slots.{Slots}
use Rattle.sect_list.proofs.Once.{one_by_map}
use Rattle.sect_place.specs.Layout.{image_places, plan_of}
use Rattle.sect_place.specs.Moved.{AreAmong, AreBehindCode, AreInOrder, IsMoved, areas_bytes, counts, no_islands, pages_moved, text_end}
use Rattle.sect_place.specs.Places.{area_unit, islands_bytes, page_up}
use Rattle.sect_place.specs.declared.island.IslandArea.{IslandArea}
use Rattle.sect_place.specs.declared.island.IslandPlan.{IslandPlan}
use Rattle.sect_place.specs.declared.layout.Placed.{Placed}
use Rattle.sect_place.specs.declared.size.PlaceSizes.{PlaceSizes}
use Rattle.sect_place.proofs.Around.{code_in_text}
use Rattle.sect_place.proofs.Moving.{moved_law}
use Rattle.sect_place.proofs.Positions.{image_apart}
use Rattle.sect_place.proofs.Spread.{aligned_order}

abbrev Rises : List IslandArea → Type 0
Rises areas = IsStrictlySortedBy (on (λ (area : IslandArea). area.last) compare_keys) areas

-- ---- bytes

pub islands_order : (unit a b : ℕ) → a ≤ b → islands_bytes unit a ≤ islands_bytes unit b
islands_order unit a b low = by (cases_Bool (a == 0)) (cases_Bool (b == 0))
  where
    by : (a == 0 ≡ true) ⊎ (a == 0 ≡ false) → (b == 0 ≡ true) ⊎ (b == 0 ≡ false) → islands_bytes unit a ≤ islands_bytes unit b
    by (inl none) other = rw none (omega arith)
    by (inr some) (inl none) = absurd (grind (arith, some, none, low))
    by (inr some) (inr more) = rw (some, more) (aligned_order unit (3 + 12 * a) (3 + 12 * b) (omega arith))

-- what an area counts
own_bytes : ℕ → Option AtomKey → IslandArea → ℕ
own_bytes unit limit area = if counts limit area then islands_bytes unit (length area.targets) else 0

-- an area of others that is behind the same atom, and has no fewer islands
record IsOneOf (more : List IslandArea) (area : IslandArea) : Type 0 where
  pub other : IslandArea
  pub there : In other more
  pub last : other.last ≡ area.last
  pub many : length area.targets ≤ length other.targets

own_order : (unit : ℕ) (limit : Option AtomKey) (a b : IslandArea) → b.last ≡ a.last → length a.targets ≤ length b.targets → own_bytes unit limit a ≤ own_bytes unit limit b
unfolding own_bytes
own_order unit limit a b last many = by (cases_Bool (counts limit a))
  where
    same : (o : Option AtomKey) → counts o b ≡ counts o a
    same None = refl
    same (Some key) = rw last refl

    by : (counts limit a ≡ true) ⊎ (counts limit a ≡ false) → (if counts limit a then islands_bytes unit (length a.targets) else 0) ≤ (if counts limit b then islands_bytes unit (length b.targets) else 0)
    by (inl here) = let there : counts limit b ≡ true = same limit ∙ here in rw (here, there) (islands_order unit (length a.targets) (length b.targets) many)
    by (inr away) = rw away (omega arith)

bytes_join : (unit : ℕ) (limit : Option AtomKey) (xs ys : List IslandArea) → areas_bytes unit limit (xs ++ ys) ≡ areas_bytes unit limit xs + areas_bytes unit limit ys
unfolding areas_bytes
bytes_join unit limit [] ys = omega arith
bytes_join unit limit (x ∷ xs) ys = let rest = bytes_join unit limit xs ys in omega (arith, rest)

first_bytes : (unit : ℕ) (limit : Option AtomKey) (x : IslandArea) (xs : List IslandArea) → areas_bytes unit limit (x ∷ xs) ≡ own_bytes unit limit x + areas_bytes unit limit xs
unfolding areas_bytes own_bytes
first_bytes unit limit x xs = refl

-- a list before and behind one of its elements
in_split : {X : Type 0} (xs : List X) (x : X) → In x xs → (front : List X) × (back : List X) × (xs ≡ front ++ x ∷ back)
in_split [] x h = absurd h
in_split (y ∷ xs) x (inl e) = ([], xs, ap (λ z. z ∷ xs) e)
in_split (y ∷ xs) x (inr h) = let rest = in_split xs x h in (y ∷ rest.0, rest.1, ap (λ zs. y ∷ zs) rest.2)

differ : (a b : AtomKey) → compare_keys a b ≡ Less → a ≡ b → {X : Type 0} → X
differ a b less same = let tie = tied_itself compare_keys_total a in let clash : compare_keys a a ≡ Less = subst (λ (k : AtomKey). compare_keys a k ≡ Less) (sym same) less in cc

left_over : (front back : List IslandArea) (one area : IslandArea) → (one.last ≡ area.last → ⊥) → IsOneOf (front ++ one ∷ back) area → IsOneOf (front ++ back) area
left_over front back one area other is = record { other = is.other; there = by (in_either front (one ∷ back) is.other is.there); last = is.last; many = is.many }
  where
    by : In is.other front ⊎ In is.other (one ∷ back) → In is.other (front ++ back)
    by (inl h) = in_left front back is.other h
    by (inr (inl e)) = absurd (other (ap (λ (a : IslandArea). a.last) e ∙ is.last))
    by (inr (inr h)) = in_right front back is.other h

bytes_order : (unit : ℕ) (limit : Option AtomKey) (few more : List IslandArea) → Rises few → AllByRecursion (IsOneOf more) few → areas_bytes unit limit few ≤ areas_bytes unit limit more
unfolding areas_bytes IsStrictlySortedBy
bytes_order unit limit [] more rises among = omega arith
bytes_order unit limit (area ∷ few) more rises among =
    let one = among.0.other in
    let split : (front : List IslandArea) × (back : List IslandArea) × (more ≡ front ++ one ∷ back) = in_split more one among.0.there in
    let rest : areas_bytes unit limit few ≤ areas_bytes unit limit (split.0 ++ split.1) =
    bytes_order unit limit few (split.0 ++ split.1) rises.1
    (all_from_in (IsOneOf (split.0 ++ split.1)) few
    (λ next h.
    left_over split.0 split.1 one next
    (λ same. differ area.last next.last (all_in (λ (a : IslandArea). compare_keys area.last a.last ≡ Less) few next rises.0 h) (sym among.0.last ∙ same))
    (subst (λ (areas : List IslandArea). IsOneOf areas next) split.2 (all_in (IsOneOf more) few next among.1 h)))) in
    let own = own_order unit limit area one among.0.last among.0.many in
    let first = first_bytes unit limit area few in
    let whole = ap (areas_bytes unit limit) split.2 ∙ bytes_join unit limit split.0 (one ∷ split.1) in
    let second = first_bytes unit limit one split.1 in
    let joined = bytes_join unit limit split.0 split.1 in
    omega (arith, rest, own, first, whole, second, joined)

pub more_bytes : (unit : ℕ) (limit : Option AtomKey) (few more : List IslandArea) → Rises few → AreAmong few more → areas_bytes unit limit few ≤ areas_bytes unit limit more
more_bytes unit limit few more rises among =
    bytes_order unit limit few more rises
    (all_from_in (IsOneOf more) few
    (λ area h.
    let one : (other : IslandArea) × Contains more other × (other.last ≡ area.last) × (length area.targets ≤ length other.targets) = all_in (λ (a : IslandArea). (other : IslandArea) × Contains more other × (other.last ≡ a.last) × (length a.targets ≤ length other.targets)) few area (recursion_from_All (λ (a : IslandArea). (other : IslandArea) × Contains more other × (other.last ≡ a.last) × (length a.targets ≤ length other.targets)) few among) h in
    record { other = one.0; there = in_from_Contains more one.0 one.1; last = one.2; many = one.3 }))

-- ---- places

module _ (kept : List Atom) (sections : List OutSection) (slots : Slots) (few more : IslandPlan) (sizes : PlaceSizes) (command : Command) (ordered : AreInOrder kept sections) (behind : AreBehindCode kept sections few.areas) (behind_more : AreBehindCode kept sections more.areas) (rises : Rises few.areas) (rises_more : Rises more.areas) (among : AreAmong few.areas more.areas) where
  abbrev before_all : List Placed
  before_all = image_places (plan_of kept sections slots no_islands sizes command)

  abbrev end : ℕ
  end = text_end kept sections slots sizes command

  larger : (limit : Option AtomKey) → areas_bytes (area_unit sections) limit few.areas ≤ areas_bytes (area_unit sections) limit more.areas
  larger limit = more_bytes (area_unit sections) limit few.areas more.areas rises among

  more_pages : pages_moved end (areas_bytes (area_unit sections) None few.areas) ≤ pages_moved end (areas_bytes (area_unit sections) None more.areas)
  more_pages =
      let bytes = larger None in
      let up : page_up (end + areas_bytes (area_unit sections) None few.areas) ≤ page_up (end + areas_bytes (area_unit sections) None more.areas) = aligned_order 14 (end + areas_bytes (area_unit sections) None few.areas) (end + areas_bytes (area_unit sections) None more.areas) (omega (arith, bytes)) in
      omega (arith, up)

  no_lower : (key : AtomKey) (at low high : ℕ) → IsMoved sections few.areas end key at low → IsMoved sections more.areas end key at high → low ≤ high
  no_lower key at low high (inl m) (inl n) = let bytes = larger (Some key) in omega (arith, bytes, m.1, n.1)
  no_lower key at low high (inl m) (inr (inl n)) = absurd (n.1 m.0)
  no_lower key at low high (inl m) (inr (inr n)) = absurd (n.0 (code_in_text sections key m.0))
  no_lower key at low high (inr (inl m)) (inl n) = absurd (m.1 n.0)
  no_lower key at low high (inr (inl m)) (inr (inl n)) = let bytes = larger None in omega (arith, bytes, m.2, n.2)
  no_lower key at low high (inr (inl m)) (inr (inr n)) = absurd (n.0 m.0)
  no_lower key at low high (inr (inr m)) (inl n) = absurd (m.0 (code_in_text sections key n.0))
  no_lower key at low high (inr (inr m)) (inr (inl n)) = absurd (m.0 n.0)
  no_lower key at low high (inr (inr m)) (inr (inr n)) = omega (arith, more_pages, m.1, n.1)

  one_place : (key : AtomKey) (a b : ℕ) → Contains before_all (record { atom = key; address = a }) → Contains before_all (record { atom = key; address = b }) → a ≡ b
  one_place key a b p q =
      let same : (let x : Placed = record { atom = key; address = a } in x) ≡ record { atom = key; address = b } = one_by_map (λ (x : Placed). x.atom) before_all (image_apart kept sections slots no_islands sizes command ordered.once) (record { atom = key; address = a }) (record { atom = key; address = b }) (in_from_Contains before_all (record { atom = key; address = a }) p) (in_from_Contains before_all (record { atom = key; address = b }) q) refl in
      ap (λ (x : Placed). x.address) same

  pub nothing_down : (key : AtomKey) (low high : ℕ) → Contains (image_places (plan_of kept sections slots few sizes command)) (record { atom = key; address = low }) → Contains (image_places (plan_of kept sections slots more sizes command)) (record { atom = key; address = high }) → low ≤ high
  nothing_down key low high h k =
      let a = moved_law kept sections slots few sizes command ordered behind rises key low h in
      let b = moved_law kept sections slots more sizes command ordered behind_more rises_more key high k in
      let same : b.0 ≡ a.0 = one_place key b.0 a.0 b.1 a.1 in
      no_lower key a.0 low high a.2 (subst (λ (n : ℕ). IsMoved sections more.areas end key n high) same b.2)
