-- The fixups that the loader finds lead to their goals.
use Rattle.std.proofs.Common.{◌≡◌, ℕ, ◌+◌, Bool, true, false, cond, ℤ, pos, ◌+ℤ◌, ◌-ℤ◌, List, [], ◌∷◌, map, Option, Some, None, refl, sym, ap, ◌∙◌, arith}
use Rattle.std.specs.FinMap as finite
use Rattle.std.specs.FinMap.{get-from_entries}
use Rattle.std.specs.List.{find}
use Rattle.std.specs.Option.{option_map, unwrap_or}
use Rattle.std.specs.Prelude.{IsSome}
use Rattle.std.specs.Ordering.{is_eq, ordering_reverse}
use Rattle.std.specs.declared.cmp.Ordering.{Ordering}
use Rattle.std.specs.declared.cmp.Ordering.TheVariants.{Less, Equal, Greater}
use Rattle.std.proofs.lemmas.Int.{ints}
use Rattle.mo_types.proofs.KeyOrder.{compare_keys_total}
use Rattle.mo_types.specs.Goals.{name_of}
use Rattle.mo_types.specs.Keys.{compare_keys}
use Rattle.mo_types.specs.declared.goal.Goal.{Goal}
use Rattle.mo_types.specs.declared.goal.Goal.TheVariants.{Def, WeakSelf, Header, Import, Flat, Nobody}
use Rattle.mo_types.specs.declared.key.AtomKey.{AtomKey}
use Rattle.sect_place.specs.Addresses.{address_in}
use Rattle.sect_place.specs.declared.layout.Layout.{Layout}
use Rattle.sect_place.specs.declared.layout.Placed.{Placed}
use Rattle.fixup_chain.specs.Faults as offsets
use Rattle.fixup_chain.specs.Imports.{is_bound, optional_of}
use Rattle.fixup_chain.specs.declared.chains.Fixup.{Fixup}
use Rattle.image_read.specs.Fixups.{fixup_at}
use Rattle.image_read.specs.Held.{Held, IsBindOf, IsRebaseTo, goal_address}
use Rattle.image_read.specs.Meaning.{base_of}
use Rattle.image_read.specs.declared.fixups.FixupRead.{FixupRead}
use Rattle.image_read.specs.declared.fixups.FixupRead.TheVariants.{Rebase}
use Rattle.chain_laws.specs.Carried.{IsFound, IsFoundBy, signed_ordinal}
use Rattle.field_laws.specs.Pointers.{IsSomewhere, addresses_of}

-- ---- the atoms' addresses

ties : (a b : Ordering) → a ≡ ordering_reverse b → is_eq a ≡ is_eq b
ties Less Less e = cc
ties Less Equal e = cc
ties Less Greater e = refl
ties Equal Less e = cc
ties Equal Equal e = refl
ties Equal Greater e = cc
ties Greater Less e = refl
ties Greater Equal e = cc
ties Greater Greater e = refl

found_entry : (placed : List Placed) (key : AtomKey) → finite.find compare_keys key (map (λ (p : Placed). let e : AtomKey × ℕ = (p.atom, p.address) in e) placed) ≡ address_in placed key
unfolding address_in
found_entry [] key = refl
found_entry (p ∷ placed) key = by (is_eq (compare_keys key p.atom)) (is_eq (compare_keys p.atom key)) (ties (compare_keys key p.atom) (compare_keys p.atom key) (compare_keys_total.antisymm key p.atom)) (found_entry placed key)
  where
    later : List (AtomKey × ℕ)
    later = map (λ (q : Placed). let e : AtomKey × ℕ = (q.atom, q.address) in e) placed

    test : Placed → Bool
    test q = is_eq (compare_keys q.atom key)

    by : (a b : Bool) → a ≡ b → finite.find compare_keys key later ≡ option_map (λ (q : Placed). q.address) (find test placed) → cond a (Some p.address) (finite.find compare_keys key later) ≡ option_map (λ (q : Placed). q.address) (cond b (Some p) (find test placed))
    by true true e rest = refl
    by true false e rest = cc
    by false true e rest = cc
    by false false e rest = rest

-- the map has the address that the list has
pub address_found : (placed : List Placed) (key : AtomKey) → finite.get (addresses_of placed) key ≡ address_in placed key
address_found placed key = get-from_entries compare_keys_total (map (λ (p : Placed). let e : AtomKey × ℕ = (p.atom, p.address) in e) placed) key ∙ found_entry placed key

-- ---- fixups

-- what the loader finds of a goal plus an addend, by whether it looks the goal up
pub record IsRebased (layout : Layout) (fixup : FixupRead) (goal : Goal) (addend : ℤ) : Type 0 where
  pub offset : ℕ
  pub leads : pos offset ≡ (pos (offsets.goal_address layout goal) +ℤ addend) -ℤ pos (offsets.base_of layout.segments)
  pub rebase : fixup ≡ Rebase offset

abbrev LeadsBy : Bool → List ℕ → Layout → FixupRead → Goal → ℤ → Type 0
LeadsBy true image layout fixup goal addend = IsBindOf image fixup (name_of goal) (signed_ordinal goal) addend (optional_of goal)
LeadsBy false image layout fixup goal addend = IsRebased layout fixup goal addend

leads_by : (b : Bool) (image : List ℕ) (layout : Layout) (fixup : Fixup) → IsFoundBy b image layout fixup → LeadsBy b image layout (fixup_at image fixup.address) fixup.goal fixup.addend
unfolding offsets.target_of
leads_by true image layout fixup is = is
leads_by false image layout fixup is = record { offset = is.offset; leads = is.leads; rebase = is.rebase }

some_of : (found : Option ℕ) → IsSome found → (n : ℕ) × (found ≡ Some n)
some_of None is = absurd cc
some_of (Some n) is = (n, refl)

rebase_to : (image : List ℕ) (layout : Layout) (fixup : FixupRead) (goal : Goal) (addend : ℤ) → base_of image ≡ Some (offsets.base_of layout.segments) → goal_address image (addresses_of layout.placed) goal ≡ Some (offsets.goal_address layout goal) → IsRebased layout fixup goal addend → IsRebaseTo image (addresses_of layout.placed) fixup goal addend
rebase_to image layout fixup goal addend begins stands is =
    let leads = is.leads in
    let sum : pos (offsets.goal_address layout goal) +ℤ addend ≡ pos (offsets.base_of layout.segments + is.offset) = omega (arith, ints, leads) in
    record {
      base = offsets.base_of layout.segments;
      offset = is.offset;
      rebase = is.rebase;
      begins = begins;
      leads = ap (option_map (λ (address : ℕ). pos address +ℤ addend)) stands ∙ ap Some sum;
    }

atom_stands : (image : List ℕ) (layout : Layout) (key : AtomKey) (offset : ℕ) → IsSome (address_in layout.placed key) → goal_address image (addresses_of layout.placed) (Def key offset) ≡ Some (offsets.goal_address layout (Def key offset))
unfolding offsets.goal_address
atom_stands image layout key offset is =
    let at = some_of (address_in layout.placed key) is in
    ap (option_map (λ (start : ℕ). start + offset)) (address_found layout.placed key ∙ at.1)
    ∙ ap (λ (o : Option ℕ). Some (unwrap_or o 0 + offset)) (sym at.1)

header_stands : (image : List ℕ) (layout : Layout) → base_of image ≡ Some (offsets.base_of layout.segments) → goal_address image (addresses_of layout.placed) Header ≡ Some (offsets.goal_address layout Header)
unfolding offsets.goal_address
header_stands image layout begins = begins

held_by : (image : List ℕ) (layout : Layout) (fixup : FixupRead) (goal : Goal) (addend : ℤ) → base_of image ≡ Some (offsets.base_of layout.segments) → IsSomewhere layout.placed goal → LeadsBy (is_bound goal) image layout fixup goal addend → Held image (addresses_of layout.placed) fixup goal addend
held_by image layout fixup (Def key offset) addend begins somewhere is = rebase_to image layout fixup (Def key offset) addend begins (atom_stands image layout key offset somewhere) is
held_by image layout fixup Header addend begins somewhere is = rebase_to image layout fixup Header addend begins (header_stands image layout begins) is
held_by image layout fixup (WeakSelf name key offset) addend begins somewhere is = is
held_by image layout fixup (Import name ordinal by_weak optional) addend begins somewhere is = is
held_by image layout fixup (Flat name) addend begins somewhere is = is
held_by image layout fixup Nobody addend begins somewhere is = absurd somewhere

pub found_held : (image : List ℕ) (layout : Layout) (fixup : Fixup) → base_of image ≡ Some (offsets.base_of layout.segments) → IsSomewhere layout.placed fixup.goal → IsFound image layout fixup → Held image (addresses_of layout.placed) (fixup_at image fixup.address) fixup.goal fixup.addend
found_held image layout fixup begins somewhere is =
    held_by image layout (fixup_at image fixup.address) fixup.goal fixup.addend begins somewhere (leads_by (is_bound fixup.goal) image layout fixup is)
