-- Branches without islands reach in the image with the islands.
use Rattle.std.proofs.Common.{◌≡◌, ℕ, ℤ, pos, negsuc, ◌+◌, ◌-◌, ◌%◌, ◌<◌, ◌≤◌, ◌⊎◌, ◌==◌, ◌&&◌, if◌then◌else◌, Bool, true, false, not, nat_le, List, [], length, get_or, map, Contains, Option, Some, None, slice_get, refl, sym, ap, ap₂, subst, ◌∙◌, inl, inr, arith}
use Rattle.std.specs.List.Sorted.{IsStrictlySortedBy}
use Rattle.std.specs.Ordering.{is_lt, on}
use Rattle.std.proofs.lemmas.Bool.{cases_Bool, eq-eqb, eqb-true, false≢true, le-leb, leb-true}
use Rattle.std.proofs.lemmas.List.{get_or-map, get_or_default, length-map}
use Rattle.std.proofs.lemmas.List.Elements.{All-from_recursion}
use Rattle.std.proofs.lemmas.List.Sums.{count_by-le-length}
use Rattle.std.proofs.lemmas.Option.{get_or_from_slice_get, slice_get_within}
use Rattle.list_lemmas.proofs.Members.{In, Contains_from_in, all_from_in, from_map, in_from_Contains, in_map}
use Rattle.mo_types.specs.Keys.{compare_keys}
use Rattle.mo_types.specs.declared.atom.Atom.{Atom}
use Rattle.mo_types.specs.declared.goal.Goal.{Goal}
use Rattle.mo_types.specs.declared.goal.Goal.TheVariants.{Def, WeakSelf, Header, Import, Flat, Nobody}
use Rattle.mo_types.specs.declared.key.AtomKey.{AtomKey}
use Rattle.tlv_plan.specs.Template.{atoms_of}
use Rattle.sect_place.specs.Layout.{IsLayoutOf, plan_of}
use Rattle.sect_place.specs.Moved.{AreBehindCode, areas_bytes, code_keys}
use Rattle.sect_place.specs.Places.{area_unit}
use Rattle.sect_place.specs.Shifts.{unit_in}
use Rattle.sect_place.specs.declared.island.BranchTarget.{BranchTarget}
use Rattle.sect_place.specs.declared.island.IslandArea.{IslandArea}
use Rattle.sect_place.specs.declared.island.IslandPlan.{IslandPlan}
use Rattle.sect_place.specs.declared.layout.Layout.{Layout}
use Rattle.sect_place.specs.declared.layout.PlacedSection.{PlacedSection}
use Rattle.sect_place.proofs.Fitting.{unit_least}
use Rattle.island_core.specs.Far.{bytes_before, has, in_reach, in_reach_by, is_grouped, needs, takes}
use Rattle.island_core.specs.Groups.{AreEnds}
use Rattle.island_core.specs.declared.cut.Extent.{Extent}
use Rattle.island_core.specs.declared.row.Pair.{Pair}
use Rattle.island_core.specs.declared.row.Row.{Row}
use Rattle.island_core.specs.declared.row.Scale.{Scale}
use Rattle.island_core.proofs.MoveLemmas.{IsWithin, moves_apart, moves_rest, moves_up}
use Rattle.island_core.proofs.PairLemmas.{in_from_has}
use Rattle.islands.specs.declared.branch.Branch.{Branch}
use Rattle.islands.specs.Plan.{IsPlan, IsWay, IsWithoutIslands, areas_from, row_at, scale_of}
use Rattle.islands.specs.Reach.{IsWord, Reaches, from_of, to_of}
use Rattle.islands.specs.Rows.{atom_spot, case_of, goal_spot, is_plain, raised, row_of, rows_of, spot_by, spot_of, stub_spot, stubs_in}
use Rattle.islands.specs.Text.{extent_of, extents_of, groups_before, in_code, in_text, is_text, key_at, lasts_of, place_in, text_atoms}
use Rattle.islands.proofs.Bytes.{bytes_all, bytes_to}
use Rattle.islands.proofs.Layouts.{atoms_same, both_true, stands_parts}
use Rattle.islands.proofs.Moved.{code_moves, header_same, region_same, stub_shift, stubs_shift, text_moves, unit_same}
use Rattle.islands.proofs.Single.{same_spot}
use Rattle.islands.proofs.Stood.{atoms_rise}
use Rattle.islands.proofs.Ways.{area_last, areas_rise}
use Rattle.islands.proofs.Whole.{ends_within, far_in, lasts_rise}

-- ---- numbers

raised_moves : (place by : ℕ) (addend : ℤ) → IsWord addend → raised (place + by) addend ≡ raised place addend + by
raised_moves place by (pos n) word = omega arith
raised_moves place by (negsuc n) word = omega (arith, word)

reach_from : (reach from to : ℕ) → from ≤ to + reach → to + 4 ≤ from + reach → from % 4 ≡ to % 4 → in_reach reach from to ≡ true
reach_from reach from to a b c = rw (le-leb from (to + reach) a, le-leb (to + 4) (from + reach) b, eq-eqb (from % 4) (to % 4) c) refl

record IsNearBy (reach slack from to : ℕ) : Type 0 where
  forth : from + slack + 4 ≤ to + reach
  back : to + slack + 4 ≤ from + reach
  words : from % 4 ≡ to % 4

near_by : (reach slack from to : ℕ) → in_reach_by reach slack from to ≡ true → IsNearBy reach slack from to
near_by reach slack from to e =
    let parts = both_true (nat_le (from + slack + 4) (to + reach) && nat_le (to + slack + 4) (from + reach)) ((from % 4) == (to % 4)) e in
    let sides = both_true (nat_le (from + slack + 4) (to + reach)) (nat_le (to + slack + 4) (from + reach)) parts.0 in
    record { forth = leb-true (from + slack + 4) (to + reach) sides.0; back = leb-true (to + slack + 4) (from + reach) sides.1; words = eqb-true (from % 4) (to % 4) parts.1 }

-- ---- what a branch without an island is

grouped_case : (b c : Bool) → is_grouped (case_of true b c) ≡ true
grouped_case false c = refl
grouped_case true true = refl
grouped_case true false = refl

record IsFree (b c x y : Bool) : Type 0 where
  inside : b ≡ true
  plain : c ≡ true → x ≡ true
  added : c ≡ false → y ≡ true

turned : (x : Bool) → not x ≡ false → x ≡ true
turned true e = refl
turned false e = cc

free : (b c x y : Bool) → takes (case_of true b c) (not x) (not y) ≡ false → IsFree b c x y
free false c x y e = cc
free true true x y e = record { inside = refl; plain = λ f. turned x e; added = λ f. absurd (false≢true (sym f)) }
free true false x y e = record { inside = refl; plain = λ f. absurd (false≢true f); added = λ f. turned y e }

plain_addend : (addend : ℤ) → is_plain addend ≡ true → addend ≡ pos 0
plain_addend (pos n) e = ap pos (eqb-true n 0 e)
plain_addend (negsuc n) e = cc

-- ---- how far a branch and its target move

module _ (kept : List Atom) (before : Layout) (is : IsWithoutIslands kept before) (plan : IslandPlan) (after : Layout) (laid : IsLayoutOf is.command (plan_of kept is.sections is.slots plan is.sizes is.command) after) (behind : AreBehindCode kept is.sections plan.areas) (rising : IsStrictlySortedBy (on (λ (area : IslandArea). area.last) compare_keys) plan.areas) (lasts : List AtomKey) (targets : List BranchTarget) (set : List Pair) (order : IsStrictlySortedBy compare_keys lasts) (areas : plan.areas ≡ areas_from targets set 0 lasts) where
  abbrev unit : ℕ
  unit = area_unit is.sections

  first_bytes : (key : AtomKey) → areas_bytes (area_unit is.sections) (Some key) plan.areas ≡ bytes_before (area_unit is.sections) set (groups_before lasts key)
  unfolding bytes_before
  first_bytes key =
      let sum = bytes_to (area_unit is.sections) targets set 0 lasts key order in
      let none : 0 + groups_before lasts key ≡ groups_before lasts key = omega arith in
      let same : bytes_before (area_unit is.sections) set (0 + groups_before lasts key) ≡ bytes_before (area_unit is.sections) set (groups_before lasts key) = ap (bytes_before (area_unit is.sections) set) none in
      ap (areas_bytes (area_unit is.sections) (Some key)) areas ∙ omega (arith, sum, same)

  all_moved : areas_bytes (area_unit is.sections) None plan.areas ≡ bytes_before (area_unit is.sections) set (length lasts)
  unfolding bytes_before
  all_moved =
      let sum = bytes_all (area_unit is.sections) targets set 0 lasts in
      let none : 0 + length lasts ≡ length lasts = omega arith in
      let same : bytes_before (area_unit is.sections) set (0 + length lasts) ≡ bytes_before (area_unit is.sections) set (length lasts) = ap (bytes_before (area_unit is.sections) set) none in
      ap (areas_bytes (area_unit is.sections) None) areas ∙ omega (arith, sum, same)

  pub branch_moved : (key : AtomKey) → in_code before key ≡ true → place_in after key ≡ place_in before key + bytes_before (area_unit is.sections) set (groups_before lasts key)
  branch_moved key code = code_moves kept before is plan after laid behind rising key code ∙ ap (λ (n : ℕ). place_in before key + n) (first_bytes key)

  abbrev IsMovedSpot : (inside : Bool) → ℕ → ℕ → ℕ → Type 0
  IsMovedSpot inside new old zone = (inside ≡ true) × (new ≡ old + bytes_before (area_unit is.sections) set zone)

  atom_moved : (key : AtomKey) (offset : ℕ) → in_text before key ≡ true → IsMovedSpot (atom_spot after lasts key offset).inside (atom_spot after lasts key offset).place (atom_spot before lasts key offset).place (atom_spot before lasts key offset).zone
  atom_moved key offset text = (region_same kept before is plan after laid behind rising is_text key (stands_parts is_text before key text).1 ∙ text, by (cases_Bool (in_code before key)))
    where
      by : (in_code before key ≡ true) ⊎ (in_code before key ≡ false) → place_in after key + offset ≡ (place_in before key + offset) + bytes_before (area_unit is.sections) set (if in_code before key then groups_before lasts key else length lasts)
      by (inl code) =
          let moved = branch_moved key code in
          let zone : bytes_before (area_unit is.sections) set (if in_code before key then groups_before lasts key else length lasts) ≡ bytes_before (area_unit is.sections) set (groups_before lasts key) = ap (λ (b : Bool). bytes_before (area_unit is.sections) set (if b then groups_before lasts key else length lasts)) code in
          omega (arith, moved, zone)
      by (inr away) =
          let moved = text_moves kept before is plan after laid behind rising key text away in
          let zone : bytes_before (area_unit is.sections) set (if in_code before key then groups_before lasts key else length lasts) ≡ bytes_before (area_unit is.sections) set (length lasts) = ap (λ (b : Bool). bytes_before (area_unit is.sections) set (if b then groups_before lasts key else length lasts)) away in
          omega (arith, moved, zone, all_moved)

  goal_moved : (goal : Goal) → (goal_spot before lasts goal).inside ≡ true → IsMovedSpot (goal_spot after lasts goal).inside (goal_spot after lasts goal).place (goal_spot before lasts goal).place (goal_spot before lasts goal).zone
  unfolding bytes_before
  goal_moved (Def key offset) inside = atom_moved key offset inside
  goal_moved (WeakSelf name key offset) inside = atom_moved key offset inside
  goal_moved Header inside = (refl, let same = header_same kept before is plan after laid behind rising in omega (arith, same))
  goal_moved (Import name ordinal by_weak optional) inside = absurd (false≢true inside)
  goal_moved (Flat name) inside = absurd (false≢true inside)
  goal_moved Nobody inside = absurd (false≢true inside)

  stub_zone : (found : Option PlacedSection) (groups number : ℕ) → (stub_spot found groups number).zone ≡ groups
  stub_zone None groups number = refl
  stub_zone (Some p) groups number = refl

  spot_moves : (goal : Goal) (stub : Option ℕ) → (spot_by before lasts goal stub).inside ≡ true → IsMovedSpot (spot_by after lasts goal stub).inside (spot_by after lasts goal stub).place (spot_by before lasts goal stub).place (spot_by before lasts goal stub).zone
  spot_moves goal None inside = goal_moved goal inside
  spot_moves goal (Some number) inside =
      let moved = stub_shift (stubs_in after.sections) (stubs_in before.sections) (areas_bytes (area_unit is.sections) None plan.areas) (length lasts) number (stubs_shift kept before is plan after laid behind rising) inside in
      let zone : bytes_before (area_unit is.sections) set (stub_spot (stubs_in before.sections) (length lasts) number).zone ≡ bytes_before (area_unit is.sections) set (length lasts) = ap (bytes_before (area_unit is.sections) set) (stub_zone (stubs_in before.sections) (length lasts) number) in
      (moved.0, omega (arith, moved.1, zone, all_moved))

  pub target_moved : (target : BranchTarget) → (spot_of before lasts target).inside ≡ true → ((spot_of after lasts target).inside ≡ true) × ((spot_of after lasts target).place ≡ (spot_of before lasts target).place + bytes_before (area_unit is.sections) set (spot_of before lasts target).zone)
  unfolding spot_of
  target_moved target inside = spot_moves target.goal target.stub inside

-- ---- how many groups are before a target

zone_atom : (layout : Layout) (lasts : List AtomKey) (key : AtomKey) → (if in_code layout key then groups_before lasts key else length lasts) ≤ length lasts
zone_atom layout lasts key = by (in_code layout key)
  where
    by : (b : Bool) → (if b then groups_before lasts key else length lasts) ≤ length lasts
    by true = count_by-le-length (λ (last : AtomKey). is_lt (compare_keys last key)) lasts
    by false = omega arith

zone_goal : (layout : Layout) (lasts : List AtomKey) (goal : Goal) → (goal_spot layout lasts goal).zone ≤ length lasts
zone_goal layout lasts (Def key offset) = zone_atom layout lasts key
zone_goal layout lasts (WeakSelf name key offset) = zone_atom layout lasts key
zone_goal layout lasts Header = omega arith
zone_goal layout lasts (Import name ordinal by_weak optional) = omega arith
zone_goal layout lasts (Flat name) = omega arith
zone_goal layout lasts Nobody = omega arith

zone_stub : (found : Option PlacedSection) (groups number : ℕ) → (stub_spot found groups number).zone ≤ groups
zone_stub None groups number = omega arith
zone_stub (Some p) groups number = omega arith

zone_by : (layout : Layout) (lasts : List AtomKey) (goal : Goal) (stub : Option ℕ) → (spot_by layout lasts goal stub).zone ≤ length lasts
zone_by layout lasts goal None = zone_goal layout lasts goal
zone_by layout lasts goal (Some number) = zone_stub (stubs_in layout.sections) (length lasts) number

zone_low : (layout : Layout) (lasts : List AtomKey) (target : BranchTarget) → (spot_of layout lasts target).zone ≤ length lasts
unfolding spot_of
zone_low layout lasts target = zone_by layout lasts target.goal target.stub

-- ---- areas are behind atoms of `__text`

last_there : (atoms : List Atom) (most : ℕ) (extents : List Extent) (ends : List ℕ) → length extents ≡ length atoms → AreEnds most extents ends → (key : AtomKey) → In key (lasts_of atoms ends) → In key (map (λ (a : Atom). a.key) atoms)
last_there atoms most extents ends long are key h =
    let found : (end : ℕ) × In end ends × (key_at atoms (end - 1) ≡ key) = from_map (λ (end : ℕ). key_at atoms (end - 1)) ends key h in
    let at : Contains ends found.0 = Contains_from_in ends found.0 found.1 in
    let within = ends_within most extents ends are at.0 found.0 at.1 in
    let low : found.0 - 1 < length atoms = omega (arith, within.0, within.1, at.2, long) in
    let a : Atom = get_or atoms (found.0 - 1) (record { key = key_at [] 0; size = 0; align = 0 }) in
    let there : In a atoms = in_from_Contains atoms a (found.0 - 1, low, get_or_default atoms (found.0 - 1) a _ low) in
    subst (λ (k : AtomKey). In k (map (λ (x : Atom). x.key) atoms)) found.2 (in_map (λ (x : Atom). x.key) atoms a there)

-- a branch that no pair gives an island
unneeded : (b : Bool) → (b ≡ true → ⊥) → b ≡ false
unneeded true no_way = absurd (no_way refl)
unneeded false no_way = refl

module _ (kept : List Atom) (before : Layout) (branches : List Branch) (reach : ℕ) (plan : IslandPlan) (is : IsWithoutIslands kept before) (p : IsPlan kept before branches reach plan) where
  abbrev own : List AtomKey
  own = lasts_of (text_atoms kept before) p.ends

  abbrev scale : Scale
  scale = scale_of before reach (length p.ends) p.pairs

  abbrev rows : List Row
  rows = rows_of before (lasts_of (text_atoms kept before) p.ends) p.targets branches

  text_long : length (extents_of kept before) ≡ length (text_atoms kept before)
  unfolding extents_of
  text_long = length-map (text_atoms kept before) (extent_of before)

  text_rise : IsStrictlySortedBy (on (λ (atom : Atom). atom.key) compare_keys) (text_atoms kept before)
  text_rise = subst (λ (xs : List Atom). IsStrictlySortedBy (on (λ (atom : Atom). atom.key) compare_keys) xs) (sym (atoms_same kept before is)) (atoms_rise kept (code_keys is.sections) is.in_order.code)

  order : IsStrictlySortedBy compare_keys own
  order = lasts_rise (text_atoms kept before) _ (extents_of kept before) p.ends text_long text_rise p.groups

  behind : AreBehindCode kept is.sections plan.areas
  behind =
      All-from_recursion (λ (area : IslandArea). Contains (map (λ (atom : Atom). atom.key) (atoms_of kept (code_keys is.sections))) area.last) plan.areas
      (all_from_in (λ (area : IslandArea). Contains (map (λ (atom : Atom). atom.key) (atoms_of kept (code_keys is.sections))) area.last) plan.areas (λ area h.
      let last = area_last p.targets p.far 0 own area (subst (λ (xs : List IslandArea). In area xs) p.areas h) in
      let key = last_there (text_atoms kept before) _ (extents_of kept before) p.ends text_long p.groups area.last last in
      Contains_from_in (map (λ (atom : Atom). atom.key) (atoms_of kept (code_keys is.sections))) area.last (subst (λ (xs : List Atom). In area.last (map (λ (a : Atom). a.key) xs)) (atoms_same kept before is) key)))

  rising : IsStrictlySortedBy (on (λ (area : IslandArea). area.last) compare_keys) plan.areas
  rising = subst (λ (xs : List IslandArea). IsStrictlySortedBy (on (λ (area : IslandArea). area.last) compare_keys) xs) (sym p.areas) (areas_rise p.targets p.far 0 own order)

  many : length own ≡ length p.ends
  many = length-map p.ends (λ (end : ℕ). key_at (text_atoms kept before) (end - 1))

  grouped : (branch : Branch) → in_code before branch.atom ≡ true → is_grouped (row_of before own p.targets branch).case ≡ true
  unfolding row_of
  grouped branch code = rw code (grouped_case (spot_of before own branch.target).inside (is_plain branch.target.addend))

  row_is : (k : ℕ) (branch : Branch) → slice_get branches k ≡ Some branch → row_at rows k ≡ row_of before own p.targets branch
  row_is k branch at =
      get_or-map (row_of before own p.targets) branches k branch (row_at [] 0) (slice_get_within branches k branch at) ∙ ap (row_of before own p.targets) (get_or_from_slice_get branches k branch branch at)

  no_pair : (k : ℕ) (branch : Branch) → slice_get branches k ≡ Some branch → in_code before branch.atom ≡ true → get_or plan.ways k None ≡ None → has p.far (row_of before own p.targets branch).pair ≡ true → ⊥
  no_pair k branch at code none e =
      let size : length rows ≡ length branches = length-map branches (row_of before own p.targets) in
      let low = slice_get_within branches k branch at in
      let way = subst (λ (w : Option ℕ). IsWay p.far (row_at rows k) w) none (p.ways.each k (omega (arith, low, size))) in
      let here = subst (λ (r : Row). IsWay p.far r None) (row_is k branch at) way in
      here (grouped branch code) (Contains_from_in p.far (row_of before own p.targets branch).pair (in_from_has p.far (row_of before own p.targets branch).pair e))

  -- a branch of a group without an island needs none
  needs_none : (k : ℕ) (branch : Branch) → slice_get branches k ≡ Some branch → in_code before branch.atom ≡ true → get_or plan.ways k None ≡ None → needs scale p.far (row_of before own p.targets branch) ≡ false
  needs_none k branch at code none = unneeded (needs scale p.far (row_of before own p.targets branch)) (λ e. no_pair k branch at code none (closed e))
    where
      closed : needs scale p.far (row_of before own p.targets branch) ≡ true → has p.far (row_of before own p.targets branch).pair ≡ true
      closed e =
          let size : length rows ≡ length branches = length-map branches (row_of before own p.targets) in
          let low = slice_get_within branches k branch at in
          subst (λ (r : Row). has p.far r.pair ≡ true) (row_is k branch at) (p.least.closed k (row_at [] 0) (omega (arith, low, size)) (subst (λ (r : Row). needs scale p.far r ≡ true) (sym (row_is k branch at)) e))

  -- no pairs move anything farther than all
  slack_enough : (group : ℕ) → group ≤ length p.ends → bytes_before scale.unit p.far group ≤ scale.slack
  unfolding bytes_before
  slack_enough group low =
      let within : IsWithin p.far p.pairs = record { rises = p.least.rises; all = far_in scale rows p.pairs p.far p.taken p.least } in
      let apart = moves_apart scale.unit p.far p.pairs within 0 (length p.ends) (omega arith) in
      let up = moves_up scale.unit p.far group (length p.ends - group) in
      let same : group + (length p.ends - group) ≡ length p.ends = omega (arith, low) in
      let top : bytes_before scale.unit p.far (group + (length p.ends - group)) ≡ bytes_before scale.unit p.far (length p.ends) = ap (bytes_before scale.unit p.far) same in
      omega (arith, apart, up, top)

  module _ (after : Layout) (laid : IsLayoutOf is.command (plan_of kept is.sections is.slots plan is.sizes is.command) after) where
    unit_is : unit_in before.sections ≡ area_unit is.sections
    unit_is = unit_same kept before is plan after laid behind rising

    from_moved : (branch : Branch) → in_code before branch.atom ≡ true → from_of after branch ≡ from_of before branch + bytes_before scale.unit p.far (groups_before own branch.atom)
    from_moved branch code =
        let moved = branch_moved kept before is plan after laid behind rising own p.targets p.far order p.areas branch.atom code in
        let same : bytes_before scale.unit p.far (groups_before own branch.atom) ≡ bytes_before (area_unit is.sections) p.far (groups_before own branch.atom) = ap (λ (u : ℕ). bytes_before u p.far (groups_before own branch.atom)) unit_is in
        omega (arith, moved, same)

    to_moved : (branch : Branch) → IsWord branch.target.addend → (spot_of before own branch.target).inside ≡ true → (to_of after branch ≡ raised (spot_of before own branch.target).place branch.target.addend + bytes_before scale.unit p.far (spot_of before own branch.target).zone) × ((spot_of after [] branch.target).inside ≡ true)
    to_moved branch word inside =
        let target = branch.target in
        let moved = target_moved kept before is plan after laid behind rising own p.targets p.far order p.areas target inside in
        let same = same_spot after own [] target in
        let unit_too : bytes_before (area_unit is.sections) p.far (spot_of before own target).zone ≡ bytes_before scale.unit p.far (spot_of before own target).zone = ap (λ (u : ℕ). bytes_before u p.far (spot_of before own target).zone) (sym unit_is) in
        let place : (spot_of after [] target).place ≡ (spot_of before own target).place + bytes_before scale.unit p.far (spot_of before own target).zone = sym same.1 ∙ (moved.1 ∙ ap (λ (n : ℕ). (spot_of before own target).place + n) unit_too) in
        (ap (λ (n : ℕ). raised n target.addend) place ∙ raised_moves (spot_of before own target).place (bytes_before scale.unit p.far (spot_of before own target).zone) target.addend word, sym same.0 ∙ moved.0)

    abbrev plainly : Branch → Bool
    plainly branch = in_reach reach (from_of before branch + bytes_before scale.unit p.far (groups_before own branch.atom)) (raised (spot_of before own branch.target).place branch.target.addend + bytes_before scale.unit p.far (spot_of before own branch.target).zone)

    abbrev by_slack : Branch → Bool
    by_slack branch = in_reach_by reach scale.slack (from_of before branch) (raised (spot_of before own branch.target).place branch.target.addend)

    pub reached : (k : ℕ) (branch : Branch) → slice_get branches k ≡ Some branch → in_code before branch.atom ≡ true → IsWord branch.target.addend → get_or plan.ways k None ≡ None → Reaches after reach branch
    unfolding row_of
    reached k branch at code word none = by (cases_Bool (is_plain branch.target.addend))
      where
        is_free : IsFree (spot_of before own branch.target).inside (is_plain branch.target.addend) (plainly branch) (by_slack branch)
        is_free = free (spot_of before own branch.target).inside (is_plain branch.target.addend) (plainly branch) (by_slack branch) (subst (λ (b : Bool). takes (case_of b (spot_of before own branch.target).inside (is_plain branch.target.addend)) (not (plainly branch)) (not (by_slack branch)) ≡ false) code (needs_none k branch at code none))

        moved_to : (to_of after branch ≡ raised (spot_of before own branch.target).place branch.target.addend + bytes_before scale.unit p.far (spot_of before own branch.target).zone) × ((spot_of after [] branch.target).inside ≡ true)
        moved_to = to_moved branch word is_free.inside

        there : in_reach reach (from_of before branch + bytes_before scale.unit p.far (groups_before own branch.atom)) (raised (spot_of before own branch.target).place branch.target.addend + bytes_before scale.unit p.far (spot_of before own branch.target).zone) ≡ true → Reaches after reach branch
        there e = record {
          inside = moved_to.1;
          near = ap₂ (λ (f t : ℕ). in_reach reach f t) (from_moved branch code) moved_to.0 ∙ e;
        }

        by : (is_plain branch.target.addend ≡ true) ⊎ (is_plain branch.target.addend ≡ false) → Reaches after reach branch
        by (inl plain) = there (is_free.plain plain)
        by (inr added) =
            let near = near_by reach scale.slack (from_of before branch) (raised (spot_of before own branch.target).place branch.target.addend) (is_free.added added) in
            let s = bytes_before scale.unit p.far (groups_before own branch.atom) in
            let t = bytes_before scale.unit p.far (spot_of before own branch.target).zone in
            let least : 2 ≤ scale.unit = omega (arith, unit_least is.sections, unit_is) in
            let low_s = slack_enough (groups_before own branch.atom) (omega (arith, count_by-le-length (λ (last : AtomKey). is_lt (compare_keys last branch.atom)) own, many)) in
            let low_t = slack_enough (spot_of before own branch.target).zone (omega (arith, zone_low before own branch.target, many)) in
            let words_s = moves_rest scale.unit p.far least (groups_before own branch.atom) (from_of before branch) in
            let words_t = moves_rest scale.unit p.far least (spot_of before own branch.target).zone (raised (spot_of before own branch.target).place branch.target.addend) in
            there (reach_from reach (from_of before branch + s) (raised (spot_of before own branch.target).place branch.target.addend + t) (omega (arith, near.forth, low_s, low_t)) (omega (arith, near.back, low_s, low_t)) (words_s ∙ (near.words ∙ sym words_t)))
