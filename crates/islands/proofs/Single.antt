-- An image has one plan, and none of its islands is idle.
use Rattle.std.proofs.Common.{◌≡◌, ℕ, zero, suc, ◌+◌, ◌/◌, ◌<◌, ◌≤◌, Bool, true, false, not, List, [], ◌∷◌, length, get_or, map, All, Contains, Option, Some, None, slice_get, refl, sym, ap, ap₂, subst, ◌∙◌, inl, inr, arith}
use Rattle.std.specs.List.{filter}
use Rattle.std.specs.List.Sorted.{IsStrictlySortedBy}
use Rattle.std.specs.Ordering.{on}
use Rattle.std.specs.declared.cmp.Ordering.TheVariants.{Less}
use Rattle.std.proofs.lemmas.Bool.{cases_eq, cases_lt}
use Rattle.std.proofs.lemmas.List.{get_or-map, get_or_default, length-map, same_lists}
use Rattle.std.proofs.lemmas.Option.{get_or_from_slice_get, slice_get_within}
use Rattle.std.proofs.lemmas.List.Elements.{All-from_recursion, recursion_from_All}
use Rattle.list_lemmas.proofs.Members.{In, Contains_from_in, all_map, all_weaker, in_from_Contains}
use Rattle.list_lemmas.proofs.Rising.{rising_apart, rising_at, rising_map, rising_same}
use Rattle.mo_types.specs.Keys.{compare_keys}
use Rattle.mo_types.specs.declared.atom.Atom.{Atom}
use Rattle.mo_types.specs.declared.goal.Goal.{Goal}
use Rattle.mo_types.specs.declared.goal.Goal.TheVariants.{Def, WeakSelf, Header, Import, Flat, Nobody}
use Rattle.mo_types.specs.declared.key.AtomKey.{AtomKey}
use Rattle.tlv_plan.specs.Template.{atoms_of}
use Rattle.sect_list.proofs.Once.{keys_apart, one_by_map}
use Rattle.sect_place.specs.Moved.{code_keys}
use Rattle.sect_place.specs.declared.island.BranchTarget.{BranchTarget}
use Rattle.sect_place.specs.declared.island.IslandArea.{IslandArea}
use Rattle.sect_place.specs.declared.island.IslandPlan.{IslandPlan}
use Rattle.sect_place.specs.declared.layout.Layout.{Layout}
use Rattle.sect_place.specs.declared.layout.PlacedSection.{PlacedSection}
use Rattle.island_core.specs.Far.{ArePairs, IsClosed, IsFar, bytes_before, compare_pairs, has, in_reach, in_reach_by, needs, same_pair, takes}
use Rattle.island_core.specs.Groups.{EndsRise, extent_at}
use Rattle.island_core.specs.declared.cut.Extent.{Extent}
use Rattle.island_core.specs.declared.row.Pair.{Pair}
use Rattle.island_core.specs.declared.row.Row.{Row}
use Rattle.island_core.specs.declared.row.Scale.{Scale}
use Rattle.island_core.proofs.CutLemmas.{one_cutting}
use Rattle.island_core.proofs.LawLemmas.{needed, no_far, one_set}
use Rattle.island_core.proofs.PairLemmas.{compare_pairs_total, has_from_in, in_from_has}
use Rattle.islands.specs.Plan.{AreWays, IsPlan, IsWay, IsWithoutIslands, areas_from, row_at, scale_of}
use Rattle.islands.specs.Reach.{NeedsNone, from_of, to_of}
use Rattle.islands.specs.Rows.{case_of, goal_spot, is_plain, raised, row_of, rows_of, spot_by, spot_of, stub_spot, stubs_in}
use Rattle.islands.specs.Targets.{AreTargets}
use Rattle.islands.specs.Text.{extent_of, extents_of, groups_before, in_code, key_at, lasts_of, place_in, text_atoms}
use Rattle.islands.specs.declared.branch.Branch.{Branch}
use Rattle.islands.proofs.Keyed.{compare_targets_total}
use Rattle.islands.proofs.Layouts.{atoms_kept, atoms_same}
use Rattle.islands.proofs.Stood.{atoms_rise, code_placed, code_seat, seats_in_turn}

-- ---- targets, pairs and ways are one

same_targets : (goes a b : List BranchTarget) → AreTargets goes a → AreTargets goes b → a ≡ b
same_targets goes a b p q =
    rising_same compare_targets_total a b p.rises q.rises
    (λ t h. in_from_Contains b t (q.all t (p.only t (Contains_from_in a t h))))
    (λ t h. in_from_Contains a t (p.all t (q.only t (Contains_from_in b t h))))

same_pairs : (rows : List Row) (a b : List Pair) → ArePairs rows a → ArePairs rows b → a ≡ b
same_pairs rows a b p q =
    rising_same compare_pairs_total a b p.rises q.rises
    (λ t h. in_from_has b t (q.same t ∙ (sym (p.same t) ∙ has_from_in a t h)))
    (λ t h. in_from_has a t (p.same t ∙ (sym (q.same t) ∙ has_from_in b t h)))

one_at : (far : List Pair) (pair : Pair) (i j : ℕ) → IsStrictlySortedBy compare_pairs far → slice_get far i ≡ Some pair → slice_get far j ≡ Some pair → i ≡ j
one_at far pair i j rises e f = elim (cases_eq i j) [
  | inl same ↦ same
  | inr differ ↦ elim (cases_lt i j) [
    | inl less ↦ absurd (rising_apart compare_pairs_total far i j pair rises less (slice_get_within far j pair f) (get_or_from_slice_get far i pair pair e ∙ sym (get_or_from_slice_get far j pair pair f)))
    | inr up ↦ absurd (rising_apart compare_pairs_total far j i pair rises (omega (arith, up, differ)) (slice_get_within far i pair e) (get_or_from_slice_get far j pair pair f ∙ sym (get_or_from_slice_get far i pair pair e)))
  ]
]

got : (far : List Pair) (pair : Pair) (j : ℕ) → slice_get far j ≡ Some pair → Contains far pair
got far pair j e = (j, slice_get_within far j pair e, get_or_from_slice_get far j pair pair e)

same_way : (far : List Pair) (row : Row) (a b : Option ℕ) → IsStrictlySortedBy compare_pairs far → IsWay far row a → IsWay far row b → a ≡ b
same_way far row None None rises p q = refl
same_way far row None (Some j) rises p q = absurd (p q.0 (got far row.pair j q.1))
same_way far row (Some i) None rises p q = absurd (q p.0 (got far row.pair i p.1))
same_way far row (Some i) (Some j) rises p q = ap Some (one_at far row.pair i j rises p.1 q.1)

same_ways : (far : List Pair) (rows : List Row) (a b : List (Option ℕ)) → IsStrictlySortedBy compare_pairs far → AreWays far rows a → AreWays far rows b → a ≡ b
same_ways far rows a b rises p q =
    same_lists a b (p.all ∙ sym q.all) (λ k d low.
    let within : k < length rows = omega (arith, low, p.all) in
    let there : k < length b = omega (arith, low, p.all, q.all) in
    get_or_default a k d None low ∙ (same_way far (row_at rows k) (get_or a k None) (get_or b k None) rises (p.each k within) (q.each k within) ∙ get_or_default b k None d there))

-- ---- the ends of atoms rise

module _ (kept : List Atom) (layout : Layout) (is : IsWithoutIslands kept layout) where
  atom_ends : (atoms : List Atom) → ((x y : Atom) → In x atoms → In y atoms → compare_keys x.key y.key ≡ Less → place_in layout x.key + x.size ≤ place_in layout y.key) → IsStrictlySortedBy (on (λ (a : Atom). a.key) compare_keys) atoms → EndsRise (map (extent_of layout) atoms)
  atom_ends atoms apart rises low high order within = elim (cases_eq low high) [
    | inl same ↦ subst (λ (n : ℕ). (extent_at (map (extent_of layout) atoms) low).to ≤ (extent_at (map (extent_of layout) atoms) n).to) same (omega arith)
    | inr differ ↦ by (omega (arith, order, differ))
  ]
    where
      none : Extent
      none = record { from = 0; to = 0 }

      many : length (map (extent_of layout) atoms) ≡ length atoms
      many = length-map atoms (extent_of layout)

      default : Atom
      default = record { key = key_at [] 0; size = 0; align = 0 }

      there : (n : ℕ) → n < length atoms → In (get_or atoms n default) atoms
      there n low = in_from_Contains atoms (get_or atoms n default) (n, low, get_or_default atoms n (get_or atoms n default) default low)

      by : low < high → (extent_at (map (extent_of layout) atoms) low).to ≤ (extent_at (map (extent_of layout) atoms) high).to
      by less =
          let a = get_or atoms low default in
          let b = get_or atoms high default in
          let here : extent_at (map (extent_of layout) atoms) low ≡ extent_of layout a = get_or-map (extent_of layout) atoms low default none (omega (arith, less, within, many)) in
          let next : extent_at (map (extent_of layout) atoms) high ≡ extent_of layout b = get_or-map (extent_of layout) atoms high default none (omega (arith, within, many)) in
          let before = apart a b (there low (omega (arith, less, within, many))) (there high (omega (arith, within, many))) (rising_at (on (λ (x : Atom). x.key) compare_keys) atoms low high default rises less (omega (arith, within, many))) in
          let one : (extent_at (map (extent_of layout) atoms) low).to ≡ place_in layout a.key + a.size = ap (λ (e : Extent). e.to) here in
          let two : (extent_at (map (extent_of layout) atoms) high).to ≡ place_in layout b.key + b.size = ap (λ (e : Extent). e.to) next in
          omega (arith, one, two, before)

  same_kept : (a b : Atom) → In a kept → In b kept → a.key ≡ b.key → a ≡ b
  same_kept a b h k e = one_by_map (λ (x : Atom). x.key) kept (keys_apart (map (λ (x : Atom). x.key) kept) (rising_map (λ (x : Atom). x.key) compare_keys kept is.rises)) a b h k e

  text_atom : (x : Atom) → In x (atoms_of kept (code_keys is.sections)) → (y : Atom) → In y (atoms_of kept (code_keys is.sections)) → compare_keys x.key y.key ≡ Less → place_in layout x.key + x.size ≤ place_in layout y.key
  text_atom x h y k less =
      let a = code_seat kept layout is x.key (code_placed kept layout is x h) in
      let b = code_seat kept layout is y.key (code_placed kept layout is y k) in
      let same : a.atom ≡ x = same_kept a.atom x a.has (atoms_kept kept (code_keys is.sections) x h) a.named in
      let before = seats_in_turn kept layout is x.key y.key (place_in layout x.key) (place_in layout y.key) a b less in
      let size : a.atom.size ≡ x.size = ap (λ (z : Atom). z.size) same in
      omega (arith, before, size)

  pub ends_rise : EndsRise (extents_of kept layout)
  unfolding extents_of
  ends_rise =
      subst (λ (atoms : List Atom). EndsRise (map (extent_of layout) atoms)) (sym (atoms_same kept layout is))
      (atom_ends (atoms_of kept (code_keys is.sections)) (λ x y h k less. text_atom x h y k less) (atoms_rise kept (code_keys is.sections) is.in_order.code))

pub one_plan : (kept : List Atom) (layout : Layout) (branches : List Branch) (reach : ℕ) (a b : IslandPlan) → IsWithoutIslands kept layout → IsPlan kept layout branches reach a → IsPlan kept layout branches reach b → a ≡ b
one_plan kept layout branches reach a b is p q =
    let ends : q.ends ≡ p.ends = one_cutting (reach / 2) (extents_of kept layout) q.ends p.ends (ends_rise kept layout is) q.groups p.groups in
    let targets : q.targets ≡ p.targets = same_targets (map (λ (branch : Branch). branch.target) branches) q.targets p.targets q.goes p.goes in
    let text = text_atoms kept layout in
    let rows_p = rows_of layout (lasts_of text p.ends) p.targets branches in
    let rows : rows_of layout (lasts_of text q.ends) q.targets branches ≡ rows_p = ap₂ (λ (es : List ℕ) (ts : List BranchTarget). rows_of layout (lasts_of text es) ts branches) ends targets in
    let pairs : q.pairs ≡ p.pairs = same_pairs rows_p q.pairs p.pairs (subst (λ (rs : List Row). ArePairs rs q.pairs) rows q.taken) p.taken in
    let scale : scale_of layout reach (length q.ends) q.pairs ≡ scale_of layout reach (length p.ends) p.pairs = ap₂ (λ (es : List ℕ) (ps : List Pair). scale_of layout reach (length es) ps) ends pairs in
    let far : q.far ≡ p.far = one_set (scale_of layout reach (length p.ends) p.pairs) rows_p q.far p.far (subst (λ (s : Scale). IsFar s rows_p q.far) scale (subst (λ (rs : List Row). IsFar (scale_of layout reach (length q.ends) q.pairs) rs q.far) rows q.least)) p.least in
    let areas : a.areas ≡ b.areas = p.areas ∙ sym (q.areas ∙ (ap₂ (λ (ts : List BranchTarget) (fs : List Pair). areas_from ts fs 0 (lasts_of text q.ends)) targets far ∙ ap (λ (es : List ℕ). areas_from p.targets p.far 0 (lasts_of text es)) ends)) in
    let ways : a.ways ≡ b.ways = same_ways p.far rows_p a.ways b.ways p.least.rises p.ways (subst (λ (fs : List Pair). AreWays fs rows_p b.ways) far (subst (λ (rs : List Row). AreWays q.far rs b.ways) rows q.ways)) in
    same_plan a.areas b.areas a.ways b.ways areas ways
  where
    same_plan : (xs ys : List IslandArea) (us vs : List (Option ℕ)) → xs ≡ ys → us ≡ vs → (let x : IslandPlan = record { areas = xs; ways = us } in x) ≡ record { areas = ys; ways = vs }
    same_plan xs ys us vs e f = rw (e, f) refl

pub left_out : (kept : List Atom) (layout : Layout) (branches : List Branch) (reach : ℕ) (plan : IslandPlan) (pair : Pair) (is : IsPlan kept layout branches reach plan) → has is.far pair ≡ true
    → IsClosed (scale_of layout reach (length is.ends) is.pairs) (rows_of layout (lasts_of (text_atoms kept layout) is.ends) is.targets branches) (filter (λ (other : Pair). not (same_pair other pair)) is.far) → ⊥
left_out kept layout branches reach plan pair is there closed = needed (scale_of layout reach (length is.ends) is.pairs) (rows_of layout (lasts_of (text_atoms kept layout) is.ends) is.targets branches) is.far pair is.least there closed

-- ---- no islands

nothing_before : (unit group : ℕ) → bytes_before unit [] group ≡ 0
unfolding bytes_before
nothing_before unit zero = refl
nothing_before unit (suc group) = omega (arith, nothing_before unit group)

same_stub : (found : Option PlacedSection) (a b number : ℕ) → ((stub_spot found a number).inside ≡ (stub_spot found b number).inside) × ((stub_spot found a number).place ≡ (stub_spot found b number).place)
same_stub None a b number = (refl, refl)
same_stub (Some p) a b number = (refl, refl)

same_goal_spot : (layout : Layout) (xs ys : List AtomKey) (goal : Goal) → ((goal_spot layout xs goal).inside ≡ (goal_spot layout ys goal).inside) × ((goal_spot layout xs goal).place ≡ (goal_spot layout ys goal).place)
same_goal_spot layout xs ys (Def key offset) = (refl, refl)
same_goal_spot layout xs ys (WeakSelf name key offset) = (refl, refl)
same_goal_spot layout xs ys Header = (refl, refl)
same_goal_spot layout xs ys (Import name ordinal by_weak optional) = (refl, refl)
same_goal_spot layout xs ys (Flat name) = (refl, refl)
same_goal_spot layout xs ys Nobody = (refl, refl)

by_stub : (layout : Layout) (xs ys : List AtomKey) (goal : Goal) (stub : Option ℕ) → ((spot_by layout xs goal stub).inside ≡ (spot_by layout ys goal stub).inside) × ((spot_by layout xs goal stub).place ≡ (spot_by layout ys goal stub).place)
by_stub layout xs ys goal None = same_goal_spot layout xs ys goal
by_stub layout xs ys goal (Some number) = same_stub (stubs_in layout.sections) (length xs) (length ys) number

pub same_spot : (layout : Layout) (xs ys : List AtomKey) (target : BranchTarget) → ((spot_of layout xs target).inside ≡ (spot_of layout ys target).inside) × ((spot_of layout xs target).place ≡ (spot_of layout ys target).place)
unfolding spot_of
same_spot layout xs ys target = by_stub layout xs ys target.goal target.stub

taken_none : (a b c x y : Bool) → (a ≡ true → b ≡ true) → (a ≡ true → c ≡ true → x ≡ true) → (a ≡ true → c ≡ false → y ≡ true) → takes (case_of a b c) (not x) (not y) ≡ false
taken_none false b c x y f g h = refl
taken_none true b true x y f g h = rw (f refl, g refl refl) refl
taken_none true b false x y f g h = rw (f refl, h refl refl) refl

pub row_needs_none : (layout : Layout) (lasts : List AtomKey) (targets : List BranchTarget) (scale : Scale) (branch : Branch) → NeedsNone layout scale branch → needs scale [] (row_of layout lasts targets branch) ≡ false
unfolding row_of
row_needs_none layout lasts targets scale branch none =
    let same = same_spot layout lasts [] branch.target in
    let spot = spot_of layout lasts branch.target in
    let from : from_of layout branch + bytes_before scale.unit [] (groups_before lasts branch.atom) ≡ from_of layout branch = omega (arith, nothing_before scale.unit (groups_before lasts branch.atom)) in
    let place : raised spot.place branch.target.addend ≡ to_of layout branch = ap (λ (n : ℕ). raised n branch.target.addend) same.1 in
    let to : raised spot.place branch.target.addend + bytes_before scale.unit [] spot.zone ≡ to_of layout branch = omega (arith, nothing_before scale.unit spot.zone, place) in
    taken_none (in_code layout branch.atom) spot.inside (is_plain branch.target.addend) _ _
    (λ code. same.0 ∙ none.inside code)
    (λ code plain. ap₂ (λ (f t : ℕ). in_reach scale.reach f t) from to ∙ none.plain code plain)
    (λ code added. ap (λ (t : ℕ). in_reach_by scale.reach scale.slack (from_of layout branch) t) place ∙ none.added code added)

pub no_areas : (targets : List BranchTarget) (group : ℕ) (lasts : List AtomKey) → areas_from targets [] group lasts ≡ []
unfolding areas_from
no_areas targets group [] = refl
no_areas targets group (last ∷ lasts) = no_areas targets (group + 1) lasts

no_way : (row : Row) (way : Option ℕ) → IsWay [] row way → way ≡ None
no_way row None is = refl
no_way row (Some at) is = absurd (omega (arith, slice_get_within [] at row.pair is.1))

pub none_needed : (kept : List Atom) (layout : Layout) (branches : List Branch) (reach : ℕ) (plan : IslandPlan) (is : IsPlan kept layout branches reach plan) → All (NeedsNone layout (scale_of layout reach (length is.ends) is.pairs)) branches
    → (plan.areas ≡ []) × ((k : ℕ) → k < length branches → get_or plan.ways k None ≡ None)
none_needed kept layout branches reach plan is none = (
  is.areas ∙ (ap (λ (fs : List Pair). areas_from is.targets fs 0 lasts) nothing ∙ no_areas is.targets 0 lasts),
  (λ k low. no_way (row_at rows k) (get_or plan.ways k None) (subst (λ (fs : List Pair). IsWay fs (row_at rows k) (get_or plan.ways k None)) nothing (is.ways.each k (omega (arith, low, length-map branches (row_of layout lasts is.targets)))))),
)
  where
    lasts : List AtomKey
    lasts = lasts_of (text_atoms kept layout) is.ends

    rows : List Row
    rows = rows_of layout (lasts_of (text_atoms kept layout) is.ends) is.targets branches

    scale : Scale
    scale = scale_of layout reach (length is.ends) is.pairs

    nothing : is.far ≡ []
    nothing =
        no_far (scale_of layout reach (length is.ends) is.pairs) (rows_of layout (lasts_of (text_atoms kept layout) is.ends) is.targets branches) is.far is.least
        (All-from_recursion (λ (row : Row). needs (scale_of layout reach (length is.ends) is.pairs) [] row ≡ false) (rows_of layout (lasts_of (text_atoms kept layout) is.ends) is.targets branches)
        (all_map (row_of layout (lasts_of (text_atoms kept layout) is.ends) is.targets) (λ (row : Row). needs (scale_of layout reach (length is.ends) is.pairs) [] row ≡ false) branches
        (all_weaker (NeedsNone layout (scale_of layout reach (length is.ends) is.pairs)) (λ (branch : Branch). needs (scale_of layout reach (length is.ends) is.pairs) [] (row_of layout (lasts_of (text_atoms kept layout) is.ends) is.targets branch) ≡ false)
        (λ branch one. row_needs_none layout (lasts_of (text_atoms kept layout) is.ends) is.targets (scale_of layout reach (length is.ends) is.pairs) branch one) branches (recursion_from_All (NeedsNone layout (scale_of layout reach (length is.ends) is.pairs)) branches none))))
