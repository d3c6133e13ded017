-- What a plan of islands is made of.
use Rattle.std.proofs.Common.{◌≡◌, ℕ, ◌+◌, ◌-◌, ◌/◌, ◌<◌, ◌≤◌, ◌∷◌, Bool, true, false, List, [], length, get_or, map, All, count_by, refl, sym, ap, subst, ◌∙◌, inl, inr, arith, add-one}
use Rattle.std.specs.List.{filter}
use Rattle.std.specs.List.Sorted.{IsStrictlySortedBy}
use Rattle.std.specs.Ordering.{is_lt, on}
use Rattle.std.specs.declared.cmp.Ordering.TheVariants.{Less}
use Rattle.std.proofs.lemmas.Bool.{cases_Bool, false≢true}
use Rattle.std.proofs.lemmas.Cmp.{tied_itself}
use Rattle.std.proofs.lemmas.List.{get_or-map, get_or_default, length-map}
use Rattle.std.proofs.lemmas.List.Elements.{All-from_recursion, recursion_from_All}
use Rattle.std.proofs.lemmas.List.Sums.{count_by-le-length}
use Rattle.list_lemmas.proofs.Members.{In, Contains_from_in, all_from_in, all_in, all_map, all_weaker, from_filter, from_map, in_filter, in_from_Contains, in_map}
use Rattle.list_lemmas.proofs.Rising.{rising_apart, rising_at}
use Rattle.mo_types.proofs.KeyOrder.{compare_keys_total}
use Rattle.mo_types.specs.Keys.{compare_keys}
use Rattle.mo_types.specs.declared.atom.Atom.{Atom}
use Rattle.mo_types.specs.declared.key.AtomKey.{AtomKey}
use Rattle.atom_index.proofs.Keys.{rises}
use Rattle.tlv_plan.specs.Template.{atoms_of}
use Rattle.sect_place.specs.Moved.{code_keys}
use Rattle.sect_place.specs.Shifts.{sections_in, unit_in}
use Rattle.sect_place.specs.declared.island.BranchTarget.{BranchTarget}
use Rattle.sect_place.specs.declared.island.IslandPlan.{IslandPlan}
use Rattle.sect_place.specs.declared.layout.Layout.{Layout}
use Rattle.sect_place.specs.declared.layout.PlacedSection.{PlacedSection}
use Rattle.island_core.specs.Far.{ArePairs, IsClosed, IsFar, IsInTurn, IsSet, bytes_before, compare_pairs, has, is_grouped, needs}
use Rattle.island_core.specs.Groups.{AreEnds, first_of}
use Rattle.island_core.specs.declared.cut.Extent.{Extent}
use Rattle.island_core.specs.declared.row.Case.{Case}
use Rattle.island_core.specs.declared.row.Case.TheVariants.{Outside, Away, Plain, Added}
use Rattle.island_core.specs.declared.row.Pair.{Pair}
use Rattle.island_core.specs.declared.row.Row.{Row}
use Rattle.island_core.specs.declared.row.Scale.{Scale}
use Rattle.island_core.proofs.PairLemmas.{compare_pairs_total, has_from_in, in_from_has}
use Rattle.islands.specs.declared.branch.Branch.{Branch}
use Rattle.islands.specs.Plan.{AreWays, IsInAtoms, IsPlan, IsWithoutIslands, areas_from, scale_of}
use Rattle.islands.specs.Rows.{row_of, rows_of}
use Rattle.islands.specs.Targets.{AreTargets, compare_targets, number_of}
use Rattle.islands.specs.Text.{extent_of, extents_of, key_at, lasts_of, text_atoms}
use Rattle.islands.specs.inner.Cut.{IsCut}
use Rattle.islands.specs.inner.Scaled.{IsScaleOf}
use Rattle.islands.proofs.Counting.{count_cons}
use Rattle.islands.proofs.Keyed.{compare_targets_total}
use Rattle.islands.proofs.Layouts.{atoms_same}
use Rattle.islands.proofs.Stood.{atoms_rise}
use Rattle.islands.proofs.Turns.{in_turn}

-- ---- groups

pub ends_within : (most : ℕ) (extents : List Extent) (ends : List ℕ) → AreEnds most extents ends → All (λ (end : ℕ). (0 < end) × (end ≤ length extents)) ends
ends_within most extents ends are k d low =
    let group = are.each k low in
    let same : get_or ends k d ≡ get_or ends k 0 = get_or_default ends k d 0 low in
    (omega (arith, group.some, same), omega (arith, group.within, same))

lasts_next : (atoms : List Atom) (most : ℕ) (extents : List Extent) (ends : List ℕ) → length extents ≡ length atoms → IsStrictlySortedBy (on (λ (atom : Atom). atom.key) compare_keys) atoms → AreEnds most extents ends
    → (k : ℕ) (d : AtomKey) → k + 1 < length ends → compare_keys (get_or (lasts_of atoms ends) k d) (get_or (lasts_of atoms ends) (k + 1) d) ≡ Less
lasts_next atoms most extents ends long rising are k d low =
    let here = are.each k (omega (arith, low)) in
    let next = are.each (k + 1) low in
    let begins : first_of ends (k + 1) ≡ get_or ends k 0 = ap (first_of ends) (add-one k) in
    let one : get_or (lasts_of atoms ends) k d ≡ key_at atoms (get_or ends k 0 - 1) = get_or-map (λ (end : ℕ). key_at atoms (end - 1)) ends k 0 d (omega (arith, low)) in
    let two : get_or (lasts_of atoms ends) (k + 1) d ≡ key_at atoms (get_or ends (k + 1) 0 - 1) = get_or-map (λ (end : ℕ). key_at atoms (end - 1)) ends (k + 1) 0 d low in
    subst (λ (a : AtomKey). compare_keys a (get_or (lasts_of atoms ends) (k + 1) d) ≡ Less) (sym one)
    (subst (λ (b : AtomKey). compare_keys (key_at atoms (get_or ends k 0 - 1)) b ≡ Less) (sym two)
    (rising_at (on (λ (atom : Atom). atom.key) compare_keys) atoms (get_or ends k 0 - 1) (get_or ends (k + 1) 0 - 1) _ rising (omega (arith, here.some, next.some, begins)) (omega (arith, here.some, next.some, begins, next.within, long))))

pub lasts_rise : (atoms : List Atom) (most : ℕ) (extents : List Extent) (ends : List ℕ) → length extents ≡ length atoms → IsStrictlySortedBy (on (λ (atom : Atom). atom.key) compare_keys) atoms → AreEnds most extents ends → IsStrictlySortedBy compare_keys (lasts_of atoms ends)
lasts_rise atoms most extents ends long rising are =
    rises compare_keys_total (lasts_of atoms ends) (λ k d low. lasts_next atoms most extents ends long rising are k d (omega (arith, low, length-map ends (λ (end : ℕ). key_at atoms (end - 1)))))

pub is_cut : (kept : List Atom) (layout : Layout) (reach most : ℕ) (atoms : List Atom) (extents : List Extent) (ends : List ℕ) (lasts : List AtomKey) → IsWithoutIslands kept layout → atoms ≡ text_atoms kept layout → extents ≡ map (extent_of layout) atoms → most ≡ reach / 2
    → AreEnds most extents ends → lasts ≡ lasts_of atoms ends → IsCut kept layout reach lasts
unfolding extents_of
is_cut kept layout reach most atoms extents ends lasts is of_text are half cut those =
    let same : extents ≡ extents_of kept layout = are ∙ ap (map (extent_of layout)) of_text in
    let long : length extents ≡ length atoms = ap length are ∙ length-map atoms (extent_of layout) in
    let rising : IsStrictlySortedBy (on (λ (atom : Atom). atom.key) compare_keys) atoms = subst (λ (xs : List Atom). IsStrictlySortedBy (on (λ (atom : Atom). atom.key) compare_keys) xs) (sym (of_text ∙ atoms_same kept layout is)) (atoms_rise kept _ is.in_order.code) in
    record {
      ends = ends;
      groups = subst (λ (n : ℕ). AreEnds n (extents_of kept layout) ends) half (subst (λ (xs : List Extent). AreEnds most xs ends) same cut);
      lasts_are = those ∙ ap (λ (xs : List Atom). lasts_of xs ends) of_text;
      rises = subst (λ (keys : List AtomKey). IsStrictlySortedBy compare_keys keys) (sym those) (lasts_rise atoms most extents ends long rising cut);
    }

-- ---- rows

pub rows_turn : (kept : List Atom) (layout : Layout) (lasts : List AtomKey) (targets : List BranchTarget) (branches : List Branch) (rows : List Row) → IsWithoutIslands kept layout → All (IsInAtoms kept) branches → rows ≡ rows_of layout lasts targets branches → All IsInTurn rows
rows_turn kept layout lasts targets branches rows is within are =
    subst (λ (xs : List Row). All IsInTurn xs) (sym are)
    (All-from_recursion IsInTurn (rows_of layout lasts targets branches)
    (all_map (row_of layout lasts targets) IsInTurn branches
    (all_weaker (IsInAtoms kept) (λ (branch : Branch). IsInTurn (row_of layout lasts targets branch)) (λ branch one. in_turn kept layout is lasts targets branch one) branches (recursion_from_All (IsInAtoms kept) branches within))))

-- ---- pairs that have islands

count_less : {X : Type 0} (p : X → Bool) (xs : List X) (x : X) → In x xs → p x ≡ false → count_by p xs < length xs
count_less p [] x h e = absurd h
count_less p (y ∷ ys) x (inl same) e =
    let here : p y ≡ false = subst (λ z. p z ≡ false) (sym same) e in
    let sum : count_by p (y ∷ ys) ≡ count_by p ys = count_cons p y ys ∙ rw here (omega arith) in
    omega (arith, sum, count_by-le-length p ys)
count_less p (y ∷ ys) x (inr h) e = elim (cases_Bool (p y)) [
  | inl pass ↦ let sum : count_by p (y ∷ ys) ≡ 1 + count_by p ys = count_cons p y ys ∙ rw pass refl in let rest = count_less p ys x h e in omega (arith, sum, rest)
  | inr fail ↦ let sum : count_by p (y ∷ ys) ≡ count_by p ys = count_cons p y ys ∙ rw fail (omega arith) in let rest = count_less p ys x h e in omega (arith, sum, rest)
]

number_within : (targets : List BranchTarget) (target : BranchTarget) → In target targets → number_of targets target < length targets
number_within targets target h = count_less (λ (t : BranchTarget). is_lt (compare_targets t target)) targets target h (ap is_lt (tied_itself compare_targets_total target))

needs_grouped : (scale : Scale) (set : List Pair) (row : Row) → needs scale set row ≡ true → is_grouped row.case ≡ true
needs_grouped scale set row e = by row.case refl
  where
    by : (case : Case) → row.case ≡ case → is_grouped row.case ≡ true
    by Outside is = absurd (false≢true (sym (rw is refl) ∙ e))
    by Away is = ap is_grouped is
    by Plain is = ap is_grouped is
    by Added is = ap is_grouped is

pairs_set : (pairs : List Pair) → IsStrictlySortedBy compare_pairs pairs → IsSet pairs
pairs_set pairs rising i j d low high = rising_apart compare_pairs_total pairs i j d rising low high

pub pairs_closed : (scale : Scale) (rows : List Row) (pairs : List Pair) → ArePairs rows pairs → IsClosed scale rows pairs
pairs_closed scale rows pairs are =
    All-from_recursion (λ (row : Row). needs scale pairs row ≡ true → has pairs row.pair ≡ true) rows
    (all_from_in (λ (row : Row). needs scale pairs row ≡ true → has pairs row.pair ≡ true) rows (λ row there e.
    are.same row.pair ∙ has_from_in (map (λ (r : Row). r.pair) (filter (λ (r : Row). is_grouped r.case) rows)) row.pair (in_map (λ (r : Row). r.pair) (filter (λ (r : Row). is_grouped r.case) rows) row (in_filter (λ (r : Row). is_grouped r.case) rows row there (needs_grouped scale pairs row e)))))

pub far_in : (scale : Scale) (rows : List Row) (pairs far : List Pair) → ArePairs rows pairs → IsFar scale rows far → All (λ (pair : Pair). has pairs pair ≡ true) far
far_in scale rows pairs far are is = is.least pairs (pairs_set pairs are.rises) (pairs_closed scale rows pairs are)

-- each of them is that of a branch
pub far_among : (scale : Scale) (rows : List Row) (pairs far : List Pair) → ArePairs rows pairs → IsFar scale rows far → (pair : Pair) → In pair far → (row : Row) × In row rows × (row.pair ≡ pair)
far_among scale rows pairs far are is pair h =
    let all = far_in scale rows pairs far are is in
    let one : has pairs pair ≡ true = all_in (λ (p : Pair). has pairs p ≡ true) far pair (recursion_from_All (λ (p : Pair). has pairs p ≡ true) far all) h in
    let found : (row : Row) × In row (filter (λ (r : Row). is_grouped r.case) rows) × (row.pair ≡ pair) =
    from_map (λ (r : Row). r.pair) (filter (λ (r : Row). is_grouped r.case) rows) pair (in_from_has (map (λ (r : Row). r.pair) (filter (λ (r : Row). is_grouped r.case) rows)) pair (sym (are.same pair) ∙ one)) in
    (found.0, (from_filter (λ (r : Row). is_grouped r.case) rows found.0 found.1).0, found.2)

pub far_within : (layout : Layout) (lasts : List AtomKey) (targets : List BranchTarget) (branches : List Branch) (scale : Scale) (rows : List Row) (pairs far : List Pair) (many : ℕ) → many ≡ length targets → AreTargets (map (λ (branch : Branch). branch.target) branches) targets → rows ≡ rows_of layout lasts targets branches → ArePairs rows pairs → IsFar scale rows far
    → All (λ (pair : Pair). pair.target < many) far
unfolding row_of
far_within layout lasts targets branches scale rows pairs far many size goes same are is =
    All-from_recursion (λ (pair : Pair). pair.target < many) far (all_from_in (λ (pair : Pair). pair.target < many) far (λ pair h.
    let found = far_among scale rows pairs far are is pair h in
    let branch : (b : Branch) × In b branches × (row_of layout lasts targets b ≡ found.0) = from_map (row_of layout lasts targets) branches found.0 (subst (λ (xs : List Row). In found.0 xs) same found.1) in
    let target = branch.0.target in
    let there : In target targets = in_from_Contains targets target (goes.all target (Contains_from_in (map (λ (b : Branch). b.target) branches) target (in_map (λ (b : Branch). b.target) branches branch.0 branch.1))) in
    let number : number_of targets target ≡ pair.target = ap (λ (row : Row). row.pair.target) branch.2 ∙ ap (λ (p : Pair). p.target) found.2 in
    let low = number_within targets target there in
    omega (arith, low, number, size)))

-- ---- the plan

same_scale : (layout : Layout) (groups reach : ℕ) (rows : List Row) (scale : Scale) (is : IsScaleOf layout.sections groups reach rows scale) → scale ≡ scale_of layout reach groups is.pairs
same_scale layout groups reach rows scale is = by scale.unit (unit_in layout.sections) scale.groups groups scale.reach reach scale.slack (bytes_before (unit_in layout.sections) is.pairs groups) is.unit is.groups_same is.reach_same is.slack
  where
    by : (u u' g g' r r' s s' : ℕ) → u ≡ u' → g ≡ g' → r ≡ r' → s ≡ s' → (let x : Scale = record { unit = u; groups = g; reach = r; slack = s } in x) ≡ record { unit = u'; groups = g'; reach = r'; slack = s' }
    by u u' g g' r r' s s' a b c d = rw (a, b, c, d) refl

pub is_plan : (kept : List Atom) (layout : Layout) (branches : List Branch) (reach groups : ℕ) (plan : IslandPlan) (lasts : List AtomKey) (targets : List BranchTarget) (rows : List Row) (scale : Scale) (far : List Pair) → IsCut kept layout reach lasts → AreTargets (map (λ (branch : Branch). branch.target) branches) targets
    → rows ≡ rows_of layout lasts targets branches → groups ≡ length lasts → IsScaleOf layout.sections groups reach rows scale → IsFar scale rows far → plan.areas ≡ areas_from targets far 0 lasts → AreWays far rows plan.ways → IsPlan kept layout branches reach plan
is_plan kept layout branches reach groups plan lasts targets rows scale far cut goes are many scaled least areas ways =
    let own = lasts_of (text_atoms kept layout) cut.ends in
    let same : rows ≡ rows_of layout own targets branches = are ∙ ap (λ (keys : List AtomKey). rows_of layout keys targets branches) cut.lasts_are in
    let size : groups ≡ length cut.ends = many ∙ (ap length cut.lasts_are ∙ length-map cut.ends (λ (end : ℕ). key_at (text_atoms kept layout) (end - 1))) in
    let scale_is : scale ≡ scale_of layout reach (length cut.ends) scaled.pairs = same_scale layout groups reach rows scale scaled ∙ ap (λ (n : ℕ). scale_of layout reach n scaled.pairs) size in
    record {
      ends = cut.ends;
      targets = targets;
      pairs = scaled.pairs;
      far = far;
      groups = cut.groups;
      goes = goes;
      taken = subst (λ (xs : List Row). ArePairs xs scaled.pairs) same scaled.taken;
      least = subst (λ (s : Scale). IsFar s (rows_of layout own targets branches) far) scale_is (subst (λ (xs : List Row). IsFar scale xs far) same least);
      areas = areas ∙ ap (areas_from targets far 0) cut.lasts_are;
      ways = subst (λ (xs : List Row). AreWays far xs plan.ways) same ways;
    }

pub text_same : (kept : List Atom) (layout : Layout) (placed : List PlacedSection) (atoms slice : List Atom) → slice ≡ atoms → atoms ≡ atoms_of kept (code_keys (sections_in placed)) → placed ≡ layout.sections → slice ≡ text_atoms kept layout
unfolding text_atoms
text_same kept layout placed atoms slice e f g = e ∙ (f ∙ ap (λ (ps : List PlacedSection). atoms_of kept (code_keys (sections_in ps))) g)
