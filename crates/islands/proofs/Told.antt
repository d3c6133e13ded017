-- A plan without islands, where addresses alone tell that no branch needs one.
use Rattle.std.proofs.Common.{◌≡◌, ℕ, zero, suc, ◌+◌, ◌-◌, ◌*◌, ◌/◌, ◌<◌, ◌≤◌, ◌⊎◌, ◌++◌, ◌&&◌, if◌then◌else◌, Bool, Contains, true, false, List, [], ◌∷◌, length, map, replicate, All, IfOk, IfSome, Option, Some, None, Result, Ok, Err, codes, refl, sym, ap, subst, ◌∙◌, inl, inr, arith, append_assoc}
use Rattle.std.specs.List.{filter, list_any}
use Rattle.std.specs.List.Sorted.{IsStrictlySortedBy}
use Rattle.std.specs.Option.{is_some, option_map, unwrap_or}
use Rattle.std.specs.Str.{bytes_eq}
use Rattle.std.proofs.lemmas.Bool.{cases_Bool, cases_lt, false≢true}
use Rattle.std.proofs.lemmas.List.{get_or-replicate, length-map, length-replicate}
use Rattle.std.proofs.lemmas.List.Elements.{All-from_recursion, recursion_from_All}
use Rattle.std.proofs.lemmas.List.Sorted.{Contains-permutation}
use Rattle.list_lemmas.proofs.Members.{Contains_from_in, all_map, all_weaker, any_from_in}
use Rattle.sort_lemmas.proofs.Sorting.{rising_exists}
use Rattle.command_line.specs.declared.command.Command.{Command}
use Rattle.mo_types.specs.declared.atom.Atom.{Atom}
use Rattle.mo_types.specs.declared.key.AtomKey.{AtomKey}
use Rattle.sect_place.specs.Addresses.{IsAddressOf, address_in}
use Rattle.sect_place.specs.Arrangement.{groups_of, is_code, text_parts}
use Rattle.sect_place.specs.Layout.{base_of, end_of_image, first_segments, image_segments, lead_of, linkedit, made_bytes, plan_of}
use Rattle.sect_place.specs.Moved.{no_islands}
use Rattle.sect_place.specs.Places.{area_unit, file_bytes, group_end, groups_file, groups_segments, page_up, segment_of, spaced}
use Rattle.sect_place.specs.declared.island.BranchTarget.{BranchTarget}
use Rattle.sect_place.specs.declared.island.IslandPlan.{IslandPlan}
use Rattle.sect_place.specs.declared.layout.Layout.{Layout}
use Rattle.sect_place.specs.declared.layout.Placed.{Placed}
use Rattle.sect_place.specs.declared.layout.PlacedSection.{PlacedSection}
use Rattle.sect_place.specs.declared.layout.Segment.{Segment}
use Rattle.sect_place.specs.declared.part.Group.{Group}
use Rattle.sect_place.specs.inner.Around.{IsAround}
use Rattle.sect_place.proofs.AddressLemmas.{address_is}
use Rattle.sect_place.proofs.Around.{stands_amid}
use Rattle.sect_place.proofs.Sound.{groups_split, later_groups}
use Rattle.sect_place.proofs.Spread.{group_bounds}
use Rattle.island_core.specs.Far.{ArePairs, IsFar, is_grouped, needs}
use Rattle.island_core.specs.Groups.{AreEnds, extent_at}
use Rattle.island_core.specs.declared.cut.Extent.{Extent}
use Rattle.island_core.specs.declared.row.Pair.{Pair}
use Rattle.island_core.specs.declared.row.Row.{Row}
use Rattle.island_core.specs.declared.row.Scale.{Scale}
use Rattle.island_core.proofs.CutLemmas.{IsCutting, cutting_ends, cutting_goes, cutting_none, cutting_starts, cutting_turns}
use Rattle.island_core.proofs.PairLemmas.{compare_pairs_total, same_has, tied_pairs}
use Rattle.islands.specs.declared.branch.Branch.{Branch}
use Rattle.islands.specs.declared.spot.Spot.{Spot}
use Rattle.islands.specs.Plan.{AreWays, IsPlan, IsWay, IsWithoutIslands, row_at, scale_of}
use Rattle.islands.specs.Reach.{NeedsNone}
use Rattle.islands.specs.declared.ground.Span.{Span}
use Rattle.islands.specs.Rows.{atom_spot, goal_spot, row_of, rows_of, spot_by, spot_of, stub_spot, stubs_in}
use Rattle.islands.specs.Targets.{AreTargets}
use Rattle.islands.specs.Text.{extents_of, groups_before, has_key, in_code, in_text, is_text, lasts_of, place_in, text_atoms}
use Rattle.islands.specs.inner.Ground.{IsCodeSpan, IsGoalIn, IsPlaceIn, IsQuick, IsTold, text_end}
use Rattle.islands.proofs.Keyed.{compare_targets_total, key_found}
use Rattle.islands.proofs.Layouts.{both_are, ordered, stands_from}
use Rattle.islands.proofs.Once.{same_target}
use Rattle.islands.proofs.Single.{no_areas, row_needs_none}
use Rattle.islands.proofs.Stood.{all_places, before_page, entry, first}

-- ---- what addresses tell

pub address_told : (layout : Layout) (key : AtomKey) (at : ℕ) → IsTold layout → IsAddressOf layout.placed key (Some at) → (is_some (address_in layout.placed key) ≡ true) × (place_in layout key ≡ at)
address_told layout key at told is =
    let same : Some at ≡ address_in layout.placed key = address_is layout.placed key (Some at) told.ordered.once is in
    (ap (λ (o : Option ℕ). is_some o) (sym same), ap (λ (o : Option ℕ). unwrap_or o 0) (sym same))

-- the same of what a look-up answers
pub some_told : (layout : Layout) (key : AtomKey) (at : ℕ) → address_in layout.placed key ≡ Some at → (is_some (address_in layout.placed key) ≡ true) × (place_in layout key ≡ at)
some_told layout key at e = (ap (λ (o : Option ℕ). is_some o) e, ap (λ (o : Option ℕ). unwrap_or o 0) e)

none_and : (a b : Bool) → b ≡ false → (a && b) ≡ false
none_and true b e = e
none_and false b e = refl

none_told : (layout : Layout) (key : AtomKey) → address_in layout.placed key ≡ None → (in_code layout key ≡ false) × (in_text layout key ≡ false) × (place_in layout key ≡ 0)
none_told layout key e =
    let none : is_some (address_in layout.placed key) ≡ false = ap (λ (o : Option ℕ). is_some o) e in (
      none_and (list_any (λ (s : PlacedSection). is_code s.section && has_key s.section.atoms key) layout.sections) _ none,
      none_and (list_any (λ (s : PlacedSection). is_text s.section && has_key s.section.atoms key) layout.sections) _ none,
      ap (λ (o : Option ℕ). unwrap_or o 0) e,
    )

pub code_told : (layout : Layout) (span : Span) (key : AtomKey) (at : ℕ) → IsTold layout → IsCodeSpan layout.sections span → address_in layout.placed key ≡ Some at → span.from < at → at < span.to → in_code layout key ≡ true
code_told layout span key at told is e low high =
    let some = some_told layout key at e in
    told.amid key some.0 is.0 (is.1, omega (arith, low, some.1, is.3), omega (arith, high, some.1, is.4)) is.2

pub text_told : (layout : Layout) (key : AtomKey) (at : ℕ) → IsTold layout → address_in layout.placed key ≡ Some at → at < text_end layout.segments → in_text layout key ≡ true
text_told layout key at told e low = let some = some_told layout key at e in told.below key some.0 (omega (arith, low, some.1))

-- a spot of an atom
same_spot : (i i' : Bool) (p p' z z' : ℕ) → i ≡ i' → p ≡ p' → z ≡ z' → (let s : Spot = record { inside = i; place = p; zone = z } in s) ≡ record { inside = i'; place = p'; zone = z' }
same_spot i i' p p' z z' e f g = rw (e, f, g) refl

pub spot_told : (layout : Layout) (lasts : List AtomKey) (key : AtomKey) (offset at place zone : ℕ) (inside : Bool) → address_in layout.placed key ≡ Some at → inside ≡ in_text layout key → place ≡ at + offset → zone ≡ (if in_code layout key then groups_before lasts key else length lasts) → (let s : Spot = record { inside = inside; place = place; zone = zone } in s) ≡ atom_spot layout lasts key offset
spot_told layout lasts key offset at place zone inside e is stands groups =
    let some = some_told layout key at e in
    same_spot inside (in_text layout key) place (place_in layout key + offset) zone (if in_code layout key then groups_before lasts key else length lasts) is (omega (arith, stands, some.1)) groups

pub no_spot_told : (layout : Layout) (lasts : List AtomKey) (key : AtomKey) (offset : ℕ) → address_in layout.placed key ≡ None → (let s : Spot = record { inside = false; place = offset; zone = length lasts } in s) ≡ atom_spot layout lasts key offset
no_spot_told layout lasts key offset e =
    let none = none_told layout key e in
    same_spot false (in_text layout key) offset (place_in layout key + offset) (length lasts) (if in_code layout key then groups_before lasts key else length lasts) (sym none.1) (omega (arith, none.2)) (rw none.0 refl)

pub stand_told : (layout : Layout) (key : AtomKey) → address_in layout.placed key ≡ None → (0 ≡ place_in layout key) × (false ≡ in_code layout key)
stand_told layout key e = let none = none_told layout key e in (sym none.2, sym none.0)

pub stub_told : (layout : Layout) (target : BranchTarget) (number : ℕ) (stubs r : Option ℕ) → target.stub ≡ Some number → stubs ≡ option_map (λ (p : PlacedSection). p.address) (stubs_in layout.sections) → r ≡ option_map (λ (at : ℕ). at + 12 * number) stubs → IfSome r (IsPlaceIn layout target)
unfolding spot_of
stub_told layout target number stubs r is are e = by (stubs_in layout.sections) refl
  where
    there : (found : Option PlacedSection) → stubs_in layout.sections ≡ found → r ≡ option_map (λ (at : ℕ). at + 12 * number) (option_map (λ (p : PlacedSection). p.address) found)
    there found f = e ∙ ap (option_map (λ (at : ℕ). at + 12 * number)) (are ∙ ap (option_map (λ (p : PlacedSection). p.address)) f)

    by : (found : Option PlacedSection) → stubs_in layout.sections ≡ found → IfSome r (IsPlaceIn layout target)
    by None f = subst (λ (o : Option ℕ). IfSome o (IsPlaceIn layout target)) (sym (there None f)) tt
    by (Some p) f =
        let spot : spot_by layout [] target.goal target.stub ≡ stub_spot (Some p) 0 number = ap (spot_by layout [] target.goal) is ∙ ap (λ (o : Option PlacedSection). stub_spot o 0 number) f in
        subst (λ (o : Option ℕ). IfSome o (IsPlaceIn layout target)) (sym (there (Some p) f)) (ap (λ (s : Spot). s.inside) spot, sym (ap (λ (s : Spot). s.place) spot))

pub goal_told : (layout : Layout) (target : BranchTarget) (r : Option ℕ) → target.stub ≡ None → IfSome r (IsGoalIn layout target.goal) → IfSome r (IsPlaceIn layout target)
unfolding spot_of
goal_told layout target None is told = tt
goal_told layout target (Some place) is told =
    let spot : spot_by layout [] target.goal target.stub ≡ goal_spot layout [] target.goal = ap (spot_by layout [] target.goal) is in
    (ap (λ (s : Spot). s.inside) spot ∙ told.0, told.1 ∙ sym (ap (λ (s : Spot). s.place) spot))

-- ---- where `__TEXT` ends

end_from : (command : Command) (s : Segment) (rest : List Segment) → bytes_eq s.name (codes "__TEXT") ≡ true → text_end (first_segments command ++ s ∷ rest) ≡ s.address + s.vmsize
end_from command s rest named = elim (cases_Bool command.dylib) [ inl e ↦ rw (e, named) refl | inr e ↦ rw (e, named) refl ]

-- what stands in the midst of a section of `__text`
amid_code : (kept : List Atom) (layout : Layout) (is : IsWithoutIslands kept layout) (key : AtomKey) → is_some (address_in layout.placed key) ≡ true → (p : PlacedSection) → IsAround layout.sections (place_in layout key) p → is_code p.section ≡ true → in_code layout key ≡ true
amid_code kept layout is key some p around code =
    let q : Placed = record { atom = key; address = place_in layout key } in
    let all = all_places kept layout is in
    let placed : Contains layout.placed q = Contains-permutation all layout.placed q is.placed.places (Contains_from_in all q (entry kept layout is key some)) in
    let there = stands_amid kept is.sections is.slots is.sizes is.command layout is.placed key (place_in layout key) p placed around in
    stands_from is_code layout key
    (any_from_in (λ (s : PlacedSection). is_code s.section && has_key s.section.atoms key) layout.sections p there.0 (both_are (is_code p.section) (has_key p.section.atoms key) code (key_found p.section.atoms key there.1))) some

pub told : (kept : List Atom) (layout : Layout) → IsWithoutIslands kept layout → IsTold layout
unfolding image_segments plan_of groups_segments segment_of
told kept layout is =
    let f = spaced kept [] (area_unit is.sections) in
    let bytes = made_bytes is.slots is.sizes in
    let base = base_of is.command in
    let lead = lead_of (groups_of is.sections bytes) is.sizes is.command in
    let text_group : Group = record { name = codes "__TEXT"; parts = text_parts is.sections bytes } in
    let last = linkedit (end_of_image (plan_of kept is.sections is.slots no_islands is.sizes is.command)) (groups_file f base 0 lead (groups_of is.sections bytes)) ∷ [] in
    let rest = groups_segments f (page_up (group_end f base lead text_group)) (0 + file_bytes f base lead text_group) 0 (later_groups is.sections bytes) ++ last in
    let bounds = group_bounds f base lead (text_parts is.sections bytes) in
    let ends : text_end layout.segments ≡ base + (page_up (group_end f base lead text_group) - base) =
    ap text_end is.placed.segments
    ∙ (ap (λ (groups : List Group). text_end ((first_segments is.command ++ groups_segments f base 0 lead groups) ++ last)) (groups_split is.sections bytes)
    ∙ (ap text_end (append_assoc (first_segments is.command) (groups_segments f base 0 lead (text_group ∷ later_groups is.sections bytes)) last)
    ∙ end_from is.command (segment_of f base 0 lead text_group) rest refl)) in
    record {
      ordered = ordered kept layout is;
      below = λ key some low. before_page kept layout is key some (omega (arith, low, ends, bounds.0, bounds.3));
      amid = λ key some p around code. amid_code kept layout is key some p around code;
    }

-- ---- there are groups, targets and pairs

cut_on : (most : ℕ) (extents : List Extent) (ends : List ℕ) (first at left : ℕ) → at + left ≡ length extents → IsCutting most extents ends first at → (es : List ℕ) × AreEnds most extents es
cut_on most extents ends first at zero all is = by (cases_lt first (length extents))
  where
    by : (first < length extents) ⊎ (length extents ≤ first) → (es : List ℕ) × AreEnds most extents es
    by (inl low) = (ends ++ length extents ∷ [], cutting_ends most extents ends (ends ++ length extents ∷ []) first at is (omega (arith, all)) low refl)
    by (inr past) = (ends, cutting_none most extents ends first at is (omega (arith, all)) past)
cut_on most extents ends first at (suc left) all is = by (λ es f. cut_on most extents es f (at + 1) left (omega (arith, all))) (cases_lt first at) (cases_lt ((extent_at extents first).from + most) (extent_at extents at).to)
  where
    by : ((es : List ℕ) (f : ℕ) → IsCutting most extents es f (at + 1) → (all : List ℕ) × AreEnds most extents all) → (first < at) ⊎ (at ≤ first) → ((extent_at extents first).from + most < (extent_at extents at).to) ⊎ ((extent_at extents at).to ≤ (extent_at extents first).from + most) → (es : List ℕ) × AreEnds most extents es
    by next (inl low) (inl long) = next (ends ++ at ∷ []) at (cutting_turns most extents ends (ends ++ at ∷ []) first at is low (omega (arith, all)) long refl)
    by next (inr high) long = next ends first (cutting_goes most extents ends first at is (inl high))
    by next (inl low) (inr short) = next ends first (cutting_goes most extents ends first at is (inr short))

pub some_ends : (most : ℕ) (extents : List Extent) → (es : List ℕ) × AreEnds most extents es
some_ends most extents = cut_on most extents [] 0 0 (length extents) (omega arith) (cutting_starts most extents)

pub some_targets : (goes : List BranchTarget) → (ts : List BranchTarget) × AreTargets goes ts
some_targets goes =
    let all = rising_exists compare_targets_total same_target goes in
    (all.0, record { rises = all.1; all = all.2; only = all.3 })

pub some_pairs : (rows : List Row) → (ps : List Pair) × ArePairs rows ps
some_pairs rows =
    let own = map (λ (row : Row). row.pair) (filter (λ (row : Row). is_grouped row.case) rows) in
    let all = rising_exists compare_pairs_total tied_pairs own in
    (all.0, record { rises = all.1; same = λ pair. same_has all.0 own pair (all.3 pair) (all.2 pair) })

-- ---- none needs an island

quick_none : (layout : Layout) (scale : Scale) (branch : Branch) → IsQuick layout scale.reach branch → NeedsNone layout scale branch
quick_none layout scale branch quick = record {
  inside = λ _. quick.inside;
  plain = λ _ _. quick.near;
  added = λ _ e. absurd (false≢true (sym e ∙ quick.plain));
}

none_far : (scale : Scale) (rows : List Row) → All (λ (row : Row). needs scale [] row ≡ false) rows → IsFar scale rows []
unfolding IsStrictlySortedBy
none_far scale rows none = record {
  closed = λ k d low e. absurd (false≢true (sym (none k d low) ∙ e));
  least = λ other set closed k d low. absurd (omega (arith, low));
  rises = tt;
}

no_ways : (rows : List Row) (many : ℕ) (ways : List (Option ℕ)) → many ≡ length rows → ways ≡ replicate many None → AreWays [] rows ways
no_ways rows many ways size are = subst (AreWays [] rows) (sym are) (record {
  all = length-replicate many None ∙ size;
  each = λ k low. subst (λ (w : Option ℕ). IsWay [] (row_at rows k) w) (sym (get_or-replicate many k None None (omega (arith, low, size)))) (λ grouped there. absurd (omega (arith, there.1)));
})

pub quick_plan : (kept : List Atom) (layout : Layout) (branches : List Branch) (reach : ℕ) (plan : IslandPlan) → All (IsQuick layout reach) branches → plan.areas ≡ [] → plan.ways ≡ replicate (length branches) None → IsPlan kept layout branches reach plan
quick_plan kept layout branches reach plan quick areas ways =
    let ends = some_ends (reach / 2) (extents_of kept layout) in
    let targets = some_targets (map (λ (branch : Branch). branch.target) branches) in
    let lasts = lasts_of (text_atoms kept layout) ends.0 in
    let rows = rows_of layout lasts targets.0 branches in
    let pairs = some_pairs rows in
    let scale = scale_of layout reach (length ends.0) pairs.0 in
    let none : All (λ (row : Row). needs scale [] row ≡ false) rows =
    All-from_recursion (λ (row : Row). needs scale [] row ≡ false) rows
    (all_map (row_of layout lasts targets.0) (λ (row : Row). needs scale [] row ≡ false) branches
    (all_weaker (IsQuick layout reach) (λ (branch : Branch). needs scale [] (row_of layout lasts targets.0 branch) ≡ false) (λ branch one. row_needs_none layout lasts targets.0 scale branch (quick_none layout scale branch one)) branches (recursion_from_All (IsQuick layout reach) branches quick))) in
    record {
      ends = ends.0;
      targets = targets.0;
      pairs = pairs.0;
      far = [];
      groups = ends.1;
      goes = targets.1;
      taken = pairs.1;
      least = none_far scale rows none;
      areas = areas ∙ sym (no_areas targets.0 0 lasts);
      ways = no_ways rows (length branches) plan.ways (sym (length-map branches (row_of layout lasts targets.0))) ways;
    }

pub without_any : {E : Type 0} (kept : List Atom) (layout : Layout) (slice branches : List Branch) (reach : ℕ) (r : Result IslandPlan E) → All (IsQuick layout reach) slice → slice ≡ branches → IfOk r (λ (plan : IslandPlan). plan.areas ≡ []) → IfOk r (λ (plan : IslandPlan). plan.ways ≡ replicate (length slice) None) → IfOk r (IsPlan kept layout branches reach)
without_any kept layout slice branches reach (Ok plan) quick same areas ways = subst (λ (bs : List Branch). IsPlan kept layout bs reach plan) same (quick_plan kept layout slice reach plan quick areas ways)
without_any kept layout slice branches reach (Err e) quick same areas ways = tt
