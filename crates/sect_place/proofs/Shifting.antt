-- How the table of what islands move is made and read.
use Rattle.std.proofs.Common.{◌≡◌, ℕ, zero, suc, ◌+◌, ◌<◌, ◌≤◌, ◌⊎◌, ◌++◌, Bool, true, false, max, if◌then◌else◌, List, [], ◌∷◌, length, drop, get_or, Some, None, All, Contains, codes, refl, sym, ap, subst, ◌∙◌, inl, inr, arith, append_assoc, append-nil, add-one, drop-cons}
use Rattle.std.specs.List.{filter, AllByRecursion}
use Rattle.std.specs.List.Sorted.{IsPartitionedBy, IsPartitionPoint, IsStrictlySortedBy}
use Rattle.std.specs.Ordering.{on, is_lt}
use Rattle.std.specs.declared.cmp.Ordering.{Ordering}
use Rattle.std.specs.declared.cmp.Ordering.TheVariants.{Less, Equal, Greater}
use Rattle.std.proofs.lemmas.Bool.{cases_Bool, cases_lt, false≢true}
use Rattle.std.proofs.lemmas.List.{drop_all, get_or_default}
use Rattle.list_lemmas.proofs.Members.{In, Contains_from_in, all_in, all_from_in, from_filter, from_map, in_from_Contains, in_map, from_flat}
use Rattle.list_lemmas.proofs.Rising.{rising_at}
use Rattle.mo_types.proofs.KeyOrder.{compare_keys_total}
use Rattle.mo_types.specs.Keys.{compare_keys}
use Rattle.mo_types.specs.declared.key.AtomKey.{AtomKey}
use Rattle.mo_types.specs.declared.out_section.OutSection.{OutSection}
use Rattle.tlv_plan.specs.Template.{keys_of}
use Rattle.sect_list.specs.OutSections.{is_in}
use Rattle.sect_place.specs.Moved.{areas_bytes}
use Rattle.sect_place.specs.Places.{area_unit, islands_bytes}
use Rattle.sect_place.specs.Shifts.{ShiftTable, in_region, sections_in, steps_from, step_before, text_end_from}
use Rattle.sect_place.specs.declared.island.IslandArea.{IslandArea}
use Rattle.sect_place.specs.declared.layout.PlacedSection.{PlacedSection}
use Rattle.sect_place.specs.declared.shift.Region.{Region}
use Rattle.sect_place.specs.declared.shift.Step.{Step}
use Rattle.sect_place.proofs.Positions.{chosen_there}

-- ---- sections in turn

pub unit_passes : (placed : List PlacedSection) (i unit all : ℕ) (p : PlacedSection) → max unit (area_unit (sections_in (drop i placed))) ≡ all → i < length placed → p ≡ get_or placed i p → is_in (codes "__TEXT") p.section ≡ false → max unit (area_unit (sections_in (drop (i + 1) placed))) ≡ all
unfolding area_unit
unit_passes placed i unit all p so within is away =
    let next : area_unit (sections_in (drop i placed)) ≡ area_unit (sections_in (drop (i + 1) placed)) = rw (drop-cons placed i p, ← is, away, add-one) refl in
    omega (arith, so, next)

pub unit_grows : (placed : List PlacedSection) (i unit new all : ℕ) (p : PlacedSection) → max unit (area_unit (sections_in (drop i placed))) ≡ all → i < length placed → p ≡ get_or placed i p → is_in (codes "__TEXT") p.section ≡ true → new ≡ max unit p.section.align → max new (area_unit (sections_in (drop (i + 1) placed))) ≡ all
unfolding area_unit
unit_grows placed i unit new all p so within is here larger =
    let next : area_unit (sections_in (drop i placed)) ≡ max p.section.align (area_unit (sections_in (drop (i + 1) placed))) = rw (drop-cons placed i p, ← is, here, add-one) refl in
    omega (arith, so, next, larger)

no_unit : (placed : List PlacedSection) → placed ≡ [] → area_unit (sections_in placed) ≡ 2
unfolding area_unit
no_unit placed none = rw none refl

pub unit_done : (placed : List PlacedSection) (i unit all : ℕ) → max unit (area_unit (sections_in (drop i placed))) ≡ all → 2 ≤ unit → length placed ≤ i → unit ≡ all
unit_done placed i unit all so least past = let none = no_unit (drop i placed) (drop_all i placed past) in omega (arith, so, none, least)

pub end_past : (end : ℕ) (p : PlacedSection) (rest : List PlacedSection) → is_in (codes "__TEXT") p.section ≡ false → text_end_from end (p ∷ rest) ≡ text_end_from end rest
unfolding text_end_from
end_past end p rest away = ap (λ (b : Bool). text_end_from (if b then p.address + p.size else end) rest) away

pub end_there : (end : ℕ) (p : PlacedSection) (rest : List PlacedSection) → is_in (codes "__TEXT") p.section ≡ true → text_end_from end (p ∷ rest) ≡ text_end_from (p.address + p.size) rest
unfolding text_end_from
end_there end p rest here = ap (λ (b : Bool). text_end_from (if b then p.address + p.size else end) rest) here

left_of : (placed : List PlacedSection) (i : ℕ) (p : PlacedSection) → i < length placed → p ≡ get_or placed i p → drop i placed ≡ p ∷ drop (i + 1) placed
left_of placed i p within is = rw (drop-cons placed i p, ← is, add-one) refl

pub end_passes : (placed : List PlacedSection) (i end all : ℕ) (p : PlacedSection) → text_end_from end (drop i placed) ≡ all → i < length placed → p ≡ get_or placed i p → is_in (codes "__TEXT") p.section ≡ false → text_end_from end (drop (i + 1) placed) ≡ all
end_passes placed i end all p so within is away =
    sym (ap (λ (left : List PlacedSection). text_end_from end left) (left_of placed i p within is) ∙ end_past end p (drop (i + 1) placed) away) ∙ so

pub end_goes : (placed : List PlacedSection) (i end new all : ℕ) (p : PlacedSection) → text_end_from end (drop i placed) ≡ all → i < length placed → p ≡ get_or placed i p → is_in (codes "__TEXT") p.section ≡ true → new ≡ p.address + p.size → text_end_from new (drop (i + 1) placed) ≡ all
end_goes placed i end new all p so within is here moved =
    ap (λ (n : ℕ). text_end_from n (drop (i + 1) placed)) moved
    ∙ (sym (ap (λ (left : List PlacedSection). text_end_from end left) (left_of placed i p within is) ∙ end_there end p (drop (i + 1) placed) here) ∙ so)

pub end_done : (placed : List PlacedSection) (i end all : ℕ) → text_end_from end (drop i placed) ≡ all → length placed ≤ i → end ≡ all
unfolding text_end_from
end_done placed i end all so past = let none : drop i placed ≡ [] = drop_all i placed past in rw none at so

-- ---- sections that list no atom

-- the first sections of a region don't list an atom, where all list theirs in order
pub record AreMissed (placed : List PlacedSection) (region : Region) (key : AtomKey) (i : ℕ) : Type 0 where
  pub none : All (λ (p : PlacedSection). IsStrictlySortedBy compare_keys p.section.atoms) placed → (k : ℕ) (d : PlacedSection) → k < i → k < length placed → in_region region (get_or placed k d).section ≡ true → Contains (get_or placed k d).section.atoms key → ⊥

pub missed_none : (placed : List PlacedSection) (region : Region) (key : AtomKey) → AreMissed placed region key 0
missed_none placed region key = record { none = λ rising k d low. absurd (omega (arith, low)) }

pub missed_more : (placed : List PlacedSection) (region : Region) (key : AtomKey) (i : ℕ) (p : PlacedSection) → AreMissed placed region key i → i < length placed → p ≡ get_or placed i p → (IsStrictlySortedBy compare_keys p.section.atoms → in_region region p.section ≡ true → Contains p.section.atoms key → ⊥) → AreMissed placed region key (i + 1)
missed_more placed region key i p missed within is none = record {
  none = λ rising k d low in_list here listed. by rising k d low in_list here listed (cases_lt k i);
}
  where
    by : All (λ (q : PlacedSection). IsStrictlySortedBy compare_keys q.section.atoms) placed → (k : ℕ) (d : PlacedSection) → k < i + 1 → k < length placed → in_region region (get_or placed k d).section ≡ true → Contains (get_or placed k d).section.atoms key → (k < i) ⊎ (i ≤ k) → ⊥
    by rising k d low in_list here listed (inl less) = missed.none rising k d less in_list here listed
    by rising k d low in_list here listed (inr up) =
        let last : k ≡ i = omega (arith, low, up) in
        let same : get_or placed k d ≡ p = ap (λ (n : ℕ). get_or placed n d) last ∙ (get_or_default placed i d p within ∙ sym is) in
        none (subst (λ (q : PlacedSection). IsStrictlySortedBy compare_keys q.section.atoms) same (rising k d in_list)) (subst (λ (q : PlacedSection). in_region region q.section ≡ true) same here) (subst (λ (q : PlacedSection). Contains q.section.atoms key) same listed)

pub lists_it : (placed : List PlacedSection) (region : Region) (key : AtomKey) (i : ℕ) (p : PlacedSection) → i < length placed → p ≡ get_or placed i p → in_region region p.section ≡ true → Contains p.section.atoms key → Contains (keys_of (filter (in_region region) (sections_in placed))) key
lists_it placed region key i p within is here listed =
    Contains_from_in (keys_of (filter (in_region region) (sections_in placed))) key
    (chosen_there (in_region region) (sections_in placed) p.section key (in_map (λ (q : PlacedSection). q.section) placed p (in_from_Contains placed p (i, within, sym is))) here (in_from_Contains p.section.atoms key listed))

pub lists_none : (placed : List PlacedSection) (region : Region) (key : AtomKey) (i : ℕ) → AreMissed placed region key i → length placed ≤ i → All (λ (p : PlacedSection). IsStrictlySortedBy compare_keys p.section.atoms) placed → Contains (keys_of (filter (in_region region) (sections_in placed))) key → ⊥
lists_none placed region key i missed past rising h =
    let found : (section : OutSection) × In section (filter (in_region region) (sections_in placed)) × In key section.atoms = from_flat (λ (s : OutSection). s.atoms) (filter (in_region region) (sections_in placed)) key (in_from_Contains (keys_of (filter (in_region region) (sections_in placed))) key h) in
    let passed = from_filter (in_region region) (sections_in placed) found.0 found.1 in
    let one : (p : PlacedSection) × In p placed × (p.section ≡ found.0) = from_map (λ (q : PlacedSection). q.section) placed found.0 passed.0 in
    let at : Contains placed one.0 = Contains_from_in placed one.0 one.1 in
    let same : found.0 ≡ (get_or placed at.0 one.0).section = sym one.2 ∙ ap (λ (q : PlacedSection). q.section) (sym at.2) in
    missed.none rising at.0 one.0 (omega (arith, at.1, past)) at.1 (subst (λ (s : OutSection). in_region region s ≡ true) same passed.1) (subst (λ (s : OutSection). Contains s.atoms key) same (Contains_from_in found.0.atoms key found.2))

-- ---- areas in turn

-- what is done, with what is left, is all
pub record Stepping (unit bytes : ℕ) (left : List IslandArea) (now all : List Step) (sum : ℕ) : Type 0 where
  pub steps : now ++ steps_from unit bytes left ≡ all
  pub bytes_left : bytes + areas_bytes unit None left ≡ sum

one_step : (unit bytes sum : ℕ) (area : IslandArea) (left : List IslandArea) (now all : List Step) → Stepping unit bytes (area ∷ left) now all sum → Stepping unit (bytes + islands_bytes unit (length area.targets)) left (now ++ record { last = area.last; before = bytes } ∷ []) all sum
unfolding steps_from areas_bytes
one_step unit bytes sum area left now all is = record {
  steps = append_assoc now (record { last = area.last; before = bytes } ∷ []) (steps_from unit (bytes + islands_bytes unit (length area.targets)) left) ∙ is.steps;
  bytes_left = omega (arith, is.bytes_left);
}

pub step_goes : (unit bytes new own sum : ℕ) (areas : List IslandArea) (i : ℕ) (area : IslandArea) (now more all : List Step) → Stepping unit bytes (drop i areas) now all sum → i < length areas → area ≡ get_or areas i area → more ≡ now ++ record { last = area.last; before = bytes } ∷ [] → own ≡ islands_bytes unit (length area.targets) → new ≡ bytes + own → Stepping unit new (drop (i + 1) areas) more all sum
step_goes unit bytes new own sum areas i area now more all is within at grown has added =
    let left : drop i areas ≡ area ∷ drop (i + 1) areas = rw (drop-cons areas i area, ← at, add-one) refl in
    rw (grown, added, has) (one_step unit bytes sum area (drop (i + 1) areas) now all (subst (λ (l : List IslandArea). Stepping unit bytes l now all sum) left is))

pub steps_start : (unit : ℕ) (areas : List IslandArea) (now : List Step) → Stepping unit 0 areas now (now ++ steps_from unit 0 areas) (areas_bytes unit None areas)
steps_start unit areas now = record { steps = refl; bytes_left = omega arith }

none_left : (unit bytes sum : ℕ) (left : List IslandArea) (now all : List Step) → left ≡ [] → Stepping unit bytes left now all sum → (now ≡ all) × (bytes ≡ sum)
unfolding steps_from areas_bytes
none_left unit bytes sum left now all none is =
    let last = subst (λ (l : List IslandArea). Stepping unit bytes l now all sum) none is in
    (sym (append-nil now) ∙ last.steps, omega (arith, last.bytes_left))

pub steps_done : (unit bytes sum : ℕ) (areas : List IslandArea) (i : ℕ) (now all : List Step) → Stepping unit bytes (drop i areas) now all sum → length areas ≤ i → (now ≡ all) × (bytes ≡ sum)
steps_done unit bytes sum areas i now all is past = none_left unit bytes sum (drop i areas) now all (drop_all i areas past) is

-- ---- the steps before an atom

abbrev Rises : List Step → Type 0
Rises steps = IsStrictlySortedBy (on (λ (step : Step). step.last) compare_keys) steps

abbrev is_before : AtomKey → Step → Bool
is_before key step = is_lt (compare_keys step.last key)

is_less : (o : Ordering) → is_lt o ≡ true → o ≡ Less
is_less Less e = refl
is_less Equal e = absurd (false≢true e)
is_less Greater e = absurd (false≢true e)

below : (a b key : AtomKey) → compare_keys a b ≡ Less → is_lt (compare_keys b key) ≡ true → is_lt (compare_keys a key) ≡ true
below a b key less before = ap is_lt (compare_keys_total.trans a b key less (is_less (compare_keys b key) before))

pub steps_parted : (steps : List Step) (key : AtomKey) → Rises steps → IsPartitionedBy (λ (step : Step). is_lt (compare_keys step.last key)) steps
steps_parted steps key rising i j d low within passes = by (cases_lt i j)
  where
    by : (i < j) ⊎ (j ≤ i) → is_lt (compare_keys (get_or steps i d).last key) ≡ true
    by (inl less) = below (get_or steps i d).last (get_or steps j d).last key (rising_at (on (λ (step : Step). step.last) compare_keys) steps i j d rising less within) passes
    by (inr up) = let same : j ≡ i = omega (arith, low, up) in subst (λ (k : ℕ). is_lt (compare_keys (get_or steps k d).last key) ≡ true) same passes

abbrev Parts : AtomKey → List Step → ℕ → Type 0
Parts key steps at = IsPartitionPoint (λ (step : Step). is_lt (compare_keys step.last key) ≡ true) (λ (step : Step). is_lt (compare_keys step.last key) ≡ false) steps at

later_parts : (key : AtomKey) (step : Step) (steps : List Step) (at : ℕ) → Parts key (step ∷ steps) (suc at) → Parts key steps at
later_parts key step steps at is = ((λ k d within low. is.0 (suc k) d (omega (arith, within)) (omega (arith, low))), (λ k d up within. is.1 (suc k) d (omega (arith, up)) (omega (arith, within))))

pub step_at : (steps : List Step) (all : ℕ) (key : AtomKey) (at : ℕ) (d : Step) → Parts key steps at → at < length steps → step_before steps all key ≡ (get_or steps at d).before
unfolding step_before
step_at [] all key at d is within = absurd (omega (arith, within))
step_at (step ∷ steps) all key zero d is within = let here : is_lt (compare_keys step.last key) ≡ false = is.1 0 d (omega arith) within in rw here refl
step_at (step ∷ steps) all key (suc at) d is within = let here : is_lt (compare_keys step.last key) ≡ true = is.0 0 d (omega (arith, within)) (omega arith) in rw here (step_at steps all key at d (later_parts key step steps at is) (omega (arith, within)))

pub past_steps : (steps : List Step) (all : ℕ) (key : AtomKey) (at : ℕ) → Parts key steps at → length steps ≤ at → step_before steps all key ≡ all
unfolding step_before
past_steps [] all key at is past = refl
past_steps (step ∷ steps) all key zero is past = absurd (omega (arith, past))
past_steps (step ∷ steps) all key (suc at) is past = let here : is_lt (compare_keys step.last key) ≡ true = is.0 0 step (omega arith) (omega arith) in rw here (past_steps steps all key at (later_parts key step steps at is) (omega (arith, past)))

pub read_before : (table : ShiftTable) (steps : List Step) (all result : ℕ) (key : AtomKey) → steps ≡ table.steps → all ≡ table.all → (IsStrictlySortedBy (on (λ (step : Step). step.last) compare_keys) steps → result ≡ step_before steps all key) → IsStrictlySortedBy (on (λ (step : Step). step.last) compare_keys) table.steps → result ≡ step_before table.steps table.all key
read_before table steps all result key s a read rising = read (subst Rises (sym s) rising) ∙ rw (s, a) refl

-- ---- what they come to

abbrev AreasRise : List IslandArea → Type 0
AreasRise areas = IsStrictlySortedBy (on (λ (area : IslandArea). area.last) compare_keys) areas

step_behind : (unit bytes : ℕ) (key : AtomKey) (areas : List IslandArea) → AllByRecursion (λ (area : IslandArea). compare_keys key area.last ≡ Less) areas → AllByRecursion (λ (step : Step). compare_keys key step.last ≡ Less) (steps_from unit bytes areas)
unfolding steps_from
step_behind unit bytes key [] all = tt
step_behind unit bytes key (area ∷ areas) all = (all.0, step_behind unit (bytes + islands_bytes unit (length area.targets)) key areas all.1)

pub steps_rise : (unit bytes : ℕ) (areas : List IslandArea) → AreasRise areas → Rises (steps_from unit bytes areas)
unfolding steps_from IsStrictlySortedBy
steps_rise unit bytes [] rising = tt
steps_rise unit bytes (area ∷ areas) rising =
    let next = bytes + islands_bytes unit (length area.targets) in
    (step_behind unit next area.last areas rising.0, steps_rise unit next areas rising.1)

none_counts : (unit : ℕ) (key : AtomKey) (areas : List IslandArea) → AllByRecursion (λ (area : IslandArea). is_lt (compare_keys area.last key) ≡ false) areas → areas_bytes unit (Some key) areas ≡ 0
unfolding areas_bytes
none_counts unit key [] all = refl
none_counts unit key (area ∷ areas) all = let away : is_lt (compare_keys area.last key) ≡ false = all.0 in let rest = none_counts unit key areas all.1 in rw away (omega (arith, rest))

not_before : (a b key : AtomKey) → compare_keys a b ≡ Less → is_lt (compare_keys a key) ≡ false → is_lt (compare_keys b key) ≡ false
not_before a b key less away = elim (cases_Bool (is_lt (compare_keys b key))) [ inl here ↦ absurd (false≢true (sym away ∙ below a b key less here)) | inr later ↦ later ]

pub steps_come_to : (unit bytes all : ℕ) (key : AtomKey) (areas : List IslandArea) → AreasRise areas → all ≡ bytes + areas_bytes unit None areas → step_before (steps_from unit bytes areas) all key ≡ bytes + areas_bytes unit (Some key) areas
unfolding steps_from step_before areas_bytes IsStrictlySortedBy
steps_come_to unit bytes all key [] rising is = is
steps_come_to unit bytes all key (area ∷ areas) rising is =
    by (λ e. steps_come_to unit (bytes + islands_bytes unit (length area.targets)) all key areas rising.1 e) (cases_Bool (is_lt (compare_keys area.last key)))
  where
    by : (all ≡ (bytes + islands_bytes unit (length area.targets)) + areas_bytes unit None areas → step_before (steps_from unit (bytes + islands_bytes unit (length area.targets)) areas) all key ≡ (bytes + islands_bytes unit (length area.targets)) + areas_bytes unit (Some key) areas) → (is_lt (compare_keys area.last key) ≡ true) ⊎ (is_lt (compare_keys area.last key) ≡ false) → step_before (steps_from unit bytes (area ∷ areas)) all key ≡ bytes + areas_bytes unit (Some key) (area ∷ areas)
    by later (inl here) =
        let rest = later (omega (arith, is)) in
        rw here (omega (arith, rest))
    by later (inr away) =
        let none = none_counts unit key areas (all_from_in (λ (other : IslandArea). is_lt (compare_keys other.last key) ≡ false) areas
        (λ other h. not_before area.last other.last key (all_in (λ (o : IslandArea). compare_keys area.last o.last ≡ Less) areas other rising.0 h) away)) in
        rw away (omega (arith, none))
