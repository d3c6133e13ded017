-- Segments that stand one behind the other, in memory and in the file, and the sections in them.
use Rattle.std.proofs.Common.{◌≡◌, ℕ, ◌+◌, ◌-◌, ◌<◌, ◌≤◌, ◌==◌, ◌&&◌, inl, inr, not, Bool, true, false, if◌then◌else◌, List, [], ◌∷◌, ◌++◌, codes, refl, sym, subst, arith, tests}
use Rattle.std.specs.List.{AllByRecursion}
use Rattle.std.specs.Str.{bytes_eq}
use Rattle.std.proofs.lemmas.Bool.{cases_Bool}
use Rattle.list_lemmas.proofs.Members.{In, all_weaker}
use Rattle.mo_types.specs.Whole.{is_zerofill}
use Rattle.mo_types.specs.declared.atom.Atom.{Atom}
use Rattle.mo_types.specs.declared.key.AtomKey.{AtomKey}
use Rattle.sect_place.specs.Places.{file_bytes, group_end, groups_end, groups_file, groups_sections, groups_segments, is_filled, page_up, part_end, part_from, parts_end, parts_filled, parts_sections, placed_section, protection_of, segment_of}
use Rattle.sect_place.specs.declared.layout.PlacedSection.{PlacedSection}
use Rattle.sect_place.specs.declared.layout.Segment.{Segment}
use Rattle.sect_place.specs.declared.part.Group.{Group}
use Rattle.sect_place.specs.declared.part.Part.{Part}
use Rattle.sect_place.proofs.Spread.{filled_bounds, group_bounds, part_bounds, parts_after}

pub appended : {X : Type 0} (P : X → Type 0) (xs ys : List X) → AllByRecursion P xs → AllByRecursion P ys → AllByRecursion P (xs ++ ys)
appended P [] ys p q = q
appended P (x ∷ xs) ys p q = (p.0, appended P xs ys p.1 q)

-- ---- segments in turn

-- segments from an address and an offset of the file on, each behind the one before in both
abbrev pub InTurn : ℕ → ℕ → List Segment → Type 0
InTurn at file [] = Unit {0}
InTurn at file (segment ∷ segments) =
    (at ≤ segment.address) × (file ≤ segment.file_offset) × (segment.file_size ≤ segment.vmsize)
    × InTurn (segment.address + segment.vmsize) (segment.file_offset + segment.file_size) segments

pub earlier : (at from file begin : ℕ) (segments : List Segment) → from ≤ at → begin ≤ file → InTurn at file segments → InTurn from begin segments
earlier at from file begin [] low first turn = tt
earlier at from file begin (segment ∷ segments) low first turn = (omega (arith, turn.0), omega (arith, turn.1), turn.2, turn.3)

pub turned : (atoms : List AtomKey → List Atom) (at file lead : ℕ) (groups : List Group) (last : Segment) → last.address ≡ groups_end atoms at lead groups → last.file_offset ≡ groups_file atoms at file lead groups → last.file_size ≤ last.vmsize → InTurn at file (groups_segments atoms at file lead groups ++ last ∷ [])
unfolding groups_end groups_file groups_segments segment_of file_bytes
turned atoms at file lead [] last ends stops small = (omega (arith, ends), omega (arith, stops), small, tt)
turned atoms at file lead (group ∷ groups) last ends stops small =
    let bounds = group_bounds atoms at lead group.parts in
    let next = page_up (group_end atoms at lead group) in
    let past = file + file_bytes atoms at lead group in
    let rest = turned atoms next past 0 groups last ends stops small in (
      omega arith,
      omega arith,
      omega (arith, bounds.5),
      earlier next (at + (next - at)) past past (groups_segments atoms next past 0 groups ++ last ∷ []) (omega (arith, bounds.0, bounds.3)) (omega arith) rest,
    )

-- each begins at the address and the offset at the earliest
pub not_before : (at file : ℕ) (segments : List Segment) (segment : Segment) → InTurn at file segments → In segment segments → (at ≤ segment.address) × (file ≤ segment.file_offset)
not_before at file [] segment turn h = absurd h
not_before at file (first ∷ segments) segment turn (inl e) = (subst (λ (s : Segment). at ≤ s.address) e turn.0, subst (λ (s : Segment). file ≤ s.file_offset) e turn.1)
not_before at file (first ∷ segments) segment turn (inr h) =
    let rest = not_before (first.address + first.vmsize) (first.file_offset + first.file_size) segments segment turn.3 h in
    (omega (arith, rest.0, turn.0), omega (arith, rest.1, turn.1))

-- the place in the file of an address
abbrev pub IsAt : Segment → ℕ → ℕ → Type 0
IsAt segment address place =
    (segment.address ≤ address) × (address < segment.address + segment.file_size) × (place ≡ segment.file_offset + (address - segment.address))

-- one place is that of one address
pub one_address : (at file : ℕ) (segments : List Segment) (a b : Segment) (x y place : ℕ) → InTurn at file segments → In a segments → In b segments → IsAt a x place → IsAt b y place → x ≡ y
one_address at file [] a b x y place turn h k p q = absurd h
one_address at file (first ∷ segments) a b x y place turn (inl e) (inl f) p q =
    let here : IsAt first x place = subst (λ (s : Segment). IsAt s x place) (sym e) p in
    let there : IsAt first y place = subst (λ (s : Segment). IsAt s y place) (sym f) q in
    omega (arith, here.0, here.1, here.2, there.0, there.1, there.2)
one_address at file (first ∷ segments) a b x y place turn (inl e) (inr k) p q =
    let here : IsAt first x place = subst (λ (s : Segment). IsAt s x place) (sym e) p in
    let later = not_before (first.address + first.vmsize) (first.file_offset + first.file_size) segments b turn.3 k in
    absurd (omega (arith, here.0, here.1, here.2, q.0, q.1, q.2, later.1))
one_address at file (first ∷ segments) a b x y place turn (inr h) (inl f) p q =
    let there : IsAt first y place = subst (λ (s : Segment). IsAt s y place) (sym f) q in
    let later = not_before (first.address + first.vmsize) (first.file_offset + first.file_size) segments a turn.3 h in
    absurd (omega (arith, there.0, there.1, there.2, p.0, p.1, p.2, later.1))
one_address at file (first ∷ segments) a b x y place turn (inr h) (inr k) p q =
    one_address (first.address + first.vmsize) (first.file_offset + first.file_size) segments a b x y place turn.3 h k p q

-- ---- sections in their segments

-- a section in a segment: at the same distance in memory and in the file, within what the file has of it
pub record IsHeldIn (segment : Segment) (placed : PlacedSection) : Type 0 where
  pub open_to : 0 < segment.protection
  pub low : segment.address ≤ placed.address
  pub high : placed.address + placed.size ≤ segment.address + segment.vmsize
  pub file : is_zerofill placed.section.kind ≡ false → placed.file_offset ≡ segment.file_offset + (placed.address - segment.address)
  pub filled : is_zerofill placed.section.kind ≡ false → 0 < placed.size → placed.address + placed.size ≤ segment.address + segment.file_size
  pub named : segment.name ≡ placed.section.segment
  pub protected : segment.protection ≡ protection_of segment.name

-- a section in one of some segments, from an address on, and in the file from an offset on
pub record IsHeldBy (segments : List Segment) (from begin : ℕ) (placed : PlacedSection) : Type 0 where
  pub segment : Segment
  pub among : In segment segments
  pub held : IsHeldIn segment placed
  pub behind : from ≤ placed.address
  pub far : (address : ℕ) → placed.address ≤ address → begin ≤ segment.file_offset + (address - segment.address)

-- sections of one segment, by where it begins in memory and in the file, and where both end
record IsLaid (start begin from end stop : ℕ) (placed : PlacedSection) : Type 0 where
  pub low : from ≤ placed.address
  pub high : placed.address + placed.size ≤ end
  pub file : is_zerofill placed.section.kind ≡ false → placed.file_offset ≡ begin + (placed.address - start)
  pub filled : is_zerofill placed.section.kind ≡ false → 0 < placed.size → placed.address + placed.size ≤ stop

fills : (atoms : List AtomKey → List Atom) (at : ℕ) (part : Part) → is_zerofill part.section.kind ≡ false → 0 < part_end atoms at part - part_from at part → is_filled atoms at part ≡ true
unfolding is_filled
fills atoms at part solid some = by (is_zerofill part.section.kind) (part_end atoms at part == part_from at part) solid (grind (arith, tests))
  where
    by : (zeros same : Bool) → zeros ≡ false → same ≡ false → (not zeros && not same) ≡ true
    by zeros same e f = rw (e, f) refl

parts_laid : (atoms : List AtomKey → List Atom) (start file from at filled end file_end : ℕ) (parts : List Part) → from ≤ at → filled ≤ at → parts_end atoms at parts ≤ end → parts_filled atoms filled at parts ≤ file_end → AllByRecursion (IsLaid start file from end file_end) (parts_sections atoms start file at parts)
unfolding parts_end parts_filled parts_sections placed_section
parts_laid atoms start file from at filled end file_end [] low before ends stops = tt
parts_laid atoms start file from at filled end file_end (part ∷ parts) low before ends stops =
    let bounds = part_bounds atoms at part in
    let after = parts_after atoms (part_end atoms at part) parts in
    elim (cases_Bool (is_filled atoms at part)) [
      | inl is ↦
          let stops_on : parts_filled atoms (part_end atoms at part) (part_end atoms at part) parts ≤ file_end = rw is at stops in
          let filled_on = filled_bounds atoms (part_end atoms at part) (part_end atoms at part) parts (omega arith) in (
            record {
              low = omega (arith, bounds.0);
              high = omega (arith, bounds.1, after);
              file = λ solid. rw solid refl;
              filled = λ solid some. omega (arith, bounds.1, filled_on.0);
            },
            parts_laid atoms start file from (part_end atoms at part) (part_end atoms at part) end file_end parts (omega (arith, bounds.0, bounds.1)) (omega arith) ends stops_on,
          )
      | inr bare ↦
          let stops_on : parts_filled atoms filled (part_end atoms at part) parts ≤ file_end = rw bare at stops in (
            record {
              low = omega (arith, bounds.0);
              high = omega (arith, bounds.1, after);
              file = λ solid. rw solid refl;
              filled = λ solid some. let yes : is_filled atoms at part ≡ true = fills atoms at part solid some in cc;
            },
            parts_laid atoms start file from (part_end atoms at part) filled end file_end parts (omega (arith, bounds.0, bounds.1)) (omega (arith, bounds.0, bounds.1)) ends stops_on,
          )
    ]

-- what is held by some segments is held by more of them
pub held_by_more : (first : Segment) (segments : List Segment) (from begin : ℕ) (sections : List PlacedSection) → AllByRecursion (IsHeldBy segments from begin) sections → AllByRecursion (IsHeldBy (first ∷ segments) from begin) sections
held_by_more first segments from begin sections all =
    all_weaker (IsHeldBy segments from begin) (IsHeldBy (first ∷ segments) from begin) (λ placed h. record { segment = h.segment; among = inr h.among; held = h.held; behind = h.behind; far = h.far }) sections all

positive : (b : Bool) (m n : ℕ) → 0 < m → 0 < n → 0 < (if b then m else n)
positive true m n p q = p
positive false m n p q = q

-- the sections of a segment have its name
abbrev pub IsNamed : Group → Type 0
IsNamed group = AllByRecursion (λ (part : Part). group.name ≡ part.section.segment) group.parts

parts_named : (atoms : List AtomKey → List Atom) (start file at : ℕ) (name : List ℕ) (parts : List Part) → AllByRecursion (λ (part : Part). name ≡ part.section.segment) parts → AllByRecursion (λ (placed : PlacedSection). name ≡ placed.section.segment) (parts_sections atoms start file at parts)
unfolding parts_sections placed_section
parts_named atoms start file at name [] named = tt
parts_named atoms start file at name (part ∷ parts) named = (named.0, parts_named atoms start file (part_end atoms at part) name parts named.1)

all_both : {X : Type 0} (P Q : X → Type 0) (xs : List X) → AllByRecursion P xs → AllByRecursion Q xs → AllByRecursion (λ x. P x × Q x) xs
all_both P Q [] p q = tt
all_both P Q (x ∷ xs) p q = ((p.0, q.0), all_both P Q xs p.1 q.1)

pub sections_held : (atoms : List AtomKey → List Atom) (at file lead from begin : ℕ) (groups : List Group) (last : Segment) → AllByRecursion IsNamed groups → from ≤ at + lead → begin ≤ file + lead → AllByRecursion (IsHeldBy (groups_segments atoms at file lead groups ++ last ∷ []) from begin) (groups_sections atoms at file lead groups)
unfolding groups_segments groups_sections segment_of file_bytes
sections_held atoms at file lead from begin [] last named low early = tt
sections_held atoms at file lead from begin (group ∷ groups) last named low early =
    let bounds = group_bounds atoms at lead group.parts in
    let next = page_up (group_end atoms at lead group) in
    let past = file + file_bytes atoms at lead group in
    let here = segment_of atoms at file lead group in
    let segments = groups_segments atoms next past 0 groups ++ last ∷ [] in
    let laid = parts_laid atoms at file (at + lead) (at + lead) (at + lead) next (page_up (parts_filled atoms (at + lead) (at + lead) group.parts)) group.parts (omega arith) (omega arith) bounds.3 bounds.4 in
    let both = all_both (IsLaid at file (at + lead) next (page_up (parts_filled atoms (at + lead) (at + lead) group.parts))) (λ (placed : PlacedSection). group.name ≡ placed.section.segment) (parts_sections atoms at file (at + lead) group.parts) laid (parts_named atoms at file (at + lead) group.name group.parts named.0) in
    appended (IsHeldBy (here ∷ segments) from begin) (parts_sections atoms at file (at + lead) group.parts) (groups_sections atoms next past 0 groups)
    (all_weaker (λ (placed : PlacedSection). IsLaid at file (at + lead) next (page_up (parts_filled atoms (at + lead) (at + lead) group.parts)) placed × (group.name ≡ placed.section.segment)) (IsHeldBy (here ∷ segments) from begin) (λ placed one. record {
      segment = here;
      among = inl refl;
      held = record {
        open_to = positive (bytes_eq group.name (codes "__TEXT")) 5 3 (omega arith) (omega arith);
        low = (let l = one.0.low in omega arith);
        high = (let h = one.0.high in omega (arith, bounds.0, bounds.3));
        file = one.0.file;
        filled = λ solid some. (let f = one.0.filled solid some in omega (arith, bounds.1, bounds.4));
        named = one.1;
        protected = refl;
      };
      behind = (let l = one.0.low in omega arith);
      far = λ address above. (let l = one.0.low in omega arith);
    }) (parts_sections atoms at file (at + lead) group.parts) both)
    (held_by_more here segments from begin (groups_sections atoms next past 0 groups) (sections_held atoms next past 0 from begin groups last named.1 (omega (arith, bounds.0, bounds.3)) (omega (arith, bounds.1, bounds.4))))

-- each ends in the file where the last one does, or before
pub ends_before : (at file : ℕ) (segments : List Segment) (last segment : Segment) → InTurn at file (segments ++ last ∷ []) → In segment (segments ++ last ∷ []) → segment.file_offset + segment.file_size ≤ last.file_offset + last.file_size
ends_before at file [] last segment turn (inl e) = subst (λ (s : Segment). s.file_offset + s.file_size ≤ last.file_offset + last.file_size) e (omega arith)
ends_before at file [] last segment turn (inr h) = absurd h
ends_before at file (first ∷ segments) last segment turn (inl e) =
    let later = not_before (first.address + first.vmsize) (first.file_offset + first.file_size) (segments ++ last ∷ []) last turn.3 (there segments) in
    subst (λ (s : Segment). s.file_offset + s.file_size ≤ last.file_offset + last.file_size) e (omega (arith, later.1))
  where
    there : (xs : List Segment) → In last (xs ++ last ∷ [])
    there [] = inl refl
    there (x ∷ xs) = inr (there xs)
ends_before at file (first ∷ segments) last segment turn (inr h) =
    ends_before (first.address + first.vmsize) (first.file_offset + first.file_size) segments last segment turn.3 h
