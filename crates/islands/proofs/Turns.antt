-- Branches and targets are in turn: what is behind more groups isn't before the other.
use Rattle.std.proofs.Common.{◌≡◌, ℕ, ℤ, pos, negsuc, ◌+◌, ◌<◌, ◌≤◌, ◌⊎◌, ◌==◌, ◌++◌, ◌&&◌, if◌then◌else◌, Bool, true, false, List, [], ◌∷◌, length, Option, Some, None, codes, refl, sym, ap, subst, ◌∙◌, inl, inr, arith, append_assoc}
use Rattle.std.specs.Ordering.{is_lt}
use Rattle.std.specs.Str.{bytes_eq}
use Rattle.std.proofs.lemmas.Bool.{cases_Bool, eqb-true, false≢true}
use Rattle.std.proofs.lemmas.List.Sums.{count_by-le-length}
use Rattle.std.proofs.lemmas.List.Elements.{recursion_from_All}
use Rattle.list_lemmas.proofs.Members.{In, all_in, find_some, in_either}
use Rattle.mo_format.specs.declared.loader.TheConstants.{S_REGULAR, S_SYMBOL_STUBS}
use Rattle.mo_types.specs.Keys.{compare_keys}
use Rattle.mo_types.specs.declared.atom.Atom.{Atom}
use Rattle.mo_types.specs.declared.goal.Goal.{Goal}
use Rattle.mo_types.specs.declared.goal.Goal.TheVariants.{Def, WeakSelf, Header, Import, Flat, Nobody}
use Rattle.mo_types.specs.declared.key.AtomKey.{AtomKey}
use Rattle.mo_types.specs.declared.out_section.OutSection.{OutSection}
use Rattle.command_line.specs.declared.command.Command.{Command}
use Rattle.sect_list.specs.OutSections.{is_in}
use Rattle.sect_place.specs.Arrangement.{chosen, groups_of, is_code, text_parts}
use Rattle.sect_place.specs.Layout.{base_of, image_sections, image_segments, lead_of, linkedit, made_bytes, plan_of, end_of_image, first_segments}
use Rattle.sect_place.specs.Moved.{no_islands}
use Rattle.sect_place.specs.Places.{area_unit, file_bytes, group_end, groups_sections, groups_segments, groups_file, page_up, part_end, parts_sections, parts_stand, placed_section, segment_of, spaced}
use Rattle.sect_place.specs.declared.island.BranchTarget.{BranchTarget}
use Rattle.sect_place.specs.declared.layout.Layout.{Layout}
use Rattle.sect_place.specs.declared.layout.PlacedSection.{PlacedSection}
use Rattle.sect_place.specs.declared.layout.Segment.{Segment}
use Rattle.sect_place.specs.declared.part.Choice.TheVariants.{Code}
use Rattle.sect_place.specs.declared.part.Group.{Group}
use Rattle.sect_place.specs.declared.part.Part.{Part}
use Rattle.sect_place.proofs.Sound.{groups_split, later_groups}
use Rattle.island_core.specs.Far.{IsInTurn}
use Rattle.island_core.specs.declared.row.Case.TheVariants.{Plain}
use Rattle.islands.specs.declared.branch.Branch.{Branch}
use Rattle.islands.specs.declared.spot.Spot.{Spot}
use Rattle.islands.specs.Plan.{IsInAtom, IsInAtoms, IsInGoal, IsWithoutIslands}
use Rattle.islands.specs.Rows.{atom_spot, case_of, goal_spot, header_in, is_plain, is_stubs, raised, row_of, spot_by, spot_of, stub_spot, stubs_in}
use Rattle.islands.specs.Text.{groups_before, in_code, in_text, is_text, place_in}
use Rattle.islands.proofs.Counting.{fewer_before}
use Rattle.islands.proofs.Layouts.{both_true, stands_parts}
use Rattle.islands.proofs.Planned.{beside_parts, code_sections, text_split}
use Rattle.islands.proofs.Standing.{groups_sections_low, parts_sections_low, sections_join}
use Rattle.islands.proofs.Stood.{Seat, code_end, code_seat, first, other_place, page_after, seat_within, seats_in_turn}

-- ---- what a plain branch is

record IsPlainCase (a b c : Bool) : Type 0 where
  grouped : a ≡ true
  inside : b ≡ true
  plain : c ≡ true

plain_case : (a b c : Bool) → case_of a b c ≡ Plain → IsPlainCase a b c
plain_case false b c e = cc
plain_case true false c e = cc
plain_case true true true e = record { grouped = refl; inside = refl; plain = refl }
plain_case true true false e = cc

no_addend : (addend : ℤ) → is_plain addend ≡ true → addend ≡ pos 0
no_addend (pos n) e = ap pos (eqb-true n 0 e)
no_addend (negsuc n) e = cc

-- ---- sections behind `__text`

pub first_code : (atoms : List AtomKey → List Atom) (start file at : ℕ) (parts : List Part) (q : PlacedSection) → ((part : Part) → In part parts → is_code part.section ≡ true) → In q (parts_sections atoms start file at parts) → is_code q.section ≡ true
unfolding parts_sections placed_section
first_code atoms start file at [] q all h = absurd h
first_code atoms start file at (part ∷ parts) q all (inl e) = subst (λ (s : PlacedSection). is_code s.section ≡ true) e (all part (inl refl))
first_code atoms start file at (part ∷ parts) q all (inr h) = first_code atoms start file (part_end atoms at part) parts q (λ p there. all p (inr there)) h

stubs_kind : (a b : Bool) (kind n : ℕ) → (((a && b) && (kind == S_SYMBOL_STUBS)) && (n == 0)) ≡ true → kind ≡ S_SYMBOL_STUBS
stubs_kind a b kind n e = eqb-true kind S_SYMBOL_STUBS (both_true (a && b) (kind == S_SYMBOL_STUBS) (both_true ((a && b) && (kind == S_SYMBOL_STUBS)) (n == 0) e).0).1

code_kind : (a b : Bool) (kind : ℕ) → ((a && b) && (kind == S_REGULAR)) ≡ true → kind ≡ S_REGULAR
code_kind a b kind e = eqb-true kind S_REGULAR (both_true (a && b) (kind == S_REGULAR) e).1

pub not_code : (section : OutSection) → is_stubs section ≡ true → is_code section ≡ false
not_code section e = elim (cases_Bool (is_code section)) [
  | inl code ↦ absurd (clash section.kind (stubs_kind (is_in (codes "__TEXT") section) (bytes_eq section.name (codes "__stubs")) section.kind (length section.atoms) e) (code_kind (is_in (codes "__TEXT") section) (bytes_eq section.name (codes "__text")) section.kind code))
  | inr away ↦ away
]
  where
    clash : (kind : ℕ) → kind ≡ S_SYMBOL_STUBS → kind ≡ S_REGULAR → ⊥
    clash kind e f = absurd (omega (arith, e, f))

pub header_from : (command : Command) (s : Segment) (rest : List Segment) → bytes_eq s.name (codes "__TEXT") ≡ true → header_in (first_segments command ++ s ∷ rest) ≡ s.address
header_from command s rest named = elim (cases_Bool command.dylib) [ inl e ↦ rw (e, named) refl | inr e ↦ rw (e, named) refl ]

module _ (kept : List Atom) (layout : Layout) (is : IsWithoutIslands kept layout) where
  abbrev spread : List AtomKey → List Atom
  spread = spaced kept [] (area_unit is.sections)

  abbrev base : ℕ
  base = base_of is.command

  abbrev beside : List Part
  beside = beside_parts is.sections (made_bytes is.slots is.sizes)

  abbrev text : List Part
  text = text_parts is.sections (made_bytes is.slots is.sizes)

  abbrev later : List Group
  later = later_groups is.sections (made_bytes is.slots is.sizes)

  abbrev text_group : Group
  text_group = record { name = codes "__TEXT"; parts = text_parts is.sections (made_bytes is.slots is.sizes) }

  abbrev lead : ℕ
  lead = lead_of (groups_of is.sections (made_bytes is.slots is.sizes)) is.sizes is.command

  sections_split : layout.sections ≡ parts_sections spread base 0 (base + lead) text ++ groups_sections spread (page_up (group_end spread base lead text_group)) (0 + file_bytes spread base lead text_group) 0 later
  unfolding image_sections plan_of groups_sections
  sections_split = is.placed.sections ∙ ap (λ (groups : List Group). groups_sections spread base 0 lead groups) (groups_split is.sections (made_bytes is.slots is.sizes))

  late_section : (q : PlacedSection) → In q layout.sections → is_code q.section ≡ false → code_end kept layout is ≤ q.address
  late_section q h away = by (in_either (parts_sections spread base 0 (base + lead) text) (groups_sections spread (page_up (group_end spread base lead text_group)) (0 + file_bytes spread base lead text_group) 0 later) q (subst (λ (ps : List PlacedSection). In q ps) sections_split h))
    where
      two : In q (parts_sections spread base 0 (base + lead) (chosen Code is.sections)) ⊎ In q (parts_sections spread base 0 (code_end kept layout is) beside) → code_end kept layout is ≤ q.address
      two (inl code) = absurd (false≢true (sym away ∙ first_code spread base 0 (base + lead) (chosen Code is.sections) q (code_sections is.sections) code))
      two (inr other) = parts_sections_low spread base 0 (code_end kept layout is) beside q other

      by : In q (parts_sections spread base 0 (base + lead) text) ⊎ In q (groups_sections spread (page_up (group_end spread base lead text_group)) (0 + file_bytes spread base lead text_group) 0 later) → code_end kept layout is ≤ q.address
      by (inl h) =
          two (in_either (parts_sections spread base 0 (base + lead) (chosen Code is.sections)) (parts_sections spread base 0 (code_end kept layout is) beside) q
          (subst (λ (ps : List PlacedSection). In q ps) (ap (parts_sections spread base 0 (base + lead)) (text_split is.sections (made_bytes is.slots is.sizes)) ∙ sections_join spread base 0 (base + lead) (chosen Code is.sections) beside) h))
      by (inr h) =
          let low = groups_sections_low spread (page_up (group_end spread base lead text_group)) (0 + file_bytes spread base lead text_group) 0 later q h in
          let page = page_after kept layout is in
          omega (arith, low, page)

  header_at : header_in layout.segments ≡ base
  unfolding image_segments plan_of groups_segments segment_of
  header_at =
      let file = 0 + file_bytes spread base lead text_group in
      let rest = groups_segments spread (page_up (group_end spread base lead text_group)) file 0 later ++ linkedit (end_of_image (plan_of kept is.sections is.slots no_islands is.sizes is.command)) (groups_file spread base 0 lead (groups_of is.sections (made_bytes is.slots is.sizes))) ∷ [] in
      ap header_in is.placed.segments
      ∙ (ap (λ (groups : List Group). header_in ((first_segments is.command ++ groups_segments spread base 0 lead groups) ++ linkedit (end_of_image (plan_of kept is.sections is.slots no_islands is.sizes is.command)) (groups_file spread base 0 lead (groups_of is.sections (made_bytes is.slots is.sizes))) ∷ [])) (groups_split is.sections (made_bytes is.slots is.sizes))
      ∙ (ap header_in (append_assoc (first_segments is.command) (groups_segments spread base 0 lead (text_group ∷ later)) (linkedit (end_of_image (plan_of kept is.sections is.slots no_islands is.sizes is.command)) (groups_file spread base 0 lead (groups_of is.sections (made_bytes is.slots is.sizes))) ∷ []))
      ∙ header_from is.command (segment_of spread base 0 lead text_group) rest refl))

  -- ---- a target and a branch of a group

  abbrev code_stand : List (Atom × ℕ)
  code_stand = parts_stand spread (first kept layout is) (chosen Code is.sections)

  record Turned (lasts : List AtomKey) (key : AtomKey) (end : ℕ) (spot : Spot) : Type 0 where
    forth : groups_before lasts key < spot.zone → end ≤ spot.place
    back : spot.zone < groups_before lasts key → spot.place ≤ place_in layout key

  groups_low : (lasts : List AtomKey) (key : AtomKey) → groups_before lasts key ≤ length lasts
  groups_low lasts key = count_by-le-length (λ (last : AtomKey). is_lt (compare_keys last key)) lasts

  within_of : (key : AtomKey) (place : ℕ) (atom : Atom) → IsInAtom kept key place → In atom kept → atom.key ≡ key → place ≤ atom.size
  within_of key place atom all h named = all_in (λ (a : Atom). a.key ≡ key → place ≤ a.size) kept atom (recursion_from_All (λ (a : Atom). a.key ≡ key → place ≤ a.size) kept all) h named

  atom_turned : (lasts : List AtomKey) (key other : AtomKey) (offset : ℕ) (x : Seat kept code_stand key (place_in layout key)) → IsInAtom kept other offset → in_text layout other ≡ true → Turned lasts key (place_in layout key + x.atom.size) (atom_spot layout lasts other offset)
  atom_turned lasts key other offset x within text = by (cases_Bool (in_code layout other))
    where
      by : (in_code layout other ≡ true) ⊎ (in_code layout other ≡ false) → Turned lasts key (place_in layout key + x.atom.size) (atom_spot layout lasts other offset)
      by (inl code) =
          let y = code_seat kept layout is other code in
          let low = within_of other offset y.atom within y.has y.named in
          let zone : (if in_code layout other then groups_before lasts other else length lasts) ≡ groups_before lasts other = rw code refl in
          record {
            forth = λ less. let before = seats_in_turn kept layout is key other (place_in layout key) (place_in layout other) x y (fewer_before lasts key other (omega (arith, less, zone))) in omega (arith, before);
            back = λ less. let before = seats_in_turn kept layout is other key (place_in layout other) (place_in layout key) y x (fewer_before lasts other key (omega (arith, less, zone))) in omega (arith, before, low);
          }
      by (inr away) =
          let some = (stands_parts is_text layout other text).1 in
          let high = other_place kept layout is other some away in
          let own = seat_within kept layout is key (place_in layout key) x in
          let zone : (if in_code layout other then groups_before lasts other else length lasts) ≡ length lasts = rw away refl in
          record {
            forth = λ less. omega (arith, own.1, high);
            back = λ less. absurd (omega (arith, less, zone, groups_low lasts key));
          }

  goal_turned : (lasts : List AtomKey) (key : AtomKey) (goal : Goal) (x : Seat kept code_stand key (place_in layout key)) → IsInGoal kept goal → (goal_spot layout lasts goal).inside ≡ true → Turned lasts key (place_in layout key + x.atom.size) (goal_spot layout lasts goal)
  goal_turned lasts key (Def other offset) x within inside = atom_turned lasts key other offset x within inside
  goal_turned lasts key (WeakSelf name other offset) x within inside = atom_turned lasts key other offset x within inside
  goal_turned lasts key Header x within inside =
      let own = seat_within kept layout is key (place_in layout key) x in
      record {
        forth = λ less. absurd (omega (arith, less));
        back = λ less. omega (arith, own.0, header_at);
      }
  goal_turned lasts key (Import name ordinal by_weak optional) x within inside = absurd (false≢true inside)
  goal_turned lasts key (Flat name) x within inside = absurd (false≢true inside)
  goal_turned lasts key Nobody x within inside = absurd (false≢true inside)

  stub_turned : (lasts : List AtomKey) (key : AtomKey) (number : ℕ) (x : Seat kept code_stand key (place_in layout key)) → (stub_spot (stubs_in layout.sections) (length lasts) number).inside ≡ true → Turned lasts key (place_in layout key + x.atom.size) (stub_spot (stubs_in layout.sections) (length lasts) number)
  stub_turned lasts key number x inside = by (stubs_in layout.sections) refl inside
    where
      by : (found : Option PlacedSection) → stubs_in layout.sections ≡ found → (stub_spot found (length lasts) number).inside ≡ true → Turned lasts key (place_in layout key + x.atom.size) (stub_spot found (length lasts) number)
      by None e inside = absurd (false≢true inside)
      by (Some p) e inside =
          let found = find_some (λ (q : PlacedSection). is_stubs q.section) layout.sections p e in
          let high = late_section p found.0 (not_code p.section found.1) in
          let own = seat_within kept layout is key (place_in layout key) x in
          record {
            forth = λ less. omega (arith, own.1, high);
            back = λ less. absurd (omega (arith, less, groups_low lasts key));
          }

  spot_turned : (lasts : List AtomKey) (key : AtomKey) (goal : Goal) (stub : Option ℕ) (x : Seat kept code_stand key (place_in layout key)) → IsInGoal kept goal → (spot_by layout lasts goal stub).inside ≡ true → Turned lasts key (place_in layout key + x.atom.size) (spot_by layout lasts goal stub)
  spot_turned lasts key goal None x within inside = goal_turned lasts key goal x within inside
  spot_turned lasts key goal (Some number) x within inside = stub_turned lasts key number x inside

  pub in_turn : (lasts : List AtomKey) (targets : List BranchTarget) (branch : Branch) → IsInAtoms kept branch → IsInTurn (row_of layout lasts targets branch)
  unfolding row_of spot_of
  in_turn lasts targets branch within plain =
      let spot = spot_by layout lasts branch.target.goal branch.target.stub in
      let case = plain_case (in_code layout branch.atom) spot.inside (is_plain branch.target.addend) plain in
      let x = code_seat kept layout is branch.atom case.grouped in
      let turned = spot_turned lasts branch.atom branch.target.goal branch.target.stub x within.goal case.inside in
      let low = within_of branch.atom branch.place x.atom within.place x.has x.named in
      subst (λ (addend : ℤ). (groups_before lasts branch.atom < spot.zone → raised (place_in layout branch.atom + branch.place) (pos 0) ≤ raised spot.place addend) × (spot.zone < groups_before lasts branch.atom → raised spot.place addend ≤ raised (place_in layout branch.atom + branch.place) (pos 0))) (sym (no_addend branch.target.addend case.plain))
      ((λ less. let forth = turned.forth less in omega (arith, forth, low)), (λ less. let back = turned.back less in omega (arith, back)))
