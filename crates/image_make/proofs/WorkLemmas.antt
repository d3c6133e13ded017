-- The atoms with bytes of an image stand one behind the other, and their references have fields in them.
use Rattle.std.proofs.Common.{◌≡◌, ℕ, zero, suc, ◌+◌, ◌-◌, ◌<◌, ◌≤◌, ◌==◌, ◌&&◌, ◌++◌, ◌⊎◌, inl, inr, Bool, true, false, List, [], ◌∷◌, length, map, take, drop, Option, Some, None, Contains, refl, sym, ap, ◌∙◌, subst, arith}
use Rattle.std.specs.Prelude.{slice_get}
use Rattle.std.specs.List.{enumerate_from, filter, filter_map, flat_map}
use Rattle.std.specs.Option.{option_map_or}
use Rattle.std.specs.Ordering.{is_eq}
use Rattle.std.proofs.lemmas.Bool.{eqb-true}
use Rattle.std.proofs.lemmas.Cmp.{tied_itself}
use Rattle.mo_types.proofs.KeyOrder.{compare_keys_total}
use Rattle.std.proofs.lemmas.List.{length-take}
use Rattle.std.proofs.lemmas.List.Elements.{All-from_recursion}
use Rattle.std.proofs.lemmas.List.Sorted.{Contains-permutation}
use Rattle.list_lemmas.proofs.Members.{Contains_from_in, In, all_from_in, any_from_in, all_in, find_some, from_filter, from_filter_map, from_flat, from_map, in_either}
use Rattle.mo_types.specs.AtomBytes.{atom_bytes}
use Rattle.mo_types.specs.Keys.{compare_files, compare_keys}
use Rattle.mo_types.specs.RelocationRules.{section_numbered}
use Rattle.mo_types.specs.declared.atom.Atom.{Atom}
use Rattle.mo_types.specs.declared.key.AtomKey.{AtomKey}
use Rattle.mo_types.specs.declared.key.TheConstants.{COMMON_SECTION}
use Rattle.mo_types.specs.declared.loaded.LoadedFile.{LoadedFile}
use Rattle.mo_types.specs.declared.object.Object.{Object}
use Rattle.mo_types.specs.declared.object.Section.{Section}
use Rattle.literal_merge.specs.declared.representative.Representative.{Representative}
use Rattle.tlv_plan.specs.Template.{aligned, stand}
use Rattle.tlv_plan.specs.Template as template
use Rattle.tlv_plan.proofs.Walk.{aligned_least}
use Rattle.sect_list.specs.OutSections.{out_sections}
use Rattle.sect_place.specs.Addresses.{address_in}
use Rattle.sect_place.specs.Layout.{image_places, image_sections, made_bytes, plan_of}
use Rattle.sect_place.specs.Places.{area_unit, groups_file, groups_sections, spaced, with_area}
use Rattle.sect_place.specs.declared.island.IslandArea.{IslandArea}
use Rattle.sect_place.specs.declared.layout.Layout.{Layout}
use Rattle.sect_place.specs.declared.layout.Placed.{Placed}
use Rattle.sect_place.specs.declared.layout.PlacedSection.{PlacedSection}
use Rattle.sect_place.proofs.AddressLemmas.{address_is}
use Rattle.sect_place.proofs.Positions.{finds, found_atom}
use Rattle.patch.specs.Order.{StandsBefore}
use Rattle.patch.specs.Range.{AreStanding, IsStanding, bytes_of}
use Rattle.patch.specs.declared.range.PlacedWork.{PlacedWork}
use Rattle.patch.proofs.ChosenLemmas.{Pairs, all_pairs, pairs_join, pairs_weaker}
use Rattle.mark_core.specs.Kept.{has}
use Rattle.symbol_winners.specs.declared.winner.Winner.{Winner}
use Rattle.image_make.specs.Atoms.{AreLow, AreRising, atom_of, common_at, commons_in, is_common_of, kept_as, kept_at, kept_atoms, kept_in, raised}
use Rattle.image_make.specs.Made.{IsLaid, ImageInputs, kept_of, plan_for, plan_with, rows_of, sizes_of}
use Rattle.image_make.specs.Parts.{linkedit_offset}
use Rattle.image_make.specs.Rows.{has_bytes, row_at, row_of, rows, section_rows}
use Rattle.image_make.specs.declared.kept.KeptAtom.{KeptAtom}
use Rattle.image_make.proofs.CommonLemmas.{common_key}
use Rattle.image_make.proofs.LaidLemmas.{low_atoms}
use Rattle.image_make.proofs.RankLemmas.{all_stored}
use Rattle.image_make.proofs.RoomLemmas.{layout_end}
use Rattle.image_make.proofs.Rowed.{atom_within, find_mapped, is_row, placed_once}
use Rattle.image_make.proofs.Spots.{all_have, spot}
use Rattle.image_make.proofs.StoredLemmas.{FileChain, groups_chain}

-- ---- the bytes of an atom are no more than its size

taken : (object : Object) (atom : Atom) (section : Option Section) → length (option_map_or (λ (s : Section). take atom.size (drop atom.key.offset s.bytes)) section []) ≤ atom.size
taken object atom None = omega arith
taken object atom (Some section) = omega (arith, length-take atom.size (drop atom.key.offset section.bytes))

few_in : (atom : Atom) (file : Option LoadedFile) → length (option_map_or (λ (f : LoadedFile). atom_bytes f.object atom) file []) ≤ atom.size
few_in atom None = omega arith
few_in atom (Some file) = taken file.object atom (section_numbered file.object.sections atom.key.section)

pub few_bytes : (files : List LoadedFile) (item : PlacedWork) → length (bytes_of files item) ≤ item.atom.size
unfolding bytes_of
few_bytes files item = few_in item.atom (slice_get files item.file)

-- ---- the rows of a section, in the order of its atoms

stand_none : (atoms : List Atom) (areas : List IslandArea) (unit at : ℕ) (key : AtomKey) (keys : List AtomKey) → finds atoms key ≡ None → stand at (spaced atoms areas unit (key ∷ keys)) ≡ stand at (spaced atoms areas unit keys)
unfolding spaced template.atoms_of
stand_none atoms areas unit at key keys e = rw e refl

stand_some : (atoms : List Atom) (areas : List IslandArea) (unit at : ℕ) (key : AtomKey) (keys : List AtomKey) (atom : Atom) → finds atoms key ≡ Some atom
    → stand at (spaced atoms areas unit (key ∷ keys)) ≡ (with_area areas unit atom, aligned atom.align at) ∷ stand (aligned atom.align at + (with_area areas unit atom).size) (spaced atoms areas unit keys)
unfolding spaced stand template.atoms_of
stand_some atoms areas unit at key keys atom e = rw e refl

find_unmapped : (kept : List KeptAtom) (key : AtomKey) → kept_at kept key ≡ None → finds (map atom_of kept) key ≡ None
find_unmapped [] key e = refl
find_unmapped (first ∷ kept) key e = by (is_eq (compare_keys first.atom.key key)) refl (find_unmapped kept key)
  where
    by : (b : Bool) → is_eq (compare_keys first.atom.key key) ≡ b → (kept_at kept key ≡ None → finds (map atom_of kept) key ≡ None) → finds (map atom_of (first ∷ kept)) key ≡ None
    by true is rest = absurd (let here : Some first ≡ None = rw is at e in cc)
    by false is rest = let there : kept_at kept key ≡ None = rw is at e in rw is (rest there)

row_some : (placed : List Placed) (kept : List KeptAtom) (section : PlacedSection) (key : AtomKey) (one : KeptAtom) (address : ℕ) → kept_at kept key ≡ Some one → address_in placed key ≡ Some address → row_of placed kept section key ≡ Some (row_at section one address)
unfolding row_of
row_some placed kept section key one address e f = rw (e, f) refl

row_none : (placed : List Placed) (kept : List KeptAtom) (section : PlacedSection) (key : AtomKey) → kept_at kept key ≡ None → row_of placed kept section key ≡ None
unfolding row_of
row_none placed kept section key e = rw e refl

-- one atom ends in memory where another one begins, or before
abbrev pub InTurn : PlacedWork → PlacedWork → Type 0
InTurn a b = a.address + a.atom.size ≤ b.address

record AreRowsFrom (at : ℕ) (rows : List PlacedWork) : Type 0 where
  pub turn : Pairs InTurn rows
  pub above : (row : PlacedWork) → In row rows → at ≤ row.address

-- the atoms that stand from a place on have the addresses that the list has
abbrev AreKnown : List Placed → List (Atom × ℕ) → Type 0
AreKnown placed stood = (atom : Atom) (address : ℕ) → In (atom, address) stood → address_in placed atom.key ≡ Some address

rows_turn : (placed : List Placed) (kept : List KeptAtom) (section : PlacedSection) (areas : List IslandArea) (unit at : ℕ) (keys : List AtomKey) → AreKnown placed (stand at (spaced (map atom_of kept) areas unit keys)) → AreRowsFrom at (filter_map (row_of placed kept section) keys)
rows_turn placed kept section areas unit at [] known = record { turn = tt; above = λ row h. absurd h }
rows_turn placed kept section areas unit at (key ∷ keys) known = by (kept_at kept key) refl (rows_turn placed kept section areas unit at keys) (λ n. rows_turn placed kept section areas unit n keys)
  where
    atoms : List Atom
    atoms = map atom_of kept

    here : (one : KeptAtom) → kept_at kept key ≡ Some one → AreRowsFrom (aligned one.atom.align at + (with_area areas unit one.atom).size) (filter_map (row_of placed kept section) keys) → address_in placed key ≡ Some (aligned one.atom.align at) → AreRowsFrom at (filter_map (row_of placed kept section) (key ∷ keys))
    here one e rest stood =
        let enough = (aligned_least one.atom.align at).enough in
        let row : row_of placed kept section key ≡ Some (row_at section one (aligned one.atom.align at)) = row_some placed kept section key one (aligned one.atom.align at) e stood in
        rw row (record {
          turn = ((λ b h. let up = rest.above b h in omega (arith, up)), rest.turn);
          above = above one enough rest.above;
        })
      where
        above : (one : KeptAtom) → at ≤ aligned one.atom.align at → ((b : PlacedWork) → In b (filter_map (row_of placed kept section) keys) → aligned one.atom.align at + (with_area areas unit one.atom).size ≤ b.address) → (b : PlacedWork) → In b (row_at section one (aligned one.atom.align at) ∷ filter_map (row_of placed kept section) keys) → at ≤ b.address
        above one enough later b (inl same) = subst (λ (r : PlacedWork). at ≤ r.address) same enough
        above one enough later b (inr h) = let up = later b h in omega (arith, up, enough)

    by : (o : Option KeptAtom) → kept_at kept key ≡ o
        → (AreKnown placed (stand at (spaced atoms areas unit keys)) → AreRowsFrom at (filter_map (row_of placed kept section) keys))
        → ((n : ℕ) → AreKnown placed (stand n (spaced atoms areas unit keys)) → AreRowsFrom n (filter_map (row_of placed kept section) keys))
        → AreRowsFrom at (filter_map (row_of placed kept section) (key ∷ keys))
    by None e same later =
        let none = row_none placed kept section key e in
        let stays = stand_none atoms areas unit at key keys (find_unmapped kept key e) in
        rw none (same (subst (λ (xs : List (Atom × ℕ)). AreKnown placed xs) stays known))
    by (Some one) e same later =
        let found : finds atoms key ≡ Some one.atom = find_mapped kept key one e in
        let named : one.atom.key ≡ key = (found_atom atoms key one.atom found).0 in
        let now = subst (λ (xs : List (Atom × ℕ)). AreKnown placed xs) (stand_some atoms areas unit at key keys one.atom found) known in
        let stood : address_in placed key ≡ Some (aligned one.atom.align at) = subst (λ (k : AtomKey). address_in placed k ≡ Some (aligned one.atom.align at)) named (now (with_area areas unit one.atom) (aligned one.atom.align at) (inl refl)) in
        here one e (later (aligned one.atom.align at + (with_area areas unit one.atom).size) (λ atom address h. now atom address (inr h))) stood

-- ---- a section of the layout

known : (m : ImageInputs) (layout : Layout) (section : PlacedSection) → AreRising (kept_of m) → IsLaid m layout → In section layout.sections
    → AreKnown layout.placed (stand section.address (spaced (map atom_of (kept_of m)) m.islands.areas (area_unit (out_sections m.files (map atom_of (kept_of m)))) section.section.atoms))
unfolding plan_with plan_of
known m layout section rising laid among atom address h =
    let planned : In section (image_sections (plan_for m)) = subst (λ (ss : List PlacedSection). In section ss) laid.layout_of.sections among in
    let has = all_in _ (image_sections (plan_for m)) section (all_have (plan_for m)) planned in
    let here = has atom address h in
    let placed : Contains layout.placed (spot atom address) = Contains-permutation (image_places (plan_for m)) layout.placed (spot atom address) laid.layout_of.places (Contains_from_in (image_places (plan_for m)) (spot atom address) here.0) in
    sym (address_is layout.placed atom.key (Some address) (placed_once m layout rising laid) placed)

-- the rows of a section: one behind the other, and in it
record IsGoodSection (files : List LoadedFile) (section : PlacedSection) (rows : List PlacedWork) : Type 0 where
  pub turn : Pairs (StandsBefore files) rows
  pub within : (row : PlacedWork) → In row rows → (section.file_offset ≤ row.at) × (row.at + length (bytes_of files row) ≤ section.file_offset + section.size)

good_section : (m : ImageInputs) (layout : Layout) (section : PlacedSection) → AreRising (kept_of m) → IsLaid m layout → In section layout.sections → IsGoodSection m.files section (section_rows layout.placed (kept_of m) section)
unfolding section_rows
good_section m layout section rising laid among =
    let unit = area_unit (out_sections m.files (map atom_of (kept_of m))) in
    let turned = rows_turn layout.placed (kept_of m) section m.islands.areas unit section.address section.section.atoms (known m layout section rising laid among) in
    record { turn = pairs_weaker InTurn (StandsBefore m.files) _ before turned.turn; within = λ row h. let one = place row h in (one.0, one.1) }
  where
    -- where a row stands
    place : (row : PlacedWork) → In row (filter_map (row_of layout.placed (kept_of m) section) section.section.atoms) → (section.file_offset ≤ row.at) × (row.at + length (bytes_of m.files row) ≤ section.file_offset + section.size) × (row.at ≡ section.file_offset + (row.address - section.address)) × (section.address ≤ row.address)
    place row h =
        let of_key = from_filter_map (row_of layout.placed (kept_of m) section) section.section.atoms row h in
        let one = is_row layout.placed (kept_of m) section of_key.0 row of_key.2 in
        let within = atom_within m layout section of_key.0 one.kept one.address rising laid among of_key.1 one.known one.stood in
        let address : one.address ≡ row.address = ap (λ (r : PlacedWork). r.address) one.is in
        let size : one.kept.atom.size ≡ row.atom.size = ap (λ (r : PlacedWork). r.atom.size) one.is in
        let at : section.file_offset + (one.address - section.address) ≡ row.at = ap (λ (r : PlacedWork). r.at) one.is in
        let few = few_bytes m.files row in
        let low = within.low in
        let high = within.high in
        (omega (arith, at), omega (arith, at, few, low, high, address, size), omega (arith, at, address), omega (arith, low, address))

    before : (a b : PlacedWork) → In a (filter_map (row_of layout.placed (kept_of m) section) section.section.atoms) → In b (filter_map (row_of layout.placed (kept_of m) section) section.section.atoms) → InTurn a b → StandsBefore m.files a b
    before a b h k turn =
        let first = place a h in
        let second = place b k in
        let few = few_bytes m.files a in
        omega (arith, turn, few, first.2, first.3, second.2, second.3)

pub section_turn : (m : ImageInputs) (layout : Layout) (section : PlacedSection) → AreRising (kept_of m) → IsLaid m layout → In section layout.sections → Pairs InTurn (section_rows layout.placed (kept_of m) section)
unfolding section_rows
section_turn m layout section rising laid among =
    (rows_turn layout.placed (kept_of m) section m.islands.areas (area_unit (out_sections m.files (map atom_of (kept_of m)))) section.address section.section.atoms (known m layout section rising laid among)).turn

-- ---- all sections

record AreRowsIn (files : List LoadedFile) (from end : ℕ) (rows : List PlacedWork) : Type 0 where
  pub turn : Pairs (StandsBefore files) rows
  pub within : (row : PlacedWork) → In row rows → (from ≤ row.at) × (row.at + length (bytes_of files row) ≤ end)

chain_ends : (from end : ℕ) (sections : List PlacedSection) → FileChain from sections end → from ≤ end
chain_ends from end [] chain = chain
chain_ends from end (section ∷ sections) chain = let rest = chain_ends (section.file_offset + section.size) end sections chain.1 in omega (arith, rest, chain.0)

sections_turn : (files : List LoadedFile) (rows_in : PlacedSection → List PlacedWork) (from end : ℕ) (sections : List PlacedSection) → FileChain from sections end → ((section : PlacedSection) → In section sections → IsGoodSection files section (rows_in section)) → AreRowsIn files from end (flat_map rows_in sections)
sections_turn files rows_in from end [] chain good = record { turn = tt; within = λ row h. absurd h }
sections_turn files rows_in from end (section ∷ sections) chain good =
    let rest = sections_turn files rows_in (section.file_offset + section.size) end sections chain.1 (λ s h. good s (inr h)) in
    let here = good section (inl refl) in
    let last = chain_ends (section.file_offset + section.size) end sections chain.1 in
    record {
      turn = pairs_join (StandsBefore files) (rows_in section) (flat_map rows_in sections) here.turn rest.turn
          (λ a b h k. let first = here.within a h in let second = rest.within b k in omega (arith, first.1, second.0));
      within = λ row h. elim (in_either (rows_in section) (flat_map rows_in sections) row h) [
        | inl first ↦ let one = here.within row first in (omega (arith, one.0, chain.0), omega (arith, one.1, last))
        | inr later ↦ let one = rest.within row later in (omega (arith, one.0, chain.0), one.1)
      ];
    }

rows_in : (m : ImageInputs) (layout : Layout) → AreRising (kept_of m) → AreLow (kept_of m) → IsLaid m layout → AreRowsIn m.files 0 (linkedit_offset layout.segments) (rows_of m layout)
unfolding rows plan_with plan_of image_sections
rows_in m layout rising low laid =
    let plan = plan_for m in
    let atoms = map atom_of (kept_of m) in
    let chain : FileChain 0 (filter has_bytes (groups_sections plan.atoms plan.base 0 plan.lead plan.groups)) (groups_file plan.atoms plan.base 0 plan.lead plan.groups) =
    groups_chain plan.atoms plan.base 0 plan.lead plan.groups (all_stored m.files atoms (made_bytes m.slots (sizes_of m.command m.libs (length m.info))) (low_atoms (kept_of m) low)) in
    let here : FileChain 0 (filter has_bytes layout.sections) (groups_file plan.atoms plan.base 0 plan.lead plan.groups) =
    subst (λ (ss : List PlacedSection). FileChain 0 (filter has_bytes ss) (groups_file plan.atoms plan.base 0 plan.lead plan.groups)) (sym laid.layout_of.sections) chain in
    sections_turn m.files (section_rows layout.placed (kept_of m)) 0 (linkedit_offset layout.segments) (filter has_bytes layout.sections)
    (subst (λ (n : ℕ). FileChain 0 (filter has_bytes layout.sections) n) (sym (layout_end m layout laid)) here)
    (λ section h. good_section m layout section rising laid (from_filter has_bytes layout.sections section h).0)

-- ---- the file of a row, and its atom there

-- a piece of a file, as it is placed
abbrev pub IsPieceOf : List Representative → LoadedFile → Atom → Type 0
IsPieceOf literals file atom = (among : Atom) × In among file.atoms × (raised literals among ≡ atom)

-- an atom is a piece of a file, or it is a common symbol's
abbrev pub IsFrom : List Representative → LoadedFile → Atom → Type 0
IsFrom literals file atom = IsPieceOf literals file atom ⊎ (atom.key.section ≡ COMMON_SECTION)

pub record IsOfFile (m : ImageInputs) (row : PlacedWork) : Type 0 where
  pub file : LoadedFile
  pub there : slice_get m.files row.file ≡ Some file
  pub from : IsFrom m.literals file row.atom
  pub is_kept : has m.keys row.atom.key ≡ true

from_numbered : (n : ℕ) (files : List LoadedFile) (p : ℕ × LoadedFile) → In p (enumerate_from n files) → (k : ℕ) × (n + k ≡ p.0) × (slice_get files k ≡ Some p.1)
from_numbered n [] p h = absurd h
from_numbered n (file ∷ files) p (inl e) = let here : n + 0 ≡ n = omega arith in (0, here ∙ ap (λ (q : ℕ × LoadedFile). q.0) e, ap (λ (q : ℕ × LoadedFile). Some q.1) e)
from_numbered n (file ∷ files) p (inr h) = let rest = from_numbered (n + 1) files p h in (suc rest.0, omega (arith, rest.1), rest.2)

-- a kept atom is one of its file
pub record IsKeptOf (literals : List Representative) (keys : List AtomKey) (files : List LoadedFile) (kept : KeptAtom) : Type 0 where
  pub file : LoadedFile
  pub there : slice_get files kept.file ≡ Some file
  pub from : IsFrom literals file kept.atom
  pub is_kept : has keys kept.atom.key ≡ true

both_true : (a b : Bool) → (a && b) ≡ true → a ≡ true
both_true true b e = refl
both_true false b e = cc

from_commons : (literals : List Representative) (winners : List Winner) (keys : List AtomKey) (file : LoadedFile) (atom : Atom) → In atom (commons_in winners keys file.id) → (atom.key.section ≡ COMMON_SECTION) × In atom.key keys
unfolding commons_in
from_commons literals winners keys file atom h =
    let found = from_filter_map (common_at winners) (filter (is_common_of file.id) keys) atom h in
    let passed = from_filter (is_common_of file.id) keys found.0 found.1 in
    let named = common_key winners found.0 atom found.2 in (
      ap (λ (key : AtomKey). key.section) named ∙ eqb-true found.0.section COMMON_SECTION (both_true (found.0.section == COMMON_SECTION) (is_eq (compare_files found.0.file file.id)) passed.1),
      subst (λ (key : AtomKey). In key keys) (sym named) passed.0,
    )

has_itself : (keys : List AtomKey) (key : AtomKey) → In key keys → has keys key ≡ true
has_itself keys key h = any_from_in (λ (other : AtomKey). is_eq (compare_keys other key)) keys key h (ap is_eq (tied_itself compare_keys_total key))

pub kept_of_file : (literals : List Representative) (winners : List Winner) (keys : List AtomKey) (files : List LoadedFile) (kept : KeptAtom) → In kept (kept_atoms literals winners keys files) → IsKeptOf literals keys files kept
unfolding kept_atoms kept_in raised
kept_of_file literals winners keys files kept h =
    let of = from_flat (kept_in literals winners keys) (enumerate_from 0 files) kept h in
    let number = from_numbered 0 files of.0 of.1 in
    let pieces = filter (λ (atom : Atom). has keys atom.key) of.0.1.atoms in
    let commons = commons_in winners keys of.0.1.id in
    let m = from_map (kept_as literals of.0.0) (pieces ++ commons) kept of.2 in
    let place : number.0 ≡ kept.file = omega (arith, number.1) ∙ ap (λ (k : KeptAtom). k.file) m.2 in
    let key : m.0.key ≡ kept.atom.key = ap (λ (k : KeptAtom). k.atom.key) m.2 in
    let found : IsFrom literals of.0.1 kept.atom × (has keys m.0.key ≡ true) = elim (in_either pieces commons m.0 m.1) [
      | inl piece ↦
          let passed = from_filter (λ (atom : Atom). has keys atom.key) of.0.1.atoms m.0 piece in
          (inl (m.0, passed.0, ap (λ (k : KeptAtom). k.atom) m.2), passed.1)
      | inr common ↦
          let one = from_commons literals winners keys of.0.1 m.0 common in
          (inr (ap (λ (k : AtomKey). k.section) (sym key) ∙ one.0), has_itself keys m.0.key one.1)
    ] in
    record {
      file = of.0.1;
      there = subst (λ (k : ℕ). slice_get files k ≡ Some of.0.1) place number.2;
      from = found.0;
      is_kept = ap (has keys) (sym key) ∙ found.1;
    }

pub row_of_file : (m : ImageInputs) (layout : Layout) (row : PlacedWork) → In row (rows_of m layout) → IsOfFile m row
unfolding rows section_rows
row_of_file m layout row h =
    let of_section = from_flat (section_rows layout.placed (kept_of m)) (filter has_bytes layout.sections) row h in
    let of_key = from_filter_map (row_of layout.placed (kept_of m) of_section.0) of_section.0.section.atoms row of_section.2 in
    let one = is_row layout.placed (kept_of m) of_section.0 of_key.0 row of_key.2 in
    let found = find_some (λ (k : KeptAtom). is_eq (compare_keys k.atom.key of_key.0)) (kept_of m) one.kept one.known in
    let kept = kept_of_file m.literals m.winners m.keys m.files one.kept found.0 in
    let file : one.kept.file ≡ row.file = ap (λ (r : PlacedWork). r.file) one.is in
    record {
      file = kept.file;
      there = subst (λ (k : ℕ). slice_get m.files k ≡ Some kept.file) file kept.there;
      from = subst (IsFrom m.literals kept.file) (ap (λ (r : PlacedWork). r.atom) one.is) kept.from;
      is_kept = ap (has m.keys) (ap (λ (r : PlacedWork). r.atom.key) (sym one.is)) ∙ kept.is_kept;
    }

slice_low : {X : Type 0} (xs : List X) (k : ℕ) (x : X) → slice_get xs k ≡ Some x → k < length xs
slice_low [] k x e = absurd cc
slice_low (y ∷ ys) zero x e = omega arith
slice_low (y ∷ ys) (suc k) x e = let rest = slice_low ys k x e in omega arith

-- they stand one behind the other, before `__LINKEDIT` and wherever the image ends behind
pub are_standing : (m : ImageInputs) (layout : Layout) (size : ℕ) → AreRising (kept_of m) → AreLow (kept_of m) → IsLaid m layout → linkedit_offset layout.segments ≤ size → AreStanding m.files 0 size (rows_of m layout)
are_standing m layout size rising low laid behind =
    let stand = rows_in m layout rising low laid in
    record {
      items = All-from_recursion (IsStanding m.files 0 size) (rows_of m layout) (all_from_in (IsStanding m.files 0 size) (rows_of m layout)
          (λ row h.
          let of = row_of_file m layout row h in
          let one = stand.within row h in
          record { file = slice_low m.files row.file of.file of.there; begins = omega arith; ends = omega (arith, one.1, behind) }));
      in_order = all_pairs (StandsBefore m.files) (rows_of m layout) stand.turn;
    }
