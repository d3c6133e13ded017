-- The atoms of a link that are kept stand in the image.
use Rattle.std.proofs.Common.{◌≡◌, ◌⊎◌, ℕ, ◌+◌, ◌==◌, true, List, [], ◌++◌, Some, None, inl, inr, refl, sym, ap, ◌∙◌, subst, arith}
use Rattle.std.specs.Prelude.{All, slice_get}
use Rattle.std.specs.List.{enumerate_from, filter}
use Rattle.std.specs.Ordering.{is_eq}
use Rattle.std.proofs.lemmas.Bool.{and_parts, eqb-true}
use Rattle.list_lemmas.proofs.Members.{In, any_true, from_filter, from_filter_map, from_flat, from_map, in_either}
use Rattle.command_line.specs.declared.command.Command.{Command}
use Rattle.lib_bind.specs.declared.library.LibraryGraph.{LibraryGraph}
use Rattle.literal_merge.specs.Representatives.{representatives_of}
use Rattle.liveness.specs.Edges.{edges}
use Rattle.liveness.specs.Undefined.{undefined}
use Rattle.mark_core.specs.Kept.{has}
use Rattle.mo_types.specs.Keys.{compare_files, compare_keys}
use Rattle.mo_types.specs.declared.atom.Atom.{Atom}
use Rattle.mo_types.specs.declared.edge.Edge.{Edge}
use Rattle.mo_types.specs.declared.key.AtomKey.{AtomKey}
use Rattle.mo_types.specs.declared.key.TheConstants.{COMMON_SECTION}
use Rattle.mo_types.specs.declared.loaded.LoadedFile.{LoadedFile}
use Rattle.resolve.specs.Goals.{goal_of_name, goal_table}
use Rattle.sect_place.specs.declared.layout.Layout.{Layout}
use Rattle.slot_needs.specs.Unmet.{unmet}
use Rattle.slot_plan.specs.declared.list.Slots.{Slots}
use Rattle.symbol_winners.specs.SymbolTable.{SymbolTable}
use Rattle.symbol_winners.specs.Winners.{AreWinners}
use Rattle.image_make.specs.Atoms.{common_at, common_of, commons_in, is_common_of, kept_as, kept_atoms, kept_in}
use Rattle.image_make.specs.Made.{IsLaid, ImageInputs, kept_of, with_info}
use Rattle.image_make.specs.declared.kept.KeptAtom.{KeptAtom}
use Rattle.image_make.proofs.CommonLemmas.{common_key}
use Rattle.image_laws.specs.Means.{AreRising}
use Rattle.image_laws.proofs.Complete.{IsSeated}
use Rattle.link_files.specs.Bound.{AreSlotsFor, all_needs, start_of}
use Rattle.link_files.specs.Causes.{AreInside}
use Rattle.link_files.specs.Linked.{AreOrdered, making}
use Rattle.link_files.proofs.KeptLemmas.{same_file}
use Rattle.link_files.proofs.Lists.{from_numbered}
use Rattle.loader_laws.specs.Tellings.{AreNamed, AreWhole}
use Rattle.loader_laws.proofs.Finding.{key_found}
use Rattle.loader_laws.specs.LinkOf.{IsCommon}
use Rattle.loader_laws.proofs.Seats.{IsOfFiles, IsOne, common_one, kept_key, piece_one, seat_of}
use Rattle.loader_laws.proofs.Holders.{AreSolid, IsHeld}

-- ---- what an image is made of

-- An image is made of the atoms of whole files that are kept, with the slots that they need: no name to which they refer leads
-- nowhere, and each reference can be met.
pub record IsLinking (m : ImageInputs) : Type 0 where
  pub ordered : AreOrdered m.files
  pub solid : AreSolid m.files
  pub named : AreNamed m.command m.libs m.files
  pub goals : m.goals ≡ goal_table m.files m.libs m.command
  pub entry : m.entry ≡ goal_of_name m.files m.libs m.command m.command.entry
  pub literals : m.literals ≡ representatives_of m.files
  pub winners : AreWinners m.command m.files m.winners
  pub led : All (λ (edge : Edge). has m.keys edge.from ≡ true → has m.keys edge.to ≡ true) (edges m.files m.libs m.command)
  pub names : List (List ℕ)
  pub found : undefined m.keys m.files m.goals names ≡ None
  pub slots : AreSlotsFor (all_needs m.literals m.keys m.goals m.files (start_of m.command m.entry)) m.slots
  pub met : unmet m.keys m.goals m.files ≡ []

pub linking_of : (command : Command) (libs : LibraryGraph) (files : List LoadedFile) (symbols : SymbolTable) (keys : List AtomKey) (slots : Slots) (info : List ℕ) → AreOrdered files → AreWhole files → AreNamed command libs files → AreInside command libs files symbols keys slots → IsLinking (with_info (making command libs files symbols keys slots) info)
unfolding making
linking_of command libs files symbols keys slots info ordered whole named inside = record {
  ordered = ordered;
  solid = record { whole = whole; commons = named.commons };
  named = named;
  goals = refl;
  entry = refl;
  literals = inside.symbols_are.literals;
  winners = inside.symbols_are.winners;
  led = inside.kept.closed.led;
  names = _;
  found = inside.found;
  slots = inside.slots_are;
  met = inside.met;
}

-- ---- kept atoms

-- a key that is kept is one of the keys
pub kept_key_in : (keys : List AtomKey) (key : AtomKey) → has keys key ≡ true → In key keys
kept_key_in keys key kept =
    let found = any_true (λ (other : AtomKey). is_eq (compare_keys other key)) keys kept in
    subst (λ (k : AtomKey). In k keys) (key_found found.0 key found.2) found.1

-- ---- where kept atoms are from

-- the atom of a common symbol
pub record IsCommonOf (file : LoadedFile) (key : AtomKey) : Type 0 where
  pub of_file : key.file ≡ file.id
  pub common : key.section ≡ COMMON_SECTION

-- a kept atom is a piece of the file at a place, or that of a common symbol of it
pub record IsKeptFrom (m : ImageInputs) (one : KeptAtom) : Type 0 where
  pub file : LoadedFile
  pub there : slice_get m.files one.file ≡ Some file
  pub atom : Atom
  pub named : atom.key ≡ one.atom.key
  pub from : (In atom file.atoms × (has m.keys atom.key ≡ true)) ⊎ IsCommonOf file atom.key

from_commons : (m : ImageInputs) (file : LoadedFile) (atom : Atom) → In atom (commons_in m.winners m.keys file.id) → IsCommonOf file atom.key
unfolding commons_in
from_commons m file atom h =
    let of = from_filter_map (common_at m.winners) (filter (is_common_of file.id) m.keys) atom h in
    let passes = from_filter (is_common_of file.id) m.keys of.0 of.1 in
    let both = and_parts (of.0.section == COMMON_SECTION) (is_eq (compare_files of.0.file file.id)) passes.1 in
    let named : atom.key ≡ of.0 = common_key m.winners of.0 atom of.2 in
    record {
      of_file = ap (λ (k : AtomKey). k.file) named ∙ same_file of.0.file file.id both.1;
      common = ap (λ (k : AtomKey). k.section) named ∙ eqb-true of.0.section COMMON_SECTION both.0;
    }

pub kept_from : (m : ImageInputs) (one : KeptAtom) → In one (kept_of m) → IsKeptFrom m one
unfolding kept_atoms kept_in
kept_from m one h =
    let p = from_flat (kept_in m.literals m.winners m.keys) (enumerate_from 0 m.files) one h in
    let at = from_numbered 0 m.files p.0 p.1 in
    let pieces : List Atom = filter (λ (a : Atom). has m.keys a.key) p.0.1.atoms in
    let made = from_map (kept_as m.literals p.0.0) (pieces ++ commons_in m.winners m.keys p.0.1.id) one p.2 in
    let first : at.0 ≡ 0 + at.0 = omega arith in
    let place : at.0 ≡ one.file = first ∙ at.1 ∙ ap (λ (k : KeptAtom). k.file) made.2 in
    record {
      file = p.0.1;
      there = ap (slice_get m.files) (sym place) ∙ at.2;
      atom = made.0;
      named = sym (kept_key m p.0.0 made.0) ∙ ap (λ (k : KeptAtom). k.atom.key) made.2;
      from = elim (in_either pieces (commons_in m.winners m.keys p.0.1.id) made.0 made.1) [
        | inl piece ↦ inl (from_filter (λ (a : Atom). has m.keys a.key) p.0.1.atoms made.0 piece)
        | inr common ↦ inr (from_commons m p.0.1 made.0 common)
      ];
    }

-- ---- where they stand

pub files_of : (m : ImageInputs) → IsLinking m → IsOfFiles m
files_of m linking = record { ordered = linking.ordered; whole = linking.solid.whole; literals = linking.literals; winners = linking.winners }

-- a kept atom with a key
pub record HasOne (m : ImageInputs) (key : AtomKey) : Type 0 where
  pub file : LoadedFile
  pub atom : Atom
  pub named : atom.key ≡ key
  pub one : IsOne m file atom

has_one : (m : ImageInputs) (key : AtomKey) → IsLinking m → IsHeld m.command m.files key → has m.keys key ≡ true → HasOne m key
has_one m key linking (inl is) kept = record {
  file = is.file;
  atom = is.atom;
  named = is.named;
  one = piece_one m is.file is.atom (files_of m linking) is.among is.of_file (ap (has m.keys) is.named ∙ kept);
}
has_one m key linking (inr is) kept =
    let common : IsCommon m.command m.files is.file (common_of is.winner) = record {
      name = is.name;
      winner = is.winner;
      wins = is.wins;
      common = ap (λ (k : AtomKey). k.section) is.named ∙ is.common;
      of_file = ap (λ (k : AtomKey). k.file) is.named ∙ is.of_file;
      is = refl;
    } in
    record {
      file = is.file;
      atom = common_of is.winner;
      named = is.named;
      one = common_one m is.file (common_of is.winner) (files_of m linking) is.among common (kept_key_in m.keys is.winner.atom (ap (has m.keys) is.named ∙ kept));
    }

pub stands : (m : ImageInputs) (layout : Layout) (key : AtomKey) → IsLinking m → AreRising m → IsLaid m layout → IsHeld m.command m.files key → has m.keys key ≡ true → IsSeated m layout key
stands m layout key linking rising laid held kept =
    let has_it = has_one m key linking held kept in
    subst (IsSeated m layout) (kept_key m has_it.one.at has_it.atom ∙ has_it.named) (seat_of m layout has_it.file has_it.atom rising laid has_it.one).seated
