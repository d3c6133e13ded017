-- The atoms that an image keeps, as they are placed.
use Rattle.std.specs.Prelude.{ℕ, ◌≤◌, ◌==◌, ◌&&◌, ◌++◌, Bool, All, List, map, Option, if◌then◌else◌}
use Rattle.std.specs.List.{enumerate_from, filter, filter_map, find, flat_map}
use Rattle.std.specs.Option.{option_map, option_map_or}
use Rattle.std.specs.List.Sorted.{IsStrictlySortedBy}
use Rattle.std.specs.Ordering.{is_eq, on}
use Rattle.mark_core.specs.Kept.{has, same_atom}
use Rattle.mo_types.specs.Keys.{compare_files, compare_keys}
use Rattle.mo_types.specs.declared.atom.Atom.{Atom}
use Rattle.mo_types.specs.declared.key.AtomKey.{AtomKey}
use Rattle.mo_types.specs.declared.key.FileId.{FileId}
use Rattle.mo_types.specs.declared.key.TheConstants.{COMMON_SECTION}
use Rattle.mo_types.specs.declared.loaded.LoadedFile.{LoadedFile}
use Rattle.literal_merge.specs.Standing.{literal_at}
use Rattle.literal_merge.specs.declared.representative.Representative.{Representative}
use Rattle.symbol_winners.specs.declared.winner.Winner.{Winner}
use Rattle.image_make.specs.declared.kept.KeptAtom.{KeptAtom}

-- the alignment of a literal: of one that stands for others the greatest of theirs, and else its own
abbrev pub literal_align : Atom → Representative → ℕ
literal_align atom r = if same_atom r.representative atom.key then r.align else atom.align

-- an atom with the alignment with which it is placed
unfoldable pub raised : List Representative → Atom → Atom
raised literals atom = record {
  key = atom.key;
  size = atom.size;
  align = option_map_or (literal_align atom) (literal_at literals atom.key) atom.align;
}

-- the atom of a winner that is a common symbol, of the greatest size and alignment of its name
abbrev pub common_of : Winner → Atom
common_of winner = record { key = winner.atom; size = winner.size; align = winner.align }

-- that of a key
unfoldable pub common_at : List Winner → AtomKey → Option Atom
common_at winners key = option_map common_of (find (λ winner. is_eq (compare_keys winner.atom key)) winners)

-- an atom of a common symbol of a file
abbrev pub is_common_of : FileId → AtomKey → Bool
is_common_of id key = key.section == COMMON_SECTION && is_eq (compare_files key.file id)

-- those that are kept of a file
unfoldable pub commons_in : List Winner → List AtomKey → FileId → List Atom
commons_in winners keys id = filter_map (common_at winners) (filter (is_common_of id) keys)

-- an atom of the file at a place
abbrev pub kept_as : List Representative → ℕ → Atom → KeptAtom
kept_as literals at atom = record { atom = raised literals atom; file = at }

-- the atoms that are kept of the file at a place: the pieces of its object, and then those of common symbols
unfoldable pub kept_in : List Representative → List Winner → List AtomKey → ℕ × LoadedFile → List KeptAtom
kept_in literals winners keys p =
    map (kept_as literals p.0) (filter (λ atom. has keys atom.key) p.1.atoms ++ commons_in winners keys p.1.id)

-- those of all files, file by file
unfoldable pub kept_atoms : List Representative → List Winner → List AtomKey → List LoadedFile → List KeptAtom
kept_atoms literals winners keys files = flat_map (kept_in literals winners keys) (enumerate_from 0 files)

abbrev pub atom_of : KeptAtom → Atom
atom_of kept = kept.atom

-- kept atoms rise by their keys
abbrev pub AreRising : List KeptAtom → Type 0
AreRising kept = IsStrictlySortedBy (on (λ (one : KeptAtom). one.atom.key) compare_keys) kept

-- none is aligned to more than a page of 2^14 bytes
abbrev pub AreLow : List KeptAtom → Type 0
AreLow kept = All (λ one. one.atom.align ≤ 14) kept

-- the kept atom with a key
abbrev pub kept_at : List KeptAtom → AtomKey → Option KeptAtom
kept_at kept key = find (λ k. is_eq (compare_keys k.atom.key key)) kept
