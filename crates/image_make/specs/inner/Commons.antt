-- The kept atoms of common symbols, of all files together.
use Rattle.std.specs.Prelude.{ℕ, ◌≡◌, ◌==◌, ◌≤◌, Bool, true, false, not, List, length}
use Rattle.std.specs.List.{filter, filter_map}
use Rattle.std.specs.List.Sorted.{IsPartitionPoint}
use Rattle.std.specs.Ordering.{is_gt, is_lt}
use Rattle.mo_types.specs.Keys.{compare_files}
use Rattle.mo_types.specs.declared.atom.Atom.{Atom}
use Rattle.mo_types.specs.declared.key.AtomKey.{AtomKey}
use Rattle.mo_types.specs.declared.key.FileId.{FileId}
use Rattle.mo_types.specs.declared.key.TheConstants.{COMMON_SECTION}
use Rattle.symbol_winners.specs.declared.winner.Winner.{Winner}
use Rattle.image_make.specs.Atoms.{common_at}

-- the keys of common symbols among some
unfoldable pub common_keys : List AtomKey → List AtomKey
common_keys keys = filter (λ (key : AtomKey). key.section == COMMON_SECTION) keys

unfoldable pub all_commons : List Winner → List AtomKey → List Atom
all_commons winners keys = filter_map (common_at winners) (common_keys keys)

-- so many atoms stand before those of a file, and before those of later ones
abbrev pub is_below : FileId → Atom → Bool
is_below id atom = is_lt (compare_files atom.key.file id)

abbrev pub is_up_to : FileId → Atom → Bool
is_up_to id atom = not (is_gt (compare_files atom.key.file id))

pub record IsCountBelow (id : FileId) (atoms : List Atom) (count : ℕ) : Type 0 where
  pub within : count ≤ length atoms
  pub point : IsPartitionPoint (λ (atom : Atom). is_below id atom ≡ true) (λ (atom : Atom). is_below id atom ≡ false) atoms count

pub record IsCountUpTo (id : FileId) (atoms : List Atom) (count : ℕ) : Type 0 where
  pub within : count ≤ length atoms
  pub point : IsPartitionPoint (λ (atom : Atom). is_up_to id atom ≡ true) (λ (atom : Atom). is_up_to id atom ≡ false) atoms count
