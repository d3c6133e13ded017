-- Files that come round by round: each round adds to a set all files at once for which the set asks.
use Rattle.std.specs.Prelude.{ℕ, zero, suc, ◌==◌, ◌&&◌, ◌||◌, Bool, List, length, filter}
use Rattle.std.specs.List.{list_any}
use Rattle.mo_types.specs.declared.key.FileId.{FileId}

abbrev pub same_file : FileId → FileId → Bool
same_file a b = (a.position == b.position) && (a.member == b.member)

abbrev pub is_in : List FileId → FileId → Bool
is_in files file = list_any (same_file file) files

-- the files of a list after a number of rounds, in its order: those that pass the first test, and with each round those for
-- which the files so far ask
unfoldable pub after : List FileId → (FileId → Bool) → (List FileId → FileId → Bool) → ℕ → List FileId
after all first asks zero = filter first all
after all first asks (suc k) = filter (λ file. is_in (after all first asks k) file || asks (after all first asks k) file) all

-- those of all rounds
unfoldable pub union : List FileId → (FileId → Bool) → (List FileId → FileId → Bool) → List FileId
union all first asks = after all first asks (length all)
