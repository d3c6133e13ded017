-- Tables by the numbers of names: for each name what its elements among some are.
use Rattle.std.specs.Prelude.{◌≡◌, ℕ, ◌<◌, false, List, [], ◌∷◌, map, filter, get_or, length, Option, Some, None, IsSome, if◌then◌else◌}
use Rattle.std.specs.Ordering.{nat_cmp, is_gt}
use Rattle.std.specs.Cmp.Lexicographic.{slice_cmp}
use Rattle.std.specs.Str.{bytes_eq}
use Rattle.mo_types.specs.Candidates.{Candidate}
use Rattle.symbol_winners.specs.declared.firsts.Firsts.{Firsts}
use Rattle.symbol_winners.specs.declared.firsts.Firsts.TheVariants.{Neither, One, Two}
use Rattle.symbol_winners.specs.declared.found.FoundIn.{FoundIn}
use Rattle.mo_types.specs.declared.key.FileId.{FileId}
use Rattle.symbol_winners.specs.Duplicates.{is_strong}
use Rattle.symbol_winners.specs.Found.{FileCandidate, candidate_of}

-- the elements of a name
abbrev pub named : {X : Type 0} → (X → List ℕ) → List ℕ → List X → List X
named name_of name xs = filter (λ x. bytes_eq name (name_of x)) xs

unfoldable pub table_of : {X S : Type 0} → (List X → S) → (X → List ℕ) → List (List ℕ) → List X → List S
table_of f name_of names xs = map (λ name. f (named name_of name xs)) names

abbrev pub candidate_name : Candidate → List ℕ
candidate_name candidate = candidate.symbol.name

-- what is held of the first two of some candidates
unfoldable pub firsts_of : List Candidate → Firsts
firsts_of [] = Neither
firsts_of (a ∷ []) = One a.file
firsts_of (a ∷ b ∷ rest) = Two a.file b.file

abbrev pub pair_of : Firsts → Option (FileId × FileId)
pair_of (Two first second) = Some (first, second)
pair_of _ = None

-- for each name what is held of its candidates among some
pub record AreFirsts (names : List (List ℕ)) (candidates : List Candidate) (table : List Firsts) : Type 0 where
  pub are : table ≡ table_of firsts_of candidate_name names candidates

abbrev pub found_of : FoundIn → FileCandidate
found_of f = record { file = f.file.now; index = f.index; symbol = f.symbol.now }

abbrev pub held : List FoundIn → List FileCandidate
held fs = map found_of fs

-- the strong ones among candidates
unfoldable pub strong_among : List FileCandidate → List Candidate
strong_among fs = filter is_strong (map candidate_of fs)

-- the files of the first two candidates of the name of a number
abbrev pub pair_at : List Firsts → ℕ → Option (FileId × FileId)
pair_at table k = pair_of (get_or table k Neither)

abbrev pub name_at : List (List ℕ) → ℕ → List ℕ
name_at names k = get_or names k []

-- no name of a number below n has two
pub record IsNone (table : List Firsts) (n : ℕ) : Type 0 where
  pub none : (k : ℕ) → k < n → pair_at table k ≡ None

-- of the names of numbers below n that have two, that of number b is the least
pub record IsLeast (names : List (List ℕ)) (table : List Firsts) (n b : ℕ) : Type 0 where
  pub within : b < n
  pub two : IsSome (pair_at table b)
  pub least : (k : ℕ) → k < n → IsSome (pair_at table k) → is_gt (slice_cmp nat_cmp (name_at names b) (name_at names k)) ≡ false

abbrev pub IsLeastOf : List (List ℕ) → List Firsts → ℕ → Option ℕ → Type 0
IsLeastOf names table n None = IsNone table n
IsLeastOf names table n (Some b) = IsLeast names table n b

-- the one of two numbers whose name is not after the other's
unfoldable pub better_of : List (List ℕ) → Option ℕ → ℕ → ℕ
better_of names None id = id
better_of names (Some b) id = if is_gt (slice_cmp nat_cmp (name_at names b) (name_at names id)) then id else b

-- the least name that has two, and the files of these
abbrev pub IsLeastPair : List (List ℕ) → List Firsts → Option (ℕ × FileId × FileId) → Type 0
IsLeastPair names table None = IsNone table (length table)
IsLeastPair names table (Some p) = IsLeast names table (length table) p.0 × (pair_at table p.0 ≡ Some (p.1, p.2))
