-- Which branches take islands: the least set of pairs, of a group and a target of its branches, that leaves no other
-- branch out of reach.
use Rattle.std.specs.Prelude.{ℕ, zero, suc, ◌≡◌, ◌≢◌, ◌≤◌, ◌<◌, ◌+◌, ◌^◌, ◌%◌, ◌==◌, ◌&&◌, Bool, true, false, not, nat_le, List, All, count_by, map}
use Rattle.std.specs.List.{AllPairs, filter, list_any}
use Rattle.std.specs.List.Sorted.{IsStrictlySortedBy}
use Rattle.std.specs.Ordering.{nat_cmp, ordering_then}
use Rattle.std.specs.declared.cmp.Ordering.{Ordering}
use Rattle.sect_place.specs.Places.{islands_bytes}
use Rattle.island_core.specs.declared.row.Case.{Case}
use Rattle.island_core.specs.declared.row.Case.TheVariants.{Outside, Away, Plain, Added}
use Rattle.island_core.specs.declared.row.Pair.{Pair}
use Rattle.island_core.specs.declared.row.Row.{Row}
use Rattle.island_core.specs.declared.row.Scale.{Scale}

-- pairs, by group and then by target
abbrev pub compare_pairs : Pair → Pair → Ordering
compare_pairs a b = ordering_then (nat_cmp a.group b.group) (nat_cmp a.target b.target)

abbrev pub same_pair : Pair → Pair → Bool
same_pair a b = a.group == b.group && a.target == b.target

-- a pair is one of a set
abbrev pub has : List Pair → Pair → Bool
has set pair = list_any (λ other. same_pair other pair) set

-- how many islands a group has, one for each of its pairs
abbrev pub count_in : ℕ → List Pair → ℕ
count_in group set = count_by (λ pair. pair.group == group) set

-- the bytes of the areas of the groups before one
unfoldable pub bytes_before : ℕ → List Pair → ℕ → ℕ
bytes_before unit set zero = 0
bytes_before unit set (suc group) = bytes_before unit set group + islands_bytes unit (count_in group set)

-- A branch reaches from `reach` bytes behind its target to `reach` less 4 before it, and in whole instructions.
abbrev pub in_reach : ℕ → ℕ → ℕ → Bool
in_reach reach from to = (nat_le from (to + reach) && nat_le (to + 4) (from + reach)) && (from % 4 == to % 4)

-- The same of a branch that may be moved by so many bytes either way: its distance and these are at most `reach` less 4.
abbrev pub in_reach_by : ℕ → ℕ → ℕ → ℕ → Bool
in_reach_by reach slack from to = (nat_le (from + slack + 4) (to + reach) && nat_le (to + slack + 4) (from + reach)) && (from % 4 == to % 4)

-- Whether a branch takes an island, by what it is, and whether it is out of reach, without an addend in the image with
-- the islands, and with one as far as anything can move.
abbrev pub takes : Case → Bool → Bool → Bool
takes Outside plain added = false
takes Away plain added = true
takes Plain plain added = plain
takes Added plain added = added

-- A branch needs an island where the groups have those of a set.
abbrev pub needs : Scale → List Pair → Row → Bool
needs scale set row =
    takes row.case
    (not (in_reach scale.reach (row.from + bytes_before scale.unit set row.pair.group) (row.to + bytes_before scale.unit set row.zone)))
    (not (in_reach_by scale.reach scale.slack row.from row.to))

-- A set is closed where each branch that needs an island has one.
abbrev pub IsClosed : Scale → List Row → List Pair → Type 0
IsClosed scale rows set = All (λ (row : Row). needs scale set row ≡ true → has set row.pair ≡ true) rows

-- no pair twice
abbrev pub IsSet : List Pair → Type 0
IsSet pairs = AllPairs (λ (a : Pair) (b : Pair). a ≢ b) pairs

-- The pairs that have islands, in order: the least set that is closed.
pub record IsFar (scale : Scale) (rows : List Row) (far : List Pair) : Type 0 where
  pub closed : IsClosed scale rows far
  pub least : (other : List Pair) → IsSet other → IsClosed scale rows other → All (λ (pair : Pair). has other pair ≡ true) far
  pub rises : IsStrictlySortedBy compare_pairs far

-- whether a branch stands in a group
abbrev pub is_grouped : Case → Bool
is_grouped Outside = false
is_grouped Away = true
is_grouped Plain = true
is_grouped Added = true

-- The pairs of the branches that stand in groups, in order.
pub record ArePairs (rows : List Row) (pairs : List Pair) : Type 0 where
  pub rises : IsStrictlySortedBy compare_pairs pairs
  pub same : (pair : Pair) → has pairs pair ≡ has (map (λ (row : Row). row.pair) (filter (λ (row : Row). is_grouped row.case) rows)) pair

-- ---- what branches are asked about

-- Areas are multiples of an instruction's four bytes and of at most 2^14, and numbers are those of an image.
pub record IsScale (scale : Scale) : Type 0 where
  pub least_unit : 2 ≤ scale.unit
  pub most_unit : scale.unit ≤ 14
  pub least_reach : 4 ≤ scale.reach
  pub most_reach : scale.reach < 2 ^ 64
  pub slack : scale.slack < 2 ^ 127

pub record IsRow (scale : Scale) (row : Row) : Type 0 where
  pub group : row.pair.group ≤ scale.groups
  pub zone : row.zone ≤ scale.groups
  pub from : row.from < 2 ^ 66
  pub to : row.to < 2 ^ 66

-- Of a branch without an addend and its target the one that is behind more groups isn't before the other.
abbrev pub IsInTurn : Row → Type 0
IsInTurn row = row.case ≡ Plain → (row.pair.group < row.zone → row.from ≤ row.to) × (row.zone < row.pair.group → row.to ≤ row.from)
