-- Where the references of an atom begin among those in order.
use Rattle.std.specs.Prelude.{ℕ, ◌≡◌, ◌-◌, ◌<◌, ◌≤◌, nat_le, nat_lt, true, false, List, length, slice_index_or}
use Rattle.std.specs.List.Sorted.{IsPartitionPoint}
use Rattle.mo_types.specs.declared.reference.Ref.{Ref}
use Rattle.liveness.specs.Order.{place_at}

-- so many references, as they are in order, have atoms before a place
abbrev pub AreBefore : List Ref → List ℕ → ℕ → ℕ → Type 0
AreBefore refs order at n = IsPartitionPoint (λ index. nat_lt (place_at refs index) at ≡ true) (λ index. nat_lt (place_at refs index) at ≡ false) order n

-- so many have atoms there or before it
abbrev pub AreUpTo : List Ref → List ℕ → ℕ → ℕ → Type 0
AreUpTo refs order at n = IsPartitionPoint (λ index. nat_le (place_at refs index) at ≡ true) (λ index. nat_le (place_at refs index) at ≡ false) order n

-- the last reference before a place has an atom before another place
abbrev pub EndsBefore : List Ref → List ℕ → ℕ → ℕ → Type 0
EndsBefore refs order near at = (d : ℕ) → 0 < near → place_at refs (slice_index_or order (near - 1) d) < at

-- the reference at a place has an atom there or behind it
abbrev pub BeginsAt : List Ref → List ℕ → ℕ → ℕ → Type 0
BeginsAt refs order near at = (d : ℕ) → near < length order → at ≤ place_at refs (slice_index_or order near d)
