-- The place of a name among others by halving, where these stand by their lengths and then by their bytes.
use Rattle.std.specs.Prelude.{ℕ, zero, suc, ◌+◌, ◌-◌, ◌/◌, ◌==◌, ◌||◌, ◌&&◌, Bool, false, nat_lt, List, [], ◌∷◌, length, if◌then◌else◌}
use Rattle.std.specs.Ordering.{is_lt, nat_cmp}
use Rattle.std.specs.Cmp.Lexicographic.{slice_cmp}
use Rattle.mo_ar.specs.Text.{part}
use Rattle.mo_ar.specs.declared.offers.Entry.{Entry}

-- a name stands before another
abbrev pub is_before : List ℕ → List ℕ → Bool
is_before a b = nat_lt (length a) (length b) || length a == length b && is_lt (slice_cmp nat_cmp a b)

-- the name of the entry at an index stands before a name
unfoldable pub is_before_at : List ℕ → List Entry → List ℕ → ℕ → Bool
is_before_at strings [] name k = false
is_before_at strings (entry ∷ entries) name zero = is_before (part strings entry.at entry.size) name
is_before_at strings (entry ∷ entries) name (suc k) = is_before_at strings entries name k

-- halves a range until nothing is left of it, at most so often: above an index that passes, below one that doesn't
unfoldable pub halved : ℕ → (ℕ → Bool) → ℕ → ℕ → ℕ
halved zero passes low high = low
halved (suc n) passes low high =
    if nat_lt low high
    then (if passes (low + (high - low) / 2) then halved n passes (low + (high - low) / 2 + 1) high else halved n passes low (low + (high - low) / 2))
    else low

-- the place of a name among those of the entries
abbrev pub rank : List ℕ → List Entry → List ℕ → ℕ
rank strings entries name = halved (length entries) (is_before_at strings entries name) 0 (length entries)
