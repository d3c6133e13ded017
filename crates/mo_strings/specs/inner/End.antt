-- Where a string ends, as the parts of a look-up tell it to each other.
use Rattle.std.specs.Prelude.{ℕ, ◌≡◌, ◌+◌, ◌-◌, ◌*◌, ◌/◌, ◌≤◌, ◌<◌, List, drop, length, slice_index, Some, None}
use Rattle.mo_strings.specs.Strings.{first_nul}

-- the first NUL that isn't before a place of some bytes, or a number that is no place of theirs where there is none
pub record IsEnd (bytes : List ℕ) (at end : ℕ) : Type 0 where
  pub above : end < length bytes → at ≤ end
  pub some : end < length bytes → first_nul (drop at bytes) ≡ Some (end - at)
  pub none : length bytes ≤ end → first_nul (drop at bytes) ≡ None

-- the ends of what begins at each block of 256 bytes
pub record AreEnds (bytes ends : List ℕ) : Type 0 where
  pub each : (k : ℕ) → k < length ends → IsEnd bytes (256 * k) (slice_index ends k)
  pub size : length ends ≡ length bytes / 256 + 1

-- a string that begins at a place has this size
pub record IsNear (bytes : List ℕ) (at size : ℕ) : Type 0 where
  pub same : first_nul (drop at bytes) ≡ Some size
  pub within : at + size < length bytes

-- no string that begins at a place ends before a later one
pub record IsPassed (bytes : List ℕ) (at to : ℕ) : Type 0 where
  pub same : (end : ℕ) → IsEnd bytes to end → IsEnd bytes at end
