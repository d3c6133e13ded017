-- `B` and `BL` of the Arm Architecture Reference Manual: imm26, bits 0 to 25, is the signed distance in words of 4 bytes.
use Rattle.std.specs.Prelude.{◌≡◌, ℕ, ◌%◌, ◌^◌, ◌-◌, Bool, ◌&&◌, ◌==◌, nat_lt, ℤ, pos, negsuc, ◌*ℤ◌, ◌≤ℤ◌, neg_ℤ, Option, Some, None, if◌then◌else◌, int_rem}
use Rattle.std.specs.Int.{int_div_euclid}
use Rattle.arm64_insn.specs.Field.{field_at, with_field, twos_complement, sign_extended}

-- a distance in bytes that imm26 holds: a multiple of 4 from -2^27 to 2^27 - 4
pub record IsBranchDelta (delta : ℤ) : Type 0 where
  pub least : neg_ℤ (pos (2 ^ 27)) ≤ℤ delta
  pub greatest : delta ≤ℤ pos (2 ^ 27 - 4)
  pub whole_words : int_rem delta (pos 4) ≡ pos 0

-- the same as a test that computes
unfoldable pub is_branch_delta : ℤ → Bool
is_branch_delta (pos n) = nat_lt n (2 ^ 27) && n % 4 == 0
is_branch_delta (negsuc n) = nat_lt n (2 ^ 27) && n % 4 == 3

-- the word with the distance in words in imm26, bits 0 to 25, and bits 26 to 31 as before
unfoldable pub branch_word : ℕ → ℤ → ℕ
branch_word word delta = with_field 0 26 word (twos_complement 26 (int_div_euclid delta (pos 4)))

-- that word, where imm26 holds the distance
abbrev pub put_branch : ℕ → ℤ → Option ℕ
put_branch word delta = if is_branch_delta delta then Some (branch_word word delta) else None

-- the distance in bytes that imm26 holds
unfoldable pub branch_of : ℕ → ℤ
branch_of word = sign_extended 26 (field_at 0 26 word) *ℤ pos 4
