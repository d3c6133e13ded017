-- `ADRP` of the Arm Architecture Reference Manual: immhi:immlo, bits 5 to 23 and then bits 29 and 30, is the signed distance in pages of 4,096 bytes.
use Rattle.std.specs.Prelude.{ℕ, ◌+◌, ◌-◌, ◌*◌, ◌/◌, ◌%◌, ◌^◌, Bool, nat_lt, ℤ, pos, negsuc, ◌≤ℤ◌, neg_ℤ, Option, Some, None, if◌then◌else◌}
use Rattle.arm64_insn.specs.Field.{field_at, with_field, twos_complement, sign_extended}

-- a distance in pages that the 21 bits hold
pub record IsPageDelta (pages : ℤ) : Type 0 where
  pub least : neg_ℤ (pos (2 ^ 20)) ≤ℤ pages
  pub greatest : pages ≤ℤ pos (2 ^ 20 - 1)

-- the same as a test that computes
unfoldable pub is_page_delta : ℤ → Bool
is_page_delta (pos n) = nat_lt n (2 ^ 20)
is_page_delta (negsuc n) = nat_lt n (2 ^ 20)

-- the word with a number of 21 bits in immhi:immlo, and the other bits as before
unfoldable pub with_immhi_immlo : ℕ → ℕ → ℕ
with_immhi_immlo word value = with_field 29 2 (with_field 5 19 word (value / 4)) (value % 4)

-- the number of 21 bits in immhi:immlo
unfoldable pub immhi_immlo : ℕ → ℕ
immhi_immlo word = field_at 5 19 word * 4 + field_at 29 2 word

-- the word with the distance in pages in immhi:immlo
unfoldable pub page_word : ℕ → ℤ → ℕ
page_word word pages = with_immhi_immlo word (twos_complement 21 pages)

-- that word, where the field holds the distance
abbrev pub put_page : ℕ → ℤ → Option ℕ
put_page word pages = if is_page_delta pages then Some (page_word word pages) else None

-- the distance in pages that immhi:immlo holds
unfoldable pub page_of : ℕ → ℤ
page_of word = sign_extended 21 (immhi_immlo word)
