-- The pointers on chains, of the pointer format DYLD_CHAINED_PTR_64_OFFSET.
use Rattle.std.specs.Prelude.{ℕ, ◌+◌, ◌*◌, ◌/◌, ◌%◌, ◌^◌, ◌<◌, Bool, nat_le}
use Rattle.image_format.specs.declared.chained_pointer.ChainedRebase.{ChainedRebase}
use Rattle.image_format.specs.declared.chained_pointer.ChainedBind.{ChainedBind}

-- fixup-chains.h: dyld_chained_ptr_64_rebase, from the low bit: target 36, high8 8, reserved 7, next 12, bind 1, which is 0
unfoldable pub rebase_of : ℕ → ChainedRebase
rebase_of word = record {
  target = word % 2 ^ 36;
  high8 = word / 2 ^ 36 % 2 ^ 8;
  reserved = word / 2 ^ 44 % 2 ^ 7;
  next = word / 2 ^ 51 % 2 ^ 12;
}

-- each bit field can hold its number
pub record IsRebasePackable (s : ChainedRebase) : Type 0 where
  pub target : s.target < 2 ^ 36
  pub high8 : s.high8 < 2 ^ 8
  pub reserved : s.reserved < 2 ^ 7
  pub next : s.next < 2 ^ 12

abbrev pub rebase_word : ChainedRebase → ℕ
rebase_word s = s.target + 2 ^ 36 * s.high8 + 2 ^ 44 * s.reserved + 2 ^ 51 * s.next

-- fixup-chains.h: dyld_chained_ptr_64_bind, from the low bit: ordinal 24, addend 8, reserved 19, next 12, bind 1, which is 1
unfoldable pub bind_of : ℕ → ChainedBind
bind_of word = record {
  ordinal = word % 2 ^ 24;
  addend = word / 2 ^ 24 % 2 ^ 8;
  reserved = word / 2 ^ 32 % 2 ^ 19;
  next = word / 2 ^ 51 % 2 ^ 12;
}

-- each bit field can hold its number
pub record IsBindPackable (s : ChainedBind) : Type 0 where
  pub ordinal : s.ordinal < 2 ^ 24
  pub addend : s.addend < 2 ^ 8
  pub reserved : s.reserved < 2 ^ 19
  pub next : s.next < 2 ^ 12

abbrev pub bind_word : ChainedBind → ℕ
bind_word s = s.ordinal + 2 ^ 24 * s.addend + 2 ^ 32 * s.reserved + 2 ^ 51 * s.next + 2 ^ 63

-- the uppermost bit tells a bind from a rebase
abbrev pub is_bind : ℕ → Bool
is_bind word = nat_le (2 ^ 63) word
