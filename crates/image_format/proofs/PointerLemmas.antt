-- The bit fields of pointers on chains are read from the words that hold them.
use Rattle.std.proofs.Common.{◌≡◌, ℕ, ◌+◌, ◌*◌, ◌/◌, ◌%◌, ◌^◌, ◌<◌, arith}
use Rattle.image_format.specs.ChainedPointer.{IsRebasePackable, rebase_of, rebase_word, IsBindPackable, bind_of, bind_word}
use Rattle.image_format.specs.declared.chained_pointer.ChainedRebase.{ChainedRebase}
use Rattle.image_format.specs.declared.chained_pointer.ChainedBind.{ChainedBind}

rebase_target : (t h r n : ℕ) → t < 2 ^ 36 → (t + 2 ^ 36 * h + 2 ^ 44 * r + 2 ^ 51 * n) % 2 ^ 36 ≡ t
rebase_target t h r n a = omega arith

rebase_high8 : (t h r n : ℕ) → t < 2 ^ 36 → h < 2 ^ 8 → (t + 2 ^ 36 * h + 2 ^ 44 * r + 2 ^ 51 * n) / 2 ^ 36 % 2 ^ 8 ≡ h
rebase_high8 t h r n a b = omega arith

rebase_reserved : (t h r n : ℕ) → t < 2 ^ 36 → h < 2 ^ 8 → r < 2 ^ 7 → (t + 2 ^ 36 * h + 2 ^ 44 * r + 2 ^ 51 * n) / 2 ^ 44 % 2 ^ 7 ≡ r
rebase_reserved t h r n a b c = omega arith

rebase_next : (t h r n : ℕ) → t < 2 ^ 36 → h < 2 ^ 8 → r < 2 ^ 7 → n < 2 ^ 12 → (t + 2 ^ 36 * h + 2 ^ 44 * r + 2 ^ 51 * n) / 2 ^ 51 % 2 ^ 12 ≡ n
rebase_next t h r n a b c d = omega arith

pub rebase_of-rebase_word : (s : ChainedRebase) → IsRebasePackable s → rebase_of (rebase_word s) ≡ s
unfolding rebase_of
rebase_of-rebase_word s fit =
    let target = rebase_target s.target s.high8 s.reserved s.next fit.target in
    let high8 = rebase_high8 s.target s.high8 s.reserved s.next fit.target fit.high8 in
    let reserved = rebase_reserved s.target s.high8 s.reserved s.next fit.target fit.high8 fit.reserved in
    let next = rebase_next s.target s.high8 s.reserved s.next fit.target fit.high8 fit.reserved fit.next in
    let same : rebase_of (rebase_word s) ≡ record { target = s.target; high8 = s.high8; reserved = s.reserved; next = s.next } = cc in
    same

bind_ordinal : (o a r n : ℕ) → o < 2 ^ 24 → (o + 2 ^ 24 * a + 2 ^ 32 * r + 2 ^ 51 * n + 2 ^ 63) % 2 ^ 24 ≡ o
bind_ordinal o a r n p = omega arith

bind_addend : (o a r n : ℕ) → o < 2 ^ 24 → a < 2 ^ 8 → (o + 2 ^ 24 * a + 2 ^ 32 * r + 2 ^ 51 * n + 2 ^ 63) / 2 ^ 24 % 2 ^ 8 ≡ a
bind_addend o a r n p q = omega arith

bind_reserved : (o a r n : ℕ) → o < 2 ^ 24 → a < 2 ^ 8 → r < 2 ^ 19 → (o + 2 ^ 24 * a + 2 ^ 32 * r + 2 ^ 51 * n + 2 ^ 63) / 2 ^ 32 % 2 ^ 19 ≡ r
bind_reserved o a r n p q s = omega arith

bind_next : (o a r n : ℕ) → o < 2 ^ 24 → a < 2 ^ 8 → r < 2 ^ 19 → n < 2 ^ 12 → (o + 2 ^ 24 * a + 2 ^ 32 * r + 2 ^ 51 * n + 2 ^ 63) / 2 ^ 51 % 2 ^ 12 ≡ n
bind_next o a r n p q s t = omega arith

pub bind_of-bind_word : (s : ChainedBind) → IsBindPackable s → bind_of (bind_word s) ≡ s
unfolding bind_of
bind_of-bind_word s fit =
    let ordinal = bind_ordinal s.ordinal s.addend s.reserved s.next fit.ordinal in
    let addend = bind_addend s.ordinal s.addend s.reserved s.next fit.ordinal fit.addend in
    let reserved = bind_reserved s.ordinal s.addend s.reserved s.next fit.ordinal fit.addend fit.reserved in
    let next = bind_next s.ordinal s.addend s.reserved s.next fit.ordinal fit.addend fit.reserved fit.next in
    let same : bind_of (bind_word s) ≡ record { ordinal = s.ordinal; addend = s.addend; reserved = s.reserved; next = s.next } = cc in
    same
