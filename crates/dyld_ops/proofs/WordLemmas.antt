-- Numbers in memory are those of their bytes.
use Rattle.std.proofs.Common.{◌≡◌, ℕ, zero, suc, ◌+◌, ◌-◌, ◌*◌, ◌^◌, ◌<◌, ◌≤◌, Bool, true, false, List, [], ◌∷◌, length, get_or, slice_get, Option, Some, None, if◌then◌else◌, nat_le, nat_lt, ◌==◌, refl, sym, ◌∙◌, ap, subst, inl, inr, arith}
use Rattle.std.specs.Int.{cast_signed, cast_unsigned, w64}
use Rattle.std.specs.Option.{IfSome, option_and_then}
use Rattle.std.proofs.lemmas.Bool.{cases_Bool}
use Rattle.std.proofs.lemmas.Int.{of_z-to_z}
use Rattle.std.proofs.lemmas.Nat.{mul-le}
use Rattle.std.proofs.lemmas.Option.{get_or_from_slice_get}
use Rattle.std.specs.Prelude.{ℤ}
use Rattle.mo_format.specs.declared.segment.SegmentCommand.{SegmentCommand}
use Rattle.mo_types.specs.declared.reference.RefKind.TheVariants.{Diff64}
use Rattle.image_read.specs.Commands.{fits}
use Rattle.image_read.specs.Fixups.{joined, long_at, short_at, word_at}
use Rattle.image_read.specs.Mapped.{byte_in, holder, mapped}
use Rattle.image_read.specs.Meaning.{denote, difference_or_broken, long_in}
use Rattle.image_read.specs.declared.meaning.Meaning.{Meaning}
use Rattle.image_read.specs.declared.meaning.Meaning.TheVariants.{Address, Imported, Difference, Low12, Broken}

-- a number that is known is below a limit
abbrev pub Below : ℕ → Option ℕ → Type 0
Below limit number = IfSome number (λ n. n < limit)

got_small : (image : List ℕ) (k : ℕ) (found : Option ℕ) → ((i : ℕ) → get_or image i 0 < 256) → slice_get image k ≡ found → Below 0x100 found
got_small image k None bytes is = tt
got_small image k (Some b) bytes is = let e : get_or image k 0 ≡ b = get_or_from_slice_get image k b 0 is in omega (arith, bytes k)

small_if : (test : Bool) (limit : ℕ) (a b : Option ℕ) → Below limit a → Below limit b → Below limit (if test then a else b)
small_if true limit a b p q = p
small_if false limit a b p q = q

byte_small : (image : List ℕ) (v : ℕ) (segment : SegmentCommand) → ((i : ℕ) → get_or image i 0 < 256) → Below 0x100 (byte_in image v segment)
byte_small image v segment bytes =
    small_if (segment.initprot == 0) 0x100 None _ tt
    (small_if (nat_lt v (segment.vmaddr + segment.filesize)) 0x100 (slice_get image (segment.fileoff + (v - segment.vmaddr))) (Some 0)
    (got_small image (segment.fileoff + (v - segment.vmaddr)) _ bytes refl) (omega arith))

held_small : (image : List ℕ) (v : ℕ) (segment : Option SegmentCommand) → ((i : ℕ) → get_or image i 0 < 256) → Below 0x100 (option_and_then (byte_in image v) segment)
held_small image v None bytes = tt
held_small image v (Some segment) bytes = byte_small image v segment bytes

mapped_small : (image : List ℕ) (v : ℕ) → ((i : ℕ) → get_or image i 0 < 256) → Below 0x100 (mapped image v)
unfolding mapped
mapped_small image v bytes =
    small_if (fits image) 0x100 (option_and_then (byte_in image v) (holder image v)) None (held_small image v (holder image v) bytes) tt

joined_small : (scale limit whole : ℕ) (low high : Option ℕ) → scale * limit ≡ whole → Below scale low → Below limit high → Below whole (joined scale low high)
joined_small scale limit whole None high e p q = tt
joined_small scale limit whole (Some low) None e p q = tt
joined_small scale limit whole (Some low) (Some high) e p q =
    let product : scale * (high + 1) ≤ scale * limit = mul-le scale (high + 1) scale limit (omega arith) (omega arith) in
    let parts : scale * (high + 1) ≡ scale * high + scale = grind arith in
    omega arith

long_small : (image : List ℕ) (v : ℕ) → ((i : ℕ) → get_or image i 0 < 256) → Below (2 ^ 64) (long_at image v)
unfolding long_at word_at short_at
long_small image v bytes =
    let short : (u : ℕ) → Below 0x10000 (joined 0x100 (mapped image u) (mapped image (u + 1))) =
    (λ u. joined_small 0x100 0x100 0x10000 (mapped image u) (mapped image (u + 1)) refl (mapped_small image u bytes) (mapped_small image (u + 1) bytes)) in
    let word : (u : ℕ) → Below 0x100000000 (word_at image u) = (λ u. joined_small 0x10000 0x10000 0x100000000 _ _ refl (short u) (short (u + 2))) in
    joined_small 0x100000000 0x100000000 (2 ^ 64) _ _ refl (word v) (word (v + 4))

in_small : (image : List ℕ) (v : ℕ) → ((i : ℕ) → get_or image i 0 < 256) → Below (2 ^ 64) (long_in image v)
in_small image v bytes = small_if (nat_le (v + 8) (2 ^ 64)) (2 ^ 64) (long_at image v) None (long_small image v bytes) tt

-- the number that a meaning tells, if it tells a difference
abbrev told : Meaning → Option ℕ
told (Difference number) = Some (cast_unsigned w64 number)
told (Address address) = None
told (Imported import addend) = None
told (Low12 offset) = None
told Broken = None

told_again : (found : Option ℕ) → Below (2 ^ 64) found → told (difference_or_broken found) ≡ found
told_again None small = refl
told_again (Some n) small = ap (λ (m : ℕ). Some m) (of_z-to_z w64 n small)

told_is : (image : List ℕ) (v : ℕ) (meaning : Meaning) → ((i : ℕ) → get_or image i 0 < 256) → meaning ≡ denote image v Diff64 → told meaning ≡ long_in image v
unfolding denote
told_is image v meaning bytes is = ap told is ∙ told_again (long_in image v) (in_small image v bytes)

pub word_told : (image : List ℕ) (v : ℕ) (number : ℤ) → ((i : ℕ) → get_or image i 0 < 256) → Difference number ≡ denote image v Diff64 → Some (cast_unsigned w64 number) ≡ long_in image v
word_told image v number bytes is = told_is image v (Difference number) bytes is

pub word_untold : (image : List ℕ) (v : ℕ) (meaning : Meaning) → ((i : ℕ) → get_or image i 0 < 256) → meaning ≡ denote image v Diff64 → ((number : ℤ) → meaning ≡ Difference number → ⊥) → None ≡ long_in image v
word_untold image v (Difference number) bytes is not = absurd (not number refl)
word_untold image v (Address address) bytes is not = told_is image v (Address address) bytes is
word_untold image v (Imported import addend) bytes is not = told_is image v (Imported import addend) bytes is
word_untold image v (Low12 offset) bytes is not = told_is image v (Low12 offset) bytes is
word_untold image v Broken bytes is not = told_is image v Broken bytes is

pub ruleset words = (word_told)
