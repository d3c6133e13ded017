-- Addresses of 64 bits.
use Rattle.std.proofs.Common.{tests, ◌≡◌, ℕ, ℤ, pos, negsuc, ◌+ℤ◌, Option, Some, None, refl, arith}
use Rattle.std.specs.Int.{FitsUnsigned, w64}
use Rattle.std.specs.Prelude.{unsigned_abs}
use Rattle.std.proofs.lemmas.Int.{ints}
use Rattle.std.specs.Option.{SomeIff}
use Rattle.image_read.specs.Meaning.{in_range, moved}

range_is : (z : ℤ) (found : Option ℕ) → SomeIff found (FitsUnsigned w64 z) (unsigned_abs z) → found ≡ in_range z
range_is (pos n) None is = grind (arith, tests)
range_is (pos n) (Some x) is = grind (arith, tests)
range_is (negsuc n) None is = refl
range_is (negsuc n) (Some x) is = absurd (omega (arith, ints))

pub moved_is : (address : ℕ) (distance : ℤ) (found : Option ℕ) → SomeIff found (FitsUnsigned w64 (pos address +ℤ distance)) (unsigned_abs (pos address +ℤ distance)) → found ≡ moved address distance
moved_is address distance found is = range_is (pos address +ℤ distance) found is

pub ruleset ranges = (moved_is)
