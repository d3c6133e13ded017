-- Orders that compare one thing after another: what ties ties in each, and numbers that tie are the same.
use Rattle.std.proofs.Common.{◌≡◌, ℕ, ◌<◌, refl}
use Rattle.std.specs.declared.cmp.Ordering.{Ordering}
use Rattle.std.specs.declared.cmp.Ordering.TheVariants.{Less, Equal, Greater}
use Rattle.std.specs.Ordering.{nat_cmp, ordering_then, MatchOrdering}
use Rattle.std.proofs.lemmas.Cmp.{ranked}

pub tied_first : (a b : Ordering) → ordering_then a b ≡ Equal → a ≡ Equal
tied_first Less b e = e
tied_first Equal b e = refl
tied_first Greater b e = e

pub tied_second : (a b : Ordering) → ordering_then a b ≡ Equal → b ≡ Equal
tied_second Less b e = cc
tied_second Equal b e = e
tied_second Greater b e = cc

pub same_number : (x y : ℕ) → nat_cmp x y ≡ Equal → x ≡ y
same_number x y e = same (nat_cmp x y) e (ranked x y (nat_cmp x y) refl)
  where
    same : (r : Ordering) → r ≡ Equal → MatchOrdering r (x < y) (x ≡ y) (y < x) → x ≡ y
    same Less e m = cc
    same Equal e m = m
    same Greater e m = cc
