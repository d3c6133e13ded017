-- Pointers that are rebased one behind the other.
use Rattle.std.proofs.Common.{◌≡◌, ℕ, zero, suc, ◌+◌, ◌-◌, ◌<◌, ◌≤◌, List, Result, Ok, Err, refl, sym, ◌∙◌, arith}
use Rattle.dyld_ops.specs.Machine.{fixed, rebase_of, rebased}
use Rattle.dyld_ops.specs.declared.fixup.OpsFault.{OpsFault}
use Rattle.dyld_ops.specs.declared.machine.Machine.{Machine}

-- what is left to rebase leaves what all leaves
pub record IsRebasing (image : List ℕ) (at count i : ℕ) (first m : Machine) : Type 0 where
  pub same : rebased image at (count - i) m ≡ rebased image at count first

pub rebasing_starts : (image : List ℕ) (at count : ℕ) (m : Machine) → IsRebasing image at count 0 m m
rebasing_starts image at count m = record { same = let e : count - 0 ≡ count = omega arith in rw e refl }

pub rebasing_goes_on : (image : List ℕ) (at count i : ℕ) (first m new : Machine) → IsRebasing image at count i first m → i < count → fixed image at m (rebase_of image) ≡ Ok new → IsRebasing image at count (i + 1) first new
unfolding rebased
rebasing_goes_on image at count i first m new rebasing more is =
    let e : count - i ≡ suc (count - (i + 1)) = omega arith in
    let here : rebased image at (count - i) m ≡ rebased image at (count - (i + 1)) new = rw (e, is) refl in
    record { same = sym here ∙ rebasing.same }

pub rebasing_breaks : (image : List ℕ) (at count i : ℕ) (first m : Machine) (fault : OpsFault) → IsRebasing image at count i first m → i < count → fixed image at m (rebase_of image) ≡ Err fault → rebased image at count first ≡ Err fault
unfolding rebased
rebasing_breaks image at count i first m fault rebasing more is =
    let e : count - i ≡ suc (count - (i + 1)) = omega arith in
    let here : rebased image at (count - i) m ≡ Err fault = rw (e, is) refl in
    sym rebasing.same ∙ here

pub rebasing_ends : (image : List ℕ) (at count i : ℕ) (first m : Machine) → IsRebasing image at count i first m → count ≤ i → rebased image at count first ≡ Ok m
unfolding rebased
rebasing_ends image at count i first m rebasing past =
    let e : count - i ≡ 0 = omega arith in
    let here : rebased image at (count - i) m ≡ Ok m = rw e refl in
    sym rebasing.same ∙ here

pub ruleset rebases = (rebasing_starts, rebasing_goes_on, rebasing_breaks, rebasing_ends)
