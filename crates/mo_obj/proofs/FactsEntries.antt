-- The first unwind entry at fault.
use Rattle.std.proofs.Common.{◌≡◌, ◌⊎◌, ℕ, zero, suc, List, [], ◌∷◌, slice_get, Some, inl, inr, ⊎_elim}
use Rattle.mo_types.specs.RelocationRules.{least}
use Rattle.mo_types.specs.declared.object.Object.{Object}
use Rattle.unwind_read.specs.Unwinds.{fault_places, first_fault}
use Rattle.mo_obj.specs.Rules.{IsIn}
use Rattle.mo_obj.proofs.FactsLeast.{IsLeast, least_alike}
use Rattle.mo_obj.proofs.FactsRelocations.{Has, least_of_list}

is_in : (places : List ℕ) (place : ℕ) → Has places place → IsIn places place
is_in [] place has = absurd has
is_in (p ∷ ps) place (inl same) = (zero, cc)
is_in (p ∷ ps) place (inr has) = let there = is_in ps place has in (suc there.0, there.1)

has_at : (places : List ℕ) (place number : ℕ) → slice_get places number ≡ Some place → Has places place
has_at [] place number is = cc
has_at (p ∷ ps) place zero is = inl (cc)
has_at (p ∷ ps) place (suc number) is = inr (has_at ps place number is)

pub entry_least : (object : Object) → IsLeast (IsIn (fault_places object)) (first_fault object)
unfolding first_fault
entry_least object =
    least_alike (Has (fault_places object)) (IsIn (fault_places object)) (least (fault_places object))
    (is_in (fault_places object)) (λ place there. has_at (fault_places object) place there.0 there.1) (least_of_list (fault_places object))
