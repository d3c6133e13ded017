-- The offer at an index.
use Rattle.std.specs.Prelude.{ℕ, ◌≡◌, ◌≤◌, List, length, slice_get, Option, Some, None}
use Rattle.mo_ar.specs.declared.offers.Offer.{Offer}

-- the offer of a list at an index, by its name and its member's number
abbrev pub IsOfferAt : {N : Type 0} → (N → List ℕ) → List Offer → ℕ → Option (N × ℕ) → Type 0
IsOfferAt now offers at None = length offers ≤ at
IsOfferAt now offers at (Some found) = slice_get offers at ≡ Some (record { name = now found.0; member = found.1 })
