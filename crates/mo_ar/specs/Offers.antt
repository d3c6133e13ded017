-- What an archive offers, and the look-up by name.
use Rattle.std.specs.Prelude.{ℕ, ◌≡◌, ◌≤◌, min, List, [], ◌∷◌, slice_get, All, Option, Some, None, if◌then◌else◌}
use Rattle.std.specs.Str.{bytes_eq}
use Rattle.mo_ar.specs.declared.offers.Offer.{Offer}

abbrev pub lesser : ℕ → Option ℕ → ℕ
lesser member None = member
lesser member (Some other) = min member other

-- the least number of a member that is offered for a name
unfoldable pub first_offer : List ℕ → List Offer → Option ℕ
first_offer name [] = None
first_offer name (offer ∷ offers) =
    if bytes_eq offer.name name then Some (lesser offer.member (first_offer name offers)) else first_offer name offers

-- a member is the least-numbered one that is offered for a name
pub record IsLeastOffer (name : List ℕ) (offers : List Offer) (member : ℕ) : Type 0 where
  pub offered : (i : ℕ) × (slice_get offers i ≡ Some (record { name = name; member = member }))
  pub least : All (λ offer. offer.name ≡ name → member ≤ offer.member) offers

-- a name is offered by no member
pub record IsUnoffered (name : List ℕ) (offers : List Offer) : Type 0 where
  pub each : All (λ offer. offer.name ≡ name → ⊥) offers
