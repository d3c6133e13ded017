-- The chain of an archive's headers.
use Rattle.std.specs.Prelude.{ℕ, zero, suc, ◌≡◌, List, [], ◌∷◌, length, Some, None}
use Rattle.std.specs.Option.{option_map_or}
use Rattle.mo_ar.specs.Member.{member_at, next_of}
use Rattle.mo_ar.specs.declared.member.Member.{Member}

-- a member and the place of its header
pub record Link : Type 0 where
  pub place : ℕ
  pub member : Member

-- Each header leads to the next one: from a place, these members in their order, up to a place.
abbrev pub Leads : List ℕ → ℕ → List Link → ℕ → Type 0
Leads bytes at [] to = at ≡ to
Leads bytes at (link ∷ links) to =
    (link.place ≡ at) × (member_at bytes at ≡ Some link.member) × Leads bytes (next_of link.member) links to

-- The chain from a place goes through these members and no further: no member's header stands where it ends.
pub record IsChain (bytes : List ℕ) (at : ℕ) (links : List Link) (to : ℕ) : Type 0 where
  pub leads : Leads bytes at links to
  pub ends : member_at bytes to ≡ None

-- the first n members of the chain from a place, or all where there are fewer
unfoldable pub chain_from : List ℕ → ℕ → ℕ → List Link
chain_from bytes zero at = []
chain_from bytes (suc n) at =
    option_map_or (λ member. record { place = at; member = member } ∷ chain_from bytes n (next_of member)) (member_at bytes at) []

-- all members of the chain from a place: fewer than the file has bytes
abbrev pub chain : List ℕ → ℕ → List Link
chain bytes at = chain_from bytes (length bytes) at

-- the place that the chain leads to
abbrev pub end_of : ℕ → List Link → ℕ
end_of at [] = at
end_of at (link ∷ links) = end_of (next_of link.member) links
