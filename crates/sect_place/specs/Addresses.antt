-- The addresses that a list of placed atoms gives.
use Rattle.std.specs.Prelude.{ℕ, ◌≢◌, Contains, List, MatchOption, Option}
use Rattle.std.specs.List.{AllPairs, find}
use Rattle.std.specs.Option.{option_map}
use Rattle.std.specs.Ordering.{is_eq}
use Rattle.mo_types.specs.Keys.{compare_keys}
use Rattle.mo_types.specs.declared.key.AtomKey.{AtomKey}
use Rattle.sect_place.specs.declared.layout.Placed.{Placed}

-- no atom stands in two places
abbrev pub AreOnce : List Placed → Type 0
AreOnce placed = AllPairs (λ p q. p.atom ≢ q.atom) placed

-- the address of an atom
unfoldable pub address_in : List Placed → AtomKey → Option ℕ
address_in placed key = option_map (λ p. p.address) (find (λ p. is_eq (compare_keys p.atom key)) placed)

-- what a look-up of an atom answers: an address that the list has for it, or nothing where it has none
abbrev pub IsAddressOf : List Placed → AtomKey → Option ℕ → Type 0
IsAddressOf placed key found = MatchOption found
    ((address : ℕ) → ¬ Contains placed (record { atom = key; address = address }))
    (λ address. Contains placed (record { atom = key; address = address }))
