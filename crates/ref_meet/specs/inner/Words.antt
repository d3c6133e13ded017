-- Words by their places.
use Rattle.std.specs.Prelude.{ℕ, ◌≡◌, List, Some, slice_get}
use Rattle.std.specs.Option.{option_map}
use Rattle.fixup_chain.specs.declared.chains.ChainWord.{ChainWord}

-- the word at a place stands at an address
abbrev pub StandsAt : List ChainWord → ℕ → ℕ → Type 0
StandsAt words address at = option_map (λ (chained : ChainWord). chained.address) (slice_get words at) ≡ Some address
