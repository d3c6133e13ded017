-- What the code tells of pointers from those beside them.
use Rattle.std.specs.Prelude.{ℕ, ◌≡◌, ◌+◌, ◌-◌, ◌/◌, ◌%◌, ◌<◌, ◌==◌, nat_le, List, length, slice_get, slice_index_or, Option, Some, None, if◌then◌else◌}
use Rattle.std.specs.Option.{option_map}
use Rattle.image_format.specs.declared.fixup_chains.TheConstants.{DYLD_CHAINED_PTR_START_NONE}
use Rattle.fixup_chain.specs.Places.{PAGE, page_of}
use Rattle.fixup_chain.specs.declared.chains.Fixup.{Fixup}

-- the address of the pointer at an index
abbrev pub address_at : List Fixup → ℕ → Option ℕ
address_at fixups at = option_map (λ fixup. fixup.address) (slice_get fixups at)

-- a pointer with this address stands at an index
pub record IsThere (fixups : List Fixup) (at address : ℕ) : Type 0 where
  pub within : at < length fixups
  pub is : (d : Fixup) → (slice_index_or fixups at d).address ≡ address

-- the distance to the next address on the same page
abbrev pub steps_by : ℕ → Option ℕ → ℕ
steps_by from None = 0
steps_by from (Some to) = if page_of to == page_of from then (to % PAGE - from % PAGE) / 4 else 0

abbrev pub start_by : ℕ → Option ℕ → ℕ
start_by page None = DYLD_CHAINED_PTR_START_NONE
start_by page (Some address) = if page_of address == page then address % PAGE else DYLD_CHAINED_PTR_START_NONE

-- the address of the last of the first pointers
abbrev pub last_address : List Fixup → ℕ → Option ℕ
last_address fixups count = if count == 0 then None else address_at fixups (count - 1)

abbrev pub pages_by : ℕ → Option ℕ → ℕ
pages_by start None = 0
pages_by start (Some last) = if nat_le start last then (last - start) / PAGE + 1 else 0
