-- Pages lie in their bytes, and sizes are above their parts.
use Rattle.std.proofs.Common.{ℕ, ◌+◌, ◌*◌, ◌<◌, ◌≤◌, ◌^◌, arith}
use Rattle.std.proofs.lemmas.Grind.{div_ceil_times}
use Rattle.sign_adhoc.specs.Pages.{page_count}
use Rattle.mo_bytes.specs.Rounding.{least_multiple}
use Rattle.sign_adhoc.specs.Signature.{blob_size, signature_size}

pub page_begins : (size k : ℕ) → k < page_count size → 4096 * k < size
unfolding page_count
page_begins size k low = let ends = div_ceil_times size 4096 (omega arith) in omega (arith, ends)

-- no more than one for each page that is begun
pub few_pages : (size : ℕ) → page_count size * 4096 < size + 4096
unfolding page_count
few_pages size = (div_ceil_times size 4096 (omega arith)).1

pub ruleset paging = (page_begins, few_pages)

pub pages_below_size : (identifier limit : ℕ) → 109 + identifier + 32 * page_count limit ≤ blob_size identifier limit
unfolding blob_size
pages_below_size identifier limit = omega arith

pub blob_within : (identifier limit : ℕ) → blob_size identifier limit ≤ signature_size identifier limit
unfolding signature_size least_multiple
blob_within identifier limit = omega arith

pub ruleset sizes = (pages_below_size, blob_within)

pub ruleset padding = (paging, sizes)

-- sizes that the machine's numbers hold
pub size_fits : (identifier limit : ℕ) → identifier < 2 ^ 62 → limit < 2 ^ 64 → blob_size identifier limit + 32 < 2 ^ 64
unfolding blob_size
size_fits identifier limit short below = let few = few_pages limit in omega arith
