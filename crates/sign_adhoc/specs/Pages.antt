-- The pages of an image, and their hashes (`cs_blobs.h`: pageSize, hashType).
use Rattle.std.specs.Prelude.{ℕ, ◌*◌, List, length, map, take, drop}
use Rattle.std.specs.Int.{div_ceil}
use Rattle.std.specs.List.{flat_map, range_with_len}
use Rattle.sha2.specs.Sha256.{sha256}

-- how many pages of 4,096 bytes so many bytes have; the last one may be shorter
unfoldable pub page_count : ℕ → ℕ
page_count size = div_ceil size 4096

-- page k of the bytes, from 0
unfoldable pub page : List ℕ → ℕ → List ℕ
page bytes k = take 4096 (drop (4096 * k) bytes)

-- its hash
unfoldable pub page_hash : List ℕ → ℕ → List ℕ
page_hash bytes k = sha256 (page bytes k)

-- the hashes of all pages, in order
unfoldable pub page_hashes : List ℕ → List (List ℕ)
page_hashes bytes = map (page_hash bytes) (range_with_len 0 (page_count (length bytes)))

-- hashes, one behind the other
unfoldable pub joined : List (List ℕ) → List ℕ
joined hashes = flat_map (λ hash. hash) hashes
