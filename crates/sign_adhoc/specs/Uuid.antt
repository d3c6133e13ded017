-- The UUID of an image: made of the hashes of its pages, in the form of version 5 of the variant 10 (RFC 9562, sections
-- 4 and 5.5).
use Rattle.std.specs.Prelude.{ℕ, ◌+◌, ◌%◌, ◌<◌, ◌≤◌, ◌⊎◌, List, ◌++◌, take, drop, replicate, slice_index, slice_set}
use Rattle.sha2.specs.Sha256.{sha256}
use Rattle.sign_adhoc.specs.Pages.{joined, page_hashes}

-- the first 16 bytes of a digest, the high 4 bits of byte 6 being 5, and the high 2 bits of byte 8 binary 10
unfoldable pub uuid_of_digest : List ℕ → List ℕ
uuid_of_digest digest =
    slice_set (slice_set (take 16 digest) 6 (0x50 + slice_index digest 6 % 0x10)) 8 (0x80 + slice_index digest 8 % 0x40)

-- the UUID that the hashes of pages make, joined and hashed again
unfoldable pub uuid_of : List (List ℕ) → List ℕ
uuid_of hashes = uuid_of_digest (sha256 (joined hashes))

-- an image with these 16 bytes in place of its UUID, which begins at a place
unfoldable pub with_uuid : ℕ → List ℕ → List ℕ → List ℕ
with_uuid at uuid image = take at image ++ (uuid ++ drop (at + 16) image)

-- the UUID of an image, which doesn't depend on what stands in its place
unfoldable pub image_uuid : ℕ → List ℕ → List ℕ
image_uuid at image = uuid_of (page_hashes (with_uuid at (replicate 16 0) image))

-- a byte is none of the UUID's
abbrev pub IsBesideUuid : ℕ → ℕ → Type 0
IsBesideUuid at k = (k < at) ⊎ (at + 16 ≤ k)
