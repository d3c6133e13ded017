-- The hashes of the pages that hold a UUID, computed anew.
use Rattle.std.specs.Prelude.{ℕ, ◌+◌, ◌/◌, nat_lt, List, slice_set, if◌then◌else◌}
use Rattle.sign_adhoc.specs.Pages.{page_hash}

-- the hash of a page is computed anew
abbrev pub with_page : List ℕ → ℕ → List (List ℕ) → List (List ℕ)
with_page image k hashes = slice_set hashes k (page_hash image k)

-- those of the pages that hold 16 bytes from a place on are
unfoldable pub renewed : ℕ → List ℕ → List (List ℕ) → List (List ℕ)
renewed at image hashes =
    if nat_lt (at / 4096) ((at + 15) / 4096)
    then with_page image ((at + 15) / 4096) (with_page image (at / 4096) hashes)
    else with_page image (at / 4096) hashes
