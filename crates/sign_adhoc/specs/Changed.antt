-- A signed image that was changed before its signature.
use Rattle.std.specs.Prelude.{ℕ, ◌≡◌, ◌<◌, List, take, drop}
use Rattle.sign_adhoc.specs.Pages.{page_count, page_hash}
use Rattle.sign_adhoc.specs.Standing.{IsSignature}
use Rattle.sign_adhoc.specs.declared.standing.Standing.{Standing}

-- the signature is still found, and it stands as it was
pub record IsChanged (signed image : List ℕ) (s : Standing) : Type 0 where
  pub found : IsSignature image s
  pub kept : drop s.from image ≡ drop s.from signed

-- page k before a place has the hash that it had
abbrev pub HasItsHash : List ℕ → List ℕ → ℕ → ℕ → Type 0
HasItsHash signed image from k = page_hash (take from image) k ≡ page_hash (take from signed) k

-- all pages before page n have
abbrev pub HaveTheirHashes : List ℕ → List ℕ → ℕ → ℕ → Type 0
HaveTheirHashes signed image from n = (k : ℕ) → k < n → HasItsHash signed image from k

-- page k is the first one that has another
pub record IsFirstOther (signed image : List ℕ) (from k : ℕ) : Type 0 where
  pub among : k < page_count from
  pub other : ¬ HasItsHash signed image from k
  pub first : HaveTheirHashes signed image from k
