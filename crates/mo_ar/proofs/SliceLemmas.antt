-- The search for the entry of arm64.
use Rattle.std.proofs.Common.{◌≡◌, ℕ, suc, ◌+◌, ◌-◌, ◌/◌, ◌<◌, ◌≤◌, List, true, false, Some, None, refl, sym, ap, ◌∙◌, arith}
use Rattle.mo_ar.specs.Slice.{first_arm64, is_arm64, entry}

-- no entry below an index is for arm64, of n
pub record IsSearching (bytes : List ℕ) (n i : ℕ) : Type 0 where
  pub same : first_arm64 bytes (entry i) (n - i) ≡ first_arm64 bytes 8 n

pub search_starts : (bytes : List ℕ) (n : ℕ) → IsSearching bytes n 0
search_starts bytes n = record { same = let e : n - 0 ≡ n = omega arith in rw e refl }

search_here : (bytes : List ℕ) (n i : ℕ) → i < n → is_arm64 bytes (entry i) ≡ false → first_arm64 bytes (entry i) (n - i) ≡ first_arm64 bytes (entry (i + 1)) (n - (i + 1))
search_here bytes n i more other =
    let e : n - i ≡ suc (n - (i + 1)) = omega arith in
    let f : entry i + 20 ≡ entry (i + 1) = omega arith in
    rw (e, other, f) refl

pub search_goes_on : (bytes : List ℕ) (n i : ℕ) → IsSearching bytes n i → i < n → is_arm64 bytes (entry i) ≡ false → IsSearching bytes n (i + 1)
search_goes_on bytes n i searching more other =
    record { same = sym (search_here bytes n i more other) ∙ searching.same }

pub search_finds : (bytes : List ℕ) (n i at : ℕ) → IsSearching bytes n i → i < n → at ≡ entry i → is_arm64 bytes at ≡ true → Some at ≡ first_arm64 bytes 8 n
search_finds bytes n i at searching more same is =
    let e : n - i ≡ suc (n - (i + 1)) = omega arith in
    let here : is_arm64 bytes (entry i) ≡ true = rw (← same) is in
    let found : first_arm64 bytes (entry i) (n - i) ≡ Some (entry i) = rw (e, here) refl in
    ap Some same ∙ sym found ∙ searching.same

pub search_ends : (bytes : List ℕ) (n i : ℕ) → IsSearching bytes n i → n ≤ i → None ≡ first_arm64 bytes 8 n
search_ends bytes n i searching past =
    let e : n - i ≡ 0 = omega arith in
    let none : first_arm64 bytes (entry i) (n - i) ≡ None = rw e refl in
    sym none ∙ searching.same

pub ruleset searches = (search_starts, search_goes_on, search_finds, search_ends)

pub room_enough : (size n : ℕ) → 8 ≤ size → n ≤ (size - 8) / 20 → entry n ≤ size
room_enough size n header fits = omega arith

pub ruleset slices = (room_enough)
