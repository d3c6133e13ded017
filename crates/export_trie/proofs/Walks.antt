-- How the code's reading of a trie meets the definitions.
use Rattle.std.proofs.Common.{◌≡◌, ℕ, zero, suc, ◌+◌, Bool, true, false, ◌&&◌, eqb, List, [], ◌∷◌, ◌++◌, length, take, drop, refl, ap, arith, Some, None, nat_eq}
use Rattle.std.specs.List.{starts_with}
use Rattle.std.proofs.lemmas.Bool.{false_from_ne_true, and_parts, eqb-true, false≢true}
use Rattle.memchr.specs.Find.{IsFirstByte, is_byte}
use Rattle.mo_bytes.specs.Uleb.{uleb_at}
use Rattle.export_trie.specs.declared.lookup.Found.{Found}
use Rattle.export_trie.specs.declared.lookup.Found.TheVariants.{Absent, Broken}
use Rattle.export_trie.specs.declared.lookup.Step.TheVariants.{Ends, Goes}
use Rattle.export_trie.specs.Lookup.{down, child_at, step, walk}
use Rattle.export_trie.specs.Strings.{before_nul, begins}

-- the place of the first NUL gives the bytes before it
pub before_none : (bytes : List ℕ) → IsFirstByte (is_byte 0) bytes None → before_nul bytes ≡ None
before_none [] h = refl
before_none (b ∷ bytes) h =
    let no : eqb b 0 ≡ false = false_from_ne_true (eqb b 0) (h 0 (omega arith) (omega arith)) in
    let rest : before_nul bytes ≡ None = before_none bytes (λ k low high. h (suc k) (omega arith) (omega arith)) in
    rw (no, rest) refl

pub before_some : (bytes : List ℕ) (n : ℕ) → IsFirstByte (is_byte 0) bytes (Some n) → before_nul bytes ≡ Some (take n bytes)
before_some [] n h = absurd (omega (arith, h.0.high))
before_some (b ∷ bytes) zero h = let yes : eqb b 0 ≡ true = h.1 in rw yes refl
before_some (b ∷ bytes) (suc n) h =
    let no : eqb b 0 ≡ false = false_from_ne_true (eqb b 0) (h.0.before 0 (omega arith) (omega arith)) in
    let rest : before_nul bytes ≡ Some (take n bytes) =
    before_some bytes n (record { low = omega arith; high = omega (arith, h.0.high); before = λ k low high. h.0.before (suc k) (omega arith) (omega arith) }, h.1) in
    rw (no, rest) refl

pub begins_is : (front text : List ℕ) → starts_with nat_eq text front ≡ begins front text
begins_is [] text = refl
begins_is (x ∷ front) [] = refl
begins_is (x ∷ front) (y ∷ text) = ap (λ (b : Bool). eqb x y && b) (begins_is front text)

-- a string that begins another
pub begins_split : (front text : List ℕ) → begins front text ≡ true → text ≡ front ++ drop (length front) text
begins_split [] text h = refl
begins_split (x ∷ front) [] h = absurd (false≢true h)
begins_split (x ∷ front) (y ∷ text) h =
    let parts = and_parts (eqb x y) (begins front text) h in
    let same : x ≡ y = eqb-true x y parts.0 in
    let rest : text ≡ front ++ drop (length front) text = begins_split front text parts.1 in
    rw (← same) (ap (λ (bs : List ℕ). x ∷ bs) rest)

-- ---- the loop over the children, `left` of which are left

pub child_more : (trie : List ℕ) (node count at : ℕ) (rest edge : List ℕ) (child next left : ℕ) → count ≡ suc left → before_nul (drop at trie) ≡ Some edge → uleb_at trie (at + length edge + 1) ≡ Some (child, next) → begins edge rest ≡ false → child_at trie node count at rest ≡ child_at trie node left next rest
unfolding child_at
child_more trie node count at rest edge child next left some here number apart = rw (some, here, number, apart) refl

pub child_found : (trie : List ℕ) (node count at : ℕ) (rest edge : List ℕ) (child next left : ℕ) → count ≡ suc left → before_nul (drop at trie) ≡ Some edge → uleb_at trie (at + length edge + 1) ≡ Some (child, next) → begins edge rest ≡ true → child_at trie node count at rest ≡ down node child (length edge)
unfolding child_at
child_found trie node count at rest edge child next left some here number front = rw (some, here, number, front) refl

pub child_no_edge : (trie : List ℕ) (node count at : ℕ) (rest : List ℕ) (left : ℕ) → count ≡ suc left → before_nul (drop at trie) ≡ None → child_at trie node count at rest ≡ Ends Broken
unfolding child_at
child_no_edge trie node count at rest left some here = rw (some, here) refl

pub child_no_number : (trie : List ℕ) (node count at : ℕ) (rest edge : List ℕ) (left : ℕ) → count ≡ suc left → before_nul (drop at trie) ≡ Some edge → uleb_at trie (at + length edge + 1) ≡ None → child_at trie node count at rest ≡ Ends Broken
unfolding child_at
child_no_number trie node count at rest edge left some here number = rw (some, here, number) refl

pub child_none : (trie : List ℕ) (node count at : ℕ) (rest : List ℕ) → count ≡ 0 → child_at trie node count at rest ≡ Ends Absent
unfolding child_at
child_none trie node count at rest none = rw none refl

-- ---- the loop over the nodes

pub walk_more : (trie : List ℕ) (nodes node child edge left : ℕ) (rest : List ℕ) → nodes ≡ suc left → step trie node rest ≡ Goes child edge → walk nodes trie node rest ≡ walk left trie child (drop edge rest)
unfolding walk
walk_more trie nodes node child edge left rest some here = rw (some, here) refl

pub walk_ends : (trie : List ℕ) (nodes node left : ℕ) (rest : List ℕ) (found : Found) → nodes ≡ suc left → step trie node rest ≡ Ends found → walk nodes trie node rest ≡ found
unfolding walk
walk_ends trie nodes node left rest found some here = rw (some, here) refl

pub walk_none : (trie : List ℕ) (nodes node : ℕ) (rest : List ℕ) → nodes ≡ 0 → walk nodes trie node rest ≡ Broken
unfolding walk
walk_none trie nodes node rest none = rw none refl
