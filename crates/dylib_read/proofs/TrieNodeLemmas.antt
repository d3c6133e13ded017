-- The reading of a node's edges, one after the other.
use Rattle.std.proofs.Common.{◌≡◌, ℕ, suc, ◌+◌, ◌-◌, ◌<◌, ◌≤◌, List, [], ◌∷◌, ◌++◌, length, Option, Some, None, refl, sym, ap, ◌∙◌, arith, append_assoc, append-nil}
use Rattle.std.proofs.Math.Nat.{sub-zero}
use Rattle.std.specs.Option.{option_map}
use Rattle.dylib_read.specs.declared.trie_node.Edge.{Edge}
use Rattle.dylib_read.specs.declared.trie_node.EdgeRead.{EdgeRead}
use Rattle.dylib_read.specs.TrieNodes.{edge_at, edges_at}

abbrev pub with_before : List Edge → Option (List Edge) → Option (List Edge)
with_before front edges = option_map (λ rest. front ++ rest) edges

-- `front` has the edges before the one at `at`, which has the number i
pub record IsReading (trie : List ℕ) (count first i at : ℕ) (front : List Edge) : Type 0 where
  pub same : with_before front (edges_at trie (count - i) at) ≡ edges_at trie count first
  pub within : at ≤ length trie

with_nothing : (edges : Option (List Edge)) → with_before [] edges ≡ edges
with_nothing None = refl
with_nothing (Some edges) = refl

with_more : (front : List Edge) (x : Edge) (edges : Option (List Edge)) → with_before front (option_map (λ rest. x ∷ rest) edges) ≡ with_before (front ++ x ∷ []) edges
with_more front x None = refl
with_more front x (Some edges) = ap Some (sym (append_assoc front (x ∷ []) edges))

pub reading_starts : (trie : List ℕ) (count first : ℕ) → first ≤ length trie → IsReading trie count first 0 first []
reading_starts trie count first within = record { same = rw sub-zero (with_nothing (edges_at trie count first)); within = within }

pub reading_goes_on : (trie : List ℕ) (count first i at : ℕ) (front : List Edge) (read : EdgeRead) → IsReading trie count first i at front → i < count → Some read ≡ edge_at trie at → read.next ≤ length trie → IsReading trie count first (i + 1) read.next (front ++ read.edge ∷ [])
reading_goes_on trie count first i at front read reading more here within =
    let e : count - i ≡ suc (count - (i + 1)) = omega arith in
    let next : edges_at trie (count - i) at ≡ option_map (λ rest. read.edge ∷ rest) (edges_at trie (count - (i + 1)) read.next) = rw (e, ← here) refl in
    record {
      same = sym (with_more front read.edge (edges_at trie (count - (i + 1)) read.next)) ∙ (ap (with_before front) (sym next) ∙ reading.same);
      within = within;
    }

pub reading_breaks : (trie : List ℕ) (count first i at : ℕ) (front : List Edge) → IsReading trie count first i at front → i < count → None ≡ edge_at trie at → edges_at trie count first ≡ None
reading_breaks trie count first i at front reading more here =
    let e : count - i ≡ suc (count - (i + 1)) = omega arith in
    let next : edges_at trie (count - i) at ≡ None = rw (e, ← here) refl in
    sym reading.same ∙ ap (with_before front) next

pub reading_ends : (trie : List ℕ) (count first i at : ℕ) (front : List Edge) → IsReading trie count first i at front → count ≤ i → edges_at trie count first ≡ Some front
reading_ends trie count first i at front reading past =
    let e : count - i ≡ 0 = omega arith in
    sym reading.same ∙ rw e (ap Some (append-nil front))

pub ruleset readings = (reading_starts, reading_goes_on, reading_breaks, reading_ends)
