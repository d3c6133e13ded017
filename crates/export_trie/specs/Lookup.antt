-- The walk through an export trie (`loader.h`: LC_DYLD_EXPORTS_TRIE). A node is the uleb128 size of its data,
-- the data, a byte that counts its children, and for each child the bytes of an edge, a NUL, and the uleb128
-- place of the child's node. The data, where there is any, begins with two uleb128 numbers, the flags and the address.
use Rattle.std.specs.Prelude.{ℕ, zero, suc, ◌+◌, ◌≤◌, ◌==◌, nat_lt, if◌then◌else◌, List, length, drop, slice_get}
use Rattle.std.specs.Option.{option_map_or}
use Rattle.mo_bytes.specs.Uleb.{uleb_at}
use Rattle.export_trie.specs.declared.lookup.Found.{Found}
use Rattle.export_trie.specs.declared.lookup.Found.TheVariants.{At, Absent, Broken}
use Rattle.export_trie.specs.declared.lookup.Step.{Step}
use Rattle.export_trie.specs.declared.lookup.Step.TheVariants.{Ends, Goes}
use Rattle.export_trie.specs.Strings.{begins, before_nul}

-- the flags and the address at a place, where there is data
unfoldable pub data_at : List ℕ → ℕ → ℕ → Found
data_at trie size at =
    if size == 0 then Absent
    else option_map_or (λ flags. option_map_or (λ address. At flags.0 address.0) (uleb_at trie flags.1) Broken) (uleb_at trie at) Broken

-- the step from a node to another, which must be a later one
abbrev pub down : ℕ → ℕ → ℕ → Step
down node child edge = if nat_lt node child then Goes child edge else Ends Broken

-- the step from `node` to the first of the children from place `at` on whose edge begins the rest of the name
unfoldable pub child_at : List ℕ → ℕ → ℕ → ℕ → List ℕ → Step
child_at trie node zero at rest = Ends Absent
child_at trie node (suc count) at rest =
    option_map_or
    (λ edge. option_map_or
    (λ child. if begins edge rest then down node child.0 (length edge) else child_at trie node count child.1 rest)
    (uleb_at trie (at + length edge + 1)) (Ends Broken))
    (before_nul (drop at trie)) (Ends Broken)

-- the step of the walk from a node: it ends there where nothing is left of the name
unfoldable pub step : List ℕ → ℕ → List ℕ → Step
step trie node rest =
    option_map_or
    (λ size. if length rest == 0 then Ends (data_at trie size.0 size.1)
    else option_map_or (λ count. child_at trie node count (size.1 + size.0 + 1) rest) (slice_get trie (size.1 + size.0)) (Ends Broken))
    (uleb_at trie node) (Ends Broken)

-- an edge isn't longer than the rest of the name that it begins
abbrev pub EdgeWithin : ℕ → Step → Type 0
EdgeWithin rest (Ends found) = Unit {0}
EdgeWithin rest (Goes child edge) = edge ≤ rest

-- the end of a step, or what comes after it
abbrev pub after : (ℕ → ℕ → Found) → Step → Found
after next (Ends found) = found
after next (Goes child edge) = next child edge

-- a walk from a node, of at most so many nodes
unfoldable pub walk : ℕ → List ℕ → ℕ → List ℕ → Found
walk zero trie node rest = Broken
walk (suc nodes) trie node rest = after (λ child edge. walk nodes trie child (drop edge rest)) (step trie node rest)

-- what the trie says of a name. The walk begins at node 0. It leaves the bytes if it doesn't end, since it goes
-- to later nodes alone: so it has at most as many nodes as there are bytes
unfoldable pub lookup : List ℕ → List ℕ → Found
lookup trie name = walk (length trie) trie 0 name
