-- The kept atoms of the same edges are one list.
use Rattle.std.proofs.Common.{◌≡◌, true, List}
use Rattle.std.proofs.lemmas.List.Elements.{All-contains}
use Rattle.list_lemmas.proofs.Members.{In, Contains_from_in}
use Rattle.list_lemmas.proofs.Rising.{rising_same}
use Rattle.mo_types.specs.declared.edge.Edge.{Edge}
use Rattle.mo_types.specs.declared.key.AtomKey.{AtomKey}
use Rattle.mo_types.proofs.KeyOrder.{compare_keys_total}
use Rattle.mark_core.specs.Kept.{IsKept, has}
use Rattle.mark_core.proofs.SetLemmas.{in_from_has}

all_of : (edges supports : List Edge) (roots a b : List AtomKey) → IsKept edges supports roots a → IsKept edges supports roots b → (atom : AtomKey) → In atom a → In atom b
all_of edges supports roots a b p q atom h =
    in_from_has b atom (All-contains (λ k. has b k ≡ true) a atom (p.least (has b) q.closed) (Contains_from_in a atom h))

pub kept_is_one : (edges supports : List Edge) (roots a b : List AtomKey) → IsKept edges supports roots a → IsKept edges supports roots b → a ≡ b
kept_is_one edges supports roots a b p q = rising_same compare_keys_total a b p.rises q.rises (all_of edges supports roots a b p q) (all_of edges supports roots b a q p)
