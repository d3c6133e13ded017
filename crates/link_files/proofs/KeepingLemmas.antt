-- What is kept by the edges that lead away from the roots is what is kept by all.
use Rattle.std.proofs.Common.{◌≡◌, List, ap, ◌∙◌, subst}
use Rattle.std.specs.Prelude.{IfOk, Result, Ok, Err}
use Rattle.std.specs.List.{filter}
use Rattle.mark_core.specs.Kept.{IsKept, begins_away, has, leads_away}
use Rattle.mark_core.proofs.KeptLemmas.{kept_by_others, kept_without}
use Rattle.mo_types.specs.declared.edge.Edge.{Edge}
use Rattle.mo_types.specs.declared.key.AtomKey.{AtomKey}
use Rattle.mo_types.specs.declared.memory.OutOfMemory.{OutOfMemory}

pub kept_by_all : (result : Result (List AtomKey) OutOfMemory) (edges supports some_edges some_supports : List Edge) (set read roots : List AtomKey) → some_edges ≡ filter (leads_away set) edges → some_supports ≡ filter (begins_away set) supports → ((atom : AtomKey) → has set atom ≡ has read atom) → read ≡ roots
    → IfOk result (IsKept some_edges some_supports set) → IfOk result (IsKept edges supports roots)
kept_by_all (Ok kept) edges supports some_edges some_supports set read roots e s same r is =
    kept_by_others edges supports set roots kept (λ atom. same atom ∙ ap (λ (ks : List AtomKey). has ks atom) r)
    (kept_without edges supports set kept
    (subst (λ (es : List Edge). IsKept es (filter (begins_away set) supports) set kept) e (subst (λ (ss : List Edge). IsKept some_edges ss set kept) s is)))
kept_by_all (Err fault) edges supports some_edges some_supports set read roots e s same r is = tt
