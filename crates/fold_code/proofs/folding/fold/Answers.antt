use Rattle.std.proofs.Common.{◌≡◌, List, ℕ, ap, sym, subst, ◌∙◌, length, map}
use Rattle.fold_code.specs.Fold.{IsFolded}
use Rattle.fold_code.specs.inner.Rounds.{IsNext}
use Rattle.fold_code.specs.inner.Shapes.{ends_of}
use Rattle.fold_code.proofs.RoundLemmas.{below, equal_lists, last_round, next_is_round, smaller}
use Rattle.fold_code.proofs.folding.fold.Goals as goal

next_of : (ends ends' : List (List ℕ)) (firsts firsts' next : List ℕ) → ends' ≡ ends → firsts' ≡ firsts → IsNext ends' firsts' next → IsNext ends firsts next
next_of ends ends' firsts firsts' next e f new = subst (λ (fs : List ℕ). IsNext ends fs next) f (subst (λ (es : List (List ℕ)). IsNext es firsts' next) e new)

pub next_round-requires-clause-below : goal.next_round-requires-clause-below
next_round-requires-clause-below c =
    below c.args.nodes.now c.as_slice-in-rounds.result.now (length c.as_slice.result.now) c.requires
    (c.as_slice-in-rounds.ensures.value ∙ c.in_ok-ends.ensures ∙ ap (map ends_of) c.as_slice-nodes.ensures) (ap length c.as_slice.ensures.value ∙ c.rounds.invariant.numbers.each)

pub returns-then-eq : goal.returns-then-eq
returns-then-eq c =
    subst (IsFolded c.args.nodes.now) (sym c.from_vec.ensures)
    (last_round c.args.nodes.now c.in_ok-ends.ends.items c.rounds.firsts.items c.in_ok-next.next.items c.requires (c.in_ok-ends.ensures ∙ ap (map ends_of) c.as_slice-nodes.ensures) c.rounds.invariant
    (next_of c.in_ok-ends.ends.items c.as_slice-in-rounds.result.now c.rounds.firsts.items c.as_slice.result.now c.in_ok-next.next.items c.as_slice-in-rounds.ensures.value c.as_slice.ensures.value c.in_ok-next.ensures)
    (equal_lists c.in_ok-next.next.items c.rounds.firsts.items (sym c.eq.ensures ∙ c.if-eq.true)))

pub rounds-smaller : goal.rounds-smaller
rounds-smaller c =
    smaller c.args.nodes.now c.in_ok-ends.ends.items c.rounds.firsts.items c.in_ok-next.next.items (c.in_ok-ends.ensures ∙ ap (map ends_of) c.as_slice-nodes.ensures) c.rounds.invariant
    (next_of c.in_ok-ends.ends.items c.as_slice-in-rounds.result.now c.rounds.firsts.items c.as_slice.result.now c.in_ok-next.next.items c.as_slice-in-rounds.ensures.value c.as_slice.ensures.value c.in_ok-next.ensures)
    (sym c.eq.ensures ∙ c.if-eq.false)

pub rounds-preserved : goal.rounds-preserved
rounds-preserved c =
    next_is_round c.args.nodes.now c.in_ok-ends.ends.items c.rounds.firsts.items c.in_ok-next.next.items c.requires (c.in_ok-ends.ensures ∙ ap (map ends_of) c.as_slice-nodes.ensures) c.rounds.invariant
    (next_of c.in_ok-ends.ends.items c.as_slice-in-rounds.result.now c.rounds.firsts.items c.as_slice.result.now c.in_ok-next.next.items c.as_slice-in-rounds.ensures.value c.as_slice.ensures.value c.in_ok-next.ensures)
