use Rattle.std.proofs.Common.{◌≡◌, ◌++◌, List, ap, sym, subst, ◌∙◌}
use Rattle.island_core.specs.Far.{has}
use Rattle.island_core.specs.inner.Rounds.{new_pairs_of}
use Rattle.island_core.specs.declared.row.Pair.{Pair}
use Rattle.island_core.proofs.RoundLemmas.{IsBelow, empty, ends, fewer, next, not_empty, starts}
use Rattle.island_core.proofs.rounds.far_pairs.Goals as goal

pub rounds-init : goal.rounds-init
rounds-init c = subst (IsBelow c.args.scale.now c.args.rows.now) (sym c.new-far.ensures.items) (starts c.args.scale.now c.args.rows.now)

pub returns-then-is_empty : goal.returns-then-is_empty
returns-then-is_empty c =
    ends c.args.scale.now c.args.rows.now c.rounds.far.items c.in_ok-more.more.items c.rounds.invariant
    (subst (λ (set : List Pair). c.in_ok-more.more.items ≡ new_pairs_of c.args.scale.now set c.args.rows.now) c.as_slice-in-rounds-2.ensures.value c.in_ok-more.ensures)
    (sym c.as_slice-found.ensures.value ∙ empty c.as_slice-found.result.now c.if-is_empty.ensures)

pub rounds-smaller : goal.rounds-smaller
rounds-smaller c =
    fewer c.args.scale.now c.args.rows.now c.rounds.far.items c.in_ok-more.more.items c.in_ok-far.far.items
    (subst (λ (set : List Pair). c.in_ok-more.more.items ≡ new_pairs_of c.args.scale.now set c.args.rows.now) c.as_slice-in-rounds-2.ensures.value c.in_ok-more.ensures)
    (λ pair. c.in_ok-far.ensures.same pair ∙ ap (λ (ps : List Pair). has (c.rounds.far.items ++ ps) pair) c.as_slice-found.ensures.value)
    (λ none. not_empty c.as_slice-found.result.now c.if-is_empty.ensures (c.as_slice-found.ensures.value ∙ none))

pub rounds-preserved : goal.rounds-preserved
rounds-preserved c =
    next c.args.scale.now c.args.rows.now c.rounds.far.items c.in_ok-more.more.items c.in_ok-far.far.items c.requires.scale c.requires.in_turn c.rounds.invariant
    (subst (λ (set : List Pair). c.in_ok-more.more.items ≡ new_pairs_of c.args.scale.now set c.args.rows.now) c.as_slice-in-rounds-2.ensures.value c.in_ok-more.ensures)
    (λ pair. c.in_ok-far.ensures.same pair ∙ ap (λ (ps : List Pair). has (c.rounds.far.items ++ ps) pair) c.as_slice-found.ensures.value)
    c.in_ok-far.ensures.rises
