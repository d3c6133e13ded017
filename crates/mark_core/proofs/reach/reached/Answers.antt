use Rattle.std.proofs.Common.{ℕ, ◌≤◌, rules, subst}
use Rattle.std.proofs.lemmas.Option.{get_or_from_slice_get, slice_get_within}
use Rattle.mark_core.proofs.ReachLemmas.{ends, next, starts}
use Rattle.mark_core.proofs.reach.reached.Goals as goal

pub atoms-init : goal.atoms-init
atoms-init c = starts c.args.arrows.now c.args.roots.now c.new.result.keys c.in_ok-found.found.keys (search rules) c.in_ok-found.ensures

pub atoms-preserved : goal.atoms-preserved
atoms-preserved c =
    next c.args.arrows.now c.arrows_from.result.now c.args.roots.now c.atoms.found.keys c.in_ok-found-2.found.keys c.atoms.at c.index.result.now c.atoms.invariant
    (slice_get_within c.atoms.found.keys c.atoms.at c.index.result.now c.index.ensures)
    (get_or_from_slice_get c.atoms.found.keys c.atoms.at c.index.result.now c.index.result.now c.index.ensures)
    c.arrows_from.ensures c.in_ok-found-2.ensures

pub returns : goal.returns
returns c = ends c.args.arrows.now c.args.roots.now c.atoms.found.keys c.atoms.at c.atoms.invariant (subst (λ (n : ℕ). n ≤ c.atoms.at) c.len.ensures.len c.atoms-test.false)
