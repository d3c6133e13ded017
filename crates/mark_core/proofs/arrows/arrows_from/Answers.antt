use Rattle.std.proofs.Common.{List, sym, subst}
use Rattle.mo_types.specs.declared.edge.Edge.{Edge}
use Rattle.mark_core.specs.inner.Arrows.{AreFrom}
use Rattle.mark_core.proofs.ArrowLemmas.{from_points, in_order}
use Rattle.mark_core.proofs.arrows.arrows_from.Goals as goal

pub part-requires-clause-order : goal.part-requires-clause-order
part-requires-clause-order c = in_order c.args.arrows.now c.args.key.now c.count_before-from.result c.count_up_to-to.result c.count_before-from.ensures.bound c.count_before-from.ensures.point c.count_up_to-to.ensures.point

pub returns : goal.returns
returns c = subst (λ (es : List Edge). AreFrom c.args.arrows.now c.args.key.now es) (sym c.part.ensures) (from_points c.args.arrows.now c.args.key.now c.count_before-from.result c.count_up_to-to.result c.count_up_to-to.ensures.bound c.count_before-from.ensures.point c.count_up_to-to.ensures.point)
