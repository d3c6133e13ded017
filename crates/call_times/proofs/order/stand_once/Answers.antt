use Rattle.std.proofs.Common.{◌≡◌, arith}
use Rattle.std.specs.declared.cmp.Ordering.TheVariants.{Less}
use Rattle.std.proofs.lemmas.List.Sorted.{all_adjacent_more}
use Rattle.mo_types.specs.Keys.{compare_keys}
use Rattle.sect_place.specs.declared.layout.Placed.{Placed}
use Rattle.call_times.proofs.Rise.{apart, once}
use Rattle.call_times.proofs.order.stand_once.Goals as goal

pub loop-i-preserved : goal.loop-i-preserved
loop-i-preserved c = all_adjacent_more c.args.placed.now (λ (a : Placed) (b : Placed). compare_keys a.atom b.atom ≡ Less) c.loop-i.i (omega arith) c.loop-i.invariant
    (λ d. apart (λ (x y : Placed). compare_keys x.atom y.atom) c.args.placed.now c.loop-i.i _ _ d (omega arith) c.loop-i-test.true c.in-Less.ensures)

pub returns : goal.returns
returns c = λ _. once c.args.placed.now c.loop-i.i c.loop-i.invariant c.loop-i-test.false
