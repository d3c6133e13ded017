use Rattle.std.proofs.Common.{arith}
use Rattle.mo_bytes.proofs.Ulebs.{counted_more, counted_all, uleb_least, length-uleb_most, length-uleb_pos}
use Rattle.mo_bytes.proofs.uleb.uleb_len.Goals as goal

pub overflow_add-count : goal.overflow_add-count
overflow_add-count c = omega (arith, c.loop-rest.invariant, length-uleb_most c.args.value (omega arith), length-uleb_pos c.loop-rest.rest)

pub loop-rest-preserved : goal.loop-rest-preserved
loop-rest-preserved c = counted_more _ _ _ c.loop-rest-test.true c.loop-rest.invariant

pub returns-clause-exact : goal.returns-clause-exact
returns-clause-exact c = counted_all _ _ _ c.loop-rest-test.false c.loop-rest.invariant

pub returns-clause-least : goal.returns-clause-least
returns-clause-least c =
    λ bytes h. let least = uleb_least bytes _ h in omega (arith, counted_all _ _ _ c.loop-rest-test.false c.loop-rest.invariant)

pub returns-clause-most : goal.returns-clause-most
returns-clause-most c =
    omega (arith, counted_all _ _ _ c.loop-rest-test.false c.loop-rest.invariant, length-uleb_most c.args.value (omega arith))
