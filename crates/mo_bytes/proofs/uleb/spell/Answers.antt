use Rattle.std.proofs.Common.{refl, arith}
use Rattle.mo_bytes.proofs.Ulebs.{spelled_within, spelled_more, spelled_last, length-uleb_most}
use Rattle.mo_bytes.proofs.uleb.spell.Goals as goal

pub loop-rest-init : goal.loop-rest-init
loop-rest-init c =
    record { spelling = record { whole = refl; all = c.told-bytes; few = length-uleb_most c.args.value (omega arith) }; few = omega arith }

pub bounds-bytes-count : goal.bounds-bytes-count
bounds-bytes-count c = spelled_within _ _ _ _ c.loop-rest.invariant.spelling c.loop-rest.invariant.few

pub overflow_add-count : goal.overflow_add-count
overflow_add-count c = let within = spelled_within _ _ _ _ c.loop-rest.invariant.spelling c.loop-rest.invariant.few in omega arith

pub loop-rest-preserved : goal.loop-rest-preserved
loop-rest-preserved c =
    let within = spelled_within _ _ _ _ c.loop-rest.invariant.spelling c.loop-rest.invariant.few in
    record { spelling = spelled_more _ _ _ _ c.loop-rest.invariant.spelling within c.loop-rest-test.true; few = omega arith }

pub bounds-bytes-count-2 : goal.bounds-bytes-count-2
bounds-bytes-count-2 c = spelled_within _ _ _ _ c.loop-rest.invariant.spelling c.loop-rest.invariant.few

pub overflow_add-result : goal.overflow_add-result
overflow_add-result c = let within = spelled_within _ _ _ _ c.loop-rest.invariant.spelling c.loop-rest.invariant.few in omega arith

pub returns-clause-few : goal.returns-clause-few
returns-clause-few c = let within = spelled_within _ _ _ _ c.loop-rest.invariant.spelling c.loop-rest.invariant.few in omega arith

pub returns-clause-front : goal.returns-clause-front
returns-clause-front c =
    let within = spelled_within _ _ _ _ c.loop-rest.invariant.spelling c.loop-rest.invariant.few in
    spelled_last _ _ _ _ c.loop-rest.invariant.spelling within c.loop-rest-test.false
