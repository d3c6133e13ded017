use Rattle.std.proofs.Common.{refl, arith}
use Rattle.mo_ar.proofs.PlaceLemmas.{number_fits}
use Rattle.mo_ar.proofs.places.numbered.Goals as goal

pub overflow_cast-number : goal.overflow_cast-number
overflow_cast-number c =
    omega (arith, number_fits c.args.size c.args.places.now c.loop-i.i _ c.requires c.loop-i-test.true refl c.if-place-ge-PLACE_LIMIT.false)
