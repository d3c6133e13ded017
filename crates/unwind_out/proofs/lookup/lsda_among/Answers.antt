use Rattle.std.proofs.Common.{◌+◌, ◌*◌, refl, arith}
use Rattle.unwind_out.specs.Lookup.{lsda_row}
use Rattle.unwind_out.proofs.Places.{passing_found}
use Rattle.unwind_out.proofs.lookup.lsda_among.Goals as goal

pub returns-in-Some : goal.returns-in-Some
returns-in-Some c =
    passing_found (lsda_row c.args.section.now) 8 c.args.first c.args.count c.args.function c.loop-k.k (c.args.first + 8 * c.loop-k.k) c.in-Some.lsda c.lsda_at.result
    c.loop-k.invariant (omega arith) refl c.lsda_at.ensures c.in-Some.is
