use Rattle.std.proofs.Common.{arith}
use Rattle.islands.proofs.Told.{address_told}
use Rattle.islands.proofs.quick.atom_place.Goals as goal

pub returns-then-from-end-clause-place : goal.returns-then-from-end-clause-place
returns-then-from-end-clause-place c =
    let told = address_told c.args.layout.now c.args.key.now c.in-Some.at c.requires.layout c.in-Some.ensures in
    (c.requires.layout.below c.args.key.now told.0 (omega (arith, told.1, c.from.ensures, c.if-from-end.true, c.requires.end)), omega (arith, told.1, c.from-then-from-end.ensures, c.from-then-from-end-2.ensures))
