use Rattle.std.proofs.Common.{sym, arith}
use Rattle.islands.proofs.Told.{text_told}
use Rattle.islands.proofs.ground.stands_in_text.Goals as goal

pub returns-then-from-ground : goal.returns-then-from-ground
returns-then-from-ground c = sym (text_told c.args.layout.now c.args.key.now c.args.at c.requires.layout c.requires.at (omega (arith, c.if-from-ground.true, c.from.ensures, c.requires.ground.end)))
