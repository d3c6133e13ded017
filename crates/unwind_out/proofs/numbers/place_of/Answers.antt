use Rattle.unwind_out.proofs.Uses.{guess_holds}
use Rattle.unwind_out.proofs.numbers.place_of.Goals as goal

pub returns-then-numbers-guess : goal.returns-then-numbers-guess
returns-then-numbers-guess c = guess_holds c.args.numbers.now _ c.args.number c.requires.once c.if-guess-numbers.true c.if-numbers-guess.true
