use Rattle.unwind_out.proofs.Uses.{new_tested}
use Rattle.unwind_out.proofs.numbers.is_new.Goals as goal

pub returns-then-guesses-guess_of-eq0 : goal.returns-then-guesses-guess_of-eq0
returns-then-guesses-guess_of-eq0 c = new_tested c.args.numbers.now c.args.guesses.now c.args.number c.guess_of.result c.requires.known c.guess_of.ensures.exact c.if-guesses-guess_of-eq0.true
