use Rattle.std.proofs.Common.{ℕ, ap, arith}
use Rattle.std.proofs.Math.ListN.{set}
use Rattle.unwind_out.proofs.Uses.{known_pushed}
use Rattle.unwind_out.proofs.numbers.push_new.Goals as goal

pub returns-clause-known : goal.returns-clause-known
returns-clause-known c =
    known_pushed c.args.numbers.now.items c.push.new.self.items c.args.guesses.now _ c.args.number c.len.result c.requires.known c.in_ok-push.ensures.items c.requires.none
    (ap (λ (n : ℕ). set c.args.guesses.now n c.len.result) c.guess_of.ensures.exact) (omega (arith, c.in_ok-push.ensures.len)) (omega arith)
