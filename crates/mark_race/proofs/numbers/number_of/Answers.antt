use Rattle.mark_race.proofs.NumberLemmas.{is_at, one_more, stands_at}
use Rattle.mark_race.proofs.numbers.number_of.Goals as goal

pub returns-then-is_at-clause-place : goal.returns-then-is_at-clause-place
returns-then-is_at-clause-place c = let h = c.is_at.ensures c.if-is_at.true in stands_at c.args.atoms.now.keys c.args.atom c.args.maybe h.0 h.1

pub returns-clause-place : goal.returns-clause-place
returns-clause-place c = is_at c.args.atoms.now.keys c.insert_full.new.self.keys c.args.atom c.in_ok-number.number c.in_ok-number.ensures.keys c.in_ok-number.ensures.stored
