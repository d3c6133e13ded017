use Rattle.islands.proofs.Few.{found_at}
use Rattle.islands.proofs.numbering.has_at.Goals as goal

pub returns-in-Some : goal.returns-in-Some
returns-in-Some c = λ yes.
    found_at c.args.keyed.now c.args.place c.in-Some.each.now c.args.target.now c.in-Some.ensures.lookup.3.0 c.in-Some.ensures.lookup.1 (c.is_same.ensures yes)
