use Rattle.link_gen.proofs.DrawLemmas.{AreDrawn}
use Rattle.link_gen.proofs.draws.draw.Given as goal

abbrev pub invariant-loop-number : goal.invariant-loop-number
invariant-loop-number l = AreDrawn l.count l.first l.number l.x l.drawn.items
