use Rattle.std.proofs.Common.{ap}
use Rattle.sect_place.specs.declared.layout.Placed.{Placed}
use Rattle.sect_place.proofs.Found.{holds_placed}
use Rattle.sect_place.proofs.lookup.find.Goals as goal

pub returns-in-Some : goal.returns-in-Some
returns-in-Some c = let stands = c.in-Some.ensures in holds_placed c.args.placed.now c.args.atom.now c.in-Some.at _ stands.within (stands.of_atom _)

pub returns-in-None : goal.returns-in-None
returns-in-None c = λ address h. c.in-None.ensures h.0 (record { atom = c.args.atom.now; address = address }) h.1 (ap (λ (p : Placed). p.atom) h.2)
