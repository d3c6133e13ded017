use Rattle.sect_place.proofs.Found.{holds_placed}
use Rattle.sect_place.proofs.lookup.address_at.Goals as goal

pub returns-then-is_at : goal.returns-then-is_at
returns-then-is_at c = let stands = c.is_at.ensures c.if-is_at.true in holds_placed c.args.placed.now c.args.atom.now c.args.at _ stands.within (stands.of_atom _)
