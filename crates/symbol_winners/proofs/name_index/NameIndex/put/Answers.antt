use Rattle.std.proofs.Common.{refl}
use Rattle.symbol_winners.proofs.PlaceSteps.{put_place}
use Rattle.symbol_winners.proofs.name_index.NameIndex.put.Goals as goal

pub returns-clause-places : goal.returns-clause-places
returns-clause-places c = λ name other at.
    put_place c.args.self.now.names.now c.args.self.now.places.items _ c.args.id c.args.place name other c.requires.numbering at c.requires.id refl
