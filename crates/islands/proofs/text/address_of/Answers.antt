use Rattle.sect_place.proofs.AddressLemmas.{address_is}
use Rattle.islands.proofs.text.address_of.Goals as goal

pub returns : goal.returns
returns c = address_is c.args.layout.now.placed c.args.key.now c.address.result c.requires.once c.address.ensures
