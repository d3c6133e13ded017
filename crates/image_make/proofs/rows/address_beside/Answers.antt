use Rattle.sect_place.proofs.AddressLemmas.{address_is}
use Rattle.image_make.proofs.rows.address_beside.Goals as goal

pub returns : goal.returns
returns c = address_is c.args.layout.now.placed c.args.atom c.address_near.result c.requires c.address_near.ensures
