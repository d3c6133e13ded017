use Rattle.sect_place.proofs.AddressLemmas.{address_is}
use Rattle.unwind_link.proofs.rows.address_of.Goals as goal

pub returns : goal.returns
returns c = address_is c.args.layout.now.placed c.args.atom c.address.result c.requires c.address.ensures
