use Rattle.lib_bind.proofs.ReachLemmas.{links_at}
use Rattle.lib_bind.proofs.reach.links_of.Goals as goal

pub returns : goal.returns
returns c = links_at c.args.links.now c.args.document c.index-links-document.result c.as_slice.result.now c.requires c.index-links-document.is c.as_slice.ensures
