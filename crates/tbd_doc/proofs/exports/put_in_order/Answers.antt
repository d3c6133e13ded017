use Rattle.std.proofs.lemmas.List.Filters.{dedup_is}
use Rattle.tbd_doc.proofs.OrderLemmas.{ordered}
use Rattle.tbd_doc.proofs.exports.put_in_order.Goals as goal

pub returns : goal.returns
returns c = ordered _ _ _ c.sort_unstable.ensures.permutation c.sort_unstable.ensures.sorted (dedup_is _ _ _ c.dedup.ensures.filtered)
