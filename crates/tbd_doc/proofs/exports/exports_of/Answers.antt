use Rattle.tbd_doc.proofs.OrderLemmas.{exports_made, weak_rises}
use Rattle.std.proofs.Common.{◌∙◌}
use Rattle.tbd_doc.proofs.exports.exports_of.Goals as goal

pub exports_among-requires : goal.exports_among-requires
exports_among-requires c = weak_rises c.args.weak.items _ _ c.put_in_order-2.ensures c.as_slice-2.ensures.value

pub returns : goal.returns
returns c = c.from_vec.ensures ∙ exports_made c.args.names.items c.args.weak.items _ _ _ _ _ c.put_in_order.ensures c.put_in_order-2.ensures c.as_slice.ensures.value c.as_slice-2.ensures.value c.in_ok-exports.ensures
