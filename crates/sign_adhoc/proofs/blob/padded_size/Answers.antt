use Rattle.std.proofs.Common.{arith}
use Rattle.sign_adhoc.proofs.PageLemmas.{size_fits}
use Rattle.sign_adhoc.proofs.blob.padded_size.Goals as goal

pub overflow_add-result : goal.overflow_add-result
overflow_add-result c =
    let bound = size_fits _ _ c.requires c.ranges.limit.fits in
    let is = c.blob_size.ensures in
    omega arith

pub overflow_mul-result : goal.overflow_mul-result
overflow_mul-result c =
    let bound = size_fits _ _ c.requires c.ranges.limit.fits in
    let is = c.blob_size.ensures in
    omega arith
