use Rattle.std.proofs.Common.{rules}
use Rattle.dylib_read.proofs.DylibLemmas.{all_read, exports_faulty, head_refused}
use Rattle.dylib_read.proofs.dylib.read_dylib.Goals as goal

pub returns-in_err-head : goal.returns-in_err-head
returns-in_err-head c = head_refused c.args.file.now c.in_err-head.field-0.0 c.from_residual.result c.in_err-head.ensures (search rules)

pub returns-in_err-exports : goal.returns-in_err-exports
returns-in_err-exports c =
    exports_faulty c.args.file.now c.as_slice.result.now c.in_ok-head.head c.in_err-exports.field-0.0 c.from_residual-in_err-exports.result
    c.in_ok-head.ensures c.as_slice.ensures c.in_err-exports.ensures (search rules)

pub returns : goal.returns
returns c =
    all_read c.args.file.now c.as_slice.result.now c.in_ok-head.head c.in_ok-exports.exports c.with_exports.result
    c.in_ok-head.ensures c.as_slice.ensures c.in_ok-exports.ensures c.with_exports.ensures
