use Rattle.std.proofs.Common.{◌≡◌, length, arith}
use Rattle.fixup_chain.specs.inner.Held.{imports_in}
use Rattle.fixup_chain.proofs.EncodeLemmas.{few_imports, many_made, refused}
use Rattle.fixup_chain.proofs.encoding.encode.Goals as goal

pub returns-then-len-ge-IMPORTS-clause-fault : goal.returns-then-len-ge-IMPORTS-clause-fault
returns-then-len-ge-IMPORTS-clause-fault c =
    many_made c.args.layout.now c.as_slice-fixups.result.now c.args.fixups.now c.in_ok-formed.formed.wide c.in_ok-formed.formed.rows.items
    c.as_slice-fixups.ensures c.in_ok-formed.ensures.form c.in_ok-formed.ensures.rows (omega arith)

pub walk-requires-clause-few : goal.walk-requires-clause-few
walk-requires-clause-few c =
    let size : length c.in_ok-formed.formed.rows.items ≡ length (imports_in c.in_ok-formed.formed.wide c.as_slice-fixups.result.now) =
    few_imports c.in_ok-formed.formed.wide c.as_slice-fixups.result.now c.in_ok-formed.formed.rows.items c.in_ok-formed.ensures.rows in
    omega (arith, size)

pub returns-in-Some-clause-fault : goal.returns-in-Some-clause-fault
returns-in-Some-clause-fault c =
    refused c.args.layout.now c.as_slice-fixups.result.now c.args.fixups.now c.in_ok-formed.formed.wide c.in_ok-formed.formed.rows.items c.in-Some.fault
    c.as_slice-fixups.ensures c.in_ok-formed.ensures.form c.in_ok-formed.ensures.rows (omega arith) c.in-Some.ensures
