use Rattle.std.proofs.Common.{rules, arith}
use Rattle.load_cmds.proofs.sizes.size_of_others.Goals as goal

-- src/sizes.rt:84:1
pub returns-clause-small : goal.returns-clause-small
returns-clause-small c =
    let form = c.form_size.ensures.small in
    let tables = c.table_size.ensures.small in
    let libraries = c.libraries_size.ensures.small in
    let paths = c.rpaths_size.ensures.small in
    omega (arith, c.as_slice.type_inv.1, c.as_slice-2.type_inv.1)
