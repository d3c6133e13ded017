use Rattle.std.proofs.Common.{rules}
use Rattle.link_files.specs.Resolved.{files_of, table_of}
use Rattle.link_files.proofs.LostLemmas.{lost_told, none_lost}
use Rattle.link_files.proofs.lost.all_defined.Goals as goal

pub returns-in-Some : goal.returns-in-Some
returns-in-Some c =
    lost_told c.args.resolved.now.command.now c.args.resolved.now.libs.now (files_of c.args.resolved.now) (table_of c.args.resolved.now) c.args.keys.now c.in_ok-wanted.wanted c.as_slice-2.result.now c.undefined.result c.in-Some.lost c.in_ok-told-in-Some.field-0
    c.in_ok-wanted.ensures (search rules) c.undefined.ensures c.in-Some.is c.in_ok-told-in-Some.ensures

pub returns : goal.returns
returns c =
    none_lost c.args.resolved.now.command.now c.args.resolved.now.libs.now (files_of c.args.resolved.now) (table_of c.args.resolved.now) c.args.keys.now c.in_ok-wanted.wanted c.as_slice-2.result.now c.undefined.result
    c.in_ok-wanted.ensures (search rules) c.undefined.ensures c.in-None.is
