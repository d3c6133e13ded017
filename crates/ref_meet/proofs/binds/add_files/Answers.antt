use Rattle.std.proofs.Common.{◌≡◌, get_or, rules}
use Rattle.resolve.specs.Table.{goals_of}
use Rattle.ref_meet.specs.Binds.{binds_at}
use Rattle.ref_meet.proofs.BindLemmas.{files_end, files_more}
use Rattle.ref_meet.proofs.binds.add_files.Goals as goal

pub loop-at-preserved : goal.loop-at-preserved
loop-at-preserved c =
    let found : get_or c.args.referring.now.loaded.now.files c.loop-at.at c.file-item.result ≡ c.file-item.result = search rules in
    files_more (binds_at c.args.referring.now.loaded.now.files c.args.referring.now.symbols.now.literals c.args.referring.now.keys.now (goals_of c.args.referring.now.goals.now))
    c.args.referring.now.loaded.now.files c.loop-at.at c.file-item.result c.args.out.now.items c.loop-at.out.items c.add_file.new.out.items c.loop-at.invariant (search rules) found c.in_ok-add_file.ensures

pub returns : goal.returns
returns c =
    files_end (binds_at c.args.referring.now.loaded.now.files c.args.referring.now.symbols.now.literals c.args.referring.now.keys.now (goals_of c.args.referring.now.goals.now))
    c.args.referring.now.loaded.now.files c.loop-at.at c.args.out.now.items c.loop-at.out.items c.loop-at.invariant (search rules)
