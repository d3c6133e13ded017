use Rattle.std.proofs.Common.{rules, ◌≡◌, get_or}
use Rattle.resolve.specs.Table.{goals_of}
use Rattle.slot_needs.proofs.UnmetLemmas.{files_end, files_go_on}
use Rattle.slot_needs.proofs.unmet.least_of.Goals as goal

pub loop-at-preserved : goal.loop-at-preserved
loop-at-preserved c =
    let found : get_or c.args.referring.now.loaded.now.files c.loop-at.at c.file-item.result ≡ c.file-item.result = search rules in
    files_go_on c.args.referring.now.keys.now (goals_of c.args.referring.now.goals.now) c.args.referring.now.loaded.now.files c.loop-at.at c.file-item.result c.loop-at.now c.with_file-now.result c.loop-at.invariant (search rules) found c.with_file-now.ensures

pub returns : goal.returns
returns c = files_end c.args.referring.now.keys.now (goals_of c.args.referring.now.goals.now) c.args.referring.now.loaded.now.files c.loop-at.at c.loop-at.now c.loop-at.invariant (search rules)
