use Rattle.std.proofs.Common.{rules, ◌≡◌, ◌∙◌, get_or}
use Rattle.resolve.specs.Table.{goals_of}
use Rattle.slot_needs.proofs.FileLemmas.{files_end, files_go_on}
use Rattle.slot_needs.proofs.walk.note_files.Goals as goal

pub loop-at-preserved : goal.loop-at-preserved
loop-at-preserved c =
    let found : get_or c.args.referring.now.loaded.now.files c.loop-at.at c.file-item.result ≡ c.file-item.result = search rules in (
      c.in_ok-now.ensures.pool ∙ c.loop-at.invariant.0,
      files_go_on c.args.referring.now.symbols.now.literals c.args.referring.now.keys.now (goals_of c.args.referring.now.goals.now) c.args.referring.now.loaded.now.files c.loop-at.at c.file-item.result c.args.before.needs c.loop-at.now.needs c.in_ok-now.now.needs c.loop-at.invariant.1
          (search rules) found c.in_ok-now.ensures.needs,
    )

pub returns-clause-needs : goal.returns-clause-needs
returns-clause-needs c =
    files_end c.args.referring.now.symbols.now.literals c.args.referring.now.keys.now (goals_of c.args.referring.now.goals.now) c.args.referring.now.loaded.now.files c.loop-at.at c.args.before.needs c.loop-at.now.needs c.loop-at.invariant.1 (search rules)
