use Rattle.sect_list.proofs.Homes.{same_home}
use Rattle.sect_list.proofs.home.next_home.Goals as goal

pub returns-then-is_beside : goal.returns-then-is_beside
returns-then-is_beside c = same_home c.args.files.now c.args.last.now.file c.args.key.now.file c.args.last.now.section c.args.key.now.section _ c.requires.known (c.is_beside.ensures.file c.if-is_beside.true) (c.is_beside.ensures.section c.if-is_beside.true)
