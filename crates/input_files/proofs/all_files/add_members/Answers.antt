use Rattle.std.proofs.Common.{◌+◌, refl}
use Rattle.input_files.proofs.GatherLemmas.{members_step}
use Rattle.input_files.proofs.all_files.add_members.Goals as goal

pub loop-i-preserved : goal.loop-i-preserved
loop-i-preserved c = members_step c.args.before.items c.loop-i.all.items c.push.new.self.items c.args.position c.loop-i.i (c.loop-i.i + 1) c.loop-i.invariant refl c.in_ok-push.ensures.items
