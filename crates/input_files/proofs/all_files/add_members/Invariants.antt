use Rattle.input_files.proofs.GatherLemmas.{AreMembers}
use Rattle.input_files.proofs.all_files.add_members.Given as goal

abbrev pub invariant-loop-i : goal.invariant-loop-i
invariant-loop-i l = AreMembers l.fn.before.items l.all.items l.position l.i
