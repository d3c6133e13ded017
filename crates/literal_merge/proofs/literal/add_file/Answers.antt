use Rattle.std.proofs.lemmas.List.{get_or_default}
use Rattle.literal_merge.specs.inner.Groups.{held_literals}
use Rattle.literal_merge.proofs.LiteralLemmas.{file_add, file_pass}
use Rattle.literal_merge.proofs.literal.add_file.Goals as goal
use Rattle.literal_merge.proofs.literal.add_file.Goals.{in-Some+in_ok-push, in_default}

pub loop-atom-preserved : goal.loop-atom-preserved
loop-atom-preserved c = elim c.match-literal_at.branch [
  | in-Some+in_ok-push w ↦
      file_add (held_literals c.args.before.items) c.loop-atom.literals.items c.match-literal_at.literals.items c.args.object.now c.args.atoms.now c.loop-atom.atom-index _ w.in-Some.literal c.literal_at.result c.loop-atom.invariant c.loop-atom-test.true
      (get_or_default c.args.atoms.now c.loop-atom.atom-index _ _ c.loop-atom-test.true) c.literal_at.ensures w.in-Some.is (rw w.literals-is w.in_ok-push.ensures.items)
  | in_default w ↦
      rw w.literals-is (file_pass (held_literals c.args.before.items) c.loop-atom.literals.items c.args.object.now c.args.atoms.now c.loop-atom.atom-index _ c.literal_at.result c.loop-atom.invariant c.loop-atom-test.true
      (get_or_default c.args.atoms.now c.loop-atom.atom-index _ _ c.loop-atom-test.true) c.literal_at.ensures w.in_default.is)
]
