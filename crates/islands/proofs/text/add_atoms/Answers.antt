use Rattle.std.proofs.Common.{sym, ◌∙◌}
use Rattle.islands.proofs.Walks.{atoms_end, atoms_more, atoms_pass}
use Rattle.islands.proofs.text.add_atoms.Goals as goal
use Rattle.islands.proofs.text.add_atoms.Goals.{in-Some+in_ok-push-in-Some, in-None}

pub loop-key-preserved : goal.loop-key-preserved
loop-key-preserved c =
    elim c.match-found.branch [
      | in-Some+in_ok-push-in-Some w ↦ rw w.atoms-is (atoms_more c.args.kept.now c.args.keys.now c.loop-key.key-index _ w.in-Some.atom c.loop-key.atoms.items _ _ c.loop-key.invariant c.loop-key-test.true (sym w.in-Some.is ∙ c.find_near-found.ensures) w.in_ok-push-in-Some.ensures.items)
      | in-None w ↦ rw w.atoms-is (atoms_pass c.args.kept.now c.args.keys.now c.loop-key.key-index _ c.loop-key.atoms.items _ c.loop-key.invariant c.loop-key-test.true (sym w.in-None.is ∙ c.find_near-found.ensures))
    ]

pub returns : goal.returns
returns c = atoms_end c.args.kept.now c.args.keys.now c.loop-key.key-index c.loop-key.atoms.items _ c.loop-key.invariant c.loop-key-test.false
