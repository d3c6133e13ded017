use Rattle.std.proofs.Common.{◌≤◌, refl, sym, arith}
use Rattle.mo_types.specs.declared.atom.Atom.{Atom}
use Rattle.atom_index.proofs.Keys.{find_has}
use Rattle.tlv_plan.proofs.Walk.{standing_skips, standing_goes_on, standing_room, standing_ends}
use Rattle.tlv_plan.proofs.place.place_atoms.Goals as goal
use Rattle.tlv_plan.proofs.place.place_atoms.Goals.{in-Some+in_ok-push-in-Some, in-None}

pub up-offset-requires-clause-align : goal.up-offset-requires-clause-align
up-offset-requires-clause-align c = (find_has (λ (atom : Atom). atom.key) (λ (atom : Atom). atom.align ≤ 14) c.args.kept.now _ c.in-Some.atom.now (sym c.in-Some.ensures) c.requires.atoms).1

pub up-offset-requires-clause-fits : goal.up-offset-requires-clause-fits
up-offset-requires-clause-fits c = let room = standing_room _ _ _ _ _ _ _ _ _ c.in-Some.atom.now c.loop-key.invariant c.loop-key-test.true refl c.in-Some.ensures in omega (arith, c.requires.fits)

pub overflow_add-at : goal.overflow_add-at
overflow_add-at c = let room = standing_room _ _ _ _ _ _ _ _ _ c.in-Some.atom.now c.loop-key.invariant c.loop-key-test.true refl c.in-Some.ensures in omega (arith, c.requires.fits, c.up-offset.ensures)

pub loop-key-preserved : goal.loop-key-preserved
loop-key-preserved c =
    elim c.match-find_atom.branch [
      | in-Some+in_ok-push-in-Some w ↦ rw (w.places-is, w.at-is) (standing_goes_on _ _ _ _ _ _ _ _ _ _ w.in-Some.atom.now w.up-offset.result c.loop-key.invariant c.loop-key-test.true refl w.in-Some.ensures (find_has (λ (atom : Atom). atom.key) (λ (atom : Atom). atom.align ≤ 14) c.args.kept.now _ w.in-Some.atom.now (sym w.in-Some.ensures) c.requires.atoms).0 w.up-offset.ensures w.in_ok-push-in-Some.ensures.items)
      | in-None w ↦ rw (w.places-is, w.at-is) (standing_skips _ _ _ _ _ _ _ _ _ c.loop-key.invariant c.loop-key-test.true refl w.in-None.ensures)
    ]

pub returns-clause-places : goal.returns-clause-places
returns-clause-places c = (standing_ends _ _ _ _ _ _ _ c.loop-key.invariant c.loop-key-test.false).0

pub returns-clause-end : goal.returns-clause-end
returns-clause-end c = (standing_ends _ _ _ _ _ _ _ c.loop-key.invariant c.loop-key-test.false).1
