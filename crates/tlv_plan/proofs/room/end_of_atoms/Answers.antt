use Rattle.std.proofs.Common.{◌≤◌, refl, sym, arith}
use Rattle.mo_types.specs.declared.atom.Atom.{Atom}
use Rattle.atom_index.proofs.Keys.{find_has}
use Rattle.tlv_plan.proofs.Walk.{ending_starts, ending_skips, ending_goes_on, ending_room, ending_ends}
use Rattle.tlv_plan.proofs.room.end_of_atoms.Goals as goal
use Rattle.tlv_plan.proofs.room.end_of_atoms.Goals.{in-Some+in_ok-at-in-Some, in-None}

pub next-requires : goal.next-requires
next-requires c = (find_has (λ (atom : Atom). atom.key) (λ (atom : Atom). atom.align ≤ 14) c.args.kept.now _ c.in-Some.atom.now (sym c.in-Some.ensures) c.requires.atoms).1

pub loop-key-init : goal.loop-key-init
loop-key-init c = ending_starts c.args.kept.now c.args.keys.now c.args.from c.ranges.from.fits

pub returns-in_err-at-in-Some : goal.returns-in_err-at-in-Some
returns-in_err-at-in-Some c =
    let room = ending_room _ _ _ _ _ _ _ c.in-Some.atom.now c.loop-key.invariant c.loop-key-test.true refl c.in-Some.ensures in
    rw c.from_residual.ensures (λ within. c.in_err-at-in-Some.ensures (omega arith))

pub loop-key-preserved : goal.loop-key-preserved
loop-key-preserved c =
    elim c.match-find_atom.branch [
      | in-Some+in_ok-at-in-Some w ↦ rw w.at-is (ending_goes_on _ _ _ _ _ w.in_ok-at-in-Some.at _ _ w.in-Some.atom.now c.loop-key.invariant c.loop-key-test.true refl w.in-Some.ensures w.in_ok-at-in-Some.ensures.1 (omega (arith, w.in_ok-at-in-Some.ensures.0, w.in_ok-at-in-Some.ensures.1)))
      | in-None w ↦ rw w.at-is (ending_skips _ _ _ _ _ _ _ c.loop-key.invariant c.loop-key-test.true refl w.in-None.ensures)
    ]

pub returns : goal.returns
returns c = ending_ends _ _ _ _ _ c.loop-key.invariant c.loop-key-test.false
