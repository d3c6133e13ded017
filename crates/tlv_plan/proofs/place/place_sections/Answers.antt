use Rattle.std.proofs.Common.{sym, ◌∙◌, arith}
use Rattle.tlv_plan.proofs.Walk.{placing_starts, placing_skips, placing_goes_on, placing_room, placing_ends}
use Rattle.tlv_plan.proofs.place.place_sections.Goals as goal
use Rattle.tlv_plan.proofs.place.place_sections.Goals.{then-is_thread_local+in_ok-at, else-is_thread_local}

pub loop-section-init : goal.loop-section-init
loop-section-init c = placing_starts c.args.kept.now c.args.sections.now c.new-places.result.items c.new-places.ensures.items

pub up-from-requires-clause-fits : goal.up-from-requires-clause-fits
up-from-requires-clause-fits c =
    let room = placing_room _ _ _ _ _ _ c.loop-section.invariant c.loop-section-test.true c.section-item.is (sym c.is_thread_local.ensures ∙ c.if-is_thread_local.true) in
    omega (arith, room.0, c.requires.fits)

pub place_atoms-requires-clause-fits : goal.place_atoms-requires-clause-fits
place_atoms-requires-clause-fits c =
    let room = placing_room _ _ _ _ _ _ c.loop-section.invariant c.loop-section-test.true c.section-item.is (sym c.is_thread_local.ensures ∙ c.if-is_thread_local.true) in
    rw (c.up-from.ensures, c.as_slice.ensures) (omega (arith, room.1, c.requires.fits))

pub loop-section-preserved : goal.loop-section-preserved
loop-section-preserved c =
    elim c.if-is_thread_local.branch [
      | then-is_thread_local+in_ok-at w ↦ rw (w.places-is, w.at-is) (placing_goes_on _ _ _ _ _ _ _ w.up-from.result _ c.loop-section.invariant c.loop-section-test.true c.section-item.is (sym c.is_thread_local.ensures ∙ w.if-is_thread_local.true) w.up-from.ensures (rw w.as_slice.ensures at w.in_ok-at.ensures.places) (rw w.as_slice.ensures at w.in_ok-at.ensures.end))
      | else-is_thread_local w ↦ rw (w.places-is, w.at-is) (placing_skips _ _ _ _ _ _ c.loop-section.invariant c.loop-section-test.true c.section-item.is (sym c.is_thread_local.ensures ∙ w.if-is_thread_local.false))
    ]

pub returns-clause-places : goal.returns-clause-places
returns-clause-places c = (placing_ends _ _ _ _ _ c.loop-section.invariant c.loop-section-test.false).0

pub returns-clause-size : goal.returns-clause-size
returns-clause-size c = (placing_ends _ _ _ _ _ c.loop-section.invariant c.loop-section-test.false).1
