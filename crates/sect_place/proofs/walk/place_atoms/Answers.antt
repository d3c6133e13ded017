use Rattle.std.proofs.Common.{rules, ◌≡◌, ◌+◌, ◌^◌, ◌<◌, List, length, refl, sym, ap, subst, ◌∙◌, arith, length-append}
use Rattle.sect_place.specs.declared.layout.Placed.{Placed}
use Rattle.sect_place.proofs.Laid.{going_skips, going_on, going_ends, found_low}
use Rattle.sect_place.proofs.walk.place_atoms.Goals as goal
use Rattle.sect_place.proofs.walk.place_atoms.Goals.{in-Some+in_ok-push-in-Some, in-None}

pub up-place-requires-clause-low : goal.up-place-requires-clause-low
up-place-requires-clause-low c = (found_low _ _ _ _ c.in-Some.atom c.requires.room (sym c.in-Some.is ∙ c.find_near-found.ensures)).1

pub loop-key-init : goal.loop-key-init
loop-key-init c = record { going = search rules; reach = omega arith; small = c.requires.small }

pub loop-key-preserved : goal.loop-key-preserved
loop-key-preserved c =
    elim c.match-found.branch [
      | in-Some+in_ok-push-in-Some w ↦
          let found = found_low _ _ _ _ w.in-Some.atom c.requires.room (sym w.in-Some.is ∙ c.find_near-found.ensures) in
          let few : length c.loop-key.placed.items < 2 ^ 58 = subst (λ (ps : List Placed). length ps < 2 ^ 58) w.as_slice.ensures.value w.placed_are_few.ensures in
          let longer : length w.push.new.self.items ≡ length c.loop-key.placed.items + 1 = ap length w.in_ok-push-in-Some.ensures.items ∙ length-append c.loop-key.placed.items _ in
          rw (w.placed-is, w.at-is, w.widened.ensures.exact) (record {
            going = going_on _ _ _ _ _ _ _ w.in-Some.atom _ w.up-place.result w.bytes_behind.result w.cap.result _ w.push.new.self.items _ _ c.loop-key.invariant.going c.loop-key-test.true refl (sym w.in-Some.is ∙ c.find_near-found.ensures) found.0 w.up-place.ensures.exact w.bytes_behind.ensures.exact w.cap.ensures w.in_ok-push-in-Some.ensures.items;
            reach = omega (arith, c.loop-key.invariant.reach, w.up-place.ensures.small, w.widened.ensures.exact, w.widened.ensures.small, w.bytes_behind.ensures.small, longer);
            small = omega (arith, c.loop-key.invariant.reach, c.requires.reach, w.up-place.ensures.small, w.widened.ensures.exact, w.widened.ensures.small, w.bytes_behind.ensures.small, few);
          })
      | in-None w ↦ rw (w.placed-is, w.at-is) (record {
        going = going_skips _ _ _ _ _ _ _ _ _ _ _ c.loop-key.invariant.going c.loop-key-test.true refl (sym w.in-None.is ∙ c.find_near-found.ensures);
        reach = c.loop-key.invariant.reach;
        small = c.loop-key.invariant.small;
      })
    ]

pub returns-clause-places : goal.returns-clause-places
returns-clause-places c = (going_ends _ _ _ _ _ _ _ _ _ c.loop-key.invariant.going c.loop-key-test.false).0

pub returns-clause-end : goal.returns-clause-end
returns-clause-end c = (going_ends _ _ _ _ _ _ _ _ _ c.loop-key.invariant.going c.loop-key-test.false).1
