use Rattle.std.proofs.Common.{refl}
use Rattle.islands.proofs.Placing.{without}
use Rattle.call_times.proofs.plans.placed.Goals as goal

pub returns : goal.returns
returns c =
    without c.args.kept.now c.in_ok-loaded.loaded.files c.in_ok-sections.sections c.args.slots.now (record { areas = c.new.result; ways = c.new-2.result }) (record { commands = 80; unwind = 0 }) c.args.command.now c.place.result c.requires.rises c.requires.low c.in_ok-sections.ensures.exact
    (rw (c.new.ensures, c.new-2.ensures) refl) c.place.ensures.segments c.place.ensures.sections c.place.ensures.places c.place.ensures.order
