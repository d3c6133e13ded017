use Rattle.std.proofs.Common.{sym, ◌∙◌}
use Rattle.slot_place.proofs.StubLemmas.{reached}
use Rattle.slot_place.proofs.stubs.put_numbered.Goals as goal

pub put_stub-requires-clause-pages : goal.put_stub-requires-clause-pages
put_stub-requires-clause-pages c =
    (reached c.requires.reached.0 c.args.starts c.args.slots.now c.args.start c.args.number c.in-Some.slot c.args.goal.now c.requires.reached.1 c.requires.start c.requires.number (sym c.slot_address.ensures ∙ c.in-Some.is)).pages

pub put_stub-requires-clause-whole : goal.put_stub-requires-clause-whole
put_stub-requires-clause-whole c =
    (reached c.requires.reached.0 c.args.starts c.args.slots.now c.args.start c.args.number c.in-Some.slot c.args.goal.now c.requires.reached.1 c.requires.start c.requires.number (sym c.slot_address.ensures ∙ c.in-Some.is)).whole
