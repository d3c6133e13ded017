use Rattle.std.proofs.Common.{List, Contains, refl, sym, subst, ◌∙◌}
use Rattle.mo_types.specs.declared.key.AtomKey.{AtomKey}
use Rattle.sect_place.proofs.Shifting.{lists_it, lists_none}
use Rattle.sect_place.proofs.shift.lists.Goals as goal

pub returns-then-has_key-clause-found : goal.returns-then-has_key-clause-found
returns-then-has_key-clause-found c = λ _.
    lists_it c.args.sections.now c.args.region c.args.atom.now c.loop-placed.placed-index c.placed-item.result c.loop-placed-test.true c.placed-item.is (sym c.has.ensures ∙ c.if-has.true) (subst (λ (keys : List AtomKey). Contains keys c.args.atom.now) c.as_slice.ensures (c.if-has_key.ensures.found refl))

pub returns-clause-missed : goal.returns-clause-missed
returns-clause-missed c = λ rising listed.
    absurd (lists_none c.args.sections.now c.args.region c.args.atom.now c.loop-placed.placed-index c.loop-placed.invariant c.loop-placed-test.false rising listed)
