use Rattle.std.proofs.Common.{◌++◌, map, arith}
use Rattle.mark_core.specs.inner.Arrows.{reversed}
use Rattle.mark_race.specs.inner.Numbers.{AreNumbered}
use Rattle.mark_race.proofs.NumberLemmas.{all_numbered, arrows_few}
use Rattle.mark_race.proofs.numbers.number_atoms.Goals as goal

pub returns-clause-arrows : goal.returns-clause-arrows
returns-clause-arrows c =
    all_numbered c.args.edges.now c.args.supports.now c.new.result.keys c.add_edges.new.numbered.atoms.keys c.add_supports.new.numbered.atoms.keys c.in_ok-with_capacity.field-0.items c.add_edges.new.numbered.arrows.items c.add_supports.new.numbered.arrows.items
    c.new.ensures.empty c.in_ok-with_capacity.ensures.items c.in_ok-add_edges.ensures c.in_ok-add_supports.ensures

pub returns-clause-sent : goal.returns-clause-sent
returns-clause-sent c =
    let all : AreNumbered (c.args.edges.now ++ map reversed c.args.supports.now) c.add_supports.new.numbered.atoms.keys c.add_supports.new.numbered.arrows.items =
    all_numbered c.args.edges.now c.args.supports.now c.new.result.keys c.add_edges.new.numbered.atoms.keys c.add_supports.new.numbered.atoms.keys c.in_ok-with_capacity.field-0.items c.add_edges.new.numbered.arrows.items c.add_supports.new.numbered.arrows.items
    c.new.ensures.empty c.in_ok-with_capacity.ensures.items c.in_ok-add_edges.ensures c.in_ok-add_supports.ensures in
    omega (arith, arrows_few c.args.edges.now c.args.supports.now c.add_supports.new.numbered.atoms.keys c.add_supports.new.numbered.arrows.items all, c.requires.edges, c.requires.supports)

pub returns-clause-once : goal.returns-clause-once
returns-clause-once c = c.in_ok-add_supports.ensures.once (c.in_ok-add_edges.ensures.once c.new.ensures.unique)
