use Rattle.std.proofs.Common.{◌≡◌, ◌+◌, false, refl, rules}
use Rattle.link_gen.proofs.NumberLemmas.{other_number, there}
use Rattle.link_gen.specs.Calls.{has_function}
use Rattle.link_gen.proofs.numbers.function_number.Goals as goal

pub place_of-requires-clause-there : goal.place_of-requires-clause-there
place_of-requires-clause-there c =
    let away : has_function c.args.made c.args.i ≡ false = first_of (search rules, cc) in
    there c.args.made c.args.outside.now c.args.defined c.args.i c.requires.made c.requires.outside c.requires.drawn away

pub returns-clause-exact : goal.returns-clause-exact
returns-clause-exact c =
    let away : has_function c.args.made c.args.i ≡ false = first_of (search rules, cc) in
    other_number c.args.made c.args.outside.now c.args.defined c.args.i c.place_of.result (c.args.defined + c.place_of.result)
    c.requires.outside away c.place_of.ensures.within c.place_of.ensures.value refl
