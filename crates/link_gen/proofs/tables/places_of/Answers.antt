use Rattle.std.proofs.Common.{◌≤◌, length, ap, arith, rules}
use Rattle.std.proofs.lemmas.Grind.{common_steps}
use Rattle.link_gen.proofs.TableLemmas.{strings_low}
use Rattle.link_gen.proofs.tables.places_of.Goals as goal

pub overflow_cast-result-3 : goal.overflow_cast-result-3
overflow_cast-result-3 c =
    let low : length c.args.strings.now ≤ 10000 = strings_low c.args.made c.args.tables.now c.args.strings.now c.requires.tables c.requires.strings in
    first_of (omega arith, search rules)

pub returns-clause-few : goal.returns-clause-few
returns-clause-few c =
    let low : length c.args.strings.now ≤ 10000 = strings_low c.args.made c.args.tables.now c.args.strings.now c.requires.tables c.requires.strings in
    let all = ap length c.requires.tables.symbols_are in
    record {
      text = omega arith;
      relocations = omega arith;
      symbols = first_of (omega arith, grind (arith, common_steps));
      strings = low;
    }
