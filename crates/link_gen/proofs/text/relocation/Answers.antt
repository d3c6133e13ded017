use Rattle.std.proofs.Common.{arith}
use Rattle.link_gen.proofs.CallLemmas.{number_low}
use Rattle.link_gen.proofs.text.relocation.Goals as goal

pub returns-clause-packable : goal.returns-clause-packable
returns-clause-packable c =
    let low = number_low c.args.made c.args.tables.now _ c.called_number.result c.requires.tables c.called_number.ensures in
    record {
      address = omega arith;
      number = omega arith;
      length = omega arith;
      kind = omega arith;
    }
