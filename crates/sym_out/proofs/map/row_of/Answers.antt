use Rattle.sym_out.proofs.Naming.{row_none, row_there}
use Rattle.sym_out.proofs.map.row_of.Goals as goal

pub returns-in-Some : goal.returns-in-Some
returns-in-Some c = λ symbols are.
    row_there c.args.placed.now c.args.names.now.items symbols c.args.atom.now c.in-Some.at c.as_slice.result.now
    (record { atom = record { file = record { position = 0; member = 0 }; section = 0; offset = 0 }; address = 0 }) c.index.result.now
    c.find_near.ensures.once c.in-Some.ensures.found c.as_slice.ensures c.index.ensures are

pub returns-in-None : goal.returns-in-None
returns-in-None c = λ symbols are. row_none c.args.placed.now symbols c.args.atom.now c.find_near.ensures.once c.in-None.ensures.found
