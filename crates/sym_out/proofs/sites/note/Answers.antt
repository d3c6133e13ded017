use Rattle.sym_out.proofs.Numbering.{absent, noted}
use Rattle.sym_out.proofs.sites.note.Goals as goal

pub returns-in-Some-clause-noted : goal.returns-in-Some-clause-noted
returns-in-Some-clause-noted c = λ f are.
    noted f c.args.placed.now c.args.numbers.now.items c.args.atom.now c.in-Some.at c.args.number c.index_mut-known.result.now c.or_number.result
    c.find_near.ensures.once c.in-Some.ensures.found c.index_mut-known.ensures.value c.or_number.ensures are

pub returns-in-None-clause-noted : goal.returns-in-None-clause-noted
returns-in-None-clause-noted c = λ f are.
    absent f c.args.placed.now c.args.numbers.now.items c.args.atom.now c.args.number c.in-None.ensures.found are
