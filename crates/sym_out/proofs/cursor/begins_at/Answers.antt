use Rattle.sym_out.proofs.Starts.{begins_there}
use Rattle.sym_out.proofs.cursor.begins_at.Goals as goal

pub returns-then-key-number : goal.returns-then-key-number
returns-then-key-number c =
    begins_there c.args.atoms.now c.args.at c.args.number c.args.offset _ c.if-at-atoms.false c.if-key-number.true
