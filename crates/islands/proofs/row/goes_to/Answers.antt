use Rattle.islands.specs.Rows.{spot_of}
use Rattle.islands.proofs.Known.{known_number, known_spot}
use Rattle.islands.proofs.row.goes_to.Goals as goal

pub returns-then-hint-known-clause-number : goal.returns-then-hint-known-clause-number
returns-then-hint-known-clause-number c =
    let at = c.is_at.ensures c.if-is_at.true in
    known_number c.args.known.now.aims.now c.args.hint c.args.target.now c.requires.known.rises at.0 at.1

pub returns-then-hint-known-clause-spot : goal.returns-then-hint-known-clause-spot
returns-then-hint-known-clause-spot c =
    let at = c.is_at.ensures c.if-is_at.true in
    known_spot c.args.layout.now c.args.lasts.now c.args.known.now.aims.now c.args.known.now.spots.now c.args.hint c.args.target.now _ c.requires.known.spots at.0 at.1

pub returns-clause-spot : goal.returns-clause-spot
unfolding spot_of
returns-clause-spot c = c.spot_by.ensures.exact
