use Rattle.tbd_doc.proofs.OrderLemmas.{among, not_among}
use Rattle.tbd_doc.proofs.exports.is_among.Goals as goal

pub returns-in-Ok : goal.returns-in-Ok
returns-in-Ok c = among c.args.names.now c.args.name.now c.in-Ok.field-0 c.in-Ok.ensures.bound c.in-Ok.ensures.ok

pub returns-in-Err : goal.returns-in-Err
returns-in-Err c = not_among c.args.names.now c.args.name.now c.in-Err.field-0 c.requires c.in-Err.ensures.position
