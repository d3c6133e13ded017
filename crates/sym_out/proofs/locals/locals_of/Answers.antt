use Rattle.sym_out.proofs.Ranging.{locals_gathered}
use Rattle.sym_out.proofs.locals.locals_of.Goals as goal

pub returns-clause-same : goal.returns-clause-same
returns-clause-same c =
    locals_gathered c.args.sites.now c.args.symbols.now c.args.loaded.now.files c.as_slice-files.result.now c.winners-winners.result.now
    c.in_ok-locals.locals.items c.push_hidden.new.locals.items _
    c.in_ok-locals.ensures c.as_slice-files.ensures c.winners-winners.ensures c.in_ok-push_hidden.ensures c.put_in_order.ensures.same
