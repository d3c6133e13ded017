use Rattle.sym_out.specs.Symbols.{own_local}
use Rattle.sym_out.proofs.Gathering.{all_end, all_go_on, all_start}
use Rattle.sym_out.proofs.locals.own_locals.Goals as goal

pub loop-file-init : goal.loop-file-init
loop-file-init c = all_start (own_local c.args.sites.now) c.in_ok-locals.locals.items c.args.files.now c.in_ok-locals.ensures.items

pub loop-file-preserved : goal.loop-file-preserved
loop-file-preserved c =
    all_go_on (own_local c.args.sites.now) c.loop-file.locals.items _ c.args.files.now c.loop-file.file-index c.file-item.result
    c.loop-file-test.true c.file-item.is c.loop-file.invariant c.in_ok-push_own.ensures

pub returns : goal.returns
returns c = all_end (own_local c.args.sites.now) c.loop-file.locals.items c.args.files.now c.loop-file.file-index c.loop-file-test.false c.loop-file.invariant
