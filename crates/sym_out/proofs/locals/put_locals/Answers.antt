use Rattle.sym_out.specs.Symbols.{local_entry}
use Rattle.sym_out.proofs.Writing.{puts_all, puts_more, puts_none}
use Rattle.sym_out.proofs.locals.put_locals.Goals as goal

pub loop-local-init : goal.loop-local-init
loop-local-init c = puts_none c.args.symbols.now.items c.args.strings.now.items

pub loop-local-preserved : goal.loop-local-preserved
loop-local-preserved c =
    puts_more local_entry c.args.locals.now c.loop-local.local-index c.local-item.result c.entry.result
    c.args.symbols.now.items c.args.strings.now.items c.loop-local.symbols.items c.loop-local.strings.items _ _
    c.loop-local-test.true c.local-item.is c.entry.ensures c.loop-local.invariant c.in_ok-put_entry.ensures.symbol c.in_ok-put_entry.ensures.string

pub returns : goal.returns
returns c =
    puts_all local_entry c.args.locals.now c.loop-local.local-index c.args.symbols.now.items c.args.strings.now.items _ _
    c.loop-local-test.false c.loop-local.invariant
