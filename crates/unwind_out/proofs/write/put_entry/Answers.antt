use Rattle.unwind_out.proofs.Spelling.{entry_put}
use Rattle.unwind_out.proofs.write.put_entry.Goals as goal

pub returns-clause-entry : goal.returns-clause-entry
returns-clause-entry c =
    entry_put c.args.lsda_at c.args.lsdas.now c.args.at c.args.page.now.rows.now c.first_function-first.result c.lsda_place.result c.args.out.now.items c.write.new.out.items
    c.first_function-first.ensures c.lsda_place.ensures c.in_ok-write.ensures.ok
