use Rattle.unwind_read.proofs.RowLemmas.{empty_are}
use Rattle.unwind_read.proofs.pointers.empty_rows.Goals as goal

pub returns-clause-rows : goal.returns-clause-rows
returns-clause-rows c = empty_are c.args.count _ _ c.resize.new.self.items c.in_ok-resize.ensures.items c.new-rows.ensures.items c.new-rows.ensures.len
