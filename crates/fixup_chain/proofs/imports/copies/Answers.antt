use Rattle.std.proofs.Common.{◌∙◌}
use Rattle.std.proofs.lemmas.List.{take_all}
use Rattle.fixup_chain.proofs.imports.copies.Goals as goal

pub returns : goal.returns
returns c = c.loop-import.invariant ∙ take_all c.loop-import.import-index c.args.imports.now c.loop-import-test.false
