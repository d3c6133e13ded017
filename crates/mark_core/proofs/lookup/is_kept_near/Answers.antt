use Rattle.std.proofs.Common.{◌∙◌}
use Rattle.mark_core.proofs.SetLemmas.{stands_has}
use Rattle.mark_core.proofs.lookup.is_kept_near.Goals as goal

pub returns-then-is_at : goal.returns-then-is_at
returns-then-is_at c = c.if-is_at.true ∙ stands_has c.args.keys.now c.args.key c.args.near (c.is_at.ensures c.if-is_at.true)
