use Rattle.std.proofs.Common.{ap, ◌∙◌}
use Rattle.std.specs.Ordering.{is_gt}
use Rattle.symbol_winners.proofs.DuplicateLemmas.{name_there}
use Rattle.symbol_winners.proofs.duplicates.is_after.Goals as goal

pub returns : goal.returns
returns c = rw (name_there c.args.names.now c.args.a c.name_of.result.now c.name_of.ensures, name_there c.args.names.now c.args.b c.name_of-2.result.now c.name_of-2.ensures) (c.is_gt.ensures ∙ ap is_gt c.cmp.ensures)
