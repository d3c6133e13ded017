use Rattle.std.proofs.Common.{◌∙◌}
use Rattle.symbol_winners.proofs.FrontLemmas.{eight_bytes}
use Rattle.symbol_winners.proofs.front.number_of.Goals as goal

pub returns : goal.returns
returns c = c.from_be_bytes.ensures ∙ eight_bytes c.args.name.now
