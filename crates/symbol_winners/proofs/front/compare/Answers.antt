use Rattle.symbol_winners.proofs.FrontLemmas.{fronts_decide}
use Rattle.symbol_winners.proofs.front.compare.Goals as goal

pub returns : goal.returns
returns c = λ a b left right apart. fronts_decide c.args.front c.args.other c.order.result a b c.order.ensures left right apart
