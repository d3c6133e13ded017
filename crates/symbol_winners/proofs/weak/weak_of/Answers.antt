use Rattle.symbol_winners.proofs.WeakLemmas.{weak_all, weak_none}
use Rattle.symbol_winners.proofs.weak.weak_of.Goals as goal

pub returns-then-is_empty : goal.returns-then-is_empty
returns-then-is_empty c = λ name. weak_none c.args.files.now c.in_ok-names.names name c.if-is_empty.ensures (c.in_ok-names.ensures name)

pub returns : goal.returns
returns c = λ name. weak_all c.args.files.now c.in_ok-names.names c.drop_all_strong.result name (c.in_ok-names.ensures name) (c.drop_all_strong.ensures name)
