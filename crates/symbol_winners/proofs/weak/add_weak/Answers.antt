use Rattle.symbol_winners.specs.SymbolTable.{is_weak_to}
use Rattle.symbol_winners.specs.Winners.{lists}
use Rattle.symbol_winners.proofs.WeakLemmas.{or_step}
use Rattle.symbol_winners.proofs.weak.add_weak.Goals as goal

pub loop-symbol-preserved : goal.loop-symbol-preserved
loop-symbol-preserved c = λ name.
    or_step (is_weak_to name) c.args.symbols.now c.loop-symbol.symbol-index c.symbol-item.result (lists c.args.before name) (lists c.loop-symbol.names name) (lists c.in_ok-names.names name) c.loop-symbol-test.true c.symbol-item.is (c.loop-symbol.invariant name) (c.in_ok-names.ensures name)
