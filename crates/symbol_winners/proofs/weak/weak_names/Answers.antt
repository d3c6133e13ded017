use Rattle.std.proofs.Common.{sym, ap, ◌∙◌, ◌||◌}
use Rattle.std.specs.List.{list_any}
use Rattle.std.proofs.lemmas.List.{take_all}
use Rattle.symbol_winners.specs.SymbolTable.{is_weak_to}
use Rattle.symbol_winners.specs.Winners.{lists}
use Rattle.symbol_winners.proofs.SetLemmas.{any_step}
use Rattle.symbol_winners.proofs.WeakLemmas.{of_file, some_symbol}
use Rattle.symbol_winners.proofs.weak.weak_names.Goals as goal

pub loop-file-preserved : goal.loop-file-preserved
loop-file-preserved c = λ name.
    any_step (of_file (is_weak_to name)) c.args.files.now c.loop-file.file-index c.file-item.result (lists c.loop-file.names name) (lists c.in_ok-names.names name) c.loop-file-test.true c.file-item.is (c.loop-file.invariant name)
    (c.in_ok-names.ensures name ∙ ap (λ symbols. lists c.loop-file.names name || list_any (is_weak_to name) symbols) c.as_slice.ensures)

pub returns : goal.returns
returns c = λ name.
    c.loop-file.invariant name ∙ ap (list_any (of_file (is_weak_to name))) (take_all c.loop-file.file-index c.args.files.now c.loop-file-test.false) ∙ sym (some_symbol (is_weak_to name) c.args.files.now)
