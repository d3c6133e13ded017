use Rattle.std.proofs.Common.{sym, ap, ◌∙◌, ◌&&◌, not}
use Rattle.std.specs.List.{list_any}
use Rattle.std.proofs.lemmas.List.{take_all}
use Rattle.symbol_winners.specs.SymbolTable.{is_strong_to}
use Rattle.symbol_winners.specs.Winners.{lists}
use Rattle.symbol_winners.proofs.WeakLemmas.{of_file, some_symbol}
use Rattle.symbol_winners.proofs.weak.drop_all_strong.Goals as goal

pub returns : goal.returns
returns c = λ name.
    c.loop-file.invariant name
    ∙ ap (λ b. lists c.args.before name && not b) (ap (list_any (of_file (is_strong_to name))) (take_all c.loop-file.file-index c.args.files.now c.loop-file-test.false) ∙ sym (some_symbol (is_strong_to name) c.args.files.now))
