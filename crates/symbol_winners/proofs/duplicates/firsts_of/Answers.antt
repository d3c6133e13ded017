use Rattle.std.proofs.Common.{rules, [], List, ℕ, get_or, ap, ◌∙◌}
use Rattle.symbol_winners.specs.inner.Tables.{strong_among}
use Rattle.symbol_winners.proofs.NumberLemmas.{list_there}
use Rattle.symbol_winners.proofs.StrongLemmas.{no_strong, strong_start}
use Rattle.symbol_winners.proofs.UntilLemmas.{files_start}
use Rattle.symbol_winners.proofs.duplicates.firsts_of.Goals as goal

pub loop-i-init : goal.loop-i-init
loop-i-init c = files_start c.args.names.now c.args.files.now c.in_ok-table.table.items (strong_start c.args.names.now c.in_ok-table.table.items c.len.result (strong_among []) c.len.ensures.value (c.in_ok-table.ensures.items_if_clones_equal (λ y e. search rules)) no_strong)

pub note_file-requires-clause-numbers : goal.note_file-requires-clause-numbers
note_file-requires-clause-numbers c = list_there c.args.names.now c.args.files.now c.args.numbers.now c.loop-i.i c.index-files-i.result c.numbers_at.result.now c.requires c.loop-i-test.true c.index-files-i.is (c.numbers_at.ensures ∙ ap (λ (lists : List (List ℕ)). get_or lists c.loop-i.i []) c.as_slice-lists.ensures)
