use Rattle.std.proofs.Common.{rules, [], List, ℕ, get_or, ap, ◌∙◌, length}
use Rattle.std.proofs.lemmas.List.{length-replicate}
use Rattle.symbol_winners.proofs.NumberLemmas.{list_there}
use Rattle.symbol_winners.proofs.TableSteps.{bests_start}
use Rattle.symbol_winners.proofs.UntilLemmas.{bests_none}
use Rattle.symbol_winners.proofs.choosing.bests_of.Goals as goal

pub loop-i-init : goal.loop-i-init
loop-i-init c = record {
  size = ap length (c.in_ok-table.ensures.items_if_clones_equal (λ y e. search rules)) ∙ length-replicate c.len.result c.none.result ∙ c.len.ensures.value;
  bests = λ loaded least. bests_none loaded c.args.names.now c.args.files.now c.in_ok-table.table.items
      (bests_start loaded c.args.names.now c.in_ok-table.table.items [] c.len.result c.none.result c.none.ensures c.len.ensures.value (c.in_ok-table.ensures.items_if_clones_equal (λ y e. search rules)));
}

pub note_file-requires-clause-numbers : goal.note_file-requires-clause-numbers
note_file-requires-clause-numbers c = list_there c.args.names.now c.args.files.now c.args.numbers.now c.loop-i.i c.index-files-i.result c.numbers_at.result.now c.requires.numbers c.loop-i-test.true c.index-files-i.is (c.numbers_at.ensures ∙ ap (λ (lists : List (List ℕ)). get_or lists c.loop-i.i []) c.as_slice-lists.ensures)
