use Rattle.std.proofs.Common.{ap, ◌∙◌, map}
use Rattle.symbol_winners.specs.Found.{found}
use Rattle.symbol_winners.specs.SymbolTable.{is_weak}
use Rattle.symbol_winners.specs.Winners.{lists}
use Rattle.symbol_winners.specs.inner.Best.{winner_chosen}
use Rattle.symbol_winners.proofs.CandidateLemmas.{candidates_are}
use Rattle.symbol_winners.proofs.WinnersLemmas.{all_those, winners_are}
use Rattle.literal_merge.proofs.RepresentativeLemmas.{in_order}
use Rattle.symbol_winners.proofs.WinnerLemmas.{chosen_few, chosen_listed, chosen_stand, indexed}
use Rattle.symbol_winners.proofs.winning.winners.Goals as goal

pub winners_of-requires : goal.winners_of-requires
winners_of-requires c =
    let has = c.in_ok-table.ensures.bests c.args.loaded.now.files c.requires.words in
    rw c.as_slice.ensures.value
    (chosen_stand c.args.loaded.now.files c.args.names.now has.fs c.in_ok-chosen.chosen.items
    (all_those c.args.loaded.now.files c.as_slice-files.result.now c.args.names.now c.in_ok-table.table.items c.in_ok-chosen.chosen.items has c.requires.named c.as_slice-files.ensures c.in_ok-chosen.ensures.permutation)
    (candidates_are c.args.loaded.now.files has.fs c.requires.whole.files (has.held_is ∙ ap found c.as_slice-files.ensures)))

pub index_of-requires-clause-listed : goal.index_of-requires-clause-listed
index_of-requires-clause-listed c =
    let has = c.in_ok-table.ensures.bests c.args.loaded.now.files c.requires.words in
    rw c.as_slice-2.ensures.value
    (chosen_listed c.args.loaded.now.files c.args.names.now has.fs c.in_ok-chosen.chosen.items
    (all_those c.args.loaded.now.files c.as_slice-files.result.now c.args.names.now c.in_ok-table.table.items c.in_ok-chosen.chosen.items has c.requires.named c.as_slice-files.ensures c.in_ok-chosen.ensures.permutation)
    has.numbered)

pub index_of-requires-clause-few : goal.index_of-requires-clause-few
index_of-requires-clause-few c =
    let has = c.in_ok-table.ensures.bests c.args.loaded.now.files c.requires.words in
    rw c.as_slice-2.ensures.value
    (chosen_few c.args.loaded.now.files c.args.names.now has.fs c.in_ok-chosen.chosen.items
    (all_those c.args.loaded.now.files c.as_slice-files.result.now c.args.names.now c.in_ok-table.table.items c.in_ok-chosen.chosen.items has c.requires.named c.as_slice-files.ensures c.in_ok-chosen.ensures.permutation))

pub of_lists-requires : goal.of_lists-requires
of_lists-requires c =
    let has = c.in_ok-table.ensures.bests c.args.loaded.now.files c.requires.words in
    rw c.from_vec.ensures
    record {
      order = rw c.in_ok-literals.ensures (in_order c.args.loaded.now c.requires.whole);
      leads = indexed c.args.command.now c.args.loaded.now.files c.args.names.now has.fs c.in_ok-chosen.chosen.items c.in_ok-list.list.items c.in_ok-index.index
          (all_those c.args.loaded.now.files c.as_slice-files.result.now c.args.names.now c.in_ok-table.table.items c.in_ok-chosen.chosen.items has c.requires.named c.as_slice-files.ensures c.in_ok-chosen.ensures.permutation)
          (c.in_ok-list.ensures c.args.command.now c.in_ok-rules.ensures ∙ ap (map (winner_chosen c.args.command.now)) c.as_slice.ensures.value)
          (rw c.as_slice-2.ensures.value at c.in_ok-index.ensures.index);
    }

pub returns-clause-symbols : goal.returns-clause-symbols
returns-clause-symbols c =
    let has = c.in_ok-table.ensures.bests c.args.loaded.now.files c.requires.words in
    rw c.of_lists.ensures
    record {
      winners = rw c.from_vec.ensures
          (winners_are c.args.command.now c.args.loaded.now.files c.args.names.now has.fs c.in_ok-chosen.chosen.items c.in_ok-list.list.items
          (all_those c.args.loaded.now.files c.as_slice-files.result.now c.args.names.now c.in_ok-table.table.items c.in_ok-chosen.chosen.items has c.requires.named c.as_slice-files.ensures c.in_ok-chosen.ensures.permutation)
          c.in_ok-table.ensures.numbering.distinct c.in_ok-chosen.ensures.sorted
          (c.in_ok-list.ensures c.args.command.now c.in_ok-rules.ensures ∙ ap (map (winner_chosen c.args.command.now)) c.as_slice.ensures.value));
      literals = c.in_ok-literals.ensures;
      weak = λ name. c.in_ok-weak.ensures name ∙ ap (λ files. is_weak files name) c.as_slice-files.ensures;
      flats = λ name. c.in_ok-flats.ensures name ∙ ap (λ names. lists names name) c.as_slice-3.ensures;
    }
