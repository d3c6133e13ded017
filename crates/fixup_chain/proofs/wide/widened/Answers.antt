use Rattle.std.proofs.Common.{map, ap, ◌∙◌}
use Rattle.fixup_chain.specs.inner.Held.{numbers_by, rank_in, row_of}
use Rattle.fixup_chain.specs.inner.Rows.{same_row}
use Rattle.fixup_chain.proofs.UseLemmas.{numbers_ranked}
use Rattle.fixup_chain.proofs.WideLemmas.{rows_wide, sorted_rows, wide_numbers}
use Rattle.fixup_chain.proofs.wide.widened.Goals as goal

pub returns-clause-rows : goal.returns-clause-rows
returns-clause-rows c =
    c.in_ok-rows.ensures
    ∙ c.as_slice-3.ensures.keys
    ∙ sorted_rows c.args.fixups.now c.in_ok-all.all.rows.keys c.sort.new.self.keys c.in_ok-all.ensures.rows
    c.in_ok-sort.ensures.reordered.0 c.in_ok-sort.ensures.sorted c.in_ok-sort.ensures.unique
    ∙ rows_wide c.args.fixups.now

pub returns-clause-numbers : goal.returns-clause-numbers
returns-clause-numbers c =
    wide_numbers c.args.fixups.now c.sort.new.self.keys (numbers_by c.in_ok-ranks.ranks.items c.in_ok-all.all.held.items)
    (numbers_ranked same_row (row_of c.args.fixups.now) c.args.fixups.now c.sort.new.self.keys c.in_ok-all.all.rows.keys c.in_ok-all.all.held.items c.in_ok-ranks.ranks.items
    c.in_ok-all.ensures.places
    (c.in_ok-ranks.ensures ∙ ap (map (rank_in same_row c.sort.new.self.keys)) (c.as_slice-2.ensures.value ∙ c.in_ok-used.ensures ∙ c.as_slice.ensures.keys)))
    (sorted_rows c.args.fixups.now c.in_ok-all.all.rows.keys c.sort.new.self.keys c.in_ok-all.ensures.rows
    c.in_ok-sort.ensures.reordered.0 c.in_ok-sort.ensures.sorted c.in_ok-sort.ensures.unique)
