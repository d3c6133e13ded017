use Rattle.std.proofs.Common.{false, map, ap, ◌∙◌}
use Rattle.fixup_chain.specs.Imports.{import_of}
use Rattle.fixup_chain.specs.inner.Held.{is_same, numbers_by, rank_in}
use Rattle.fixup_chain.proofs.ImportLemmas.{ordered_in}
use Rattle.fixup_chain.proofs.UseLemmas.{numbers_ranked}
use Rattle.fixup_chain.proofs.WideLemmas.{narrow_numbers}
use Rattle.fixup_chain.proofs.imports.in_order.Goals as goal

pub returns-clause-imports : goal.returns-clause-imports
returns-clause-imports c = λ fixups is.
    ordered_in fixups c.args.all.imports.keys c.sort.new.self.keys is
    c.in_ok-sort.ensures.reordered.0 c.in_ok-sort.ensures.sorted c.in_ok-sort.ensures.unique

pub returns-clause-numbers : goal.returns-clause-numbers
returns-clause-numbers c = λ fixups is are.
    narrow_numbers fixups c.sort.new.self.keys (numbers_by c.in_ok-ranks.ranks.items c.args.all.held.items)
    (numbers_ranked is_same (import_of false) fixups c.sort.new.self.keys c.args.all.imports.keys c.args.all.held.items c.in_ok-ranks.ranks.items
    are
    (c.in_ok-ranks.ensures ∙ ap (map (rank_in is_same c.sort.new.self.keys)) (c.as_slice-2.ensures.value ∙ c.in_ok-used.ensures ∙ c.as_slice.ensures.keys)))
    (ordered_in fixups c.args.all.imports.keys c.sort.new.self.keys is
    c.in_ok-sort.ensures.reordered.0 c.in_ok-sort.ensures.sorted c.in_ok-sort.ensures.unique)
