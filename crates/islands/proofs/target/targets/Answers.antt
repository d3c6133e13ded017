use Rattle.std.proofs.Common.{rules, ap, ◌∙◌}
use Rattle.std.proofs.lemmas.List.Filters.{dedup_is}
use Rattle.islands.specs.inner.Held.{targets_behind}
use Rattle.islands.proofs.Few.{few_moved, targets_of_same}
use Rattle.islands.proofs.Once.{once}
use Rattle.islands.proofs.target.targets.Goals as goal

pub returns : goal.returns
returns c =
    targets_of_same _ _ _ (few_moved _ _ _ c.in_ok-keyed.ensures c.in_order-keyed.ensures)
    (once _ _ c.in_ok-aims.aims.items c.sort.new.self.items c.dedup.new.self.items (λ a b. search rules) (c.in_ok-aims.ensures ∙ ap targets_behind c.as_slice.ensures.value) c.in_ok-sort.ensures.permutation c.in_ok-sort.ensures.sorted (dedup_is _ _ _ c.dedup.ensures.filtered))
