use Rattle.std.proofs.Common.{rules}
use Rattle.std.proofs.lemmas.List.Sorted.{All-permutation, IsNonDecreasingBy-from_sort_by_key}
use Rattle.reloc_read.specs.Fields.{IsSmall}
use Rattle.reloc_read.proofs.overlaps.sort_by_offset.Goals as goal

pub returns-clause-sorted : goal.returns-clause-sorted
returns-clause-sorted c = record {
  moved = c.sort_unstable_by_key.ensures.permutation;
  rise = IsNonDecreasingBy-from_sort_by_key (λ field. field.offset) _ c.sort_unstable_by_key.ensures.sorted (λ a r q k. search rules);
}

pub returns-clause-small : goal.returns-clause-small
returns-clause-small c = All-permutation IsSmall _ _ c.sort_unstable_by_key.ensures.permutation c.requires
