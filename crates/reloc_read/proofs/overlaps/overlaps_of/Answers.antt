use Rattle.std.proofs.Common.{subst}
use Rattle.std.proofs.lemmas.List.Sorted.{IsNonDecreasingBy-from_sort}
use Rattle.std.specs.List.Sorted.{IsPermutation}
use Rattle.reloc_read.specs.Fields.{Follow}
use Rattle.reloc_read.specs.Overlaps.{AreSorted}
use Rattle.reloc_read.proofs.ApartLemmas.{apart_from_follow}
use Rattle.reloc_read.proofs.overlaps.overlaps_of.Goals as goal

pub returns-then-follow : goal.returns-then-follow
returns-then-follow c =
    apart_from_follow c.args.relocs.now c.in_ok-fields.fields.items c.sort_by_offset.new.fields.items c.in_ok-fields.ensures.fields c.sort_by_offset.ensures.sorted.moved
    (subst Follow c.as_slice.ensures.value (c.follow.ensures.0 c.if-follow.true))

pub returns : goal.returns
returns c = record {
  sorted = subst (λ (found : _). AreSorted found c.sort_by_offset.new.fields.items) c.in_ok-fields.ensures.fields c.sort_by_offset.ensures.sorted;
  moved = subst (λ (ends : _). IsPermutation ends c.sort_unstable.new.self.items) (rw c.as_slice-2.ensures.value at c.in_ok-ends.ensures) c.sort_unstable.ensures.permutation;
  rise = IsNonDecreasingBy-from_sort (λ end. end) _ c.sort_unstable.ensures.sorted;
}
