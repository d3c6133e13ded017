use Rattle.std.proofs.Common.{◌∙◌, ℕ, List, map, ap, ap₂, subst, sym}
use Rattle.std.specs.List.Sorted.{IsSortedBy}
use Rattle.std.specs.Ordering.{is_lt}
use Rattle.mo_types.specs.Keys.{compare_files}
use Rattle.mo_types.specs.declared.loaded.LoadedFile.{LoadedFile}
use Rattle.member_rounds.specs.inner.Paired.{zipped}
use Rattle.member_rounds.proofs.OrderLemmas.{numbers_follow, sorted_files}
use Rattle.member_rounds.proofs.in_order.in_order_with.Goals as goal

pub returns-clause-sorted : goal.returns-clause-sorted
returns-clause-sorted c = subst (λ (files : List LoadedFile). IsSortedBy (λ a b. is_lt (compare_files a.id b.id)) files) (sym (c.from_vec.ensures ∙ c.in_ok-files.ensures.files)) (sorted_files c.put_pairs_in_order.new.pairs.items c.put_pairs_in_order.ensures.sorted)

pub returns-clause-numbers : goal.returns-clause-numbers
returns-clause-numbers c = λ f are.
    (c.from_vec-2.ensures ∙ c.in_ok-files.ensures.numbers)
    ∙ numbers_follow c.args.files.files c.args.numbers c.in_ok-pairs.pairs.items c.put_pairs_in_order.new.pairs.items f are (c.in_ok-pairs.ensures ∙ ap₂ (λ (fs : List LoadedFile) (ns : List (List ℕ)). zipped fs ns) c.into_vec.ensures c.into_vec-2.ensures) c.put_pairs_in_order.ensures.permutation
    ∙ ap (map f) (sym (c.from_vec.ensures ∙ c.in_ok-files.ensures.files))
