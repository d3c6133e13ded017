use Rattle.std.proofs.Common.{rules}
use Rattle.std.proofs.lemmas.List.Sorted.{answers_always}
use Rattle.member_rounds.specs.declared.in_order.NamedFile.{NamedFile}
use Rattle.member_rounds.proofs.in_order.put_pairs_in_order.Goals as goal

pub returns-clause-sorted : goal.returns-clause-sorted
returns-clause-sorted c = c.sort_unstable_by_key.ensures.sorted (λ (p : NamedFile). p.file.id) (answers_always _ _ _ (λ f a r g h. search rules))
