use Rattle.std.proofs.Common.{rules}
use Rattle.std.specs.Ordering.{is_lt}
use Rattle.std.proofs.lemmas.List.Sorted.{ranks_by, answers_always}
use Rattle.liveness.specs.declared.order.Spot.{Spot}
use Rattle.liveness.specs.inner.Spots.{compare_spots}
use Rattle.liveness.proofs.StableLemmas.{listed, spots_total}
use Rattle.liveness.proofs.order.put_in_order.Goals as goal

pub returns-clause-sorted : goal.returns-clause-sorted
returns-clause-sorted c =
    c.in_ok-sort_by.ensures.sorted (λ (a : Spot) (b : Spot). is_lt (compare_spots a b))
    (ranks_by spots_total (λ (a : Spot). a))
    (answers_always _ _ _ (λ f a r f' k. search rules))

pub returns-clause-listed : goal.returns-clause-listed
returns-clause-listed c = λ section offset.
    listed section offset c.args.spots.now.items c.sort_by.new.self.items
    (c.sort_by.ensures.stable (λ (a : Spot) (b : Spot). is_lt (compare_spots a b))
    (ranks_by spots_total (λ (a : Spot). a))
    (answers_always _ _ _ (λ f a r f' k. search rules)))
