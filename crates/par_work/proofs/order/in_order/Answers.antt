use Rattle.std.proofs.Common.{rules}
use Rattle.std.proofs.lemmas.List.Sorted.{IsNonDecreasingBy-from_sort_by_key}
use Rattle.par_work.specs.declared.worker.Run.{Run}
use Rattle.par_work.proofs.Pieces.{sorted_is}
use Rattle.par_work.proofs.order.in_order.Goals as goal

pub returns-clause-count : goal.returns-clause-count
returns-clause-count g c =
    let sorted = c.sort_by_key.new.self.items in
    let up = IsNonDecreasingBy-from_sort_by_key (λ (run : Run g.row.P.Denot). run.first) sorted c.in_ok-sort_by_key.ensures.sorted (λ a r q k. search rules) in
    let is = sorted_is c.args.jobs c.args.done.items sorted c.in_ok-pieces.pieces.items c.requires c.sort_by_key.ensures.permutation up c.in_ok-pieces.ensures in is.0

pub returns-clause-once : goal.returns-clause-once
returns-clause-once g c =
    let sorted = c.sort_by_key.new.self.items in
    let up = IsNonDecreasingBy-from_sort_by_key (λ (run : Run g.row.P.Denot). run.first) sorted c.in_ok-sort_by_key.ensures.sorted (λ a r q k. search rules) in
    let is = sorted_is c.args.jobs c.args.done.items sorted c.in_ok-pieces.pieces.items c.requires c.sort_by_key.ensures.permutation up c.in_ok-pieces.ensures in is.1
