use Rattle.std.proofs.Common.{◌≡◌, ◌++◌, Global, List, Vec, ap, ◌∙◌}
use Rattle.std.proofs.lemmas.Result.{IfOk-weaker}
use Rattle.island_core.specs.Far.{has}
use Rattle.island_core.specs.declared.row.Pair.{Pair}
use Rattle.island_core.proofs.rounds.joined.Goals as goal

pub returns-clause-same : goal.returns-clause-same
returns-clause-same c =
    IfOk-weaker c.in_order.result
    (λ (all : Vec Pair Global). (pair : Pair) → has all.items pair ≡ has c.extend_from_slice.new.self.items pair)
    (λ (all : Vec Pair Global). (pair : Pair) → has all.items pair ≡ has (c.args.set.items ++ c.args.pairs.now) pair)
    (λ all same pair. same pair ∙ ap (λ (ps : List Pair). has ps pair) c.in_ok-extend_from_slice.ensures.items) c.in_order.ensures.same
