use Rattle.std.proofs.Common.{◌∙◌}
use Rattle.std.proofs.lemmas.Result.{IfOk-weaker}
use Rattle.link_gen.proofs.PlacedLemmas.{placed}
use Rattle.link_gen.proofs.generate.Goals as goal

pub returns-clause-placed : goal.returns-clause-placed
returns-clause-placed c =
    IfOk-weaker c.from_vec.result _ _
    (λ bytes is. placed (record { count = c.args.count; object = c.args.object }) c.in_ok-tables.tables bytes c.in_ok-tables.ensures (is ∙ c.in_ok-out.ensures))
    c.from_vec.ensures
