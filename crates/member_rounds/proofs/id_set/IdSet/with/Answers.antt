use Rattle.std.proofs.Common.{true, ap, ◌∙◌}
use Rattle.std.specs.Prelude.{if◌then◌else◌}
use Rattle.member_rounds.specs.Growth.{is_in, same_file}
use Rattle.member_rounds.proofs.id_set.IdSet.with.Goals as goal

pub returns : goal.returns
returns c = λ other. c.in_ok-insert.ensures.updates.0 other ∙ ap (λ ids. if same_file c.args.id other then true else is_in ids other) c.self.view_is
