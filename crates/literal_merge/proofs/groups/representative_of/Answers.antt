use Rattle.std.proofs.Common.{sym, ap, ◌∙◌, Some, None}
use Rattle.std.specs.Option.{option_copied}
use Rattle.literal_merge.proofs.GroupLemmas.{stands_for}
use Rattle.literal_merge.proofs.groups.representative_of.Goals as goal

pub returns-in-Some : goal.returns-in-Some
returns-in-Some c = λ all are. stands_for c.args.groups.now all c.args.literal.now (Some c.in-Some.group.now) are (sym c.get.ensures.value ∙ ap option_copied c.in-Some.is)

pub returns-in-None : goal.returns-in-None
returns-in-None c = λ all are. stands_for c.args.groups.now all c.args.literal.now None are (sym c.get.ensures.value ∙ ap option_copied c.in-None.is)
