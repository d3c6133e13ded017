use Rattle.std.proofs.Common.{Ok, ap, ◌∙◌}
use Rattle.reloc_read.proofs.CheckedLemmas.{read_feature}
use Rattle.reloc_read.proofs.refs_of.Goals as goal

pub returns-in-Some : goal.returns-in-Some
returns-in-Some c = λ u. read_feature c.args.object.now c.args.file c.in-Some.feature (c.in_ok-refs.ensures.feature ∙ ap Ok c.in-Some.is)
