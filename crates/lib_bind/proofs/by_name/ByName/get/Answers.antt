use Rattle.std.proofs.Common.{ap, ◌∙◌}
use Rattle.lib_bind.specs.Found.{found}
use Rattle.lib_bind.proofs.by_name.ByName.get.Goals as goal

pub returns : goal.returns
returns g c = c.copied.ensures ∙ c.get.ensures.value ∙ ap (found c.args.name.now) c.self.view_is
