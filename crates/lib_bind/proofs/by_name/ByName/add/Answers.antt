use Rattle.std.proofs.Common.{ap, ◌∙◌, bytes_eq}
use Rattle.indexmap.specs.IndexMap.{insert_entry}
use Rattle.lib_bind.proofs.GrowingLemmas.{insert_new}
use Rattle.lib_bind.proofs.by_name.ByName.add.Goals as goal

pub returns : goal.returns
returns g c =
    c.in_ok-insert.ensures.entries ∙ ap (λ pairs. insert_entry bytes_eq pairs c.args.name c.args.value) c.self.view_is
    ∙ insert_new c.args.name c.args.value c.args.self c.requires
