use Rattle.std.proofs.Common.{◌==◌, ◌∙◌, ap}
use Rattle.std.specs.List.{list_any}
use Rattle.dyld_ops.proofs.FixupLemmas.{holds_same, is_of}
use Rattle.dyld_ops.proofs.fixups.Fixups.holds.Goals as goal

pub returns : goal.returns
returns c =
    c.contains_key.ensures ∙ holds_same c.self.inside.acts.entries c.args.address ∙ ap (list_any (is_of c.args.address)) c.self.view_is
