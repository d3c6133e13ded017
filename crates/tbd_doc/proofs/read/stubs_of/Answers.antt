use Rattle.std.proofs.Common.{sym, subst}
use Rattle.tbd_yaml.specs.Tree.{HasTree}
use Rattle.tbd_doc.proofs.read.stubs_of.Goals as goal

pub stub_at-requires : goal.stub_at-requires
stub_at-requires c = subst HasTree (sym c.index-docs-number.is) (c.requires.trees c.loop-number.number c.index-docs-number.result c.loop-number-test.true)
