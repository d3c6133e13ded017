use Rattle.std.proofs.Common.{sym, subst}
use Rattle.std.specs.Prelude.{All}
use Rattle.std.proofs.lemmas.List.Elements.{All-from_recursion}
use Rattle.tbd_yaml.specs.Tree.{HasTree}
use Rattle.tbd_doc.proofs.StubLemmas.{file_ok, file_err, passed_on, read_whole}
use Rattle.tbd_doc.proofs.read.read_stubs.Goals as goal

pub stubs_of-requires-clause-trees : goal.stubs_of-requires-clause-trees
stubs_of-requires-clause-trees c = subst (All HasTree) (sym c.as_slice.ensures) (All-from_recursion HasTree _ c.requires.trees)

pub returns-in_err-docs-clause-exact : goal.returns-in_err-docs-clause-exact
returns-in_err-docs-clause-exact c = passed_on _ _ _ c.from_residual.ensures.1 (λ is. file_err _ _ _ c.as_slice.ensures (c.in_err-docs.ensures is))

pub returns-clause-exact : goal.returns-clause-exact
returns-clause-exact c = file_ok _ _ _ c.as_slice.ensures c.in_ok-docs.ensures

pub returns-clause-whole : goal.returns-clause-whole
returns-clause-whole c = read_whole _ _ (file_ok _ _ _ c.as_slice.ensures c.in_ok-docs.ensures)
