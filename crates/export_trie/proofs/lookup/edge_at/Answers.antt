use Rattle.std.proofs.Common.{ap, sym, ◌∙◌}
use Rattle.std.proofs.lemmas.List.{take_rest}
use Rattle.export_trie.specs.Strings.{before_nul}
use Rattle.export_trie.proofs.Walks.{before_none, before_some}
use Rattle.export_trie.proofs.lookup.edge_at.Goals as goal

pub returns-in_err-end-clause-exact : goal.returns-in_err-end-clause-exact
returns-in_err-end-clause-exact c =
    rw c.from_residual.ensures (sym (ap before_nul (sym (take_rest c.args.trie.now c.args.at)) ∙ before_none _ c.in_err-end.ensures))

pub returns-clause-exact : goal.returns-clause-exact
returns-clause-exact c = sym (ap before_nul (sym (take_rest c.args.trie.now c.args.at)) ∙ before_some _ _ c.in_ok-end.ensures)
