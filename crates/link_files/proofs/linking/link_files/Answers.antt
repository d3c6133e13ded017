use Rattle.link_steps.proofs.StepLemmas.{checks_ends, checks_on, some_on, unless_ends, unless_on}
use Rattle.symbol_winners.proofs.NamedLemmas.{names_named}
use Rattle.link_files.specs.Names.{wanted}
use Rattle.link_files.proofs.NameLemmas.{names_fit}
use Rattle.link_files.proofs.linking.link_files.Goals as goal

pub defined_once-requires-clause-named : goal.defined_once-requires-clause-named
defined_once-requires-clause-named g c = names_named c.args.named.now.loaded.files (wanted c.args.command.now) c.args.named.now.numbered.names c.requires.names

pub raced_words-requires-clause-named : goal.raced_words-requires-clause-named
raced_words-requires-clause-named g c κs within = names_named c.args.named.now.loaded.files (wanted c.args.command.now) c.args.named.now.numbered.names c.requires.names

pub winners-requires-clause-named : goal.winners-requires-clause-named
winners-requires-clause-named g c = names_named c.args.named.now.loaded.files (wanted c.args.command.now) c.args.named.now.numbered.names c.requires.names

pub returns-in_err-few_atoms : goal.returns-in_err-few_atoms
returns-in_err-few_atoms g c =
    unless_on _ _ _ (names_fit c.args.named.now.loaded.files (wanted c.args.command.now) c.args.named.now.numbered.names c.requires.names)
    (unless_ends _ _ _ _ (rw c.as_slice.ensures at c.in_err-few_atoms.ensures) c.from_residual.ensures.1)

pub returns-in_err-defined_once : goal.returns-in_err-defined_once
returns-in_err-defined_once g c =
    unless_on _ _ _ (names_fit c.args.named.now.loaded.files (wanted c.args.command.now) c.args.named.now.numbered.names c.requires.names)
    (unless_on _ _ _ (rw c.as_slice.ensures at c.in_ok-few_atoms.ensures)
    (checks_ends _ _ _ _ c.in_err-defined_once.ensures c.from_residual-in_err-defined_once.ensures.1))

pub returns : goal.returns
returns g c =
    unless_on _ _ _ (names_fit c.args.named.now.loaded.files (wanted c.args.command.now) c.args.named.now.numbered.names c.requires.names)
    (unless_on _ _ _ (rw c.as_slice.ensures at c.in_ok-few_atoms.ensures)
    (checks_on _ _ _ c.in_ok-defined_once.ensures
    (some_on _ _ _ _ c.in_ok-symbols.ensures.symbols
    c.link_winners.ensures)))
