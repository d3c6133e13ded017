use Rattle.symbol_winners.proofs.NamedLemmas.{gathered_named}
use Rattle.symbol_tests.proofs.writing.of_files.Goals as goal

pub of_names-requires-clause-named : goal.of_names-requires-clause-named
of_names-requires-clause-named c = gathered_named c.args.loaded.now.files _ c.in-Ok.all.names c.in-Ok.ensures.names
