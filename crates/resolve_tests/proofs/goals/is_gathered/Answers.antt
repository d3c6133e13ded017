use Rattle.symbol_winners.proofs.NamedLemmas.{gathered_named}
use Rattle.resolve_tests.proofs.goals.is_gathered.Goals as goal

pub is_known-requires-clause-named : goal.is_known-requires-clause-named
is_known-requires-clause-named c = gathered_named c.args.loaded.now.files _ c.in-Ok.all.names c.in-Ok.ensures.names
