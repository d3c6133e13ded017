use Rattle.symbol_winners.proofs.NamedLemmas.{gathered_named}
use Rattle.resolve_tests.proofs.resolving.has.Goals as goal

pub duplicate-requires-clause-named : goal.duplicate-requires-clause-named
duplicate-requires-clause-named c = gathered_named c.in-Some.loaded.files _ c.in-Ok.all.names c.in-Ok.ensures.names
