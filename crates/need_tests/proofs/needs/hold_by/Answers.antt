use Rattle.symbol_winners.proofs.NamedLemmas.{gathered_named}
use Rattle.need_tests.proofs.needs.hold_by.Goals as goal

pub hold_with-requires-clause-named : goal.hold_with-requires-clause-named
hold_with-requires-clause-named c = gathered_named c.args.loaded.now.files _ c.in-Ok.all.names c.in-Ok.ensures.names
