use Rattle.symbol_winners.proofs.NamedLemmas.{gathered_named}
use Rattle.call_times.proofs.symbols.write_loaded.Goals as goal

pub write_named-requires-clause-named : goal.write_named-requires-clause-named
write_named-requires-clause-named c = gathered_named c.args.loaded.now.files _ c.in-Ok.all.names c.in-Ok.ensures.names
