use Rattle.link_engine.proofs.InputLemmas.{AreMade}
use Rattle.link_engine.proofs.inputs.inputs_with.Given as goal

abbrev pub invariant-loop-at : goal.invariant-loop-at
invariant-loop-at l = AreMade l.command l.found l.made l.at
