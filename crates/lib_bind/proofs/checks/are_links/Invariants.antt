use Rattle.lib_bind.proofs.CheckedLemmas.{LeadBelow}
use Rattle.lib_bind.proofs.checks.are_links.Given as goal

abbrev pub invariant-loop-targets : goal.invariant-loop-targets
invariant-loop-targets l = LeadBelow l.links l.documents l.targets-index
