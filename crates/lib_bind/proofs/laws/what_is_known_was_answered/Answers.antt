use Rattle.lib_bind.proofs.ToldLemmas.{bound_told}
use Rattle.lib_bind.proofs.laws.what_is_known_was_answered.Goals as goal

pub returns : goal.returns
returns c look command named count bound path document is there = bound_told look command named count bound is path document there
