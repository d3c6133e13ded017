use Rattle.member_rounds.proofs.WordLemmas.{AreRead}
use Rattle.member_rounds.proofs.loading.positions_fit.Given as goal

abbrev pub invariant-loop-file : goal.invariant-loop-file
invariant-loop-file l = AreRead l.files l.file-index
