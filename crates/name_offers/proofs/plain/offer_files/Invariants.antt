use Rattle.name_offers.proofs.PlainLemmas.{AreRunning}
use Rattle.name_offers.proofs.plain.offer_files.Given as goal

abbrev pub invariant-loop-i : goal.invariant-loop-i
invariant-loop-i l = AreRunning l.names l.files l.i l.fn.words l.words
