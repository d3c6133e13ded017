use Rattle.name_offers.proofs.PlainLemmas.{IsRunning}
use Rattle.name_offers.proofs.plain.offer_file.Given as goal

abbrev pub invariant-loop-i : goal.invariant-loop-i
invariant-loop-i l = IsRunning l.names l.file l.i l.fn.words l.words
