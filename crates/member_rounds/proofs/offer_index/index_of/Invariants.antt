use Rattle.member_rounds.proofs.OfferedLemmas.{IsIndexing}
use Rattle.member_rounds.proofs.offer_index.index_of.Given as goal

abbrev pub invariant-loop-source : goal.invariant-loop-source
invariant-loop-source l = IsIndexing l.sources l.source-index l.files
